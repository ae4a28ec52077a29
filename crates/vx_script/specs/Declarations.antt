-- The lines that stand in no image. The tokens are those behind the line's word; SIZE is tested last.
use Rattle.std.specs.Prelude.{ℕ, ◌==◌, ◌&&◌, Bool, List, [], length, drop, Option, Some, None, position, Result, Ok, Err, bytes_eq, if◌then◌else◌}
use Rattle.std.specs.List.{list_any}
use Rattle.vx_image.specs.declared.image.Image.{Image}
use Rattle.vx_image.specs.declared.unit.UnitDecl.{UnitDecl}
use Rattle.vx_text.specs.declared.token.Tok.{Tok}
use Rattle.vx_script.specs.Results.{◌>>=◌}
use Rattle.vx_script.specs.Fields.{end_at, name_at, number_at, text_at, device_at, blocks_of, room_for}
use Rattle.vx_script.specs.Places.{unit_place, image_place}
use Rattle.vx_script.specs.Keys.{no_keys, keys_from}
use Rattle.vx_script.specs.declared.draft.DraftImage.{DraftImage}
use Rattle.vx_script.specs.declared.fault.FaultKind.{FaultKind}
use Rattle.vx_script.specs.declared.fault.FaultKind.TheVariants as kind
use Rattle.vx_script.specs.declared.lines.DeclLine.{DeclLine}
use Rattle.vx_script.specs.declared.lines.FaultLine.{FaultLine}
use Rattle.vx_script.specs.declared.lines.InputLine.{InputLine}

abbrev pub decl_place : List ℕ → List DeclLine → Option ℕ
decl_place name decls = position (λ d. bytes_eq name d.name) decls

-- a name that stands nowhere yet
abbrev pub unused_name : Option ℕ → List ℕ → Result (List ℕ) FaultKind
unused_name None name = Ok name
unused_name (Some place) name = Err kind.Twice

-- UNIT name LINE, and UNIT name BLOCK n

unfoldable pub unit_line : List UnitDecl → List Tok → Result UnitDecl FaultKind
unit_line units tokens = do
  word ← name_at tokens
  name ← unused_name (unit_place word units) word
  device ← device_at (drop 1 tokens)
  blocks ← blocks_of device (drop 2 tokens)
  _ ← room_for 32 (length units)
  Ok (record { name = name; blocks = blocks; inputs = []; faults = [] })

-- INPUT unit "text"
unfoldable pub input_line : ℕ → List Tok → Result InputLine FaultKind
input_line line tokens = do
  unit ← name_at tokens
  text ← text_at (drop 1 tokens)
  _ ← end_at (drop 2 tokens)
  Ok (record { line = line; unit = unit; text = text })

-- FAULT unit n

abbrev pub is_fault_of : List ℕ → ℕ → FaultLine → Bool
is_fault_of unit n f = bytes_eq unit f.unit && (n == f.number)

abbrev pub fresh_fault : List ℕ → ℕ → List FaultLine → Result ℕ FaultKind
fresh_fault unit n faults = if list_any (is_fault_of unit n) faults then Err kind.Twice else Ok n

unfoldable pub fault_line : ℕ → List FaultLine → List Tok → Result FaultLine FaultKind
fault_line line faults tokens = do
  unit ← name_at tokens
  n ← number_at 1 100000 (drop 1 tokens)
  number ← fresh_fault unit n faults
  _ ← end_at (drop 2 tokens)
  Ok (record { line = line; unit = unit; number = number })

-- IMAGE name
unfoldable pub image_line : List Image → List Tok → Result DraftImage FaultKind
image_line images tokens = do
  word ← name_at tokens
  name ← unused_name (image_place word images) word
  _ ← end_at (drop 1 tokens)
  _ ← room_for 256 (length images)
  Ok (record { name = name; labels = []; lines = [] })

-- PROCESS name image key=value ..
unfoldable pub process_line : ℕ → List DeclLine → List Tok → Result DeclLine FaultKind
process_line line decls tokens = do
  word ← name_at tokens
  name ← unused_name (decl_place word decls) word
  image ← name_at (drop 1 tokens)
  keys ← keys_from 0 no_keys (drop 2 tokens)
  _ ← room_for 1000 (length decls)
  Ok (record { line = line; name = name; image = image; keys = keys })
