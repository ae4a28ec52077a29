-- The second pass: what the lines name is looked up, and the system is put together.
use Rattle.std.specs.Prelude.{ℕ, not, Bool, true, false, nat_le, List, [], ◌∷◌, ◌++◌, map, flat_map, Option, Some, None, is_some, is_none, option_map, Result, Ok, Err, bytes_eq, if◌then◌else◌, unwrap_or}
use Rattle.std.specs.List.{find, list_any}
use Rattle.vx_base.specs.Services.{args_list}
use Rattle.vx_base.specs.declared.call.Arg.{Arg}
use Rattle.vx_base.specs.declared.call.Arg.TheVariants as arg
use Rattle.vx_base.specs.declared.call.Call.{Call}
use Rattle.vx_base.specs.declared.mode.Mode.TheVariants.{User}
use Rattle.vx_base.specs.declared.service.Service.{Service}
use Rattle.vx_base.specs.declared.service.Service.TheVariants.{CrePrc}
use Rattle.vx_image.specs.declared.decl.ProcDecl.{ProcDecl}
use Rattle.vx_image.specs.declared.image.Image.{Image}
use Rattle.vx_image.specs.declared.image.Label.{Label}
use Rattle.vx_image.specs.declared.stmt.Stmt.{Stmt}
use Rattle.vx_image.specs.declared.stmt.Stmt.TheVariants as stmt
use Rattle.vx_image.specs.declared.system.System.{System}
use Rattle.vx_image.specs.declared.unit.UnitDecl.{UnitDecl}
use Rattle.vx_script.specs.Declarations.{decl_place}
use Rattle.vx_script.specs.Places.{unit_place, image_place, label_place, is_line_unit, rising}
use Rattle.vx_script.specs.Keys.{first_uic, limits_of, no_privs}
use Rattle.vx_script.specs.declared.draft.Draft.{Draft}
use Rattle.vx_script.specs.declared.draft.Draft.TheVariants as draft
use Rattle.vx_script.specs.declared.draft.DraftImage.{DraftImage}
use Rattle.vx_script.specs.declared.draft.DraftLine.{DraftLine}
use Rattle.vx_script.specs.declared.fault.FaultKind.TheVariants as kind
use Rattle.vx_script.specs.declared.fault.ScriptFault.{ScriptFault}
use Rattle.vx_script.specs.declared.lines.Creation.{Creation}
use Rattle.vx_script.specs.declared.lines.DeclLine.{DeclLine}
use Rattle.vx_script.specs.declared.lines.FaultLine.{FaultLine}
use Rattle.vx_script.specs.declared.lines.InputLine.{InputLine}
use Rattle.vx_script.specs.declared.parts.Parts.{Parts}

-- Labels of an image.

abbrev pub is_label : List Label → List ℕ → Bool
is_label labels name = is_some (label_place name labels)

-- an argument, a call or a statement names a label that is not there

abbrev pub arg_names_none : List Label → Arg → Bool
arg_names_none labels (arg.Label (Some name)) = not (is_label labels name)
arg_names_none labels _ = false

abbrev pub call_names_none : List Label → Call → Bool
call_names_none labels c = list_any (arg_names_none labels) (args_list c.args)

abbrev pub draft_names_none : List Label → Draft → Bool
draft_names_none labels (draft.Goto label) = not (is_label labels label)
draft_names_none labels (draft.If x r y label) = not (is_label labels label)
draft_names_none labels (draft.Plain (stmt.Service c)) = call_names_none labels c
draft_names_none labels (draft.Plain s) = false

abbrev pub names_no_label : List Label → DraftLine → Bool
names_no_label labels d = draft_names_none labels d.draft

-- the first line that names a label not in its image
abbrev pub first_unlabelled : DraftImage → Option ℕ
first_unlabelled image = option_map (λ d. d.line) (find (names_no_label image.labels) image.lines)

-- the statement of a draft; a label that is none, which is a fault, stands at 0
abbrev pub settled : List Label → Draft → Stmt
settled labels (draft.Goto label) = stmt.Goto (unwrap_or (label_place label labels) 0)
settled labels (draft.If x r y label) = stmt.If x r y (unwrap_or (label_place label labels) 0)
settled labels (draft.Plain s) = s

abbrev pub image_of : DraftImage → Image
image_of image = record { name = image.name; labels = image.labels; stmts = map (λ d. settled image.labels d.draft) image.lines }

-- the process declaration that a statement names

abbrev pub created_by : ℕ → Service → Arg → List Creation
created_by line CrePrc (arg.Name name) = record { line = line; name = name } ∷ []
created_by line service a = []

abbrev pub created_in : ℕ → Draft → List Creation
created_in line (draft.Plain (stmt.Service c)) = created_by line c.service c.args.a1
created_in line other = []

abbrev pub creation_of : DraftLine → List Creation
creation_of d = created_in d.line d.draft

-- those of statements, in order
abbrev pub creations_of : List DraftLine → List Creation
creations_of lines = flat_map creation_of lines

-- the earlier of two lines
abbrev pub least_line : Option ℕ → Option ℕ → Option ℕ
least_line None b = b
least_line (Some a) None = Some a
least_line (Some a) (Some b) = Some (if nat_le a b then a else b)

-- an image is ended
abbrev pub with_image : Parts → DraftImage → Parts
with_image parts image = record parts {
  images = parts.images ++ image_of image ∷ [];
  creations = parts.creations ++ creations_of image.lines;
  unlabelled = least_line parts.unlabelled (first_unlabelled image);
}

-- What the other lines name.

abbrev pub names_no_decl : List DeclLine → Creation → Bool
names_no_decl decls c = is_none (decl_place c.name decls)

abbrev pub unknown_creation : Parts → Option ℕ
unknown_creation parts = option_map (λ c. c.line) (find (names_no_decl parts.decls) parts.creations)

abbrev pub names_no_image : List Image → DeclLine → Bool
names_no_image images d = is_none (image_place d.image images)

abbrev pub unknown_image : Parts → Option ℕ
unknown_image parts = option_map (λ d. d.line) (find (names_no_image parts.images) parts.decls)

abbrev pub names_no_line_unit : List UnitDecl → InputLine → Bool
names_no_line_unit units i = not (list_any (is_line_unit i.unit) units)

abbrev pub unknown_input : Parts → Option ℕ
unknown_input parts = option_map (λ i. i.line) (find (names_no_line_unit parts.units) parts.inputs)

abbrev pub names_no_unit : List UnitDecl → FaultLine → Bool
names_no_unit units f = is_none (unit_place f.unit units)

abbrev pub unknown_fault : Parts → Option ℕ
unknown_fault parts = option_map (λ f. f.line) (find (names_no_unit parts.units) parts.faults)

-- the first line that names what is not there
abbrev pub first_unknown : Parts → Option ℕ
first_unknown parts = least_line parts.unlabelled (least_line (unknown_creation parts) (least_line (unknown_image parts) (least_line (unknown_input parts) (unknown_fault parts))))

-- The system.

-- a unit's input lines, in order

abbrev pub input_if : List ℕ → InputLine → List (List ℕ)
input_if name i = if bytes_eq name i.unit then i.text ∷ [] else []

abbrev pub inputs_of : List ℕ → List InputLine → List (List ℕ)
inputs_of name inputs = flat_map (input_if name) inputs

-- the numbers of its services that fail

abbrev pub fault_if : List ℕ → FaultLine → List ℕ
fault_if name f = if bytes_eq name f.unit then f.number ∷ [] else []

abbrev pub numbers_of : List ℕ → List FaultLine → List ℕ
numbers_of name faults = flat_map (fault_if name) faults

abbrev pub unit_of : Parts → UnitDecl → UnitDecl
unit_of parts u = record { name = u.name; blocks = u.blocks; inputs = inputs_of u.name parts.inputs; faults = rising (numbers_of u.name parts.faults) }

abbrev pub decl_of : List Image → DeclLine → ProcDecl
decl_of images d = record {
  name = d.name;
  image = unwrap_or (image_place d.image images) 0;
  group = (unwrap_or d.keys.uic first_uic).group;
  member = (unwrap_or d.keys.uic first_uic).member;
  mode = unwrap_or d.keys.mode User;
  limits = limits_of d.keys;
  privs = unwrap_or d.keys.privs no_privs;
  start = unwrap_or d.keys.start true;
}

abbrev pub system_of : Parts → System
system_of parts = record { units = map (unit_of parts) parts.units; images = parts.images; decls = map (decl_of parts.images) parts.decls }

abbrev pub resolved : Parts → Option ℕ → Result System ScriptFault
resolved parts (Some line) = Err (record { line = line; kind = kind.Unknown })
resolved parts None = Ok (system_of parts)

abbrev pub resolve : Parts → Result System ScriptFault
resolve parts = resolved parts (first_unknown parts)
