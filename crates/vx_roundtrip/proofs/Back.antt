-- A canonical script is read back as its system.
use Rattle.std.proofs.Common.{◌≡◌, ℕ, true, List, [], ◌++◌, map, flat_map, refl, ap, ◌∙◌, Ok, arith, append-nil, append_assoc}
use Rattle.std.proofs.lemmas.Bool.{leb-true}
use Rattle.vx_image.specs.WellFormed.{IsWellFormed, decl_names}
use Rattle.vx_image.specs.declared.system.System.{System}
use Rattle.vx_script.specs.Reading.{between_images, nothing_read, read_lines, read_script}
use Rattle.vx_script.specs.Script.{unit_lines, image_lines, decl_line, script_lines, script}
use Rattle.vx_script.specs.declared.parts.Parts.{Parts}
use Rattle.vx_roundtrip.specs.Held.{IsHeldSystem}
use Rattle.vx_grammar.proofs.Whole.{read_is_spelled}
use Rattle.vx_roundtrip.specs.Law.{ReadsBack}
use Rattle.vx_roundtrip.proofs.Decls.{process_names, decls_back}
use Rattle.vx_roundtrip.proofs.Feeds.{cut_all}
use Rattle.vx_roundtrip.proofs.Images.{image_names, with_images, images_back}
use Rattle.vx_roundtrip.proofs.Names.{fresh_of}
use Rattle.vx_roundtrip.proofs.Outer.{Steps, and_then, are_clean, shaped}
use Rattle.vx_roundtrip.proofs.Resolved.{Sound, ToldAll, resolved_back}
use Rattle.vx_roundtrip.proofs.Told.{Said, Told}
use Rattle.vx_roundtrip.proofs.Units.{unit_names, with_units, units_back}
use Rattle.vx_grammar.proofs.FirstFaults.{starts}
use Rattle.vx_grammar.proofs.Feeding.{lines_end}

-- the lines of a system were all read
record All (s : System) (ls : List (List ℕ)) : Type 0 where
  line2 : ℕ
  parts : Parts
  read : Steps 1 nothing_read ls line2 (between_images parts) []
  told : ToldAll s parts

abbrev nothing_said : Said
nothing_said = record { units = []; inputs = []; faults = []; images = []; decls = [] }

nothing_told : (names : List (List ℕ)) → Told names nothing_read.parts nothing_said
nothing_told names = record { units = refl; inputs = refl; faults = refl; images = refl; decls = refl; creations = refl; unlabelled = refl }

shape : (units images decls : List (List ℕ)) → units ++ images ++ decls ≡ units ++ (images ++ (decls ++ []))
shape units images decls = simp (append_assoc, append-nil)

all_read : (s : System) → IsWellFormed s → IsHeldSystem s → All s (script_lines s)
all_read s well held =
    let names = decl_names s in
    let decl_lines = map (decl_line s.images) s.decls ++ [] in
    let image_part = flat_map image_lines s.images ++ decl_lines in
    let one = units_back names 1 nothing_read.parts nothing_said s.units image_part held.units well.units (omega (arith, leb-true _ _ well.few_units)) (fresh_of (unit_names s.units) well.unit_names) (λ name h m. refl) (nothing_told names) in
    let with_one = with_units nothing_said s.units in
    let two = images_back names one.line2 one.parts with_one s.images decl_lines held.images well.images (omega (arith, leb-true _ _ well.few_images)) (fresh_of (image_names s.images) well.image_names) one.told in
    let three = decls_back names two.line2 two.parts (with_images with_one s.images) s.images s.decls [] held.images held.decls well.decls (omega (arith, leb-true _ _ well.few_decls)) (fresh_of (process_names s.decls) well.process_names) two.told in
    record {
      line2 = three.line2;
      parts = three.parts;
      read = shaped (shape (flat_map unit_lines s.units) (flat_map image_lines s.images) (map (decl_line s.images) s.decls)) (and_then one.read (and_then two.read three.read));
      told = three.told;
    }

read_back : (s : System) → IsWellFormed s → IsHeldSystem s → read_script (script s) ≡ Ok s
read_back s well held =
    let all = all_read s well held in
    let sound : Sound s = record { unit_apart = well.unit_names; image_apart = well.image_names; units_are = well.units; decls_are = well.decls } in
    starts (script s) ∙ ap (read_lines 1 nothing_read) (cut_all (script_lines s) (all.read.clean refl)) ∙ all.read.read ∙ lines_end all.line2 all.parts ∙ resolved_back s all.parts sound all.told

-- no line of a canonical script has a line feed or a return in it
pub clean_lines : (s : System) → IsWellFormed s → IsHeldSystem s → are_clean (script_lines s) ≡ true
clean_lines s well held = (all_read s well held).read.clean refl

-- the law
pub reads_back : ReadsBack
reads_back s well held = read_is_spelled (script s) s (read_back s well held)
