-- The system of parts that name nothing unknown is well formed.
use mathlib.Core.List.{map-map}
use Rattle.std.proofs.Common.{◌≡◌, ◌∙◌, ℕ, Bool, true, not, ◌||◌, ◌==◌, nat_lt, nat_le, List, [], ◌∷◌, length, map, find, Option, Some, None, is_some, is_none, bytes_eq, refl, sym, ap, unwrap_or}
use Rattle.std.specs.List.{list_all}
use Rattle.std.proofs.lemmas.Bool.{and_parts, and_from}
use Rattle.std.proofs.lemmas.List.{length-map}
use Rattle.vx_base.proofs.Any.{all_weaker, any_map}
use Rattle.vx_image.specs.declared.decl.ProcDecl.{ProcDecl}
use Rattle.vx_image.specs.declared.image.Image.{Image}
use Rattle.vx_image.specs.declared.unit.UnitDecl.{UnitDecl}
use Rattle.vx_image.specs.declared.system.System.{System}
use Rattle.vx_image.specs.WellFormed.{are_distinct, rises_above, is_unit, is_decl, decl_names}
use Rattle.vx_script.specs.Declarations.{decl_place}
use Rattle.vx_script.specs.Places.{image_place, rising}
use Rattle.vx_script.specs.Resolving.{names_no_decl, unknown_creation, names_no_image, unknown_image, names_no_line_unit, unknown_input, unknown_fault, first_unknown, least_line, inputs_of, numbers_of, unit_of, decl_of, system_of}
use Rattle.vx_script.specs.declared.lines.Creation.{Creation}
use Rattle.vx_script.specs.declared.lines.DeclLine.{DeclLine}
use Rattle.vx_script.specs.declared.lines.InputLine.{InputLine}
use Rattle.vx_script.specs.declared.parts.Parts.{Parts}
use Rattle.vx_script.proofs.Appended.{unfound}
use Rattle.vx_script.proofs.EndedImages.{is_formed, is_known, neither}
use Rattle.vx_script.proofs.FaultLines.{faults_rise, faults_within}
use Rattle.vx_script.proofs.InputLines.{no_block_lines, lines_are}
use Rattle.vx_script.proofs.KeptParts.{AreParts}
use Rattle.vx_script.proofs.KeysInRange.{are_keys}
use Rattle.vx_script.proofs.Places.{has_place, placed}
use Rattle.vx_base.proofs.Lists.{none_mapped}

there : (o : Option ℕ) → not (is_none o) ≡ true → is_some o ≡ true
there None h = cc
there (Some k) h = refl

-- Process declarations.

decl_is : (images : List Image) (d : DeclLine) → are_keys d.keys ≡ true → not (names_no_image images d) ≡ true
    → is_decl (length images) (decl_of images d) ≡ true
decl_is images d h k =
    and_from (nat_lt (unwrap_or (image_place d.image images) 0) (length images)) (are_keys d.keys)
    (placed (λ (i : Image). bytes_eq d.image i.name) images (there (image_place d.image images) k)) h

decls_are : (images : List Image) (ds : List DeclLine) → list_all (λ d. are_keys d.keys) ds ≡ true
    → list_all (λ d. not (names_no_image images d)) ds ≡ true → list_all (is_decl (length images)) (map (decl_of images) ds) ≡ true
decls_are images [] h k = refl
decls_are images (d ∷ ds) h k =
    let range = and_parts (are_keys d.keys) (list_all (λ d. are_keys d.keys) ds) h in
    let known = and_parts (not (names_no_image images d)) (list_all (λ d. not (names_no_image images d)) ds) k in
    and_from (is_decl (length images) (decl_of images d)) (list_all (is_decl (length images)) (map (decl_of images) ds))
    (decl_is images d range.0 known.0) (decls_are images ds range.1 known.1)

creation_known : (ds : List DeclLine) (c : Creation) → not (names_no_decl ds c) ≡ true → is_known (map (λ d. d.name) ds) c ≡ true
creation_known ds c h =
    any_map (bytes_eq c.name) (λ (d : DeclLine). d.name) ds ∙ sym (has_place (λ (d : DeclLine). bytes_eq c.name d.name) ds) ∙ there
    (decl_place c.name ds) h

-- Units.

-- no block unit has lines
abbrev has_no_block_lines : Parts → UnitDecl → Bool
has_no_block_lines p u = (u.blocks == 0) || (length (inputs_of u.name p.inputs) == 0)

unit_is : (p : Parts) (u : UnitDecl) → AreParts p → nat_le u.blocks 4096 ≡ true → has_no_block_lines p u ≡ true → is_unit (unit_of p u) ≡ true
unit_is p u h few lines =
    let ns = rising (numbers_of u.name p.faults) in
    let inputs = inputs_of u.name p.inputs in
    and_from (nat_le u.blocks 4096) _ few (
    and_from (list_all (λ line. nat_le (length line) 2048) inputs) _ (lines_are u.name p.inputs h.inputs) (
    and_from ((u.blocks == 0) || (length inputs == 0)) _ lines (
    and_from (rises_above 0 ns) (list_all (λ n. nat_le n 100000) ns) (faults_rise u.name p.faults h.faults) (faults_within u.name p.faults h.faults))))

units_are : (p : Parts) (us : List UnitDecl) → AreParts p → list_all (λ u. nat_le u.blocks 4096) us ≡ true
    → list_all (has_no_block_lines p) us ≡ true → list_all is_unit (map (unit_of p) us) ≡ true
units_are p [] h few lines = refl
units_are p (u ∷ us) h few lines =
    let range = and_parts (nat_le u.blocks 4096) (list_all (λ u. nat_le u.blocks 4096) us) few in
    let none = and_parts (has_no_block_lines p u) (list_all (has_no_block_lines p) us) lines in
    and_from (is_unit (unit_of p u)) (list_all is_unit (map (unit_of p) us)) (unit_is p u h range.0 none.0) (units_are p us h range.1 none.1)

-- The system.

-- well formed, but for the numbers of labels
pub record IsFormed (s : System) : Type 0 where
  pub few_units : nat_le (length s.units) 32 ≡ true
  pub few_images : nat_le (length s.images) 256 ≡ true
  pub few_decls : nat_le (length s.decls) 1000 ≡ true
  pub unit_names : are_distinct (map (λ u. u.name) s.units) ≡ true
  pub image_names : are_distinct (map (λ i. i.name) s.images) ≡ true
  pub process_names : are_distinct (decl_names s) ≡ true
  pub units : list_all is_unit s.units ≡ true
  pub images : list_all (is_formed (decl_names s)) s.images ≡ true
  pub decls : list_all (is_decl (length s.images)) s.decls ≡ true

pub well_formed : (p : Parts) → AreParts p → first_unknown p ≡ None → IsFormed (system_of p)
well_formed p h e =
    let labels = neither p.unlabelled (least_line (unknown_creation p) (least_line (unknown_image p) (least_line (unknown_input p) (unknown_fault p)))) e in
    let made = neither (unknown_creation p) (least_line (unknown_image p) (least_line (unknown_input p) (unknown_fault p))) labels.1 in
    let run = neither (unknown_image p) (least_line (unknown_input p) (unknown_fault p)) made.1 in
    let fed = neither (unknown_input p) (unknown_fault p) run.1 in
    let names : decl_names (system_of p) ≡ map (λ (d : DeclLine). d.name) p.decls = map-map (λ (d : ProcDecl). d.name) (decl_of p.images) p.decls in
    let creations = unfound (names_no_decl p.decls) p.creations (none_mapped (λ (c : Creation). c.line) (find (names_no_decl p.decls) p.creations) made.0) in
    let images = unfound (names_no_image p.images) p.decls (none_mapped (λ (d : DeclLine). d.line) (find (names_no_image p.images) p.decls) run.0) in
    let inputs = unfound (names_no_line_unit p.units) p.inputs (none_mapped (λ (i : InputLine). i.line) (find (names_no_line_unit p.units) p.inputs) fed.0) in
    let known =
    all_weaker (λ c. not (names_no_decl p.decls c)) (is_known (map (λ (d : DeclLine). d.name) p.decls)) (creation_known p.decls) p.creations
    creations in
    record {
      few_units = ap (λ n. nat_le n 32) (length-map p.units (unit_of p)) ∙ h.units.few;
      few_images = h.images.few;
      few_decls = ap (λ n. nat_le n 1000) (length-map p.decls (decl_of p.images)) ∙ h.decls.few;
      unit_names = ap are_distinct (map-map (λ (u : UnitDecl). u.name) (unit_of p) p.units) ∙ h.units.names;
      image_names = h.images.names;
      process_names = ap are_distinct names ∙ h.decls.names;
      units = units_are p p.units h h.units.blocks (no_block_lines p.units p.inputs h.units.names inputs);
      images = ap (λ (ds : List (List ℕ)). list_all (is_formed ds) p.images) names ∙ h.images.formed (map (λ (d : DeclLine). d.name) p.decls) labels.0 known;
      decls = decls_are p.images p.decls h.decls.in_range images;
    }
