-- What is read names only what is there; and the system that was read is the one that the lines stand for.
use mathlib.Core.List.{map-map}
use mathlib.Core.Bool.{not-not, and_comm}
use Rattle.std.proofs.Common.{◌≡◌, ℕ, ◌==◌, ◌&&◌, not, Bool, true, false, List, [], ◌∷◌, map, flat_map, find, Option, Some, None, option_map, is_some, is_none, position, bytes_eq, refl, sym, ap, ◌∙◌}
use Rattle.std.specs.List.{list_all, list_any}
use Rattle.vx_base.proofs.Any.{any_map}
use Rattle.vx_image.specs.declared.decl.ProcDecl.{ProcDecl}
use Rattle.vx_image.specs.declared.image.Image.{Image}
use Rattle.vx_image.specs.declared.system.System.{System}
use Rattle.vx_image.specs.declared.unit.UnitDecl.{UnitDecl}
use Rattle.vx_image.specs.WellFormed.{is_among, are_distinct, decl_names}
use Rattle.vx_script.specs.Declarations.{decl_place, is_fault_of}
use Rattle.vx_script.specs.Places.{unit_place, image_place, is_line_unit, rising}
use Rattle.vx_script.specs.Resolving.{names_no_decl, unknown_creation, names_no_image, unknown_image, names_no_line_unit, unknown_input, names_no_unit, unknown_fault, first_unknown, least_line, unit_of, decl_of, numbers_of}
use Rattle.vx_script.specs.Resolving as resolving
use Rattle.vx_script.specs.Reading.{nothing_read}
use Rattle.vx_script.specs.declared.lines.Creation.{Creation}
use Rattle.vx_script.specs.declared.lines.DeclLine.{DeclLine}
use Rattle.vx_script.specs.declared.lines.FaultLine.{FaultLine}
use Rattle.vx_script.specs.declared.lines.InputLine.{InputLine}
use Rattle.vx_script.specs.declared.parts.Parts.{Parts}
use Rattle.vx_script.proofs.Appended.{unfound}
use Rattle.vx_script.proofs.EndedImages.{is_known, neither}
use Rattle.vx_script.proofs.FaultLines.{are_apart}
use Rattle.vx_script.proofs.Places.{has_place}
use Rattle.std.proofs.lemmas.Bool.{and_parts, and_from, or_parts, or_from, not_from_false, not-true}
use Rattle.vx_grammar.specs.Grammar.{Item, OfUnit, OfInput, OfFault, OfImage, OfProcess, unit_in, input_of, number_of, image_in, decl_in, system_of}
use Rattle.vx_grammar.proofs.SaidSoFar.{fault_key, plain_unit, Extends, Known, has_image, has_line_unit, has_unit}
use Rattle.vx_grammar.proofs.LinesBack.{none_found}
use Rattle.vx_base.proofs.Lists.{none_mapped}

-- Names, as the second pass looks for them.

not_none : (o : Option ℕ) → not (is_none o) ≡ is_some o
not_none None = refl
not_none (Some k) = refl

-- a name has a place if it is among the names
placed_among : {A : Type 0} (name : A → List ℕ) (n : List ℕ) (xs : List A) → is_some (position (λ x. bytes_eq n (name x)) xs) ≡ is_among n (map name xs)
placed_among name n xs = has_place (λ x. bytes_eq n (name x)) xs ∙ sym (any_map (bytes_eq n) name xs)

creation_same : (all : Parts) (c : Creation) → not (names_no_decl all.decls c) ≡ is_known (decl_names (resolving.system_of all)) c
creation_same all c =
    not_none (decl_place c.name all.decls) ∙ placed_among (λ (d : DeclLine). d.name) c.name all.decls
    ∙ ap (is_among c.name) (sym (map-map (λ (d : ProcDecl). d.name) (decl_of all.images) all.decls))

image_same : (all : Parts) (d : DeclLine) → not (names_no_image all.images d) ≡ has_image (resolving.system_of all) d
image_same all d = not_none (image_place d.image all.images)

input_same : (all : Parts) (i : InputLine) → not (names_no_line_unit all.units i) ≡ has_line_unit (resolving.system_of all) i
input_same all i = not-not (list_any (is_line_unit i.unit) all.units) ∙ sym (any_map (is_line_unit i.unit) (unit_of all) all.units)

fault_same : (all : Parts) (f : FaultLine) → not (names_no_unit all.units f) ≡ has_unit (resolving.system_of all) f
fault_same all f =
    not_none (unit_place f.unit all.units) ∙ placed_among (λ (u : UnitDecl). u.name) f.unit all.units
    ∙ ap (is_among f.unit) (sym (map-map (λ (u : UnitDecl). u.name) (unit_of all) all.units))

all_same : {A : Type 0} (p q : A → Bool) → ((x : A) → p x ≡ q x) → (xs : List A) → list_all p xs ≡ list_all q xs
all_same p q h [] = refl
all_same p q h (x ∷ xs) = ap (λ b. b && list_all p xs) (h x) ∙ ap (λ b. q x && b) (all_same p q h xs)

-- what names only what is there is known
pub all_known : (all : Parts) → first_unknown all ≡ None → Known (resolving.system_of all) all
all_known all e =
    let s = resolving.system_of all in
    let labels = neither all.unlabelled (least_line (unknown_creation all) (least_line (unknown_image all) (least_line (unknown_input all) (unknown_fault all)))) e in
    let made = neither (unknown_creation all) (least_line (unknown_image all) (least_line (unknown_input all) (unknown_fault all))) labels.1 in
    let run = neither (unknown_image all) (least_line (unknown_input all) (unknown_fault all)) made.1 in
    let fed = neither (unknown_input all) (unknown_fault all) run.1 in
    record {
      labels = labels.0;
      creations = sym (all_same (λ c. not (names_no_decl all.decls c)) (is_known (decl_names s)) (creation_same all) all.creations)
          ∙ unfound (names_no_decl all.decls) all.creations (none_mapped (λ (c : Creation). c.line) (find (names_no_decl all.decls) all.creations) made.0);
      images = sym (all_same (λ d. not (names_no_image all.images d)) (has_image s) (image_same all) all.decls)
          ∙ unfound (names_no_image all.images) all.decls (none_mapped (λ (d : DeclLine). d.line) (find (names_no_image all.images) all.decls) run.0);
      inputs = sym (all_same (λ i. not (names_no_line_unit all.units i)) (has_line_unit s) (input_same all) all.inputs)
          ∙ unfound (names_no_line_unit all.units) all.inputs (none_mapped (λ (i : InputLine). i.line) (find (names_no_line_unit all.units) all.inputs) fed.0);
      faults = sym (all_same (λ f. not (names_no_unit all.units f)) (has_unit s) (fault_same all) all.faults)
          ∙ unfound (names_no_unit all.units) all.faults (none_mapped (λ (f : FaultLine). f.line) (find (names_no_unit all.units) all.faults) fed.1);
    }

none_line : {A : Type 0} (line : A → ℕ) (p : A → Bool) (xs : List A) → list_all (λ x. not (p x)) xs ≡ true → option_map line (find p xs) ≡ None
none_line line p xs h = ap (λ o. option_map line o) (none_found p xs h)

-- what is known names only what is there
pub known_all : (all : Parts) → Known (resolving.system_of all) all → first_unknown all ≡ None
known_all all k =
    let s = resolving.system_of all in
    let creations : unknown_creation all ≡ None = none_line (λ (c : Creation). c.line) (names_no_decl all.decls) all.creations (all_same (λ c. not (names_no_decl all.decls c)) (is_known (decl_names s)) (creation_same all) all.creations ∙ k.creations) in
    let images : unknown_image all ≡ None = none_line (λ (d : DeclLine). d.line) (names_no_image all.images) all.decls (all_same (λ d. not (names_no_image all.images d)) (has_image s) (image_same all) all.decls ∙ k.images) in
    let inputs : unknown_input all ≡ None = none_line (λ (i : InputLine). i.line) (names_no_line_unit all.units) all.inputs (all_same (λ i. not (names_no_line_unit all.units i)) (has_line_unit s) (input_same all) all.inputs ∙ k.inputs) in
    let faults : unknown_fault all ≡ None = none_line (λ (f : FaultLine). f.line) (names_no_unit all.units) all.faults (all_same (λ f. not (names_no_unit all.units f)) (has_unit s) (fault_same all) all.faults ∙ k.faults) in
    ap (λ o. least_line o (least_line (unknown_creation all) (least_line (unknown_image all) (least_line (unknown_input all) (unknown_fault all))))) k.labels
    ∙ ap (λ o. least_line o (least_line (unknown_image all) (least_line (unknown_input all) (unknown_fault all)))) creations
    ∙ ap (λ o. least_line o (least_line (unknown_input all) (unknown_fault all))) images
    ∙ ap (λ o. least_line o (unknown_fault all)) inputs ∙ faults

-- The system.

a_unit_same : (s : System) (all : Parts) (items : List Item) → Extends s all nothing_read.parts items → (name : List ℕ) (blocks : ℕ)
    → unit_of all (record { name = name; blocks = blocks; inputs = []; faults = [] }) ≡ record { name = name; blocks = blocks; inputs = flat_map (input_of name) items; faults = rising (flat_map (number_of name) items) }
a_unit_same s all items e name blocks =
    ap (λ (x : List (List ℕ)). record { name = name; blocks = blocks; inputs = x; faults = rising (numbers_of name all.faults) }) (e.inputs name)
    ∙ ap (λ (x : List ℕ). record { name = name; blocks = blocks; inputs = flat_map (input_of name) items; faults = rising x }) (e.numbers name)

units_same : (s : System) (all : Parts) (items : List Item) → Extends s all nothing_read.parts items → (some : List Item) → map (unit_of all) (flat_map plain_unit some) ≡ flat_map (unit_in items) some
units_same s all items e [] = refl
units_same s all items e (OfUnit name blocks ∷ some) =
    ap (λ (u : UnitDecl). u ∷ map (unit_of all) (flat_map plain_unit some)) (a_unit_same s all items e name blocks)
    ∙ ap (λ (us : List UnitDecl). record { name = name; blocks = blocks; inputs = flat_map (input_of name) items; faults = rising (flat_map (number_of name) items) } ∷ us) (units_same s all items e some)
units_same s all items e (OfInput unit text ∷ some) = units_same s all items e some
units_same s all items e (OfFault unit n ∷ some) = units_same s all items e some
units_same s all items e (OfImage i ∷ some) = units_same s all items e some
units_same s all items e (OfProcess d ∷ some) = units_same s all items e some

-- the system that was read is the one that the lines stand for
pub same_system : (s : System) (all : Parts) (items : List Item) → s.images ≡ all.images → Extends s all nothing_read.parts items → resolving.system_of all ≡ system_of items
same_system s all items images e =
    let units : map (unit_of all) all.units ≡ flat_map (unit_in items) items = ap (map (unit_of all)) e.units ∙ units_same s all items e items in
    let decls : map (decl_of all.images) all.decls ≡ flat_map decl_in items = ap (λ (is : List Image). map (decl_of is) all.decls) (sym images) ∙ e.decls in
    ap (λ (us : List UnitDecl). record { units = us; images = all.images; decls = map (decl_of all.images) all.decls }) units
    ∙ ap (λ (is : List Image). record { units = flat_map (unit_in items) items; images = is; decls = map (decl_of all.images) all.decls }) e.images
    ∙ ap (λ (ds : List ProcDecl). record { units = flat_map (unit_in items) items; images = flat_map image_in items; decls = ds }) decls

-- Faults.

fault_among : (unit : List ℕ) (n : ℕ) (fs : List FaultLine) → list_any (is_fault_of unit n) fs ≡ false → is_among (n ∷ unit) (map fault_key fs) ≡ false
fault_among unit n [] h = refl
fault_among unit n (f ∷ fs) h =
    let p = or_parts (is_fault_of unit n f) (list_any (is_fault_of unit n) fs) h in
    or_from (bytes_eq (n ∷ unit) (fault_key f)) (is_among (n ∷ unit) (map fault_key fs)) (and_comm (n == f.number) (bytes_eq unit f.unit) ∙ p.0) (fault_among unit n fs p.1)

-- faults of which none stands twice differ
pub faults_differ : (fs : List FaultLine) → are_apart fs ≡ true → are_distinct (map fault_key fs) ≡ true
faults_differ [] h = refl
faults_differ (f ∷ fs) h =
    let p = and_parts (not (list_any (is_fault_of f.unit f.number) fs)) (are_apart fs) h in
    and_from (not (is_among (fault_key f) (map fault_key fs))) (are_distinct (map fault_key fs))
    (not_from_false (is_among (fault_key f) (map fault_key fs)) (fault_among f.unit f.number fs (not-true (list_any (is_fault_of f.unit f.number) fs) p.0))) (faults_differ fs p.1)
