-- What the lines of a canonical script say resolves to the system.
use Rattle.std.proofs.Common.{◌≡◌, ℕ, ◌==◌, ◌||◌, Bool, true, false, not, cond, List, [], ◌∷◌, ◌++◌, length, map, flat_map, nat_lt, bytes_eq, None, Some, option_map, Ok, refl, sym, subst, ap, ◌∙◌, arith, append-nil}
use Rattle.std.specs.List.{list_all, list_any, find}
use Rattle.std.proofs.lemmas.Bool.{ltb-true, or_right, not-true, or_parts, and_parts}
use Rattle.std.proofs.lemmas.Bool.Decides.{nat_tests}
use Rattle.std.proofs.lemmas.List.Folds.{list_all-append, list_all-map}
use Rattle.vx_image.specs.WellFormed.{is_among, are_distinct, is_unit, is_decl, rises_above, decl_names}
use Rattle.vx_image.specs.declared.decl.ProcDecl.{ProcDecl}
use Rattle.vx_image.specs.declared.image.Image.{Image}
use Rattle.vx_image.specs.declared.system.System.{System}
use Rattle.vx_image.specs.declared.unit.UnitDecl.{UnitDecl}
use Rattle.vx_script.specs.Places.{image_place, is_line_unit, in_place, rising}
use Rattle.vx_script.specs.Resolving.{names_no_decl, names_no_image, names_no_line_unit, names_no_unit, unknown_creation, unknown_image, unknown_input, unknown_fault, first_unknown, input_if, inputs_of, fault_if, numbers_of, unit_of, decl_of, resolve}
use Rattle.vx_script.specs.declared.lines.Creation.{Creation}
use Rattle.vx_script.specs.declared.lines.DeclLine.{DeclLine}
use Rattle.vx_script.specs.declared.lines.FaultLine.{FaultLine}
use Rattle.vx_script.specs.declared.lines.InputLine.{InputLine}
use Rattle.vx_script.specs.declared.parts.Parts.{Parts}
use Rattle.vx_roundtrip.proofs.Decls.{line_names, process_names, told_names}
use Rattle.vx_roundtrip.proofs.Images.{image_names}
use Rattle.vx_roundtrip.proofs.Names.{placed_at, placed_somewhere}
use Rattle.vx_roundtrip.proofs.Outer.{bare}
use Rattle.vx_roundtrip.proofs.Process.{image_name, line_of}
use Rattle.vx_roundtrip.proofs.Told.{plain_input, plain_fault, plain_decl, Said, Told}
use Rattle.vx_roundtrip.proofs.Units.{input_told, fault_told, inputs_told, faults_told, unit_names, unit_test}
use Rattle.vx_grammar.proofs.LinesBack.{none_found}
use Rattle.vx_base.proofs.Texts.{same_bytes, bytes_are}
use Rattle.vx_image.specs.Absent.{no_image}

-- What statements create is there.

creations_known : (decls : List DeclLine) (creations : List Creation) → list_all (λ c. is_among c.name (line_names decls)) creations ≡ true → list_all (λ c. not (names_no_decl decls c)) creations ≡ true
creations_known decls [] h = refl
creations_known decls (c ∷ creations) h =
    let p = and_parts (is_among c.name (line_names decls)) _ h in
    rw (placed_somewhere (λ (d : DeclLine). d.name) c.name decls p.0, creations_known decls creations p.1) refl

-- The images of declarations are there.

image_found : (images : List Image) (d : ProcDecl) → is_decl (length images) d ≡ true → are_distinct (image_names images) ≡ true → image_place (image_name images d) images ≡ Some d.image
image_found images d h apart = placed_at (λ (i : Image). i.name) images d.image no_image (ltb-true _ _ (and_parts (nat_lt d.image (length images)) _ h).0) apart

images_known : (images : List Image) (decls : List ProcDecl) → list_all (is_decl (length images)) decls ≡ true → are_distinct (image_names images) ≡ true → list_all (λ d. not (names_no_image images d)) (map (line_of 0 images) decls) ≡ true
images_known images [] h apart = refl
images_known images (d ∷ decls) h apart =
    let p = and_parts (is_decl (length images) d) _ h in
    rw (image_found images d p.0 apart, images_known images decls p.1 apart) refl

decl_settled : (images : List Image) (d : ProcDecl) → is_decl (length images) d ≡ true → are_distinct (image_names images) ≡ true → decl_of images (line_of 0 images d) ≡ d
decl_settled images d h apart = rw (image_found images d h apart) refl

decls_settled : (images : List Image) (decls : List ProcDecl) → list_all (is_decl (length images)) decls ≡ true → are_distinct (image_names images) ≡ true → map (decl_of images) (map (line_of 0 images) decls) ≡ decls
decls_settled images [] h apart = refl
decls_settled images (d ∷ decls) h apart =
    let p = and_parts (is_decl (length images) d) _ h in
    rw (decl_settled images d p.0 apart, decls_settled images decls p.1 apart) refl

decls_plain : (images : List Image) (decls : List DeclLine) → map (decl_of images) (map plain_decl decls) ≡ map (decl_of images) decls
decls_plain images [] = refl
decls_plain images (d ∷ decls) = ap (λ (ds : List ProcDecl). decl_of images d ∷ ds) (decls_plain images decls)

-- The units of lines are there.

each_known : (all : List UnitDecl) (name : List ℕ) (texts : List (List ℕ)) → list_any (is_line_unit name) (map bare all) ≡ true → list_all (λ i. not (names_no_line_unit (map bare all) i)) (map (input_told name) texts) ≡ true
each_known all name [] h = refl
each_known all name (text ∷ texts) h = rw (h, each_known all name texts h) refl

no_length : (text : List ℕ) (texts : List (List ℕ)) → (length (text ∷ texts) == 0) ≡ true → ⊥
no_length text texts h = grind (arith, nat_tests, h)

-- a unit with lines is a line unit
line_unit_by : (all : List UnitDecl) (name : List ℕ) (texts : List (List ℕ)) (t : Bool) → t || (length texts == 0) ≡ true → (t ≡ true → list_any (is_line_unit name) (map bare all) ≡ true) → list_all (λ i. not (names_no_line_unit (map bare all) i)) (map (input_told name) texts) ≡ true
line_unit_by all name texts true h known = each_known all name texts (known refl)
line_unit_by all name [] false h known = refl
line_unit_by all name (text ∷ texts) false h known = absurd (no_length text texts h)

-- the units of the tail are among all
inputs_known : (all units : List UnitDecl) → ((name : List ℕ) → list_any (is_line_unit name) (map bare units) ≡ true → list_any (is_line_unit name) (map bare all) ≡ true) → list_all is_unit units ≡ true → list_all (λ i. not (names_no_line_unit (map bare all) i)) (flat_map inputs_told units) ≡ true
inputs_known all [] within h = refl
inputs_known all (u ∷ units) within h =
    let p = and_parts (is_unit u) (list_all is_unit units) h in
    let known : (u.blocks == 0) ≡ true → list_any (is_line_unit u.name) (map bare all) ≡ true = λ e. within u.name (rw (same_bytes u.name, e) refl) in
    let first = line_unit_by all u.name u.inputs (u.blocks == 0) (unit_test u p.0).kinds known in
    list_all-append (λ i. not (names_no_line_unit (map bare all) i)) (inputs_told u) (flat_map inputs_told units) ∙ rw (first, inputs_known all units (λ name e. within name (or_right (is_line_unit name (bare u)) _ e)) p.1) refl

faults_known_by : (all : List UnitDecl) (name : List ℕ) (ns : List ℕ) → is_among name (unit_names all) ≡ true → list_all (λ f. not (names_no_unit all f)) (map (fault_told name) ns) ≡ true
faults_known_by all name [] h = refl
faults_known_by all name (n ∷ ns) h = rw (placed_somewhere (λ (u : UnitDecl). u.name) name all h, faults_known_by all name ns h) refl

faults_known : (all units : List UnitDecl) → ((name : List ℕ) → is_among name (unit_names units) ≡ true → is_among name (unit_names all) ≡ true) → list_all (λ f. not (names_no_unit all f)) (flat_map faults_told units) ≡ true
faults_known all [] within = refl
faults_known all (u ∷ units) within =
    let first = faults_known_by all u.name u.faults (within u.name (rw (same_bytes u.name) refl)) in
    list_all-append (λ f. not (names_no_unit all f)) (faults_told u) (flat_map faults_told units) ∙ rw (first, faults_known all units (λ name e. within name (or_right (bytes_eq name u.name) _ e))) refl

bare_names : (units : List UnitDecl) → unit_names (map bare units) ≡ unit_names units
bare_names [] = refl
bare_names (u ∷ units) = ap (λ (ns : List (List ℕ)). u.name ∷ ns) (bare_names units)

-- The lines and faults go back to their units.

inputs_plain : (name : List ℕ) (inputs : List InputLine) → inputs_of name (map plain_input inputs) ≡ inputs_of name inputs
inputs_plain name [] = refl
inputs_plain name (i ∷ inputs) = ap (λ (texts : List (List ℕ)). input_if name i ++ texts) (inputs_plain name inputs)

numbers_plain : (name : List ℕ) (faults : List FaultLine) → numbers_of name (map plain_fault faults) ≡ numbers_of name faults
numbers_plain name [] = refl
numbers_plain name (f ∷ faults) = ap (λ (ns : List ℕ). fault_if name f ++ ns) (numbers_plain name faults)

-- those of the units of a name

abbrev own_inputs : List ℕ → List UnitDecl → List (List ℕ)
own_inputs name units = flat_map (λ u. cond (bytes_eq name u.name) u.inputs []) units

abbrev own_faults : List ℕ → List UnitDecl → List ℕ
own_faults name units = flat_map (λ u. cond (bytes_eq name u.name) u.faults []) units

inputs_own_by : (name other : List ℕ) (t : Bool) (texts : List (List ℕ)) (more : List InputLine) → bytes_eq name other ≡ t → inputs_of name (map (input_told other) texts ++ more) ≡ cond t texts [] ++ inputs_of name more
inputs_own_by name other true [] more e = refl
inputs_own_by name other false [] more e = refl
inputs_own_by name other true (text ∷ texts) more e = rw (e, inputs_own_by name other true texts more e) refl
inputs_own_by name other false (text ∷ texts) more e = rw (e, inputs_own_by name other false texts more e) refl

inputs_own : (name : List ℕ) (units : List UnitDecl) → inputs_of name (flat_map inputs_told units) ≡ own_inputs name units
inputs_own name [] = refl
inputs_own name (u ∷ units) = inputs_own_by name u.name (bytes_eq name u.name) u.inputs (flat_map inputs_told units) refl ∙ ap (λ (texts : List (List ℕ)). cond (bytes_eq name u.name) u.inputs [] ++ texts) (inputs_own name units)

numbers_own_by : (name other : List ℕ) (t : Bool) (ns : List ℕ) (more : List FaultLine) → bytes_eq name other ≡ t → numbers_of name (map (fault_told other) ns ++ more) ≡ cond t ns [] ++ numbers_of name more
numbers_own_by name other true [] more e = refl
numbers_own_by name other false [] more e = refl
numbers_own_by name other true (n ∷ ns) more e = rw (e, numbers_own_by name other true ns more e) refl
numbers_own_by name other false (n ∷ ns) more e = rw (e, numbers_own_by name other false ns more e) refl

numbers_own : (name : List ℕ) (units : List UnitDecl) → numbers_of name (flat_map faults_told units) ≡ own_faults name units
numbers_own name [] = refl
numbers_own name (u ∷ units) = numbers_own_by name u.name (bytes_eq name u.name) u.faults (flat_map faults_told units) refl ∙ ap (λ (ns : List ℕ). cond (bytes_eq name u.name) u.faults [] ++ ns) (numbers_own name units)

none_inputs : (name : List ℕ) (units : List UnitDecl) → is_among name (unit_names units) ≡ false → own_inputs name units ≡ []
none_inputs name [] h = refl
none_inputs name (u ∷ units) h =
    let p = or_parts (bytes_eq name u.name) (is_among name (unit_names units)) h in
    rw (p.0, none_inputs name units p.1) refl

none_faults : (name : List ℕ) (units : List UnitDecl) → is_among name (unit_names units) ≡ false → own_faults name units ≡ []
none_faults name [] h = refl
none_faults name (u ∷ units) h =
    let p = or_parts (bytes_eq name u.name) (is_among name (unit_names units)) h in
    rw (p.0, none_faults name units p.1) refl

-- a name among units is none that is not
apart_by : (name other : List ℕ) (units : List UnitDecl) (t : Bool) → bytes_eq name other ≡ t → is_among name (unit_names units) ≡ true → is_among other (unit_names units) ≡ false → t ≡ false
apart_by name other units true e h k =
    let same : is_among name (unit_names units) ≡ is_among other (unit_names units) = ap (λ (n : List ℕ). is_among n (unit_names units)) (bytes_are name other e) in
    absurd (cc)
apart_by name other units false e h k = refl

-- rising numbers stay as they are
rising_by : (n : ℕ) (ns : List ℕ) → rises_above n ns ≡ true → in_place n ns ≡ n ∷ ns
rising_by n [] h = refl
rising_by n (m ∷ ms) h = rw ((and_parts (nat_lt n m) _ h).0) refl

rising_same : (low : ℕ) (ns : List ℕ) → rises_above low ns ≡ true → rising ns ≡ ns
rising_same low [] h = refl
rising_same low (n ∷ ns) h =
    let p = and_parts (nat_lt low n) (rises_above n ns) h in
    ap (in_place n) (rising_same n ns p.1) ∙ rising_by n ns p.1

-- units whose lines and faults are these functions of the name
abbrev rebuilt : (List ℕ → List (List ℕ)) → (List ℕ → List ℕ) → UnitDecl → UnitDecl
rebuilt inputs faults u = record { name = u.name; blocks = u.blocks; inputs = inputs u.name; faults = rising (faults u.name) }

-- what each function gives for the names of these units
record Gives (inputs : List ℕ → List (List ℕ)) (faults : List ℕ → List ℕ) (units : List UnitDecl) : Type 0 where
  texts : (name : List ℕ) → is_among name (unit_names units) ≡ true → inputs name ≡ own_inputs name units
  numbers : (name : List ℕ) → is_among name (unit_names units) ≡ true → faults name ≡ own_faults name units

gives_tail : (inputs : List ℕ → List (List ℕ)) (faults : List ℕ → List ℕ) (u : UnitDecl) (units : List UnitDecl) → is_among u.name (unit_names units) ≡ false → Gives inputs faults (u ∷ units) → Gives inputs faults units
gives_tail inputs faults u units new g = record {
  texts = λ name h.
      let other = apart_by name u.name units (bytes_eq name u.name) refl h new in
      g.texts name (or_right (bytes_eq name u.name) _ h) ∙ rw other refl;
  numbers = λ name h.
      let other = apart_by name u.name units (bytes_eq name u.name) refl h new in
      g.numbers name (or_right (bytes_eq name u.name) _ h) ∙ rw other refl;
}

units_rebuilt : (inputs : List ℕ → List (List ℕ)) (faults : List ℕ → List ℕ) (units : List UnitDecl) → are_distinct (unit_names units) ≡ true → list_all is_unit units ≡ true → Gives inputs faults units → map (rebuilt inputs faults) (map bare units) ≡ units
units_rebuilt inputs faults [] apart are g = refl
units_rebuilt inputs faults (u ∷ units) apart are g =
    let p = and_parts (not (is_among u.name (unit_names units))) (are_distinct (unit_names units)) apart in
    let q = and_parts (is_unit u) (list_all is_unit units) are in
    let new = not-true (is_among u.name (unit_names units)) p.0 in
    let here : is_among u.name (unit_names (u ∷ units)) ≡ true = rw (same_bytes u.name) refl in
    let texts : inputs u.name ≡ u.inputs = g.texts u.name here ∙ rw (same_bytes u.name, none_inputs u.name units new) (append-nil u.inputs) in
    let numbers : faults u.name ≡ u.faults = g.numbers u.name here ∙ rw (same_bytes u.name, none_faults u.name units new) (append-nil u.faults) in
    let rise : rising (faults u.name) ≡ u.faults = ap rising numbers ∙ rising_same 0 u.faults (unit_test u q.0).rises in
    rw (texts, rise, units_rebuilt inputs faults units p.1 q.1 (gives_tail inputs faults u units new g)) refl

-- The whole.

pub record Sound (s : System) : Type 0 where
  pub unit_apart : are_distinct (unit_names s.units) ≡ true
  pub image_apart : are_distinct (image_names s.images) ≡ true
  pub units_are : list_all is_unit s.units ≡ true
  pub decls_are : list_all (is_decl (length s.images)) s.decls ≡ true

-- what the lines of a system say
abbrev pub said_by : System → Said
said_by s = record {
  units = map bare s.units;
  inputs = flat_map inputs_told s.units;
  faults = flat_map faults_told s.units;
  images = s.images;
  decls = map (line_of 0 s.images) s.decls;
}

abbrev pub ToldAll : System → Parts → Type 0
ToldAll s parts = Told (decl_names s) parts (said_by s)

lines_named : (images : List Image) (decls : List ProcDecl) → line_names (map (line_of 0 images) decls) ≡ process_names decls
lines_named images [] = refl
lines_named images (d ∷ decls) = ap (λ (ns : List (List ℕ)). d.name ∷ ns) (lines_named images decls)

no_creation : (s : System) (parts : Parts) → ToldAll s parts → unknown_creation parts ≡ None
no_creation s parts told =
    let names : line_names parts.decls ≡ decl_names s = told_names parts.decls _ told.decls ∙ lines_named s.images s.decls in
    let made = subst (λ (ns : List (List ℕ)). list_all (λ (c : Creation). is_among c.name ns) parts.creations ≡ true) (sym names) told.creations in
    rw (none_found (names_no_decl parts.decls) parts.creations (creations_known parts.decls parts.creations made)) refl

no_image_unknown : (s : System) (parts : Parts) → Sound s → ToldAll s parts → unknown_image parts ≡ None
no_image_unknown s parts sound told =
    let known : list_all (λ d. not (names_no_image s.images d)) parts.decls ≡ true = sym (list_all-map (λ d. not (names_no_image s.images d)) plain_decl parts.decls) ∙ ap (list_all (λ d. not (names_no_image s.images d))) told.decls ∙ images_known s.images s.decls sound.decls_are sound.image_apart in
    ap (λ (images : List Image). option_map (λ (d : DeclLine). d.line) (find (names_no_image images) parts.decls)) told.images ∙ rw (none_found (names_no_image s.images) parts.decls known) refl

no_input : (s : System) (parts : Parts) → Sound s → ToldAll s parts → unknown_input parts ≡ None
no_input s parts sound told =
    let all = map bare s.units in
    let known : list_all (λ i. not (names_no_line_unit all i)) parts.inputs ≡ true = sym (list_all-map (λ i. not (names_no_line_unit all i)) plain_input parts.inputs) ∙ ap (list_all (λ i. not (names_no_line_unit all i))) told.inputs ∙ inputs_known s.units s.units (λ name e. e) sound.units_are in
    ap (λ (units : List UnitDecl). option_map (λ (i : InputLine). i.line) (find (names_no_line_unit units) parts.inputs)) told.units ∙ rw (none_found (names_no_line_unit all) parts.inputs known) refl

no_fault : (s : System) (parts : Parts) → ToldAll s parts → unknown_fault parts ≡ None
no_fault s parts told =
    let all = map bare s.units in
    let named : (name : List ℕ) → is_among name (unit_names s.units) ≡ true → is_among name (unit_names all) ≡ true = λ name e. ap (is_among name) (bare_names s.units) ∙ e in
    let known : list_all (λ f. not (names_no_unit all f)) parts.faults ≡ true = sym (list_all-map (λ f. not (names_no_unit all f)) plain_fault parts.faults) ∙ ap (list_all (λ f. not (names_no_unit all f))) told.faults ∙ faults_known all s.units named in
    ap (λ (units : List UnitDecl). option_map (λ (f : FaultLine). f.line) (find (names_no_unit units) parts.faults)) told.units ∙ rw (none_found (names_no_unit all) parts.faults known) refl

none_unknown : (s : System) (parts : Parts) → Sound s → ToldAll s parts → first_unknown parts ≡ None
none_unknown s parts sound told = rw (told.unlabelled, no_creation s parts told, no_image_unknown s parts sound told, no_input s parts sound told, no_fault s parts told) refl

units_settled : (s : System) (parts : Parts) → Sound s → ToldAll s parts → map (unit_of parts) parts.units ≡ s.units
units_settled s parts sound told =
    let inputs : List ℕ → List (List ℕ) = λ name. inputs_of name parts.inputs in
    let faults : List ℕ → List ℕ = λ name. numbers_of name parts.faults in
    let gives : Gives inputs faults s.units = record {
      texts = λ name h. sym (inputs_plain name parts.inputs) ∙ ap (inputs_of name) told.inputs ∙ inputs_own name s.units;
      numbers = λ name h. sym (numbers_plain name parts.faults) ∙ ap (numbers_of name) told.faults ∙ numbers_own name s.units;
    } in
    ap (map (rebuilt inputs faults)) told.units ∙ units_rebuilt inputs faults s.units sound.unit_apart sound.units_are gives

decls_resolved : (s : System) (parts : Parts) → Sound s → ToldAll s parts → map (decl_of parts.images) parts.decls ≡ s.decls
decls_resolved s parts sound told = ap (λ (images : List Image). map (decl_of images) parts.decls) told.images ∙ sym (decls_plain s.images parts.decls) ∙ ap (map (decl_of s.images)) told.decls ∙ decls_settled s.images s.decls sound.decls_are sound.image_apart

-- what the lines say is the system
pub resolved_back : (s : System) (parts : Parts) → Sound s → ToldAll s parts → resolve parts ≡ Ok s
resolved_back s parts sound told =
    let units = units_settled s parts sound told in
    let decls = decls_resolved s parts sound told in
    rw (none_unknown s parts sound told) (ap (λ (us : List UnitDecl). Ok (record { units = us; images = parts.images; decls = map (decl_of parts.images) parts.decls })) units ∙ ap (λ (is : List Image). Ok (record { units = s.units; images = is; decls = map (decl_of parts.images) parts.decls })) told.images ∙ ap (λ (ds : List ProcDecl). Ok (record { units = s.units; images = s.images; decls = ds })) decls)
