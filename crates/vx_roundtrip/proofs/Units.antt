-- The lines of units are read as the units, their lines and their faults.
use Rattle.std.proofs.Common.{◌≡◌, ℕ, ◌+◌, ◌<◌, ◌≤◌, ◌==◌, ◌||◌, Bool, true, false, List, [], ◌∷◌, ◌++◌, length, map, flat_map, nat_lt, nat_le, bytes_eq, refl, sym, subst, ap, ◌∙◌, arith, append-nil, append_assoc, length-append}
use Rattle.std.specs.List.{AllByRecursion, list_all, list_any}
use Rattle.std.proofs.lemmas.Bool.{lt-ltb, le-leb, ltb-true, or_parts, and_parts}
use Rattle.std.proofs.lemmas.Bool.Decides.{nat_tests}
use Rattle.std.proofs.lemmas.List.{map-append}
use Rattle.std.proofs.lemmas.List.Folds.{list_any-append}
use Rattle.vx_base.specs.Name.{is_name}
use Rattle.vx_image.specs.WellFormed.{is_among, is_unit, rises_above}
use Rattle.vx_image.specs.declared.unit.UnitDecl.{UnitDecl}
use Rattle.vx_text.specs.Quote.{AreBytes}
use Rattle.vx_script.specs.Declarations.{is_fault_of}
use Rattle.vx_script.specs.Reading.{between_images}
use Rattle.vx_script.specs.Script.{unit_line, input_line, fault_line, unit_lines}
use Rattle.vx_script.specs.declared.lines.FaultLine.{FaultLine}
use Rattle.vx_script.specs.declared.lines.InputLine.{InputLine}
use Rattle.vx_script.specs.declared.parts.Parts.{Parts}
use Rattle.vx_roundtrip.specs.Held.{IsHeldUnit}
use Rattle.vx_roundtrip.proofs.Names.{Fresh}
use Rattle.vx_roundtrip.proofs.Outer.{stays, step, and_then, shaped, bare, take_unit, take_input, take_fault}
use Rattle.vx_roundtrip.proofs.Told.{plain_input, plain_fault, Said, Told, Comes, told_as}
use Rattle.vx_grammar.proofs.LinesBack.{no_place}
use Rattle.vx_base.proofs.Texts.{same_bytes}

-- a unit's lines and faults, without the numbers of lines

abbrev pub input_told : List ℕ → List ℕ → InputLine
input_told name bytes = record { line = 0; unit = name; text = bytes }

abbrev pub fault_told : List ℕ → ℕ → FaultLine
fault_told name n = record { line = 0; unit = name; number = n }

abbrev pub inputs_told : UnitDecl → List InputLine
inputs_told u = map (input_told u.name) u.inputs

abbrev pub faults_told : UnitDecl → List FaultLine
faults_told u = map (fault_told u.name) u.faults

-- The lines that a unit reads.

abbrev with_inputs : Said → List InputLine → Said
with_inputs said inputs = record said { inputs = said.inputs ++ inputs }

inputs_back : (names : List (List ℕ)) (line : ℕ) (parts : Parts) (said : Said) (name : List ℕ) (texts rest : List (List ℕ)) → is_name name ≡ true → AllByRecursion AreBytes texts → list_all (λ bytes. nat_le (length bytes) 2048) texts ≡ true → Told names parts said → Comes names line (between_images parts) (map (input_line name) texts ++ rest) rest (with_inputs said (map (input_told name) texts))
inputs_back names line parts said name [] rest named are short told =
    let none : said ≡ with_inputs said [] = ap (λ (is : List InputLine). record said { inputs = is }) (sym (append-nil said.inputs)) in
    record { line2 = line; parts = parts; read = stays line (between_images parts) rest; told = told_as names parts said _ none told }
inputs_back names line parts said name (text ∷ texts) rest named are short told =
    let p = and_parts (nat_le (length text) 2048) _ short in
    let more : InputLine = record { line = line; unit = name; text = text } in
    let next : Parts = record parts { inputs = parts.inputs ++ more ∷ [] } in
    let first = input_told name text ∷ [] in
    let others = map (input_told name) texts in
    let now : Told names next (with_inputs said first) = record { units = told.units; inputs = map-append plain_input parts.inputs (more ∷ []) ∙ ap (λ (is : List InputLine). is ++ first) told.inputs; faults = told.faults; images = told.images; decls = told.decls; creations = told.creations; unlabelled = told.unlabelled } in
    let ih = inputs_back names (line + 1) next (with_inputs said first) name texts rest named are.1 p.1 now in
    let all = ap (λ (is : List InputLine). record said { inputs = is }) (append_assoc said.inputs first others) in
    record {
      line2 = ih.line2;
      parts = ih.parts;
      read = and_then (step line (between_images parts) (between_images next) (input_line name text) _ (take_input line parts name text named are.0 p.0)) ih.read;
      told = told_as names ih.parts _ _ all ih.told;
    }

-- Its faults.

-- no fault of this unit above a number stands yet
abbrev Unused : List ℕ → ℕ → List FaultLine → Type 0
Unused name low faults = (m : ℕ) → low < m → list_any (is_fault_of name m) faults ≡ false

unused_more : (name : List ℕ) (low n : ℕ) (faults : List FaultLine) → low < n → Unused name low faults → Unused name n (faults ++ fault_told name n ∷ [])
unused_more name low n faults h unused m lt =
    let other : (m == n) ≡ false = grind (arith, nat_tests, lt) in
    list_any-append (is_fault_of name m) faults (fault_told name n ∷ []) ∙ rw (unused m (omega (arith, h, lt)), same_bytes name, other) refl

plain_any : (name : List ℕ) (n : ℕ) (faults : List FaultLine) → list_any (is_fault_of name n) (map plain_fault faults) ≡ list_any (is_fault_of name n) faults
plain_any name n [] = refl
plain_any name n (f ∷ faults) = ap (λ (b : Bool). is_fault_of name n f || b) (plain_any name n faults)

abbrev with_faults : Said → List FaultLine → Said
with_faults said faults = record said { faults = said.faults ++ faults }

faults_back : (names : List (List ℕ)) (line : ℕ) (parts : Parts) (said : Said) (name : List ℕ) (low : ℕ) (ns : List ℕ) (rest : List (List ℕ)) → is_name name ≡ true → rises_above low ns ≡ true → list_all (λ n. nat_le n 100000) ns ≡ true → Unused name low said.faults → Told names parts said → Comes names line (between_images parts) (map (fault_line name) ns ++ rest) rest (with_faults said (map (fault_told name) ns))
faults_back names line parts said name low [] rest named rises most unused told =
    let none : said ≡ with_faults said [] = ap (λ (fs : List FaultLine). record said { faults = fs }) (sym (append-nil said.faults)) in
    record { line2 = line; parts = parts; read = stays line (between_images parts) rest; told = told_as names parts said _ none told }
faults_back names line parts said name low (n ∷ ns) rest named rises most unused told =
    let p = and_parts (nat_lt low n) (rises_above n ns) rises in
    let q = and_parts (nat_le n 100000) _ most in
    let above : low < n = ltb-true _ _ p.0 in
    let more : FaultLine = record { line = line; unit = name; number = n } in
    let next : Parts = record parts { faults = parts.faults ++ more ∷ [] } in
    let first = fault_told name n ∷ [] in
    let others = map (fault_told name) ns in
    let new : list_any (is_fault_of name n) parts.faults ≡ false = sym (plain_any name n parts.faults) ∙ ap (list_any (is_fault_of name n)) told.faults ∙ unused n above in
    let now : Told names next (with_faults said first) = record { units = told.units; inputs = told.inputs; faults = map-append plain_fault parts.faults (more ∷ []) ∙ ap (λ (fs : List FaultLine). fs ++ first) told.faults; images = told.images; decls = told.decls; creations = told.creations; unlabelled = told.unlabelled } in
    let ih = faults_back names (line + 1) next (with_faults said first) name n ns rest named p.1 q.1 (unused_more name low n said.faults above unused) now in
    let all = ap (λ (fs : List FaultLine). record said { faults = fs }) (append_assoc said.faults first others) in
    record {
      line2 = ih.line2;
      parts = ih.parts;
      read = and_then (step line (between_images parts) (between_images next) (fault_line name n) _ (take_fault line parts name n named (le-leb _ _ (omega (arith, above))) q.0 new)) ih.read;
      told = told_as names ih.parts _ _ all ih.told;
    }

-- Units.

abbrev pub unit_names : List UnitDecl → List (List ℕ)
unit_names units = map (λ u. u.name) units

-- faults are only of units that stand
abbrev Faulted : List UnitDecl → List FaultLine → Type 0
Faulted units faults = (name : List ℕ) → is_among name (unit_names units) ≡ false → (m : ℕ) → list_any (is_fault_of name m) faults ≡ false

others_faults : (name other : List ℕ) (m : ℕ) (ns : List ℕ) → bytes_eq name other ≡ false → list_any (is_fault_of name m) (map (fault_told other) ns) ≡ false
others_faults name other m [] h = refl
others_faults name other m (n ∷ ns) h = rw (h, others_faults name other m ns h) refl

faulted_more : (units : List UnitDecl) (faults : List FaultLine) (u : UnitDecl) → Faulted units faults → Faulted (units ++ bare u ∷ []) (faults ++ faults_told u)
faulted_more units faults u h name new m =
    let apart : is_among name (unit_names units) || (bytes_eq name u.name || false) ≡ false = sym (list_any-append (bytes_eq name) (unit_names units) (u.name ∷ [])) ∙ ap (is_among name) (sym (map-append (λ (v : UnitDecl). v.name) units (bare u ∷ []))) ∙ new in
    let p = or_parts (is_among name (unit_names units)) (bytes_eq name u.name || false) apart in
    let q = or_parts (bytes_eq name u.name) false p.1 in
    list_any-append (is_fault_of name m) faults (faults_told u) ∙ rw (h name p.0 m, others_faults name u.name m u.faults q.0) refl

-- the parts of the test of a unit
pub record UnitTest (u : UnitDecl) : Type 0 where
  pub blocks : nat_le u.blocks 4096 ≡ true
  pub inputs : list_all (λ line. nat_le (length line) 2048) u.inputs ≡ true
  pub kinds : (u.blocks == 0) || (length u.inputs == 0) ≡ true
  pub rises : rises_above 0 u.faults ≡ true
  pub most : list_all (λ n. nat_le n 100000) u.faults ≡ true

pub unit_test : (u : UnitDecl) → is_unit u ≡ true → UnitTest u
unit_test u h =
    let one = and_parts (nat_le u.blocks 4096) _ h in
    let two = and_parts (list_all (λ line. nat_le (length line) 2048) u.inputs) _ one.1 in
    let three = and_parts ((u.blocks == 0) || (length u.inputs == 0)) _ two.1 in
    let four = and_parts (rises_above 0 u.faults) _ three.1 in
    record { blocks = one.0; inputs = two.0; kinds = three.0; rises = four.0; most = four.1 }

-- what units add

abbrev with_unit : Said → UnitDecl → Said
with_unit said u = record said { units = said.units ++ bare u ∷ []; inputs = said.inputs ++ inputs_told u; faults = said.faults ++ faults_told u }

abbrev pub with_units : Said → List UnitDecl → Said
with_units said us = record said { units = said.units ++ map bare us; inputs = said.inputs ++ flat_map inputs_told us; faults = said.faults ++ flat_map faults_told us }

abbrev of_units : Said → List UnitDecl → List InputLine → List FaultLine → Said
of_units said units inputs faults = record said { units = units; inputs = inputs; faults = faults }

no_units : (said : Said) → said ≡ with_units said []
no_units said = ap (λ (us : List UnitDecl). record said { units = us }) (sym (append-nil said.units)) ∙ ap (λ (is : List InputLine). of_units said (said.units ++ []) is said.faults) (sym (append-nil said.inputs)) ∙ ap (of_units said (said.units ++ []) (said.inputs ++ [])) (sym (append-nil said.faults))

one_more : (said : Said) (u : UnitDecl) (us : List UnitDecl) → with_units (with_unit said u) us ≡ with_units said (u ∷ us)
one_more said u us =
    let new = with_units (with_unit said u) us in
    let units = append_assoc said.units (bare u ∷ []) (map bare us) in
    let inputs = append_assoc said.inputs (inputs_told u) (flat_map inputs_told us) in
    let faults = append_assoc said.faults (faults_told u) (flat_map faults_told us) in
    let all_units = said.units ++ map bare (u ∷ us) in
    ap (λ (x : List UnitDecl). of_units said x new.inputs new.faults) units ∙ ap (λ (x : List InputLine). of_units said all_units x new.faults) inputs ∙ ap (of_units said all_units (said.inputs ++ flat_map inputs_told (u ∷ us))) faults

-- A unit.

unit_shape : (u : UnitDecl) (rest : List (List ℕ)) → unit_lines u ++ rest ≡ unit_line u ∷ (map (input_line u.name) u.inputs ++ (map (fault_line u.name) u.faults ++ rest))
unit_shape u rest = ap (λ (ls : List (List ℕ)). unit_line u ∷ ls) (append_assoc (map (input_line u.name) u.inputs) (map (fault_line u.name) u.faults) rest)

unit_back : (names : List (List ℕ)) (line : ℕ) (parts : Parts) (said : Said) (u : UnitDecl) (rest : List (List ℕ)) → IsHeldUnit u → is_unit u ≡ true → length said.units < 32 → is_among u.name (unit_names said.units) ≡ false → Faulted said.units said.faults → Told names parts said → Comes names line (between_images parts) (unit_lines u ++ rest) rest (with_unit said u)
unit_back names line parts said u rest held are few fresh faulted told =
    let test = unit_test u are in
    let fault_lines = map (fault_line u.name) u.faults ++ rest in
    let new = no_place (λ (v : UnitDecl). v.name) u.name parts.units (ap (λ (us : List UnitDecl). is_among u.name (unit_names us)) told.units ∙ fresh) in
    let room : nat_lt (length parts.units) 32 ≡ true = lt-ltb _ _ (omega (arith, few, ap (λ (us : List UnitDecl). length us) told.units)) in
    let next : Parts = record parts { units = parts.units ++ bare u ∷ [] } in
    let one : Said = record said { units = said.units ++ bare u ∷ [] } in
    let now : Told names next one = record { units = ap (λ (us : List UnitDecl). us ++ bare u ∷ []) told.units; inputs = told.inputs; faults = told.faults; images = told.images; decls = told.decls; creations = told.creations; unlabelled = told.unlabelled } in
    let first = step line (between_images parts) (between_images next) (unit_line u) (map (input_line u.name) u.inputs ++ fault_lines) (take_unit line parts u held.0 test.blocks new room) in
    let two = inputs_back names (line + 1) next one u.name u.inputs fault_lines held.0 held.1 test.inputs now in
    let three = faults_back names two.line2 two.parts (with_inputs one (inputs_told u)) u.name 0 u.faults rest held.0 test.rises test.most (λ m lt. faulted u.name fresh m) two.told in
    record { line2 = three.line2; parts = three.parts; read = shaped (unit_shape u rest) (and_then first (and_then two.read three.read)); told = three.told }

-- the lines of units are read as them
pub units_back : (names : List (List ℕ)) (line : ℕ) (parts : Parts) (said : Said) (more : List UnitDecl) (rest : List (List ℕ)) → AllByRecursion IsHeldUnit more → list_all is_unit more ≡ true → length said.units + length more ≤ 32 → Fresh (unit_names said.units) (unit_names more) → Faulted said.units said.faults → Told names parts said → Comes names line (between_images parts) (flat_map unit_lines more ++ rest) rest (with_units said more)
units_back names line parts said [] rest held are few fresh faulted told =
    record { line2 = line; parts = parts; read = stays line (between_images parts) rest; told = told_as names parts said _ (no_units said) told }
units_back names line parts said (u ∷ more) rest held are few fresh faulted told =
    let p = and_parts (is_unit u) (list_all is_unit more) are in
    let one = unit_back names line parts said u (flat_map unit_lines more ++ rest) held.0 p.0 (omega (arith, few)) fresh.0 faulted told in
    let fresh_more : Fresh (unit_names (said.units ++ bare u ∷ [])) (unit_names more) = subst (λ (ns : List (List ℕ)). Fresh ns (unit_names more)) (sym (map-append (λ (v : UnitDecl). v.name) said.units (bare u ∷ []))) fresh.1 in
    let few_more : length (said.units ++ bare u ∷ []) + length more ≤ 32 = omega (arith, few, length-append said.units (bare u ∷ [])) in
    let ih = units_back names one.line2 one.parts (with_unit said u) more rest held.1 p.1 few_more fresh_more (faulted_more said.units said.faults u faulted) one.told in
    record {
      line2 = ih.line2;
      parts = ih.parts;
      read = shaped (append_assoc (unit_lines u) (flat_map unit_lines more) rest) (and_then one.read ih.read);
      told = told_as names ih.parts _ _ (one_more said u more) ih.told;
    }
