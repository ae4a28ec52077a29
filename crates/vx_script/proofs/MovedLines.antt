-- INPUT lines that move to their units one by one.
use Rattle.std.proofs.Common.{◌≡◌, ◌∙◌, ℕ, suc, ◌+◌, ◌<◌, Bool, true, false, cond, not, List, [], ◌∷◌, ◌++◌, length, map, slice_set, slice_index_or, Some, None, position, bytes_eq, refl, sym, ap, arith}
use Rattle.std.specs.List.{position_or_len}
use Rattle.std.proofs.lemmas.Bool.{and_parts, or_parts, not-true}
use Rattle.std.proofs.lemmas.List.{append-nil, flat_map_more}
use Rattle.std.proofs.lemmas.Slice.Eq.{bytes_eq-Decides}
use Rattle.vx_base.proofs.First.{place_map}
use Rattle.vx_image.specs.declared.unit.UnitDecl.{UnitDecl}
use Rattle.vx_image.specs.WellFormed.{is_among, are_distinct}
use Rattle.vx_script.specs.Places.{unit_place}
use Rattle.vx_script.specs.Resolving.{input_if, unit_of}
use Rattle.vx_script.specs.Steps.{unit_names, with_inputs, with_line_if}
use Rattle.vx_script.specs.declared.lines.InputLine.{InputLine}
use Rattle.vx_script.specs.declared.parts.Parts.{Parts}
use Rattle.vx_script.proofs.Appended.{same_back}
use Rattle.vx_script.proofs.Places.{first_placed}
use Rattle.vx_base.proofs.Any.{no_position, any_map}

-- their names stay
pub same_names : (parts : Parts) (units : List UnitDecl) → unit_names (map (unit_of parts) units) ≡ unit_names units
same_names parts [] = refl
same_names parts (u ∷ us) = ap (λ names. u.name ∷ names) (same_names parts us)

-- one line more
pub one_more : (input : InputLine) (before : List InputLine) (parts : Parts) (units : List UnitDecl)
    → map (with_line_if input) (map (unit_of (with_inputs before parts)) units) ≡ map (unit_of (with_inputs (before ++ input ∷ []) parts)) units
one_more input before parts [] = refl
one_more input before parts (u ∷ us) =
    ap (λ lines. record (unit_of parts u) { inputs = lines } ∷ map (with_line_if input) (map (unit_of (with_inputs before parts)) us))
    (flat_map_more (input_if u.name) [] before input)
    ∙ ap (λ rest. unit_of (with_inputs (before ++ input ∷ []) parts) u ∷ rest) (one_more input before parts us)

-- The line goes to the unit of its name alone.

to_other : (input : InputLine) (u : UnitDecl) → bytes_eq input.unit u.name ≡ false → with_line_if input u ≡ u
to_other input u h =
    ap (λ t. record u { inputs = u.inputs ++ cond t (input.text ∷ []) [] }) (same_back u.name input.unit ∙ h)
    ∙ ap (λ lines. record u { inputs = lines }) (append-nil u.inputs)

to_none : (input : InputLine) (us : List UnitDecl) → is_among input.unit (unit_names us) ≡ false → map (with_line_if input) us ≡ us
to_none input [] h = refl
to_none input (u ∷ us) h =
    let parts = or_parts (bytes_eq input.unit u.name) (is_among input.unit (unit_names us)) h in
    ap (λ v. v ∷ map (with_line_if input) us) (to_other input u parts.0) ∙ ap (λ rest. u ∷ rest) (to_none input us parts.1)

abbrev is_its : InputLine → UnitDecl → Bool
is_its input u = bytes_eq input.unit u.name

abbrev with_line : InputLine → UnitDecl → UnitDecl
with_line input u = record u { inputs = u.inputs ++ input.text ∷ [] }

-- the first of the list is the unit, or the rest has it
by_first : (input : InputLine) (u : UnitDecl) (us : List UnitDecl) (r : UnitDecl) (t : Bool) → is_its input u ≡ t
    → is_among u.name (unit_names us) ≡ false
    → (position_or_len (is_its input) us < length us → r ≡ slice_index_or us (position_or_len (is_its input) us) r
    → slice_set us (position_or_len (is_its input) us) (with_line input r) ≡ map (with_line_if input) us)
    → cond (not t) (1 + position_or_len (is_its input) us) 0 < suc (length us)
    → r ≡ slice_index_or (u ∷ us) (cond (not t) (1 + position_or_len (is_its input) us) 0) r
    → slice_set (u ∷ us) (cond (not t) (1 + position_or_len (is_its input) us) 0) (with_line input r) ≡ map (with_line_if input) (u ∷ us)
by_first input u us r true its alone rest lt read =
    let others : is_among input.unit (unit_names us) ≡ false = ap (λ n. is_among n (unit_names us)) ((bytes_eq-Decides input.unit u.name).0 its) ∙ alone in
    ap (λ v. with_line input v ∷ us) read
    ∙ ap (λ t. record u { inputs = u.inputs ++ cond t (input.text ∷ []) [] } ∷ us) (sym (same_back u.name input.unit ∙ its))
    ∙ ap (λ others. with_line_if input u ∷ others) (sym (to_none input us others))
by_first input u us r false other alone rest lt read =
    let next : 1 + position_or_len (is_its input) us ≡ suc (position_or_len (is_its input) us) = omega arith in
    ap (λ n. slice_set (u ∷ us) n (with_line input r)) next
    ∙ ap (λ others. u ∷ others) (rest (omega (arith, lt)) (read ∙ ap (λ n. slice_index_or (u ∷ us) n r) next)) ∙ ap (λ v. v ∷ map (with_line_if input) us) (sym (to_other input u other))

to_first : (input : InputLine) (us : List UnitDecl) (r : UnitDecl) → are_distinct (unit_names us) ≡ true
    → position_or_len (is_its input) us < length us → r ≡ slice_index_or us (position_or_len (is_its input) us) r
    → slice_set us (position_or_len (is_its input) us) (with_line input r) ≡ map (with_line_if input) us
to_first input [] r h lt read = absurd (omega (arith, lt))
to_first input (u ∷ us) r h lt read =
    let parts = and_parts (not (is_among u.name (unit_names us))) (are_distinct (unit_names us)) h in
    by_first input u us r (is_its input u) refl (not-true (is_among u.name (unit_names us)) parts.0) (to_first input us r parts.1) lt read

-- the units stand where places have their names
place_of : (name : List ℕ) (places units : List UnitDecl) → unit_names units ≡ unit_names places → unit_place name units ≡ unit_place name places
place_of name places units names =
    place_map (bytes_eq name) (λ (u : UnitDecl). u.name) units ∙ ap (λ ns. position (bytes_eq name) ns) names
    ∙ sym (place_map (bytes_eq name) (λ (u : UnitDecl). u.name) places)

pub line_there : (input : InputLine) (places units : List UnitDecl) (k : ℕ) (r : UnitDecl) (lines : List (List ℕ)) → unit_names units ≡ unit_names places
    → are_distinct (unit_names places) ≡ true → unit_place input.unit places ≡ Some k → r ≡ slice_index_or units k r
    → lines ≡ r.inputs ++ input.text ∷ [] → slice_set units k (record r { inputs = lines }) ≡ map (with_line_if input) units
line_there input places units k r lines names differ there read more =
    let first = first_placed (is_its input) units k (place_of input.unit places units names ∙ there) in
    ap (λ ls. slice_set units k (record r { inputs = ls })) more
    ∙ ap (λ n. slice_set units n (with_line input r)) (sym first.0)
    ∙ to_first input units r (ap are_distinct names ∙ differ) first.1 (read ∙ ap (λ n. slice_index_or units n r) (sym first.0))

pub line_nowhere : (input : InputLine) (places units : List UnitDecl) → unit_names units ≡ unit_names places → unit_place input.unit places ≡ None
    → units ≡ map (with_line_if input) units
line_nowhere input places units names nowhere =
    sym (to_none input units (any_map (bytes_eq input.unit) (λ (u : UnitDecl). u.name) units
    ∙ no_position (is_its input) units (place_of input.unit places units names ∙ nowhere)))
