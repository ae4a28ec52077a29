-- The INPUT lines of a unit, which is a line unit if it has any.
use Rattle.std.proofs.Common.{◌≡◌, ◌∙◌, ℕ, Bool, true, false, not, ◌&&◌, ◌||◌, ◌==◌, nat_le, List, [], ◌∷◌, ◌++◌, length, map, bytes_eq, refl, sym, ap, drop, IfOk}
use Rattle.std.specs.List.{list_all, list_any}
use Rattle.std.proofs.lemmas.Bool.{and_parts, and_from, or_parts, or_from, or_right, and_left, not-true, not-false}
use Rattle.std.proofs.lemmas.Slice.Eq.{bytes_eq-Decides}
use Rattle.vx_base.proofs.Any.{all_weaker, all_push, any_map}
use Rattle.vx_image.specs.declared.unit.UnitDecl.{UnitDecl}
use Rattle.vx_image.specs.WellFormed.{is_among, are_distinct}
use Rattle.vx_text.specs.declared.token.Tok.{Tok}
use Rattle.vx_script.specs.Declarations.{input_line}
use Rattle.vx_script.specs.Fields.{end_at, name_at, text_at}
use Rattle.vx_script.specs.Resolving.{names_no_line_unit, input_if, inputs_of}
use Rattle.vx_script.specs.Places.{is_line_unit}
use Rattle.vx_script.specs.declared.lines.InputLine.{InputLine}
use Rattle.vx_script.proofs.Appended.{all_flat, all_pairs, none_any, same_back}
use Rattle.vx_script.proofs.Chains.{after, after_by}
use Rattle.vx_script.proofs.InRange.{IsText, text}
use Rattle.vx_base.proofs.Bools.{either_by}

-- texts of at most 2,048 bytes
abbrev pub AreInputs : List InputLine → Type 0
AreInputs inputs = list_all (λ i. nat_le (length i.text) 2048) inputs ≡ true

abbrev pub WithInput : List InputLine → InputLine → Type 0
WithInput inputs i = AreInputs (inputs ++ i ∷ [])

pub input_read : (line : ℕ) (inputs : List InputLine) (tokens : List Tok) → AreInputs inputs → IfOk (input_line line tokens) (WithInput inputs)
unfolding input_line
input_read line inputs tokens h =
    after (name_at tokens) _ (WithInput inputs) λ unit _.
    after_by (text_at (drop 1 tokens)) _ IsText (WithInput inputs) (text (drop 1 tokens)) λ bytes k.
    after (end_at (drop 2 tokens)) _ (WithInput inputs) λ _ _.
    all_push (λ (i : InputLine). nat_le (length i.text) 2048) inputs (record { line = line; unit = unit; text = bytes }) h k

-- the unit is a line unit, or has another name
abbrev is_line_or_other : List ℕ → UnitDecl → Bool
is_line_or_other name u = (u.blocks == 0) || not (bytes_eq name u.name)

no_line_unit : (name : List ℕ) (us : List UnitDecl) → list_any (λ u. bytes_eq name u.name) us ≡ false → list_any (is_line_unit name) us ≡ false
no_line_unit name [] h = refl
no_line_unit name (u ∷ us) h =
    let parts = or_parts (bytes_eq name u.name) (list_any (λ u. bytes_eq name u.name) us) h in
    or_from (is_line_unit name u) (list_any (is_line_unit name) us) (and_left (bytes_eq name u.name) (u.blocks == 0) parts.0) (no_line_unit name us parts.1)

first_or_other : (name : List ℕ) (u : UnitDecl) (us : List UnitDecl) (t : Bool)
    → (t ≡ true → list_any (λ v. bytes_eq name v.name) us ≡ false)
    → (list_any (is_line_unit name) us ≡ true → list_all (is_line_or_other name) us ≡ true)
    → (t && (u.blocks == 0)) || list_any (is_line_unit name) us ≡ true
    → ((u.blocks == 0) || not t) && list_all (is_line_or_other name) us ≡ true
first_or_other name u us true alone rest h =
    let none = alone refl in
    and_from ((u.blocks == 0) || false) (list_all (is_line_or_other name) us)
    (ap (λ t. (u.blocks == 0) || t) (sym (no_line_unit name us none)) ∙ h)
    (all_weaker (λ v. not (bytes_eq name v.name)) (is_line_or_other name) (λ v k. or_right (v.blocks == 0) (not (bytes_eq name v.name)) k)
    us (none_any (λ v. bytes_eq name v.name) us none))
first_or_other name u us false alone rest h =
    and_from ((u.blocks == 0) || true) (list_all (is_line_or_other name) us) (or_right (u.blocks == 0) true refl) (rest h)

-- if a line unit has the name, each unit of that name is one: names differ
the_line_unit : (name : List ℕ) (us : List UnitDecl) → are_distinct (map (λ u. u.name) us) ≡ true → list_any (is_line_unit name) us ≡ true
    → list_all (is_line_or_other name) us ≡ true
the_line_unit name [] h k = refl
the_line_unit name (u ∷ us) h k =
    let names = map (λ (v : UnitDecl). v.name) us in
    let parts = and_parts (not (is_among u.name names)) (are_distinct names) h in
    let absent : is_among u.name names ≡ false = not-true (is_among u.name names) parts.0 in
    let alone : bytes_eq name u.name ≡ true → list_any (λ (v : UnitDecl). bytes_eq name v.name) us ≡ false =
    λ e. sym (any_map (bytes_eq name) (λ (v : UnitDecl). v.name) us) ∙ ap (λ n. is_among n names) ((bytes_eq-Decides name u.name).0 e) ∙ absent in
    first_or_other name u us (bytes_eq name u.name) alone (λ l. the_line_unit name us parts.1 l) k

no_inputs : (name : List ℕ) (is : List InputLine) → list_all (λ i. not (bytes_eq i.unit name)) is ≡ true → inputs_of name is ≡ []
no_inputs name [] h = refl
no_inputs name (i ∷ is) h =
    let parts = and_parts (not (bytes_eq i.unit name)) (list_all (λ i. not (bytes_eq i.unit name)) is) h in
    let other : bytes_eq name i.unit ≡ false = same_back name i.unit ∙ not-true (bytes_eq i.unit name) parts.0 in
    rw (other, no_inputs name is parts.1) refl

line_or_none : (name : List ℕ) (is : List InputLine) (b : Bool) → list_all (λ i. b || not (bytes_eq i.unit name)) is ≡ true
    → b || (length (inputs_of name is) == 0) ≡ true
line_or_none name is true h = refl
line_or_none name is false h = ap (λ (lines : List (List ℕ)). length lines == 0) (no_inputs name is h)

-- a block unit has no lines
pub no_block_lines : (us : List UnitDecl) (is : List InputLine) → are_distinct (map (λ u. u.name) us) ≡ true
    → list_all (λ i. not (names_no_line_unit us i)) is ≡ true
    → list_all (λ u. (u.blocks == 0) || (length (inputs_of u.name is) == 0)) us ≡ true
no_block_lines us is h k =
    let pairs =
    all_weaker (λ i. not (names_no_line_unit us i)) (λ i. list_all (is_line_or_other i.unit) us)
    (λ i l. the_line_unit i.unit us h (not-false _ (not-true _ l))) is k in
    all_weaker (λ u. list_all (λ i. is_line_or_other i.unit u) is) (λ u. (u.blocks == 0) || (length (inputs_of u.name is) == 0))
    (λ u l. line_or_none u.name is (u.blocks == 0) l) us (all_pairs (λ (i : InputLine) (u : UnitDecl). is_line_or_other i.unit u) is us pairs)

pub lines_are : (name : List ℕ) (is : List InputLine) → AreInputs is → list_all (λ line. nat_le (length line) 2048) (inputs_of name is) ≡ true
lines_are name is h =
    all_flat (λ (i : InputLine). nat_le (length i.text) 2048) (λ line. nat_le (length line) 2048) (input_if name)
    (λ i k. either_by (λ lines. list_all (λ line. nat_le (length line) 2048) lines ≡ true) (bytes_eq name i.unit) (i.text ∷ []) []
    (λ _. and_from (nat_le (length i.text) 2048) true k refl) (λ _. refl))
    is h
