-- Numbers: decimal digits without a sign or a leading zero.
use Rattle.std.specs.Prelude.{ℕ, ◌==◌, ◌&&◌, nat_le, Bool, true, false, List, [], ◌∷◌, Option, None, Some, if◌then◌else◌}
use Rattle.std.specs.List.{list_all}
use Rattle.vx_base.specs.Name.{is_digit}
pub use Rattle.vx_text.specs.Bytes.{with_digit, digits_value}

-- nothing, or a zero in front of more
abbrev pub is_misspelled : List ℕ → Bool
is_misspelled [] = true
is_misspelled (d ∷ []) = false
is_misspelled (d ∷ e ∷ digits) = d == 48

-- the number of digits, if it is at most so much
abbrev pub value_up_to : ℕ → List ℕ → Option ℕ
value_up_to most digits = if list_all is_digit digits && nat_le (digits_value digits) most then Some (digits_value digits) else None

-- the number that a word is, if it is at most so much
abbrev pub number_up_to : ℕ → List ℕ → Option ℕ
number_up_to most word = if is_misspelled word then None else value_up_to most word
