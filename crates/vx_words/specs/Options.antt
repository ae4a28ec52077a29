-- Options whose value is a number: two at most, each at most once, in any order.
use Rattle.std.specs.Prelude.{ℕ, ◌≤◌, ◌&&◌, nat_le, List, [], ◌∷◌, bytes_eq, Option, None, Some, if◌then◌else◌}
use Rattle.vx_lines.specs.Numbers.{number_up_to}
use Rattle.std.specs.Option.{option_zip}
use Rattle.std.specs.Int.{IsInRange}

-- an option: its name, the least and the most that its number may be, and what the number is if the option is not given
pub record Numbered : Type 0 where
  pub name : List ℕ
  pub least : ℕ
  pub most : ℕ
  pub usual : ℕ

-- a number, if it is not below the least
abbrev pub at_least : ℕ → Option ℕ → Option ℕ
at_least least None = None
at_least least (Some n) = if nat_le least n then Some n else None

-- the number that a word is, from the least to the most
abbrev pub number_in : ℕ → ℕ → List ℕ → Option ℕ
number_in least most word = at_least least (number_up_to most word)

abbrev pub value_of : Numbered → List ℕ → Option ℕ
value_of option word = number_in option.least option.most word

-- the numbers of two options of which one is given, by its name
abbrev pub one_in : Numbered → Numbered → List ℕ → List ℕ → Option (ℕ × ℕ)
one_in a b name word =
    if bytes_eq name a.name then option_zip (value_of a word) (Some b.usual) else (
    if bytes_eq name b.name then option_zip (Some a.usual) (value_of b word) else None)

-- the numbers of two options, if the words give these and no other
abbrev pub numbers_in : Numbered → Numbered → List (List ℕ) → Option (ℕ × ℕ)
numbers_in a b [] = Some (a.usual, b.usual)
numbers_in a b (name ∷ word ∷ []) = one_in a b name word
numbers_in a b (name ∷ word ∷ other ∷ value ∷ []) =
    if bytes_eq name a.name && bytes_eq other b.name then option_zip (value_of a word) (value_of b value) else (
    if bytes_eq name b.name && bytes_eq other a.name then option_zip (value_of a value) (value_of b word) else None)
numbers_in a b _ = None

-- two numbers that the options may have
abbrev pub AreIn : Numbered → Numbered → ℕ × ℕ → Type 0
AreIn a b n = IsInRange a.least a.most n.0 × IsInRange b.least b.most n.1
