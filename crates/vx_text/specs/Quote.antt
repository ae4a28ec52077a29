-- The canonical spelling of a text.
use Rattle.std.specs.Prelude.{ℕ, ◌+◌, ◌/◌, ◌%◌, ◌<◌, nat_lt, List, [], ◌∷◌, ◌++◌, flat_map, if◌then◌else◌}
use Rattle.std.specs.List.{AllByRecursion}
use Rattle.vx_text.specs.Bytes.{is_plain}

-- a hexadecimal digit, capital
abbrev pub hex_digit : ℕ → ℕ
hex_digit n = if nat_lt n 10 then 48 + n else 55 + n

-- a byte of a quoted text: itself, or '\' and its two hexadecimal digits
abbrev pub byte_text : ℕ → List ℕ
byte_text b = if is_plain b then b ∷ [] else 92 ∷ hex_digit (b / 16) ∷ hex_digit (b % 16) ∷ []

abbrev pub inside_text : List ℕ → List ℕ
inside_text bytes = flat_map byte_text bytes

-- a text between quotes
abbrev pub quote_text : List ℕ → List ℕ
quote_text bytes = 34 ∷ (inside_text bytes ++ 34 ∷ [])

-- each is a byte
abbrev pub AreBytes : List ℕ → Type 0
AreBytes bytes = AllByRecursion (λ b. b < 256) bytes
