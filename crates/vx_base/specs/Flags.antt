-- Thirty-two event flags are a number: flag n is its bit n.
use Rattle.std.specs.Prelude.{ℕ, ◌-◌, ◌^◌, Bool, true, false, ◌==◌, not, if◌then◌else◌, bit_and, bit_or}

-- whether flag n is set
abbrev pub is_set : ℕ → ℕ → Bool
is_set flags n = not (bit_and flags (2 ^ n) == 0)

-- flag n set or cleared, and all others as they were
abbrev pub with_flag : ℕ → ℕ → Bool → ℕ
with_flag flags n on = if on then bit_or flags (2 ^ n) else bit_and flags (4294967295 - 2 ^ n)

-- whether any flag of a mask is set
abbrev pub any_set : ℕ → ℕ → Bool
any_set flags mask = not (bit_and flags mask == 0)

-- whether all flags of a mask are set
abbrev pub all_set : ℕ → ℕ → Bool
all_set flags mask = bit_and flags mask == mask

-- a flag as a bit
abbrev pub one : Bool → ℕ
one true = 1
one false = 0
