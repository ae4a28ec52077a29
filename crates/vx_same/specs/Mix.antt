-- Numbers folded into one: a step of a generator modulo 2^64 for each.
use Rattle.std.specs.Prelude.{ℕ, ◌+◌, ◌*◌, ◌%◌}

abbrev pub mix : ℕ → ℕ → ℕ
mix digest n = (digest * 6364136223846793005 % 18446744073709551616 + n) % 18446744073709551616
