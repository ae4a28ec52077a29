-- Keys of two numbers.
use Rattle.std.specs.Prelude.{ℕ, Bool, ◌&&◌, nat_eq}

abbrev pub pair_eq : ℕ × ℕ → ℕ × ℕ → Bool
pair_eq x y = nat_eq x.0 y.0 && nat_eq x.1 y.1
