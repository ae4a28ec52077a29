-- A change of an item leaves what is behind it.
use Rattle.std.proofs.Common.{◌≡◌, ℕ, ◌+◌, List, drop, set, arith}
use Rattle.std.proofs.lemmas.List.{drop-set-lt}

pub drop_behind : {A : Type 0} → (xs : List A) (i : ℕ) (x : A) → drop (1 + i) (set xs i x) ≡ drop (1 + i) xs
drop_behind xs i x = drop-set-lt (1 + i) xs i x (omega arith)
