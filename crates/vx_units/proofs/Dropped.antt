-- One line more is passed.
use Rattle.std.proofs.Common.{◌≡◌, ℕ, ◌+◌, List, drop, sym}
use Rattle.std.proofs.lemmas.List.{drop-drop}

pub drop_next : {A : Type 0} (n : ℕ) (xs : List A) → drop (n + 1) xs ≡ drop 1 (drop n xs)
drop_next n xs = sym (drop-drop 1 n xs)
