-- Tests, and runs of bytes that pass one.
use Rattle.std.proofs.Common.{◌≡◌, ℕ, Bool, true, false, cond, List, [], ◌∷◌, ◌++◌, length, refl, ◌∙◌, arith}
use Rattle.std.specs.List.{list_all, prefix_len, take_while}
use Rattle.std.proofs.Math.Seq.{take-append_seam}
use Rattle.std.proofs.lemmas.List.Sums.{take_while-cons}
use Rattle.std.proofs.lemmas.Bool.{and_parts}

-- a run ends where the next byte is none of its bytes
abbrev pub stops : (ℕ → Bool) → List ℕ → Type 0
stops p [] = Unit {0}
stops p (b ∷ bs) = p b ≡ false

pub run_len : (p : ℕ → Bool) (run rest : List ℕ) → list_all p run ≡ true → stops p rest → prefix_len p (run ++ rest) ≡ length run
run_len p [] [] h s = refl
run_len p [] (b ∷ bs) h s = rw s refl
run_len p (b ∷ run) rest h s =
    let parts = and_parts (p b) (list_all p run) h in
    rw (parts.0, run_len p run rest parts.1 s) (omega arith)

pub run_of : (p : ℕ → Bool) (run rest : List ℕ) → list_all p run ≡ true → stops p rest → take_while p (run ++ rest) ≡ run
run_of p run rest h s = rw (run_len p run rest h s) (take-append_seam run rest)

-- a run, read again, is the run
twice_by : (p : ℕ → Bool) (x : ℕ) (xs : List ℕ) (t : Bool) → p x ≡ t → take_while p (take_while p xs) ≡ take_while p xs → take_while p (cond t (x ∷ take_while p xs) []) ≡ cond t (x ∷ take_while p xs) []
twice_by p x xs true h same = take_while-cons p x (take_while p xs) ∙ rw (h, same) refl
twice_by p x xs false h same = refl

pub run_twice : (p : ℕ → Bool) (xs : List ℕ) → take_while p (take_while p xs) ≡ take_while p xs
run_twice p [] = refl
run_twice p (x ∷ xs) = rw (take_while-cons p x xs) (twice_by p x xs (p x) refl (run_twice p xs))

-- a run that begins with its first byte
pub run_cons : (p : ℕ → Bool) (x : ℕ) (xs : List ℕ) → p x ≡ true → take_while p (x ∷ xs) ≡ x ∷ take_while p xs
run_cons p x xs h = rw (take_while-cons p x xs, h) refl
