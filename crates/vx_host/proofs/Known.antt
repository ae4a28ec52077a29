-- A source that gives its front, and a sink that takes a piece in several writes.
use Rattle.std.proofs.Common.{ap, ◌≤◌, ◌<◌, min, take-append-drop, ◌≡◌, ℕ, ◌+◌, ◌-◌, arith, List, [], ◌++◌, length, take, drop, subst, sym, Option, length-append, length-drop}
use Rattle.std.proofs.Math.Seq.{take-add}
use Rattle.std.proofs.lemmas.List.{drop_all}
use Rattle.std.proofs.lemmas.Grind.{common_steps}
use Rattle.std.proofs.KnownBytes.{Appends-trans}
use Rattle.std.specs.Io.KnownBytes.{Appends}

pub Appends-take_more : (a b c : Option (List ℕ)) (piece : List ℕ) (n k : ℕ) → Appends a b (take n piece) → Appends b c (take k (drop n piece)) → Appends a c (take (n + k) piece)
Appends-take_more a b c piece n k p q =
    let joined : take n piece ++ take k (drop n piece) ≡ take (n + k) piece = sym (take-add n k piece) in
    subst (Appends a c) joined (Appends-trans a b c _ _ p q)

pub rest_more : (piece rest : List ℕ) (n k : ℕ) → rest ≡ drop n piece → take (length rest - k) (drop k rest) ≡ drop (n + k) piece
rest_more piece rest n k e = grind (arith, common_steps, e)

-- a source that gives the first n of the bytes that are left
pub Consumes-front : (left copied rest : List ℕ) (n : ℕ) → n ≤ length left → copied ≡ take n left → left ≡ take n (copied ++ rest) ++ drop n left
Consumes-front left copied rest n short e =
    let long : length copied ≡ n = grind (arith, common_steps, ap length e) in
    let front : take n (copied ++ rest) ≡ copied = grind (arith, common_steps, long) in
    rw (front, e) (sym (take-append-drop n left))

-- as many as the buffer, the piece and what is left allow are none only if the buffer is empty or nothing is left
pub end_at_none : (left copied buf : List ℕ) (piece n : ℕ) → 0 < piece → n ≡ min (min (length buf) piece) (length left) → copied ≡ take n left → n ≡ 0 → 0 < length (copied ++ drop n buf) → drop n left ≡ []
end_at_none left copied buf piece n some least e none room =
    let short : n ≤ length left = omega (arith, least) in
    let long : length copied ≡ n = grind (arith, common_steps, ap length e) in
    drop_all n left (omega (arith, length-append copied (drop n buf), length-drop n buf))
