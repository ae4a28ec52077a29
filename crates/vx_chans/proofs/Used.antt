-- Channels behind the last one that was ever assigned.
use Rattle.std.proofs.Common.{◌≡◌, ℕ, zero, suc, ◌+◌, ◌-◌, ◌≤◌, List, [], ◌∷◌, ◌++◌, if◌then◌else◌, nat_lt, refl, take, Option, None, IsSome, drop, max, replicate, slice_set, ap, sym, ◌∙◌, arith}
use Rattle.std.proofs.Math.Nat.{le-max_left, le-max_right}
use Rattle.std.proofs.lemmas.List.{take-append-drop}
use Rattle.std.specs.List.{find}
use Rattle.vx_base.specs.Channels.{channel_at, is_reached, next_of_mode, reached_from}
use Rattle.vx_base.specs.declared.mode.Mode.{Mode}
use Rattle.vx_base.specs.Pieces.{Channel}
use Rattle.vx_same.proofs.Trimmed.{behind_set, there_before}

-- behind one that is assigned, and behind those before
pub assigned_behind : (rows : List (Option Channel)) (k n : ℕ) (channel : Option Channel) → 1 ≤ n → drop k rows ≡ replicate (64 - k) None → drop (max k n) (slice_set rows (n - 1) channel) ≡ replicate (64 - max k n) None
assigned_behind rows k n channel some behind =
    let least = le-max_right k n in
    behind_set 64 None channel rows k (n - 1) (max k n) (le-max_left k n) (omega (arith, some, least)) behind

-- one that is freed was among those before
pub freed_behind : (rows : List (Option Channel)) (k n : ℕ) → IsSome (channel_at rows n) → drop k rows ≡ replicate (64 - k) None → drop k (slice_set rows (n - 1) None) ≡ replicate (64 - k) None
freed_behind rows k n assigned behind = behind_set 64 None None rows k (n - 1) k (omega arith) (there_before 64 rows k (n - 1) assigned behind) behind

-- Those behind are reached in no mode.

reached_none : (n k : ℕ) (m : Mode) → reached_from n m (replicate k None) ≡ []
reached_none n zero m = refl
reached_none n (suc k) m = reached_none (n + 1) k m

reached_front : (n k : ℕ) (m : Mode) (rows : List (Option Channel)) → reached_from n m (rows ++ replicate k None) ≡ reached_from n m rows
reached_front n k m [] = reached_none n k m
reached_front n k m (row ∷ rows) = ap (λ (ns : List ℕ). if is_reached m row then n ∷ ns else ns) (reached_front (n + 1) k m rows)

pub next_used : (rows : List (Option Channel)) (k after : ℕ) (m : Mode) → drop k rows ≡ replicate (64 - k) None → next_of_mode m after (take k rows) ≡ next_of_mode m after rows
next_used rows k after m behind =
    ap (find (λ n. nat_lt after n)) (
    sym (reached_front 1 (64 - k) m (take k rows))
    ∙ ap (reached_from 1 m) (ap (λ (ys : List (Option Channel)). take k rows ++ ys) (sym behind) ∙ take-append-drop k rows))
