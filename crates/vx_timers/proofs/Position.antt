-- The first place of a list that passes.
use Rattle.std.proofs.Common.{◌≡◌, ℕ, ◌<◌, List, Bool, true, false, cond, not, Some, None, length, position, slice_index_or, nat_lt, ap, sym, ◌∙◌, arith}
use Rattle.std.specs.List.{position_or_len}
use Rattle.std.proofs.lemmas.Bool.{cond-true, cond-false, le-ltb, lt-ltb, ltb-false, not-true}
use Rattle.std.proofs.lemmas.List.Sums.{position_or_len_is, prefix_len_passes}
use Rattle.vx_base.proofs.First.{none_place}

-- what passes if none before it does
pub some_position : {A : Type 0} (p : A → Bool) (xs : List A) (d : A) (i : ℕ) → i < length xs → p (slice_index_or xs i d) ≡ true → ((k : ℕ) → k < i → p (slice_index_or xs k d) ≡ false) → Some i ≡ position p xs
some_position p xs d i within passes before =
    let e = position_or_len_is p xs i d (omega (arith, within)) before (λ _. passes) in
    sym (cond-true (nat_lt i (length xs)) (Some i) None (lt-ltb i (length xs) within)) ∙ ap (λ n. cond (nat_lt n (length xs)) (Some n) None) (sym e)

pub none_position : {A : Type 0} (p : A → Bool) (xs : List A) (d : A) → ((k : ℕ) → k < length xs → p (slice_index_or xs k d) ≡ false) → None ≡ position p xs
none_position p xs d before =
    let n = length xs in
    let e = position_or_len_is p xs n d (omega arith) before (λ h. absurd (omega (arith, h))) in
    sym (cond-false (nat_lt n n) (Some n) None (le-ltb n n (omega arith))) ∙ ap (λ m. cond (nat_lt m n) (Some m) None) (sym e)

-- if there is none, none passes
pub none_passes : {A : Type 0} (p : A → Bool) (xs : List A) (d : A) → None ≡ position p xs → (k : ℕ) → k < length xs → p (slice_index_or xs k d) ≡ false
none_passes p xs d e k h =
    let n = position_or_len p xs in
    let past = ltb-false n (length xs) (none_place (nat_lt n (length xs)) n e) in
    not-true (p (slice_index_or xs k d)) (prefix_len_passes (λ x. not (p x)) xs k d (omega (arith, past, h)))
