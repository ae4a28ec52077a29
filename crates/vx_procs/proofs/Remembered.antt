-- What is remembered stays right.
use Rattle.std.proofs.Common.{◌≡◌, ◌≢◌, ℕ, zero, suc, Bool, drop, is_some, ◌+◌, ◌*◌, ◌/◌, ◌<◌, List, [], ◌∷◌, ◌++◌, length, map, slice_index_or, slice_set, Option, Some, None, IfSome, inl, inr, refl, sym, ap, subst, ◌∙◌, arith}
use Rattle.std.proofs.lemmas.Bool.{cases_eq, cases_lt}
use Rattle.std.proofs.lemmas.List.{drop_more, get_or-map, get_or-set_other, get_or-set_same, get_or_past, length-map, map-append, map-set}
use Rattle.std.proofs.lemmas.Option.{IfSome_then}
use Rattle.vx_record.specs.State.{Process, nobody}
use Rattle.vx_base.specs.Flags.{one}
use Rattle.vx_base.specs.Lists.{tally}
use Rattle.vx_procs.specs.Own.{AreOwn, block_of, has_own, or_false, own_event}
use Rattle.vx_procs.specs.Processes.{process}
use Rattle.vx_procs.specs.Summaries.{AreKnown, AreRight, AreSeen, IsSeen, IsSeenAt, IsSummary, IsSummaryOf}
use Rattle.vx_procs.specs.declared.process.Proc.{Proc}
use Rattle.vx_procs.specs.declared.seen.Seen.{Seen}
use Rattle.vx_procs.specs.declared.summary.Summary.{Summary}
use Rattle.vx_procs.proofs.Blocks.{block_few, block_map, block_more, block_set, in_block}

none_set : {A : Type 0} (xs : List (Option A)) (i : ℕ) → slice_index_or (slice_set xs i None) i None ≡ None
none_set [] i = refl
none_set (x ∷ xs) zero = refl
none_set (x ∷ xs) (suc i) = none_set xs i

-- what stands at a place is forgotten, and elsewhere what was right still is
forgotten : {M : Type 0} (Old New : ℕ → M → Type 0) (ms : List (Option M)) (i : ℕ) → ((k : ℕ) → k ≢ i → (m : M) → Old k m → New k m) → AreKnown Old ms → AreKnown New (slice_set ms i None)
forgotten {M = M} Old New ms i still h k = elim (cases_eq k i) [
  | inl here ↦
      subst (λ (n : ℕ). IfSome (slice_index_or (slice_set ms i None) n None) (New n)) (sym here)
      (subst (λ (o : Option M). IfSome o (New i)) (sym (none_set ms i)) tt)
  | inr other ↦
      subst (λ (o : Option M). IfSome o (New k)) (sym (get_or-set_other ms i k None None other))
      (IfSome_then (slice_index_or ms k None) (h k) (still k other))
]

-- something is remembered at a place
pub known_set : {M : Type 0} (Is : ℕ → M → Type 0) (ms : List (Option M)) (i : ℕ) (new : Option M) → i < length ms → IfSome new (Is i) → AreKnown Is ms → AreKnown Is (slice_set ms i new)
known_set {M = M} Is ms i new within is h k = elim (cases_eq k i) [
  | inl here ↦
      subst (λ (n : ℕ). IfSome (slice_index_or (slice_set ms i new) n None) (Is n)) (sym here)
      (subst (λ (o : Option M). IfSome o (Is i)) (sym (get_or-set_same ms i new None within)) is)
  | inr other ↦ subst (λ (o : Option M). IfSome o (Is k)) (sym (get_or-set_other ms i k new None other)) (h k)
]

-- the processes of another list are the same but for one, which is forgotten with its block
right_but : {R : Type 0} (ss : List (Option Seen)) (ms : List (Option Summary)) (old new : List (Proc R)) (i : ℕ) → ((k : ℕ) → k ≢ i → slice_index_or (map process new) k nobody ≡ slice_index_or (map process old) k nobody) → ((b : ℕ) → b ≢ i / 32 → block_of b (map process new) ≡ block_of b (map process old)) → AreRight ss ms old → AreRight (slice_set ss i None) (slice_set ms (i / 32) None) new
right_but ss ms old new i others blocks h = record {
  seen = forgotten (IsSeenAt (map process old)) (IsSeenAt (map process new)) ss i (λ k other m is. subst (IsSeen m) (sym (others k other)) is) h.seen;
  summaries = forgotten (IsSummaryOf (map process old)) (IsSummaryOf (map process new)) ms (i / 32) (λ b other m is. subst (IsSummary m) (sym (blocks b other)) is) h.summaries;
}

-- a process is changed, and forgotten with its block
pub right_set : {R : Type 0} (ss : List (Option Seen)) (ms : List (Option Summary)) (items : List (Proc R)) (i : ℕ) (new : Proc R) → AreRight ss ms items → AreRight (slice_set ss i None) (slice_set ms (i / 32) None) (slice_set items i new)
right_set ss ms items i new h =
    let set = map-set process items i new in
    right_but ss ms items (slice_set items i new) i
    (λ k other. ap (λ prs. slice_index_or prs k nobody) set ∙ get_or-set_other (map process items) i k (process new) nobody other)
    (λ b other. ap (block_of b) set ∙ block_set (map process items) i b (process new) other) h

other_more : {A : Type 0} (xs : List A) (x d : A) (k : ℕ) → k ≢ length xs → slice_index_or (xs ++ x ∷ []) k d ≡ slice_index_or xs k d
other_more [] x d zero other = absurd (other refl)
other_more [] x d (suc k) other = refl
other_more (y ∷ xs) x d zero other = refl
other_more (y ∷ xs) x d (suc k) other = other_more xs x d k (λ e. other (ap suc e))

-- a process is put at the end, and nothing is remembered of it and its block
pub right_more : {R : Type 0} (n : ℕ) (ss : List (Option Seen)) (ms : List (Option Summary)) (items : List (Proc R)) (new : Proc R) → n ≡ length items → AreRight ss ms items → AreRight (slice_set ss n None) (slice_set ms (n / 32) None) (items ++ new ∷ [])
right_more n ss ms items new is h =
    let more = map-append process items (new ∷ []) in
    let end : length (map process items) ≡ n = length-map items process ∙ sym is in
    right_but ss ms items (items ++ new ∷ []) n
    (λ k other. ap (λ prs. slice_index_or prs k nobody) more ∙ other_more (map process items) (process new) nobody k (λ e. other (e ∙ end)))
    (λ b other. ap (block_of b) more ∙ block_more (map process items) b (process new) (λ e. other (e ∙ ap (λ k. k / 32) end))) h

-- what is remembered of a block's processes is right of that block
pub seen_in : (ss : List (Option Seen)) (prs : List Process) (b : ℕ) → AreSeen ss prs → AreSeen (block_of b ss) (block_of b prs)
seen_in ss prs b h i = elim (cases_lt i 32) [
  | inl near ↦
      subst (λ (o : Option Seen). IfSome o (λ m. IsSeen m (slice_index_or (block_of b prs) i nobody))) (sym (in_block b ss i None near))
      (subst (λ (pr : Process). IfSome (slice_index_or ss (32 * b + i) None) (λ m. IsSeen m pr)) (sym (in_block b prs i nobody near)) (h (32 * b + i)))
  | inr far ↦
      let past : slice_index_or (block_of b ss) i None ≡ None = get_or_past (block_of b ss) i None (omega (arith, block_few b ss, far)) in
      subst (λ (o : Option Seen). IfSome o (λ m. IsSeen m (slice_index_or (block_of b prs) i nobody))) (sym past) tt
]

-- so it is of the block as it is cut out
pub seen_cut : {R : Type 0} (ss cut : List (Option Seen)) (items part : List (Proc R)) (b : ℕ) → cut ≡ block_of b ss → part ≡ block_of b items → AreSeen ss (map process items) → AreSeen cut (map process part)
seen_cut ss cut items part b seen is h =
    subst (λ (ks : List (Option Seen)). AreSeen ks (map process part)) (sym seen)
    (subst (AreSeen (block_of b ss)) (block_map process b items ∙ ap (map process) (sym is)) (seen_in ss (map process items) b h))

-- a process is right as it stands in the list
pub seen_at : {R : Type 0} (ss : List (Option Seen)) (items : List (Proc R)) (i : ℕ) (pr : Proc R) → i < length items → pr ≡ slice_index_or items i pr → AreSeen ss (map process items) → IfSome (slice_index_or ss i None) (λ m. IsSeen m (process pr))
seen_at ss items i pr within is h =
    let there : slice_index_or (map process items) i nobody ≡ process pr = get_or-map process items i pr nobody within ∙ ap process (sym is) in
    subst (λ (q : Process). IfSome (slice_index_or ss i None) (λ m. IsSeen m q)) there (h i)

-- a process more, in front of those that are counted
pub own_next : {R : Type 0} (n i : ℕ) (b : Bool) (procs : List (Proc R)) (pr : Proc R) → i < length procs → pr ≡ slice_index_or procs i pr → own_event (process pr) ≡ Some b → AreOwn n (map process (drop (i + 1) procs)) → AreOwn (one b + n) (map process (drop i procs))
own_next n i b procs pr within is event h =
    let all : pr ∷ drop (i + 1) procs ≡ drop i procs = ap (λ x. x ∷ drop (i + 1) procs) is ∙ sym (drop_more procs i pr within) in
    subst (λ xs. AreOwn (one b + n) (map process xs)) all (record {
      own = (ap is_some event, h.own);
      count = ap (λ m. one b + m) h.count ∙ ap (λ (o : Option Bool). one (or_false o) + tally has_own (map process (drop (i + 1) procs))) (sym event);
    })
