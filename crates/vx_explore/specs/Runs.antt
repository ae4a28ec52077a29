-- Runs: what a machine can do in at most n steps, and the summary of its runs.
-- A machine is three functions: the number of events that are enabled in a state (`enabled`), the state after the event at a
-- place (`after`), and how a run that stops in a state ends (`ending_of`).
use Rattle.std.specs.Prelude.{◌≡◌, ◌≢◌, ◌<◌, ◌≤◌, All, AllPairs, ℕ, zero, suc, ◌==◌, List, [], ◌∷◌, ◌++◌, Bool, if◌then◌else◌, length, map, filter, flat_map, count_by, min, ⊤}
use Rattle.std.specs.List.{range_with_len, list_any}
use Rattle.vx_explore.specs.declared.answer.Answer.{Answer}
use Rattle.vx_explore.specs.declared.answer.Answer.TheVariants.{Told, Cut}
use Rattle.vx_explore.specs.declared.found.Found.{Found}

-- a run: which of the enabled events it took at each step, by its place from 0, and the state in which it stopped
pub record Run (S : Type 0) : Type 0 where
  pub picks : List ℕ
  pub last : S

abbrev pub no_steps : {S : Type 0} → S → Run S
no_steps s = record { picks = []; last = s }

-- a run with one more step at its front
abbrev pub step_before : {S : Type 0} → ℕ → Run S → Run S
step_before i r = record { picks = i ∷ r.picks; last = r.last }

-- Every run of at most n steps from a state, in the lexicographic order of the picks. A run stops when no event is enabled, or
-- after n steps.
abbrev pub runs : {S : Type 0} → (S → ℕ) → (S → ℕ → S) → ℕ → S → List (Run S)
runs enabled after zero s = no_steps s ∷ []
runs enabled after (suc n) s =
    if enabled s == 0 then no_steps s ∷ [] else
    flat_map (λ i. map (step_before i) (runs enabled after n (after s i))) (range_with_len 0 (enabled s))

-- The shortest runs first, and runs of one length in the order that they have.

abbrev pub of_length : {S : Type 0} → ℕ → List (Run S) → List (Run S)
of_length k rs = filter (λ r. length r.picks == k) rs

-- of runs of at most n steps
abbrev pub shortest_first : {S : Type 0} → ℕ → List (Run S) → List (Run S)
shortest_first zero rs = of_length 0 rs
shortest_first (suc n) rs = shortest_first n rs ++ of_length (suc n) rs

-- The summary of a list of runs has a row for each ending, in the order in which the endings first occur: the ending, the picks
-- of the first run that ends so, and how many runs end so.

-- the runs that end as no run before them, and as none of these endings
abbrev pub firsts : {S E : Type 0} → (S → E) → (E → E → Bool) → List E → List (Run S) → List (Run S)
firsts ending_of same seen [] = []
firsts ending_of same seen (r ∷ rs) =
    if list_any (same (ending_of r.last)) seen
    then firsts ending_of same seen rs
    else r ∷ firsts ending_of same (ending_of r.last ∷ seen) rs

-- a count as a `u64`, which stays at its largest value
abbrev pub as_count : ℕ → ℕ
as_count n = min n 18446744073709551615

abbrev pub row_of : {S E : Type 0} → (S → E) → (E → E → Bool) → List (Run S) → Run S → Found E
row_of ending_of same all r = record {
  what = ending_of r.last;
  ways = as_count (count_by (λ other. same (ending_of other.last) (ending_of r.last)) all);
  picks = r.picks;
}

abbrev pub summary : {S E : Type 0} → (S → E) → (E → E → Bool) → List (Run S) → List (Found E)
summary ending_of same rs = map (row_of ending_of same rs) (firsts ending_of same [] rs)

-- Too many states.

-- k steps lead from a state to another
abbrev pub Leads : {S : Type 0} → (S → ℕ) → (S → ℕ → S) → ℕ → S → S → Type 0
Leads enabled after zero s t = s ≡ t
Leads {S} enabled after (suc k) s t = (u : S) × (i : ℕ) × Leads enabled after k s u × (i < enabled u) × (after u i ≡ t)

-- these are more than `most` different states, and k steps lead to each
pub record AreTooMany {S : Type 0} (enabled : S → ℕ) (after : S → ℕ → S) (most k : ℕ) (s : S) (ss : List S) : Type 0 where
  pub more : most < length ss
  pub different : AllPairs (λ a b. a ≢ b) ss
  pub led : All (Leads enabled after k s) ss

-- for some k of at most n, k steps lead to more than `most` different states
abbrev pub IsCrowded : {S : Type 0} → (S → ℕ) → (S → ℕ → S) → ℕ → ℕ → S → Type 0
IsCrowded {S} enabled after n most s = (k : ℕ) × (ss : List S) × (k ≤ n) × AreTooMany enabled after most k s ss

-- What holds of one kind of answer.

-- of the rows, if the answer has them
abbrev pub IfTold : {E : Type 0} → (List (Found E) → Type 0) → Answer E → Type 0
IfTold P (Told rows) = P rows.items
IfTold P Cut = ⊤

-- if the exploration was cut
abbrev pub IfCut : {E : Type 0} → Type 0 → Answer E → Type 0
IfCut P (Told rows) = ⊤
IfCut P Cut = P
