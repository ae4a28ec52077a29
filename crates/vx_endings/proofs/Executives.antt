-- The runs of an executive are those of its state, as many records as its limit leaves.
use Rattle.std.proofs.Common.{◌≡◌, ℕ, zero, suc, ◌+◌, ◌≤◌, List, [], ◌∷◌, length, Bool, refl, sym, ap, subst, ◌∙◌, arith}
use Rattle.std.specs.Prelude.{IfOk, Result, Ok, Err}
use Rattle.std.proofs.lemmas.Bool.Decides.{nat_tests}
use Rattle.vx_record.specs.Types.{Event, NoMemory, System}
use Rattle.vx_record.specs.Events.{enabled}
use Rattle.vx_record.specs.Runs.{are_deleted, end_with, first}
use Rattle.vx_record.specs.State.{State}
use Rattle.vx_explore.specs.declared.answer.Answer.{Answer}
use Rattle.vx_explore.specs.declared.answer.Answer.TheVariants.{Told, Cut}
use Rattle.vx_explore.specs.declared.found.Found.{Found}
use Rattle.vx_explore.specs.Runs.{IfCut, IfTold, IsCrowded, Leads, runs, shortest_first, summary}
use Rattle.vx_endings.specs.declared.ending.RunEnding.{RunEnding}
use Rattle.vx_exec.specs.View.{Executive}
use Rattle.vx_endings.specs.Endings.{ending_at, endings, is_same}
use Rattle.vx_endings.specs.Explored.{after_in, enabled_in, ending_in, open_count}
use Rattle.vx_endings.specs.Interleavings.{IsTooWide, after_place, event_count}
use Rattle.vx_endings.proofs.Summed.{seen-shortest_first, seen-summary}
use Rattle.vx_endings.proofs.Viewed.{IsViewed, crowded_behind, crowded_seen, seen-runs}
use Rattle.vx_exec.proofs.Runs.{opened}

abbrev state_of : Executive → State
state_of x = x.state

-- the limit leaves n records more
abbrev HasLeft : ℕ → Executive → Type 0
HasLeft n x = x.taken + n ≤ x.limit

-- before the limit every enabled event may be taken
all_open : (limit taken : ℕ) (deleted : Bool) (es : List Event) → taken + 1 ≤ limit → open_count (end_with limit taken deleted es) (length es) ≡ length es
all_open limit taken deleted [] below = refl
all_open limit taken deleted (e ∷ es) below = grind (arith, nat_tests, below)

is_viewed : IsViewed enabled_in after_in event_count after_place state_of HasLeft
is_viewed = record {
  count = λ n x left. all_open x.limit x.taken (are_deleted x.state) (enabled x.state) (omega arith);
  step = λ x i. refl;
  left = λ n x i left. omega arith;
}

-- what an executive is after k records
record IsAfter (k : ℕ) (x y : Executive) : Type 0 where
  limit : y.limit ≡ x.limit
  taken : y.taken ≡ x.taken + k

led_after : (k : ℕ) (x y : Executive) → Leads enabled_in after_in k x y → IsAfter k x y
led_after zero x y same = record { limit = ap (λ (z : Executive). z.limit) (sym same); taken = ap (λ (z : Executive). z.taken) (sym same) ∙ omega arith }
led_after (suc k) x y (w, i, led, within, is_y) =
    let before = led_after k x w led in
    record {
      limit = ap (λ (z : Executive). z.limit) (sym is_y) ∙ before.limit;
      taken = ap (λ (z : Executive). z.taken) (sym is_y) ∙ (let taken = before.taken in omega arith);
    }

same_executive : (s t : State) (limit limit' taken taken' : ℕ) → s ≡ t → limit ≡ limit' → taken ≡ taken'
    → ◌≡◌ {A = Executive} (record { state = s; limit = limit; taken = taken }) (record { state = t; limit = limit'; taken = taken' })
same_executive s t limit limit' taken taken' a b c = cc

-- as many records lead to different states only
apart : (system : System) (limit k : ℕ) (y z : Executive) → Leads enabled_in after_in k (opened system limit) y → Leads enabled_in after_in k (opened system limit) z
    → state_of y ≡ state_of z → y ≡ z
apart system limit k y z to_y to_z same =
    let at_y = led_after k (opened system limit) y to_y in
    let at_z = led_after k (opened system limit) z to_z in
    same_executive y.state z.state y.limit z.limit y.taken z.taken same (at_y.limit ∙ sym at_z.limit) (at_y.taken ∙ sym at_z.taken)

pub told_endings : (system : System) (limit : ℕ) → summary ending_in is_same (shortest_first limit (runs enabled_in after_in limit (opened system limit))) ≡ endings system limit
told_endings system limit =
    let rs = runs enabled_in after_in limit (opened system limit) in
    seen-summary state_of ending_at is_same (shortest_first limit rs)
    ∙ ap (summary ending_at is_same) (seen-shortest_first state_of ending_at is_same limit rs
    ∙ ap (shortest_first limit) (seen-runs enabled_in after_in event_count after_place state_of HasLeft is_viewed limit (opened system limit) (omega arith)))

pub wide_if_crowded : (system : System) (limit states : ℕ) → IsCrowded enabled_in after_in limit states (opened system limit) → IsTooWide system limit states
wide_if_crowded system limit states crowded =
    crowded_seen enabled_in after_in event_count after_place state_of HasLeft is_viewed limit states (opened system limit) (omega arith)
    (λ k y z to_y to_z same. apart system limit k y z to_y to_z same) crowded

pub crowded_if_wide : (system : System) (limit states : ℕ) → IsTooWide system limit states → IsCrowded enabled_in after_in limit states (opened system limit)
crowded_if_wide system limit states wide =
    crowded_behind enabled_in after_in event_count after_place state_of HasLeft is_viewed limit states (opened system limit) (omega arith) wide

-- What an exploration of an executive answers is said of the system.

told_by : {E : Type 0} (P Q : List (Found E) → Type 0) → ((rows : List (Found E)) → P rows → Q rows) → (r : Result (Answer E) NoMemory) → IfOk r (IfTold P) → IfOk r (IfTold Q)
told_by P Q f (Ok (Told rows)) h = f rows.items h
told_by P Q f (Ok Cut) h = tt
told_by P Q f (Err e) h = tt

cut_by : {E : Type 0} (P Q : Type 0) → (P → Q) → (r : Result (Answer E) NoMemory) → IfOk r (IfCut P) → IfOk r (IfCut Q)
cut_by P Q f (Ok (Told rows)) h = tt
cut_by P Q f (Ok Cut) h = f h
cut_by P Q f (Err e) h = tt

module _ (system : System) (limit states : ℕ) (first : Executive) (is_first : first ≡ opened system limit) (r : Result (Answer RunEnding) NoMemory) where
  pub told_of : IfOk r (IfTold (λ rows. rows ≡ summary ending_in is_same (shortest_first limit (runs enabled_in after_in limit first))))
      → IfOk r (IfTold (λ rows. rows ≡ endings system limit))
  told_of h =
      told_by (λ rows. rows ≡ summary ending_in is_same (shortest_first limit (runs enabled_in after_in limit first))) (λ rows. rows ≡ endings system limit)
      (λ rows is. is ∙ ap (λ x. summary ending_in is_same (shortest_first limit (runs enabled_in after_in limit x))) is_first ∙ told_endings system limit) r h

  pub whole_of : IfOk r (IfTold (λ _. ¬ IsCrowded enabled_in after_in limit states first)) → IfOk r (IfTold (λ _. ¬ IsTooWide system limit states))
  whole_of h =
      told_by (λ _. ¬ IsCrowded enabled_in after_in limit states first) (λ _. ¬ IsTooWide system limit states)
      (λ rows few wide. few (subst (IsCrowded enabled_in after_in limit states) (sym is_first) (crowded_if_wide system limit states wide))) r h

  pub cut_of : IfOk r (IfCut (IsCrowded enabled_in after_in limit states first)) → IfOk r (IfCut (IsTooWide system limit states))
  cut_of h =
      cut_by (IsCrowded enabled_in after_in limit states first) (IsTooWide system limit states)
      (λ crowded. wide_if_crowded system limit states (subst (IsCrowded enabled_in after_in limit states) is_first crowded)) r h
