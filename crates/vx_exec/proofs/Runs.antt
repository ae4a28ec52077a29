-- A run goes on by a step, as the seed chooses, and ends.
use Rattle.std.proofs.Common.{◌≡◌, ℕ, zero, suc, ◌+◌, ◌-◌, ◌<◌, ◌≤◌, List, [], ◌∷◌, ◌++◌, Bool, length, length-append, Some, None, Contains, refl, sym, ap, subst, ◌∙◌, arith}
use Rattle.std.proofs.lemmas.Bool.Decides.{nat_tests}
use Rattle.std.proofs.lemmas.List.{append_assoc, append-nil}
use Rattle.vx_record.specs.Types.{End, Event, Rec, System}
use Rattle.vx_record.specs.State.{State}
use Rattle.vx_record.specs.Events.{enabled, step}
use Rattle.vx_record.specs.Runs.{AreSteps, IsStep, after_from, are_deleted, choose, chosen_from, end_of, end_with, first, next_seed, pick, picked, record_of}
use Rattle.vx_exec.specs.Picks.{moved_seed, picked_event}
use Rattle.vx_exec.specs.Taken.{EndsRun, IsChosenRun, TakesRun}
use Rattle.vx_exec.specs.View.{Executive, after_step, plan}
use Rattle.vx_base.proofs.Lists.{any_default}

pub steps_more : (s : State) (rs : List Rec) (r : Rec) → AreSteps s rs → IsStep (after_from s rs) r → AreSteps s (rs ++ r ∷ [])
steps_more s [] r h k = (k, tt)
steps_more s (x ∷ rs) r h k = (h.0, steps_more (step s x.event).after rs r h.1 k)

pub after_more : (s : State) (rs : List Rec) (r : Rec) → after_from s (rs ++ r ∷ []) ≡ (step (after_from s rs) r.event).after
after_more s [] r = refl
after_more s (x ∷ rs) r = after_more (step s x.event).after rs r

-- a record of the machine is a step
pub is_step : (s : State) (e : Event) (r : Rec) → Contains (enabled s) e → r ≡ record_of s e → IsStep s r
is_step s e r there is = subst (IsStep s) (sym is) (record { enabled = there; answer = refl; effects = refl })

-- what is picked is there
pub picked_there : (x : ℕ) (es : List Event) (e : Event) → Some e ≡ picked_event x es → Contains es e
picked_there x [] e is = absurd (cc)
picked_there x (f ∷ es) e is =
    let i = picked (next_seed x) (length (f ∷ es)) in
    let same : e ≡ pick x f es = cc in
    let within : i < length (f ∷ es) = omega arith in
    (i, within, any_default (f ∷ es) i e f within ∙ sym same)

-- while a run goes on, the limit is not reached
goes_below : (limit taken : ℕ) (deleted : Bool) (es : List Event) → None ≡ end_with limit taken deleted es → taken < limit
goes_below limit taken deleted [] h = absurd (cc)
goes_below limit taken deleted (e ∷ es) h = grind (arith, nat_tests, h)

pub going_below : (limit taken : ℕ) (s : State) → None ≡ end_of limit taken s → taken < limit
going_below limit taken s h = goes_below limit taken (are_deleted s) (enabled s) h

-- The chosen run, a record at a time.

chosen_step : (limit taken : ℕ) (s : State) (x : ℕ) (e : Event) → taken < limit → Some e ≡ picked_event x (enabled s) → chosen_from (limit - taken) s x ≡ record_of s e ∷ chosen_from (limit - (taken + 1)) (step s e).after (moved_seed x (enabled s))
chosen_step limit taken s x e below picks = grind arith

none_left : (n : ℕ) (s : State) (x : ℕ) → enabled s ≡ [] → chosen_from n s x ≡ []
none_left zero s x none = refl
none_left (suc n) s x none = ap (λ l. choose s x l (λ t y e. record_of t e ∷ chosen_from n (step t e).after y)) none

chosen_ended : (limit taken : ℕ) (s : State) (x : ℕ) (es : List Event) (end : End) → enabled s ≡ es → Some end ≡ end_with limit taken (are_deleted s) es → chosen_from (limit - taken) s x ≡ []
chosen_ended limit taken s x [] end is ended = none_left (limit - taken) s x is
chosen_ended limit taken s x (e ∷ es) end is ended = grind arith

few_of : (n : ℕ) (s : State) (x : ℕ) (es : List Event) → ((e : Event) → length (chosen_from n (step s e).after (next_seed x)) ≤ n) → length (choose s x es (λ t y e. record_of t e ∷ chosen_from n (step t e).after y)) ≤ suc n
few_of n s x [] rest = omega arith
few_of n s x (e ∷ es) rest = let few = rest (pick x e es) in omega (arith, few)

chosen_few : (n : ℕ) (s : State) (x : ℕ) → length (chosen_from n s x) ≤ n
chosen_few zero s x = omega arith
chosen_few (suc n) s x = few_of n s x (enabled s) (λ e. chosen_few n (step s e).after (next_seed x))

-- Runs that an executive takes.

-- the run so far, and the rest that the seed chooses
pub record Taking (before now : Executive) (seed next : ℕ) (recs : List Rec) : Type 0 where
  pub takes : TakesRun before now recs
  pub chosen : recs ++ chosen_from (now.limit - now.taken) now.state next ≡ chosen_from (before.limit - before.taken) before.state seed

pub begun : (e : Executive) (seed : ℕ) → Taking e e seed seed []
begun e seed = record { takes = record { steps = tt; now = refl; counted = omega arith; planned = refl }; chosen = refl }

pub taken_more : (before now later : Executive) (seed x y : ℕ) (recs : List Rec) (r : Rec) (e : Event) → Taking before now seed x recs → None ≡ end_of now.limit now.taken now.state → Some e ≡ picked_event x (enabled now.state) → y ≡ moved_seed x (enabled now.state) → r ≡ record_of now.state e → later ≡ after_step now e → plan later ≡ plan now → Taking before later seed y (recs ++ r ∷ [])
taken_more before now later seed x y recs r e so_far going picks moves is becomes planned = grind (arith, goes_below, is_step, picked_there, chosen_step, steps_more, after_more, length-append, append_assoc)

pub ended_run : (before now : Executive) (seed next : ℕ) (recs : List Rec) (end : End) → Taking before now seed next recs → Some end ≡ end_of now.limit now.taken now.state → EndsRun before now seed recs end
ended_run before now seed next recs end so_far ended = grind (arith, append-nil, chosen_ended)

abbrev pub opened : System → ℕ → Executive
opened system limit = record { state = first system; limit = limit; taken = 0 }

pub chosen_run : (system : System) (seed limit : ℕ) (before exec : Executive) (recs : List Rec) (end : End) → limit ≤ 100000 → before ≡ opened system limit → EndsRun before exec seed recs end → IsChosenRun system seed limit exec recs end
chosen_run system seed limit before exec recs end within opens ran = grind (arith, chosen_few)
