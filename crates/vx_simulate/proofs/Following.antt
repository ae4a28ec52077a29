-- A run goes on by the event at the next place, ends, or finds no event there.
use Rattle.std.proofs.Common.{◌≡◌, ℕ, zero, suc, ◌+◌, ◌-◌, ◌<◌, ◌≤◌, List, [], ◌∷◌, ◌++◌, Option, length, length-append, Some, None, Contains, slice_get, refl, sym, ap, subst, ◌∙◌, arith}
use Rattle.std.proofs.lemmas.Bool.Decides.{nat_tests}
use Rattle.std.proofs.lemmas.List.{append_assoc, append-nil}
use Rattle.std.proofs.lemmas.Option.{get_or_from_slice_get, slice_get_within}
use Rattle.vx_record.specs.Types.{End, Event, Rec, System}
use Rattle.vx_record.specs.State.{State}
use Rattle.vx_record.specs.Events.{enabled, step}
use Rattle.vx_record.specs.Runs.{IsStep, after, after_from, are_deleted, end_of, end_with, first, record_of}
use Rattle.vx_exec.specs.Taken.{TakesRun}
use Rattle.vx_exec.specs.View.{Executive, Plan, after_step, plan}
use Rattle.vx_exec.proofs.Runs.{after_more, going_below, steps_more, is_step, opened}
use Rattle.vx_simulate.specs.Picking.{EndsPicked, Follows, IsPickedRun, StopsBefore, stops_at, tells_missing}
use Rattle.vx_record.specs.Picked.{IsMissing, follow, next_place, picked, picked_from}
use Rattle.vx_simulate.specs.declared.schedule.PickFail.{PickFail}
use Rattle.vx_simulate.specs.declared.schedule.PickFail.TheVariants.{Missing, NoMemory}
use Rattle.vx_base.specs.Lists.{rest}

-- what stands at a place is there
pub placed_there : (es : List Event) (i : ℕ) (e : Event) → Some e ≡ slice_get es i → Contains es e
placed_there es i e is = (i, slice_get_within es i e (sym is), get_or_from_slice_get es i e e (sym is))

-- The run that the places choose, a record at a time.

picked_here : (n : ℕ) (s : State) (ps : List ℕ) (e : Event) → Some e ≡ slice_get (enabled s) (next_place ps) → picked_from (suc n) s ps ≡ record_of s e ∷ picked_from n (step s e).after (rest ps)
picked_here n s ps e is = ap (λ o. follow s ps o (λ t qs e. record_of t e ∷ picked_from n (step t e).after qs)) (sym is)

picked_step : (limit taken : ℕ) (s : State) (ps : List ℕ) (e : Event) → taken < limit → Some e ≡ slice_get (enabled s) (next_place ps) → picked_from (limit - taken) s ps ≡ record_of s e ∷ picked_from (limit - (taken + 1)) (step s e).after (rest ps)
picked_step limit taken s ps e below is =
    let left : limit - taken ≡ suc (limit - (taken + 1)) = omega arith in
    rw left (picked_here (limit - (taken + 1)) s ps e is)

picked_nowhere : (n : ℕ) (s : State) (ps : List ℕ) → None ≡ slice_get (enabled s) (next_place ps) → picked_from n s ps ≡ []
picked_nowhere zero s ps none = refl
picked_nowhere (suc n) s ps none = ap (λ o. follow s ps o (λ t qs e. record_of t e ∷ picked_from n (step t e).after qs)) (sym none)

picked_ended : (limit taken : ℕ) (s : State) (ps : List ℕ) (es : List Event) (end : End) → enabled s ≡ es → Some end ≡ end_with limit taken (are_deleted s) es → picked_from (limit - taken) s ps ≡ []
picked_ended limit taken s ps [] end is ended = picked_nowhere (limit - taken) s ps (ap (λ es. slice_get es (next_place ps)) (sym is))
picked_ended limit taken s ps (e ∷ es) end is ended =
    let reached : limit ≤ taken = grind (arith, nat_tests, ended) in
    let none : limit - taken ≡ zero = omega arith in
    rw none refl

few_of : (n : ℕ) (s : State) (ps : List ℕ) (o : Option Event) → ((e : Event) → length (picked_from n (step s e).after (rest ps)) ≤ n) → length (follow s ps o (λ t qs e. record_of t e ∷ picked_from n (step t e).after qs)) ≤ suc n
few_of n s ps None more = omega arith
few_of n s ps (Some e) more = let few = more e in omega (arith, few)

picked_few : (n : ℕ) (s : State) (ps : List ℕ) → length (picked_from n s ps) ≤ n
picked_few zero s ps = omega arith
picked_few (suc n) s ps = few_of n s ps (slice_get (enabled s) (next_place ps)) (λ e. picked_few n (step s e).after (rest ps))

-- Runs that an executive takes.

-- the run so far, and the rest that the places left choose
pub record Following (before now : Executive) (places left : List ℕ) (recs : List Rec) : Type 0 where
  pub takes : TakesRun before now recs
  pub rest : recs ++ picked_from (now.limit - now.taken) now.state left ≡ picked_from (before.limit - before.taken) before.state places

-- what the limit leaves falls with each record
pub left_falls : (now later : Executive) (s : State) → None ≡ end_of now.limit now.taken now.state → later ≡ record now { state = s; taken = now.taken + 1 } → later.limit - later.taken < now.limit - now.taken
left_falls now later s going becomes =
    let below = going_below now.limit now.taken now.state going in
    omega (arith, below, ap (λ (e : Executive). e.limit) becomes, ap (λ (e : Executive). e.taken) becomes)

takes_more : (before now later : Executive) (recs : List Rec) (r : Rec) (e : Event) → TakesRun before now recs → Contains (enabled now.state) e → r ≡ record_of now.state e → later ≡ after_step now e → plan later ≡ plan now → TakesRun before later (recs ++ r ∷ [])
takes_more before now later recs r e takes there is becomes planned =
    let step_of : IsStep now.state r = is_step now.state e r there is in
    record {
      steps = steps_more before.state recs r takes.steps (subst (λ (t : State). IsStep t r) takes.now step_of);
      now = ap (λ (x : Executive). x.state) becomes ∙ (ap (λ (t : State). (step t e).after) takes.now ∙ (ap (λ (f : Event). (step (after_from before.state recs) f).after) (ap (λ (q : Rec). q.event) (sym is)) ∙ sym (after_more before.state recs r)));
      counted = omega (arith, ap (λ (x : Executive). x.taken) becomes, takes.counted, length-append recs (r ∷ []));
      planned = planned ∙ takes.planned;
    }

pub followed_more : (before now later : Executive) (places left next : List ℕ) (recs : List Rec) (r : Rec) (e : Event) (place : ℕ) → Following before now places left recs → None ≡ end_of now.limit now.taken now.state → Some e ≡ slice_get (enabled now.state) place → place ≡ next_place left → next ≡ rest left → r ≡ record_of now.state e → later ≡ after_step now e → plan later ≡ plan now → Following before later places next (recs ++ r ∷ [])
followed_more before now later places left next recs r e place so_far going at placed moves is becomes planned =
    let s = now.state in
    let below : now.taken < now.limit = going_below now.limit now.taken s going in
    let one = picked_step now.limit now.taken s left e below (at ∙ ap (slice_get (enabled s)) placed) in
    let on : Executive → List ℕ → Rec → List Rec = λ e ps r. (recs ++ r ∷ []) ++ picked_from (e.limit - e.taken) e.state ps in
    let then : Executive = after_step now e in
    record {
      takes = takes_more before now later recs r e so_far.takes (placed_there (enabled s) place e at) is becomes planned;
      rest = ap (λ (e : Executive). on e next r) becomes ∙ (ap (λ (ps : List ℕ). on then ps r) moves ∙ (ap (λ (q : Rec). on then (rest left) q) is ∙ (append_assoc recs (record_of s e ∷ []) (picked_from (now.limit - (now.taken + 1)) (step s e).after (rest left)) ∙ (ap (λ rs. recs ++ rs) (sym one) ∙ so_far.rest))));
    }

-- if the rest has no record, the run so far is the whole
follows_all : (before now : Executive) (places left : List ℕ) (recs : List Rec) → Following before now places left recs → picked_from (now.limit - now.taken) now.state left ≡ [] → Follows before now places recs
follows_all before now places left recs so_far none = record {
  takes = so_far.takes;
  picked = sym (append-nil recs) ∙ (ap (λ rs. recs ++ rs) (sym none) ∙ so_far.rest);
}

pub ended_run : (before now : Executive) (places left : List ℕ) (recs : List Rec) (end : End) → Following before now places left recs → Some end ≡ end_of now.limit now.taken now.state → EndsPicked before now places recs end
ended_run before now places left recs end so_far ended = record {
  follows = follows_all before now places left recs so_far (picked_ended now.limit now.taken now.state left (enabled now.state) end refl ended);
  ended = sym ended;
}

-- Runs from the first state.

-- the records are the whole run's
whole : (system : System) (places : List ℕ) (limit : ℕ) (exec : Executive) (recs : List Rec) → Follows (opened system limit) exec places recs → recs ≡ picked system places limit
whole system places limit exec recs follows =
    let all : limit - 0 ≡ limit = omega arith in
    follows.picked ∙ ap (λ (n : ℕ). picked_from n (first system) places) all

-- what is asked of an executive's end is asked of the run's
same_end : (system : System) (places : List ℕ) (limit : ℕ) (exec : Executive) (recs : List Rec) (end : Option End) → Follows (opened system limit) exec places recs → end_of exec.limit exec.taken exec.state ≡ end → end_of limit (length recs) (after system recs) ≡ end
same_end system places limit exec recs end follows is =
    let counted : exec.taken ≡ length recs = omega (arith, follows.takes.counted) in
    let limited : exec.limit ≡ limit = ap (λ (p : Plan). p.limit) follows.takes.planned in
    ap (λ (n : ℕ). end_of n (length recs) (after system recs)) (sym limited) ∙ (ap (λ (n : ℕ). end_of exec.limit n (after system recs)) (sym counted) ∙ (ap (λ (s : State). end_of exec.limit exec.taken s) (sym follows.takes.now) ∙ is))

pub picked_run : (system : System) (places : List ℕ) (limit : ℕ) (before exec : Executive) (recs : List Rec) (end : End) → limit ≤ 100000 → before ≡ opened system limit → EndsPicked before exec places recs end → IsPickedRun system places limit exec recs end
picked_run system places limit before exec recs end within opens ran =
    let run : EndsPicked (opened system limit) exec places recs end = subst (λ (e : Executive). EndsPicked e exec places recs end) opens ran in
    let picks = whole system places limit exec recs run.follows in
    record {
      run = record { few = omega (arith, ap length picks, picked_few limit (first system) places); steps = run.follows.takes.steps };
      picked = picks;
      now = run.follows.takes.now;
      counted = omega (arith, run.follows.takes.counted);
      limited = ap (λ (p : Plan). p.limit) run.follows.takes.planned;
      ended = same_end system places limit exec recs (Some end) run.follows run.ended;
    }

is_missing : (system : System) (places : List ℕ) (limit : ℕ) (before exec : Executive) (n m : ℕ) → before ≡ opened system limit → StopsBefore before exec places n m → IsMissing system places limit n m
is_missing system places limit before exec n m opens stops =
    let stop : StopsBefore (opened system limit) exec places n m = subst (λ (e : Executive). StopsBefore e exec places n m) opens stops in
    let picks = whole system places limit exec stop.recs stop.follows in
    record {
      going = subst (λ (rs : List Rec). end_of limit (length rs) (after system rs) ≡ None) picks (same_end system places limit exec stop.recs None stop.follows stop.going);
      next = omega (arith, stop.next, stop.follows.takes.counted, ap length picks);
      count = stop.count ∙ (ap (λ (s : State). length (enabled s)) stop.follows.takes.now ∙ ap (λ (rs : List Rec). length (enabled (after system rs))) picks);
    }

-- a failure tells a place that is not there, or nothing
pub fail_told : (system : System) (places : List ℕ) (limit : ℕ) (before exec : Executive) (fail : PickFail) → before ≡ opened system limit → stops_at before exec places fail → tells_missing system places limit fail
fail_told system places limit before exec (Missing n m) opens stops = is_missing system places limit before exec n m opens stops
fail_told system places limit before exec NoMemory opens stops = tt
