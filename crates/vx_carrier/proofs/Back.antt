-- What giving back leaves at the desk.
use Rattle.std.proofs.Common.{◌≡◌, ◌≢◌, ℕ, ◌+◌, ◌≤◌, List, [], ◌∷◌, ◌++◌, Bool, true, false, ◌==◌, Option, Some, None, Contains, is_some, option_map, length, length-append, length-set, slice_index_or, slice_set, append-nil, get_or-set_other, refl, sym, ap, ◌∙◌, subst, arith}
use Rattle.std.proofs.lemmas.Bool.{eqb-true}
use Rattle.vx_record.specs.Types.{DeviceUnit, End, Event, Id, Rec, Req, Request, UnitNo}
use Rattle.vx_base.specs.Queues.{front, in_service}
use Rattle.vx_base.specs.declared.record.Event.TheVariants as event
use Rattle.vx_record.specs.Events.{enabled, step}
use Rattle.vx_record.specs.Runs.{AreSteps, after_from, end_of, first, record_of}
use Rattle.vx_record.specs.State.{State, unit_at}
use Rattle.vx_record.proofs.Base.{Base}
use Rattle.vx_units.specs.Leases.{Lease, LeaseServed, Stand, Home, Out, Back, is_out}
use Rattle.vx_exec.specs.Leases.{Fits, IsOutFor, Leasing, stand_at, with_stand}
use Rattle.vx_exec.specs.View.{Plan}
use Rattle.vx_carrier.specs.Desk.{Desk, HasRun, IsGoing, IsKept, advanced}
use Rattle.vx_carrier.specs.Turns.{Gives, SawBeg, Serves, end, now}
use Rattle.vx_carrier.specs.declared.turn.Turn.TheVariants.{Took, Stale, Ended}
use Rattle.vx_carrier.proofs.Running.{don_enabled, end_is, out_within, run_advanced, stand_set, tally_back, tally_less}
use Rattle.vx_carrier.proofs.Opened.{none_else}
use Rattle.vx_carrier.proofs.Still.{HasBegun, begun_at, begun_step, none_serves, serves_before, still}
use Rattle.vx_record.proofs.Fixed.{step_keeps_count}
use Rattle.vx_record.proofs.Allowed.{enabled_there}
use Rattle.vx_record.proofs.Along.{first_base, run_base}

-- From the BEG on.

run_begun : (u : UnitNo) (r0 : Req) (held : DeviceUnit) (s : State) (rs : List Rec) → AreSteps s rs → HasBegun u r0 held s → HasBegun u r0 held (after_from s rs)
run_begun u r0 held s [] k h = h
run_begun u r0 held s (r ∷ rs) k h = run_begun u r0 held (step s r.event).after rs k.1 (begun_step u r0 held s r.event (enabled_there s r.event k.0.enabled) h)

after_append : (s : State) (xs ys : List Rec) → after_from s (xs ++ ys) ≡ after_from (after_from s xs) ys
after_append s [] ys = refl
after_append s (x ∷ xs) ys = after_append (step s x.event).after xs ys

steps_before : (s : State) (xs ys : List Rec) → AreSteps s (xs ++ ys) → AreSteps s xs × AreSteps (after_from s xs) ys
steps_before s [] ys h = (tt, h)
steps_before s (x ∷ xs) ys h = let k = steps_before (step s x.event).after xs ys h.1 in ((h.0, k.0), k.1)

begun_of : (s : State) (lease : Lease) (o : Option Request) → front lease.unit s.requests ≡ o → option_map (λ (r : Request). r.req) o ≡ Some lease.req → Base s → lease.contents ≡ unit_at s lease.unit → HasBegun lease.unit lease.req lease.contents (step s (event.Beg lease.unit)).after
begun_of s lease None e h b at = absurd (let never : None ≡ Some lease.req = h in cc)
begun_of s lease (Some r) e h b at =
    let is : r.req ≡ lease.req = cc in
    subst (λ (q : Req). HasBegun lease.unit q lease.contents (step s (event.Beg lease.unit)).after) is
    (subst (λ (d : DeviceUnit). HasBegun lease.unit r.req d (step s (event.Beg lease.unit)).after) (sym at) (begun_at s lease.unit r b e))

-- what the history with the BEG says of the state
knows : (plan : Plan) (d : Desk) (lease : Lease) → HasRun plan d → SawBeg plan d.recs lease → HasBegun lease.unit lease.req lease.contents d.leasing.exec.state
knows plan d lease h saw =
    let s0 = first plan.system in
    let before = saw.before in
    let s = after_from s0 before in
    let steps = steps_before s0 before (saw.beg ∷ saw.behind) (subst (AreSteps s0) saw.seen_is h.run.steps) in
    let base = run_base s0 before steps.0 (first_base plan.system) in
    let t = saw.taken in
    let begun : HasBegun lease.unit lease.req lease.contents (step s (event.Beg lease.unit)).after = begun_of s lease (front lease.unit s.requests) refl t.request base t.contents in
    let rest : AreSteps (step s (event.Beg lease.unit)).after saw.behind = subst (λ (e : Event). AreSteps (step s e).after saw.behind) saw.event steps.1.1 in
    let later = run_begun lease.unit lease.req lease.contents (step s (event.Beg lease.unit)).after saw.behind rest begun in
    let is : after_from (step s (event.Beg lease.unit)).after saw.behind ≡ d.leasing.exec.state =
    sym (h.now ∙ (ap (after_from s0) saw.seen_is ∙ (after_append s0 before (saw.beg ∷ saw.behind) ∙ ap (λ (e : Event). after_from (step s e).after saw.behind) saw.event))) in
    subst (HasBegun lease.unit lease.req lease.contents) is later

fits_at : (l : Leasing) (s : LeaseServed) (o : Option Request) → in_service s.lease.unit l.exec.state.requests ≡ o → HasBegun s.lease.unit s.lease.req s.lease.contents l.exec.state → stand_at l s.lease.unit ≡ Out → option_map (λ (r : Request). r.req.id) o ≡ Some s.lease.req.id → Fits l s
fits_at l s None e k out h = absurd (let never : None ≡ Some s.lease.req.id = h in cc)
fits_at l s (Some r) e k out h =
    let same : r.req.id ≡ s.lease.req.id = cc in
    let is = still s.lease.unit s.lease.req s.lease.contents l.exec.state r k e (ap (λ (i : Id). i.0) same) in
    record { out = out; request = ap (option_map (λ (x : Request). x.req)) e ∙ ap Some is.0; contents = sym is.1 }

-- what is out for this request is the lease that was handed out
pub fits_back : (plan : Plan) (d : Desk) (s : LeaseServed) → HasRun plan d → SawBeg plan d.recs s.lease → IsOutFor d.leasing s.lease.unit s.lease.req.id → Fits d.leasing s
fits_back plan d s h saw out = fits_at d.leasing s (in_service s.lease.unit d.leasing.exec.state.requests) refl (knows plan d s.lease h saw) out.out out.asked

asked_some : (o : Option Request) (i : Id) → option_map (λ (r : Request). r.req.id) o ≡ Some i → is_some o ≡ true
asked_some None i h = absurd (let never : None ≡ Some i = h in cc)
asked_some (Some r) i h = refl

-- Giving back alone.

-- once the run has ended
pub kept_given : (plan : Plan) (d : Desk) (u : UnitNo) (capacity : ℕ) → IsKept plan d capacity → (IsGoing d.leasing → ⊥) → IsKept plan (record { leasing = with_stand d.leasing u Back; recs = d.recs }) capacity
kept_given plan d u capacity h over = record {
  run = record { run = h.run.run; now = h.run.now; counted = h.run.counted; limited = h.run.limited };
  few = h.few;
  units = length-set d.leasing.stands u.0 Back ∙ h.units;
  out = λ going. absurd (over going);
  room = (let a = tally_less d.leasing.stands u.0 Back refl in let b = h.room in omega (arith, a, b));
}

-- The DON.

don_out : (ks : List Stand) (i j : ℕ) (b : Bool) → (j == i) ≡ b → (j ≢ i → slice_index_or ks j Home ≡ Out) → (j ≡ i → ⊥) → slice_index_or (slice_set (slice_set ks i Back) i Home) j Home ≡ Out
don_out ks i j true e out apart = absurd (apart (eqb-true j i e))
don_out ks i j false e out apart = get_or-set_other (slice_set ks i Back) i j Home Home apart ∙ (get_or-set_other ks i j Back Home apart ∙ out apart)

-- the desk after a unit is given back, and its DON
pub kept_don : (plan : Plan) (d : Desk) (s : LeaseServed) (capacity : ℕ) → IsKept plan d capacity → IsGoing d.leasing → SawBeg plan d.recs s.lease → IsOutFor d.leasing s.lease.unit s.lease.req.id
    → IsKept plan (advanced (record { leasing = with_stand d.leasing s.lease.unit Back; recs = d.recs }) (event.Don s.lease.unit)) capacity
kept_don plan d s capacity h going saw out =
    let u = s.lease.unit in
    let state = d.leasing.exec.state in
    let begun = knows plan d s.lease h.run saw in
    let back : Desk = record { leasing = with_stand d.leasing u Back; recs = d.recs } in
    let run : HasRun plan back = record { run = h.run.run; now = h.run.now; counted = h.run.counted; limited = h.run.limited } in
    let c : Contains (enabled state) (event.Don u) = don_enabled state u (let w = out_within d.leasing.stands u.0 out.out in omega (arith, w, h.units)) (asked_some (in_service u state.requests) s.lease.req.id out.asked) in
    record {
      run = run_advanced plan back (event.Don u) run h.few going c;
      few = h.few;
      units = length-set (slice_set d.leasing.stands u.0 Back) u.0 Home ∙ (length-set d.leasing.stands u.0 Back ∙ (h.units ∙ sym (step_keeps_count state (event.Don u))));
      out = λ on v some. don_out d.leasing.stands u.0 v.0 (v.0 == u.0) refl
          (λ apart. h.out going v (serves_before v state (event.Don u) tt tt begun.base some))
          (λ same. none_serves u s.lease.req s.lease.contents state v same begun out.asked some);
      room = (
          let a = tally_back d.leasing.stands u.0 Back out.out refl in
          let b = tally_less (slice_set d.leasing.stands u.0 Back) u.0 Home refl in
          let more = length-append d.recs (record_of state (event.Don u) ∷ []) in
          let c = h.room in
          omega (arith, a, b, c, more)
          );
    }

-- What giving back is said to do.

pub serves_out : (d : Desk) (plan : Plan) (s : LeaseServed) → HasRun plan d → IsOutFor d.leasing s.lease.unit s.lease.req.id → Serves (now plan d.recs) s
serves_out d plan s h out = subst (λ (t : State). Serves t s) h.now out.asked

-- a service that is not out, while the run goes on, is done
pub stale : (plan : Plan) (d : Desk) (s : LeaseServed) (capacity : ℕ) → IsKept plan d capacity → (IsOutFor d.leasing s.lease.unit s.lease.req.id → ⊥) → end plan d.recs ≡ None → Serves (now plan d.recs) s → ⊥
stale plan d s capacity h away going serves =
    let asked : option_map (λ (r : Request). r.req.id) (in_service s.lease.unit d.leasing.exec.state.requests) ≡ Some s.lease.req.id = subst (λ (t : State). Serves t s) (sym h.run.now) serves in
    away (record { out = h.out (end_is plan d h.run ∙ going) s.lease.unit (asked_some (in_service s.lease.unit d.leasing.exec.state.requests) s.lease.req.id asked); asked = asked })

pub stale_gives : (plan : Plan) (d : Desk) (s : LeaseServed) (capacity : ℕ) → IsKept plan d capacity → (IsOutFor d.leasing s.lease.unit s.lease.req.id → ⊥) → (more : List Rec) × (d.recs ≡ d.recs ++ more) × Gives plan d.recs s Stale more
stale_gives plan d s capacity h away = ([], sym (append-nil d.recs), ((λ going serves. stale plan d s capacity h away going serves), refl))

pub ended_gives : (plan : Plan) (d : Desk) (s : LeaseServed) (e : End) → HasRun plan d → IsOutFor d.leasing s.lease.unit s.lease.req.id → end_of d.leasing.exec.limit d.leasing.exec.taken d.leasing.exec.state ≡ Some e → (more : List Rec) × (d.recs ≡ d.recs ++ more) × Gives plan d.recs s (Ended e) more
ended_gives plan d s e h out over = ([], sym (append-nil d.recs), (sym (end_is plan d h) ∙ over, serves_out d plan s h out, refl))

pub don_gives : (plan : Plan) (d : Desk) (s : LeaseServed) (recs : List Rec) → HasRun plan d → IsGoing d.leasing → IsOutFor d.leasing s.lease.unit s.lease.req.id → recs ≡ d.recs ++ record_of d.leasing.exec.state (event.Don s.lease.unit) ∷ [] → (more : List Rec) × (recs ≡ d.recs ++ more) × Gives plan d.recs s (Took None) more
don_gives plan d s recs h going out is = (
  record_of d.leasing.exec.state (event.Don s.lease.unit) ∷ [],
  is,
  (
    refl,
    record {
      going = sym (end_is plan d h) ∙ going;
      serves = serves_out d plan s h out;
      record_is = ap (λ (t : State). record_of t (event.Don s.lease.unit) ∷ []) h.now;
    },
  ),
)

-- The same, of what the calls say: l and m are the executive before and after the unit is given back.

over_as : (l m : Leasing) (u : UnitNo) (o : Option End) → m ≡ with_stand l u Back → o ≡ end_of m.exec.limit m.exec.taken m.exec.state → o ≡ end_of l.exec.limit l.exec.taken l.exec.state
over_as l m u o given ended = ended ∙ ap (λ (x : Leasing). end_of x.exec.limit x.exec.taken x.exec.state) given

pub back_kept : (plan : Plan) (l m : Leasing) (recs : List Rec) (u : UnitNo) (o : Option End) (e : End) (capacity : ℕ) → IsKept plan (record { leasing = l; recs = recs }) capacity → m ≡ with_stand l u Back → o ≡ end_of m.exec.limit m.exec.taken m.exec.state → o ≡ Some e → IsKept plan (record { leasing = m; recs = recs }) capacity
back_kept plan l m recs u o e capacity h given ended is =
    let over : end_of l.exec.limit l.exec.taken l.exec.state ≡ Some e = sym (over_as l m u o given ended) ∙ is in
    subst (λ (x : Leasing). IsKept plan (record { leasing = x; recs = recs }) capacity) (sym given)
    (kept_given plan (record { leasing = l; recs = recs }) u capacity h (λ going. (let never : None ≡ Some e = sym going ∙ over in cc)))

pub back_gives : (plan : Plan) (l m : Leasing) (recs : List Rec) (s : LeaseServed) (o : Option End) (e : End) → HasRun plan (record { leasing = l; recs = recs }) → IsOutFor l s.lease.unit s.lease.req.id → m ≡ with_stand l s.lease.unit Back → o ≡ end_of m.exec.limit m.exec.taken m.exec.state → o ≡ Some e
    → (more : List Rec) × (recs ≡ recs ++ more) × Gives plan recs s (Ended e) more
back_gives plan l m recs s o e h out given ended is = ended_gives plan (record { leasing = l; recs = recs }) s e h out (sym (over_as l m s.lease.unit o given ended) ∙ is)

pub back_enabled : (plan : Plan) (l m : Leasing) (recs : List Rec) (s : LeaseServed) (u : UnitNo) (capacity : ℕ) → IsKept plan (record { leasing = l; recs = recs }) capacity → IsOutFor l s.lease.unit s.lease.req.id → m ≡ with_stand l s.lease.unit Back → u ≡ s.lease.unit → Contains (enabled m.exec.state) (event.Don u)
back_enabled plan l m recs s u capacity h out given is =
    let c = don_enabled l.exec.state s.lease.unit (let w = out_within l.stands s.lease.unit.0 out.out in omega (arith, w, h.units)) (asked_some (in_service s.lease.unit l.exec.state.requests) s.lease.req.id out.asked) in
    subst (λ (x : Leasing). Contains (enabled x.exec.state) (event.Don u)) (sym given) (subst (λ (v : UnitNo). Contains (enabled l.exec.state) (event.Don v)) (sym is) c)

pub back_in : (l m : Leasing) (s : LeaseServed) (u : UnitNo) → m ≡ with_stand l s.lease.unit Back → u ≡ s.lease.unit → is_out (stand_at m u) ≡ false
back_in l m s u given is = subst (λ (x : Leasing). is_out (stand_at x u) ≡ false) (sym given) (subst (λ (v : UnitNo). is_out (slice_index_or (slice_set l.stands s.lease.unit.0 Back) v.0 Home) ≡ false) (sym is) (stand_set l.stands s.lease.unit Back refl))

pub back_room : (plan : Plan) (l : Leasing) (recs : List Rec) (s : LeaseServed) (capacity : ℕ) → IsKept plan (record { leasing = l; recs = recs }) capacity → IsOutFor l s.lease.unit s.lease.req.id → length recs + 1 ≤ capacity
back_room plan l recs s capacity h out = (let a = tally_back l.stands s.lease.unit.0 Back out.out refl in let b = h.room in omega (arith, a, b))

going_as : (l m : Leasing) (u : UnitNo) (o : Option End) → m ≡ with_stand l u Back → o ≡ end_of m.exec.limit m.exec.taken m.exec.state → ((e : End) → o ≡ Some e → ⊥) → IsGoing l
going_as l m u o given ended none = sym (over_as l m u o given ended) ∙ none_else o none

pub don_kept : (plan : Plan) (l m n : Leasing) (recs xs : List Rec) (s : LeaseServed) (u : UnitNo) (o : Option End) (capacity room : ℕ) → IsKept plan (record { leasing = l; recs = recs }) capacity → SawBeg plan recs s.lease → IsOutFor l s.lease.unit s.lease.req.id → m ≡ with_stand l s.lease.unit Back → o ≡ end_of m.exec.limit m.exec.taken m.exec.state → ((e : End) → o ≡ Some e → ⊥) → u ≡ s.lease.unit
    → record { leasing = n; recs = xs } ≡ advanced (record { leasing = m; recs = recs }) (event.Don u) → room ≡ capacity → IsKept plan (record { leasing = n; recs = xs }) room
don_kept plan l m n recs xs s u o capacity room h saw out given ended none is made same =
    let k = kept_don plan (record { leasing = l; recs = recs }) s capacity h (going_as l m s.lease.unit o given ended none) saw out in
    let all : record { leasing = n; recs = xs } ≡ advanced (record { leasing = with_stand l s.lease.unit Back; recs = recs }) (event.Don s.lease.unit) =
    made ∙ (ap (λ (x : Leasing). advanced (record { leasing = x; recs = recs }) (event.Don u)) given ∙ ap (λ (v : UnitNo). advanced (record { leasing = with_stand l s.lease.unit Back; recs = recs }) (event.Don v)) is) in
    subst (λ (c : ℕ). IsKept plan (record { leasing = n; recs = xs }) c) (sym same) (subst (λ (x : Desk). IsKept plan x capacity) (sym all) k)

pub don_said : (plan : Plan) (l m n : Leasing) (recs xs : List Rec) (s : LeaseServed) (u : UnitNo) (o : Option End) → HasRun plan (record { leasing = l; recs = recs }) → IsOutFor l s.lease.unit s.lease.req.id → m ≡ with_stand l s.lease.unit Back → o ≡ end_of m.exec.limit m.exec.taken m.exec.state → ((e : End) → o ≡ Some e → ⊥) → u ≡ s.lease.unit
    → record { leasing = n; recs = xs } ≡ advanced (record { leasing = m; recs = recs }) (event.Don u) → (more : List Rec) × (xs ≡ recs ++ more) × Gives plan recs s (Took None) more
don_said plan l m n recs xs s u o h out given ended none is made =
    let all : xs ≡ recs ++ record_of l.exec.state (event.Don s.lease.unit) ∷ [] =
    ap (λ (x : Desk). x.recs) made ∙ (ap (λ (x : Leasing). recs ++ record_of x.exec.state (event.Don u) ∷ []) given ∙ ap (λ (v : UnitNo). recs ++ record_of l.exec.state (event.Don v) ∷ []) is) in
    don_gives plan (record { leasing = l; recs = recs }) s xs h (going_as l m s.lease.unit o given ended none) out all
