-- What a turn leaves at the desk.
use Rattle.std.proofs.Common.{◌≡◌, ◌≢◌, ℕ, ◌+◌, ◌≤◌, List, [], ◌∷◌, ◌++◌, Bool, true, false, ◌==◌, Option, Some, None, Result, Ok, Err, is_err, OnOk, Contains, IsSome, is_some, OnSome, IfSome, IfNone, option_map, length, length-append, length-set, slice_index_or, slice_set, get_or-set_other, get_or-set_same, ◌<◌, not, append-nil, refl, sym, ap, ◌∙◌, subst, arith}
use Rattle.std.proofs.lemmas.Bool.{eqb-true, eq-eqb}
use Rattle.vx_exec.proofs.Cancels.{tally_length}
use Rattle.vx_record.specs.Types.{Event, Rec, Request, UnitNo}
use Rattle.vx_base.specs.Queues.{front, in_service}
use Rattle.vx_base.specs.declared.record.Event.TheVariants as event
use Rattle.vx_record.specs.Events.{enabled, step, is_don}
use Rattle.vx_record.specs.Runs.{record_of}
use Rattle.vx_record.specs.State.{State}
use Rattle.vx_record.proofs.Base.{Base}
use Rattle.vx_record.proofs.Steps.{IsThere}
use Rattle.vx_units.specs.Leases.{Lease, Stand, Home, Out, is_out}
use Rattle.vx_exec.specs.Leases.{IsLeaseOf, IsToLease, Leasing, first_open, stand_at, with_stand}
use Rattle.vx_exec.specs.View.{Plan}
use Rattle.vx_exec.proofs.Enabled.{abled_of, enabled_owned}
use Rattle.vx_carrier.specs.Desk.{AreOut, Desk, HasRun, IsGoing, IsKept, advanced, opened}
use Rattle.vx_carrier.specs.Turns.{HandsOut, Opens, Takes}
use Rattle.vx_carrier.specs.declared.turn.Turn.{Turn}
use Rattle.vx_carrier.specs.declared.turn.Turn.TheVariants.{Took, Nothing, Stale, Ended, NoMemory}
use Rattle.vx_carrier.proofs.Running.{desk_base, end_is, home_set, open_enabled, open_no_don, run_advanced}
use Rattle.vx_carrier.proofs.Still.{BeginsNone, begun_serves, serves_before}
use Rattle.vx_record.proofs.Fixed.{step_keeps_count, step_keeps_unit}
use Rattle.vx_record.proofs.Allowed.{enabled_there}

-- The lease after a BEG.

request_at : (s : State) (u : UnitNo) (o : Option Request) → front u s.requests ≡ o → is_some o ≡ true → Base s → option_map (λ (r : Request). r.req) (in_service u (step s (event.Beg u)).after.requests) ≡ option_map (λ (r : Request). r.req) (front u s.requests)
request_at s u None e some b = absurd (let never : false ≡ true = some in cc)
request_at s u (Some r) e some b = ap (option_map (λ (r : Request). r.req)) (begun_serves s u r b e) ∙ sym (ap (option_map (λ (r : Request). r.req)) e)

serves_at : (s : State) (u : UnitNo) (o : Option Request) → front u s.requests ≡ o → is_some o ≡ true → Base s → is_some (in_service u (step s (event.Beg u)).after.requests) ≡ true
serves_at s u None e some b = absurd (let never : false ≡ true = some in cc)
serves_at s u (Some r) e some b = ap is_some (begun_serves s u r b e)

leased : (d : Desk) (u : UnitNo) (l : Leasing) (r : Option Lease) → Base d.leasing.exec.state → Contains (enabled d.leasing.exec.state) (event.Beg u)
    → IfSome r (IsLeaseOf (advanced d (event.Beg u)).leasing u) → OnSome r (l ≡ with_stand (advanced d (event.Beg u)).leasing u Out)
    → IfNone r (IsToLease (advanced d (event.Beg u)).leasing u → ⊥)
    → (l ≡ with_stand (advanced d (event.Beg u)).leasing u Out) × HandsOut d.leasing.exec.state (event.Beg u) r
leased d u l (Some lease) b c is out none =
    let s = d.leasing.exec.state in (
      out,
      (
        lease,
        refl,
        record {
          unit = is.unit;
          request = sym (request_at s u (front u s.requests) refl (enabled_owned s (event.Beg u) c) b) ∙ is.request;
          contents = is.contents ∙ step_keeps_unit s (event.Beg u) u tt;
        },
      ),
    )
leased d u l None b c is out none =
    let s = d.leasing.exec.state in
    absurd (none (record { serves = serves_at s u (front u s.requests) refl (enabled_owned s (event.Beg u) c) b; home = home_set d.leasing.stands u }))

-- what `open` leaves after a BEG
pub beg_opens : (d : Desk) (u : UnitNo) (l m : Leasing) (recs : List Rec) (r : Option Lease) → Base d.leasing.exec.state → first_open d.leasing.exec.state ≡ Some (event.Beg u)
    → record { leasing = m; recs = recs } ≡ advanced d (event.Beg u)
    → IfSome r (IsLeaseOf m u) → OnSome r (l ≡ with_stand m u Out) → IfNone r (IsToLease m u → ⊥)
    → Opens d (event.Beg u) (Took r) (record { leasing = l; recs = recs })
beg_opens d u l m recs r b f e is out none =
    let same : m ≡ (advanced d (event.Beg u)).leasing = ap (λ (x : Desk). x.leasing) e in
    let P = λ (x : Leasing). IfSome r (IsLeaseOf x u) in
    let Q = λ (x : Leasing). OnSome r (l ≡ with_stand x u Out) in
    let R = λ (x : Leasing). IfNone r (IsToLease x u → ⊥) in
    let h = leased d u l r b (open_enabled d.leasing.exec.state (event.Beg u) f) (subst P same is) (subst Q same out) (subst R same none) in
    (ap (λ (x : Leasing). record { leasing = x; recs = recs }) h.0 ∙ ap (λ (x : Desk). record { leasing = with_stand (advanced d (event.Beg u)).leasing u Out; recs = x.recs }) e, h.1)

ok_of : {A E : Type 0} (X : Type 0) (r : Result A E) → is_err r ≡ false → OnOk r X → X
ok_of X (Ok a) fine h = h
ok_of X (Err e) fine h = absurd (let never : true ≡ false = fine in cc)

-- the same, of what the calls say
pub open_beg : {A E : Type 0} (plan : Plan) (d : Desk) (e : Event) (u : UnitNo) (l m : Leasing) (recs : List Rec) (r : Option Lease) (x : Result A E) → HasRun plan d → first_open d.leasing.exec.state ≡ Some e → e ≡ event.Beg u
    → is_err x ≡ false → OnOk x (record { leasing = m; recs = recs } ≡ advanced d e)
    → IfSome r (IsLeaseOf m u) → OnSome r (l ≡ with_stand m u Out) → IfNone r (IsToLease m u → ⊥)
    → Opens d e (Took r) (record { leasing = l; recs = recs })
open_beg plan d e u l m recs r x h f is fine ok lease out none =
    let made = ok_of (record { leasing = m; recs = recs } ≡ advanced d e) x fine ok in
    let P = λ (y : Event). Opens d y (Took r) (record { leasing = l; recs = recs }) in
    subst P (sym is) (beg_opens d u l m recs r (desk_base plan d h) (f ∙ ap Some is) (made ∙ ap (advanced d) is) lease out none)

-- What the desk keeps.

-- the unit of the BEG goes out, and each other stays out that serves
set_out : (ks : List Stand) (i j : ℕ) (b : Bool) → (j == i) ≡ b → i < length ks → (j ≢ i → slice_index_or ks j Home ≡ Out) → slice_index_or (slice_set (slice_set ks i Home) i Out) j Home ≡ Out
set_out ks i j true e within out =
    let same = eqb-true j i e in
    rw same (get_or-set_same (slice_set ks i Home) i Out Home (let n = length-set ks i Home in omega (arith, n, within)))
set_out ks i j false e within out =
    let apart : j ≢ i = λ same. (let yes : (j == i) ≡ true = eq-eqb j i same in let never : true ≡ false = sym yes ∙ e in cc) in
    get_or-set_other (slice_set ks i Home) i j Out Home apart ∙ (get_or-set_other ks i j Home Home apart ∙ out apart)

beg_out : (d : Desk) (u : UnitNo) → Base d.leasing.exec.state → u.0 < length d.leasing.stands → AreOut d.leasing → AreOut (opened d (event.Beg u)).leasing
beg_out d u b within out v some =
    set_out d.leasing.stands u.0 v.0 (v.0 == u.0) refl within
    (λ apart. out v (serves_before v d.leasing.exec.state (event.Beg u) (λ same. apart (sym same)) tt b some))

other_out : (d : Desk) (e : Event) → ((v : UnitNo) → BeginsNone e v) → IsThere d.leasing.exec.state e → Base d.leasing.exec.state → AreOut d.leasing → (v : UnitNo) → IsSome (in_service v (step d.leasing.exec.state e).after.requests) → stand_at d.leasing v ≡ Out
other_out d e none m b out v some = out v (serves_before v d.leasing.exec.state e (none v) m b some)

-- the units of events are there
beg_within : (s : State) (u : UnitNo) → Contains (enabled s) (event.Beg u) → u.0 < length s.units
beg_within s u c = (abled_of s (event.Beg u) c).0

open_out : (d : Desk) (e : Event) → not (is_don e) ≡ true → Contains (enabled d.leasing.exec.state) e → Base d.leasing.exec.state → length d.leasing.stands ≡ length d.leasing.exec.state.units → AreOut d.leasing → AreOut (opened d e).leasing
open_out d (event.Run p) f c b n out = other_out d (event.Run p) (λ v. tt) (enabled_there d.leasing.exec.state (event.Run p) c) b out
open_out d (event.Ast p) f c b n out = other_out d (event.Ast p) (λ v. tt) (enabled_there d.leasing.exec.state (event.Ast p) c) b out
open_out d (event.Rdn p) f c b n out = other_out d (event.Rdn p) (λ v. tt) (enabled_there d.leasing.exec.state (event.Rdn p) c) b out
open_out d (event.Beg u) f c b n out = beg_out d u b (let w = beg_within d.leasing.exec.state u c in omega (arith, w, n)) out
open_out d (event.Don u) f c b n out = absurd (let never : false ≡ true = f in cc)
open_out d event.Tick f c b n out = other_out d event.Tick (λ v. tt) tt b out

stands_count : (d : Desk) (e : Event) → length (opened d e).leasing.stands ≡ length d.leasing.stands
stands_count d (event.Run p) = refl
stands_count d (event.Ast p) = refl
stands_count d (event.Rdn p) = refl
stands_count d (event.Beg u) = length-set (slice_set d.leasing.stands u.0 Home) u.0 Out ∙ length-set d.leasing.stands u.0 Home
stands_count d (event.Don u) = length-set d.leasing.stands u.0 Home
stands_count d event.Tick = refl

opened_run : (plan : Plan) (d : Desk) (e : Event) → HasRun plan (advanced d e) → HasRun plan (opened d e)
opened_run plan d (event.Run p) h = h
opened_run plan d (event.Ast p) h = h
opened_run plan d (event.Rdn p) h = h
opened_run plan d (event.Beg u) h = record { run = h.run; now = h.now; counted = h.counted; limited = h.limited }
opened_run plan d (event.Don u) h = h
opened_run plan d event.Tick h = h

opened_parts : (d : Desk) (e : Event) → ((opened d e).recs ≡ d.recs ++ record_of d.leasing.exec.state e ∷ []) × ((opened d e).leasing.exec.state ≡ (step d.leasing.exec.state e).after)
opened_parts d (event.Run p) = (refl, refl)
opened_parts d (event.Ast p) = (refl, refl)
opened_parts d (event.Rdn p) = (refl, refl)
opened_parts d (event.Beg u) = (refl, refl)
opened_parts d (event.Don u) = (refl, refl)
opened_parts d event.Tick = (refl, refl)

-- with room for its record and for the DON of each unit
kept_opened : (plan : Plan) (d : Desk) (e : Event) (capacity room : ℕ) → IsKept plan d capacity → IsGoing d.leasing → first_open d.leasing.exec.state ≡ Some e → length d.recs + (length d.leasing.stands + 1) ≤ room → IsKept plan (opened d e) room
kept_opened plan d e capacity room h going f space =
    let s = d.leasing.exec.state in
    let c = open_enabled s e f in
    let parts = opened_parts d e in
    let count = stands_count d e in
    let most = tally_length is_out (opened d e).leasing.stands in
    let more = ap (λ (xs : List Rec). length xs) parts.0 ∙ length-append d.recs (record_of s e ∷ []) in
    record {
      run = opened_run plan d e (run_advanced plan d e h.run h.few going c);
      few = h.few;
      units = count ∙ (h.units ∙ sym (ap (λ (t : State). length t.units) parts.1 ∙ step_keeps_count s e));
      out = λ on. open_out d e (open_no_don s e f) c (desk_base plan d h.run) h.units (h.out going);
      room = omega (arith, count, most, more, space);
    }

kept_room : (plan : Plan) (d : Desk) (capacity room : ℕ) → IsKept plan d capacity → capacity ≤ room → IsKept plan d room
kept_room plan d capacity room h more = record { run = h.run; few = h.few; units = h.units; out = h.out; room = omega (arith, h.room, more) }

pub turn_kept : (plan : Plan) (d after_it : Desk) (e : Event) (t : Turn) (capacity room : ℕ) → IsKept plan d capacity → IsGoing d.leasing → first_open d.leasing.exec.state ≡ Some e → length d.recs + (length d.leasing.stands + 1) ≤ room → capacity ≤ room → Opens d e t after_it → IsKept plan after_it room
turn_kept plan d after_it e (Took l) capacity room h going f space more opens = subst (λ (x : Desk). IsKept plan x room) (sym opens.0) (kept_opened plan d e capacity room h going f space)
turn_kept plan d after_it e Nothing capacity room h going f space more opens = absurd opens
turn_kept plan d after_it e Stale capacity room h going f space more opens = absurd opens
turn_kept plan d after_it e (Ended x) capacity room h going f space more opens = absurd opens
turn_kept plan d after_it e NoMemory capacity room h going f space more opens = subst (λ (x : Desk). IsKept plan x room) (sym opens) (kept_room plan d capacity room h more)

-- What a turn is said to do.

pub turn_takes : (plan : Plan) (d after_it : Desk) (e : Event) (t : Turn) → HasRun plan d → IsGoing d.leasing → first_open d.leasing.exec.state ≡ Some e → Opens d e t after_it → (more : List Rec) × (after_it.recs ≡ d.recs ++ more) × Takes plan d.recs t more
turn_takes plan d after_it e (Took l) h going f opens =
    let r = record_of d.leasing.exec.state e in (
      r ∷ [],
      ap (λ (x : Desk). x.recs) opens.0 ∙ (opened_parts d e).0,
      record {
        going = sym (end_is plan d h) ∙ going;
        event = e;
        first = sym (ap first_open h.now) ∙ f;
        record_is = ap (λ (s : State). record_of s e ∷ []) h.now;
        hands = subst (λ (s : State). HandsOut s e l) h.now opens.1;
      },
    )
turn_takes plan d after_it e Nothing h going f opens = absurd opens
turn_takes plan d after_it e Stale h going f opens = absurd opens
turn_takes plan d after_it e (Ended x) h going f opens = absurd opens
turn_takes plan d after_it e NoMemory h going f opens = ([], ap (λ (x : Desk). x.recs) opens ∙ sym (append-nil d.recs), refl)

-- the same, of what the calls say

pub none_else : {A : Type 0} (o : Option A) → ((x : A) → o ≡ Some x → ⊥) → o ≡ None
none_else None h = refl
none_else (Some x) h = absurd (h x refl)

room_of : {A E : Type 0} (r : Result A E) (n room : ℕ) → is_err r ≡ false → OnOk r (n ≤ room) → n ≤ room
room_of r n room fine ok = ok_of (n ≤ room) r fine ok

-- before `open`, the items have moved to where there is room
pub moved_opens : (l : Leasing) (xs ys : List Rec) (e : Event) (t : Turn) (after_it : Desk) → ys ≡ xs → Opens (record { leasing = l; recs = ys }) e t after_it → Opens (record { leasing = l; recs = xs }) e t after_it
moved_opens l xs ys e t after_it same h = subst (λ (zs : List Rec). Opens (record { leasing = l; recs = zs }) e t after_it) same h

pub turned_kept : {A E : Type 0} (plan : Plan) (l : Leasing) (xs ys : List Rec) (e : Event) (t : Turn) (after_it : Desk) (capacity middle room : ℕ) (r : Result A E) → IsKept plan (record { leasing = l; recs = xs }) capacity → IsGoing l → first_open l.exec.state ≡ Some e
    → ys ≡ xs → capacity ≤ middle → is_err r ≡ false → OnOk r (length ys + (length l.stands + 1) ≤ middle) → room ≡ middle → Opens (record { leasing = l; recs = ys }) e t after_it → IsKept plan after_it room
turned_kept plan l xs ys e t after_it capacity middle room r h going f same more fine ok is opens =
    let space = room_of r (length ys + (length l.stands + 1)) middle fine ok in
    turn_kept plan (record { leasing = l; recs = xs }) after_it e t capacity room h going f (let n = ap (λ (zs : List Rec). length zs) same in omega (arith, n, space, is)) (omega (arith, more, is)) (moved_opens l xs ys e t after_it same opens)

pub seen_takes : (plan : Plan) (d seen after_it : Desk) (t : Turn) → seen ≡ d → ((more : List Rec) × (after_it.recs ≡ d.recs ++ more) × Takes plan d.recs t more) → ((more : List Rec) × (after_it.recs ≡ seen.recs ++ more) × Takes plan seen.recs t more)
seen_takes plan d seen after_it t same h = subst (λ (x : Desk). (more : List Rec) × (after_it.recs ≡ x.recs ++ more) × Takes plan x.recs t more) (sym same) h
