-- A run at the desk goes on by an event.
use Rattle.std.proofs.Common.{◌≡◌, inr, ℕ, zero, suc, ◌+◌, ◌<◌, ◌≤◌, List, [], ◌∷◌, Bool, true, false, cond, not, Option, Some, None, Contains, is_some, length, length-append, slice_index_or, slice_set, refl, sym, ap, ◌∙◌, subst, arith}
use Rattle.std.specs.List.{find}
use Rattle.vx_base.specs.Lists.{tally}
use Rattle.vx_base.specs.Flags.{one}
use Rattle.vx_base.specs.Queues.{in_service}
use Rattle.vx_record.specs.Types.{Event, Request, UnitNo}
use Rattle.vx_base.specs.declared.record.Event.TheVariants as event
use Rattle.vx_record.specs.Events.{don_or_beg, enabled, step, unit_events, is_don}
use Rattle.vx_record.specs.Runs.{IsStep, after, end_of, first, record_of}
use Rattle.vx_record.specs.State.{State}
use Rattle.vx_record.proofs.Base.{Base}
use Rattle.vx_record.proofs.Along.{first_base, run_base}
use Rattle.vx_units.specs.Leases.{Stand, Home, Out, is_out}
use Rattle.vx_exec.specs.Leases.{IsInFor, Leasing, first_open}
use Rattle.vx_exec.specs.View.{Plan}
use Rattle.vx_exec.proofs.Enabled.{unit_iff}
use Rattle.vx_exec.proofs.Runs.{after_more, going_below, steps_more}
use Rattle.vx_carrier.specs.Desk.{Desk, HasRun, IsGoing, advanced}
use Rattle.vx_carrier.specs.Turns.{end}
use Rattle.vx_base.proofs.First.{found_passes}

-- Events that are enabled.

found_there : (p : Event → Bool) (es : List Event) (e : Event) → find p es ≡ Some e → Contains es e
found_there p [] e f = absurd (let never : None ≡ Some e = f in cc)
found_there p (x ∷ es) e f = at (p x) f (found_there p es e)
  where
    at : (b : Bool) → cond b (Some x) (find p es) ≡ Some e → (find p es ≡ Some e → Contains es e) → Contains (x ∷ es) e
    at true g k = (0, omega arith, (let same : x ≡ e = cc in same))
    at false g k = let h = k g in (suc h.0, omega (arith, h.1), h.2)

pub open_enabled : (s : State) (e : Event) → first_open s ≡ Some e → Contains (enabled s) e
open_enabled s e f = found_there (λ x. not (is_don x)) (enabled s) e f

pub open_no_don : (s : State) (e : Event) → first_open s ≡ Some e → not (is_don e) ≡ true
open_no_don s e f = found_passes (λ x. not (is_don x)) (enabled s) e f

in_for : (l : Leasing) (e : Event) → not (is_don e) ≡ true → IsInFor l e
in_for l (event.Run p) h = tt
in_for l (event.Ast p) h = tt
in_for l (event.Rdn p) h = tt
in_for l (event.Beg u) h = tt
in_for l (event.Don u) h = absurd (let never : false ≡ true = h in cc)
in_for l event.Tick h = tt

pub open_in : (l : Leasing) (e : Event) → first_open l.exec.state ≡ Some e → IsInFor l e
open_in l e f = in_for l e (open_no_don l.exec.state e f)

-- Runs.

pub desk_base : (plan : Plan) (d : Desk) → HasRun plan d → Base d.leasing.exec.state
desk_base plan d h = subst Base (sym h.now) (run_base (first plan.system) d.recs h.run.steps (first_base plan.system))

-- how it ended, by the records
pub end_is : (plan : Plan) (d : Desk) → HasRun plan d → end_of d.leasing.exec.limit d.leasing.exec.taken d.leasing.exec.state ≡ end plan d.recs
end_is plan d h = rw (h.limited, h.counted, h.now) refl

is_step : (s : State) (e : Event) → Contains (enabled s) e → IsStep s (record_of s e)
is_step s e c = record { enabled = c; answer = refl; effects = refl }

pub run_advanced : (plan : Plan) (d : Desk) (e : Event) → HasRun plan d → plan.limit ≤ 100000 → IsGoing d.leasing → Contains (enabled d.leasing.exec.state) e → HasRun plan (advanced d e)
run_advanced plan d e h few going c =
    let s = d.leasing.exec.state in
    let r = record_of s e in
    let below : d.leasing.exec.taken < d.leasing.exec.limit = going_below d.leasing.exec.limit d.leasing.exec.taken s (sym going) in
    let one : IsStep (after plan.system d.recs) r = subst (λ (t : State). IsStep t r) h.now (is_step s e c) in
    record {
      run = record {
        few = omega (arith, few, below, h.counted, h.limited, length-append d.recs (r ∷ []));
        steps = steps_more (first plan.system) d.recs r h.run.steps one;
      };
      now = ap (λ (t : State). (step t e).after) h.now ∙ sym (after_more (first plan.system) d.recs r);
      counted = (let more = length-append d.recs (r ∷ []) in omega (arith, h.counted, more));
      limited = h.limited;
    }

-- Stands.

pub stand_set : (ks : List Stand) (u : UnitNo) (k : Stand) → is_out k ≡ false → is_out (slice_index_or (slice_set ks u.0 k) u.0 Home) ≡ false
stand_set ks u k off = at ks u.0
  where
    at : (xs : List Stand) (i : ℕ) → is_out (slice_index_or (slice_set xs i k) i Home) ≡ false
    at [] i = refl
    at (x ∷ xs) zero = off
    at (x ∷ xs) (suc i) = at xs i

pub home_set : (ks : List Stand) (u : UnitNo) → slice_index_or (slice_set ks u.0 Home) u.0 Home ≡ Home
home_set ks u = at ks u.0
  where
    at : (xs : List Stand) (i : ℕ) → slice_index_or (slice_set xs i Home) i Home ≡ Home
    at [] i = refl
    at (x ∷ xs) zero = refl
    at (x ∷ xs) (suc i) = at xs i

-- one that is out no more
pub tally_less : (ks : List Stand) (i : ℕ) (k : Stand) → is_out k ≡ false → tally is_out (slice_set ks i k) ≤ tally is_out ks
tally_less [] i k off = omega arith
tally_less (x ∷ xs) zero k off = rw off (omega arith)
tally_less (x ∷ xs) (suc i) k off = let a = tally_less xs i k off in omega (arith, a)

pub tally_back : (ks : List Stand) (i : ℕ) (k : Stand) → slice_index_or ks i Home ≡ Out → is_out k ≡ false → tally is_out (slice_set ks i k) + 1 ≤ tally is_out ks
tally_back [] i k at off = absurd (let never : false ≡ true = ap is_out at in cc)
tally_back (x ∷ xs) zero k at off = rw (off, ap is_out at) (omega arith)
tally_back (x ∷ xs) (suc i) k at off = let a = tally_back xs i k at off in omega (arith, a)

pub out_within : (ks : List Stand) (i : ℕ) → slice_index_or ks i Home ≡ Out → i < length ks
out_within [] i at = absurd (let never : false ≡ true = ap is_out at in cc)
out_within (x ∷ xs) zero at = omega arith
out_within (x ∷ xs) (suc i) at = let a = out_within xs i at in omega (arith, a)

-- The DON of a unit that serves.

don_event : (s : State) (u : UnitNo) (o : Option Request) → in_service u s.requests ≡ o → is_some o ≡ true → unit_events s u ≡ event.Don u ∷ []
don_event s u None e some = absurd (let never : false ≡ true = some in cc)
don_event s u (Some r) e some = ap (don_or_beg s u) e

pub don_enabled : (s : State) (u : UnitNo) → u.0 < length s.units → is_some (in_service u s.requests) ≡ true → Contains (enabled s) (event.Don u)
don_enabled s u within some =
    let list = don_event s u (in_service u s.requests) refl some in
    (unit_iff s u (event.Don u) (event.Don u) true (inr refl) refl (λ t. within) (λ t. list) (λ w i. refl)).0 refl
