-- What a seat knows after a turn.
use Rattle.std.proofs.Common.{◌≡◌, ℕ, List, [], ◌∷◌, ◌++◌, append_assoc, append-nil, length, Option, Some, None, refl, sym, ap, ◌∙◌, subst}
use Rattle.std.proofs.lemmas.List.{append_cancel_left}
use Rattle.vx_record.specs.Types.{Event, Rec}
use Rattle.vx_base.specs.declared.record.Event.TheVariants as event
use Rattle.vx_record.specs.Runs.{IsRun, record_of}
use Rattle.vx_units.specs.Leases.{Lease, LeaseServed}
use Rattle.vx_exec.specs.View.{Plan}
use Rattle.vx_turn.specs.Rule.{StartsWith, numbered}
use Rattle.vx_turn.proofs.Lists.{starts_here}
use Rattle.vx_turn.specs.Seats.{Adds, Keeps}
use Rattle.vx_turn.specs.declared.view.View.{View}
use Rattle.vx_carrier.specs.Turns.{AtEnd, Gives, HandsOut, IsLeaseAt, SawBeg, SawEnd, SeatGave, SeatGrew, SeatSaw, SeatTook, Takes, TakesEvent, now}
use Rattle.vx_carrier.specs.declared.turn.Turn.{Turn}
use Rattle.vx_carrier.specs.declared.turn.Turn.TheVariants.{Took, Nothing, Stale, Ended, NoMemory}

saw : (plan : Plan) (v u w : View Rec) (found more after_it : List Rec) → IsRun plan.system found → u.seen ≡ found → StartsWith found v.seen → Keeps v u → after_it ≡ found ++ more → Adds u w after_it → SeatSaw plan v found more w
saw plan v u w found more after_it run seen later keeps grew adds =
    let same : adds.more ≡ more = append_cancel_left found adds.more more (sym (adds.log_is ∙ ap (λ (xs : List Rec). xs ++ adds.more) seen) ∙ grew) in
    record {
      run = run;
      later = later;
      seen = adds.seen ∙ grew;
      own = adds.own ∙ (ap (λ (xs : List (ℕ × Rec)). xs ++ numbered (length u.seen) adds.more) keeps.own ∙ (ap (λ (xs : List Rec). v.own ++ numbered (length xs) adds.more) seen ∙ ap (λ (xs : List Rec). v.own ++ numbered (length found) xs) same));
    }

pub seat_took : (plan : Plan) (v u w : View Rec) (t : Turn) (found after_it : List Rec) → IsRun plan.system found → u.seen ≡ found → StartsWith found v.seen → Keeps v u → ((more : List Rec) × (after_it ≡ found ++ more) × Takes plan found t more) → Adds u w after_it → SeatTook plan v t w
seat_took plan v u w t found after_it run seen later keeps took adds = record {
  found = found;
  more = took.0;
  saw = saw plan v u w found took.0 after_it run seen later keeps took.1 adds;
  took = took.2;
}

pub seat_gave : (plan : Plan) (v u w : View Rec) (s : LeaseServed) (t : Turn) (found after_it : List Rec) → IsRun plan.system found → u.seen ≡ found → StartsWith found v.seen → Keeps v u → ((more : List Rec) × (after_it ≡ found ++ more) × Gives plan found s t more) → Adds u w after_it → SeatGave plan v s t w
seat_gave plan v u w s t found after_it run seen later keeps gave adds = record {
  found = found;
  more = gave.0;
  saw = saw plan v u w found gave.0 after_it run seen later keeps gave.1 adds;
  gave = gave.2;
}

-- what a seat had seen and left stays

longer_still : {A : Type 0} (xs ys zs : List A) → StartsWith ys xs → StartsWith zs ys → StartsWith zs xs
longer_still xs ys zs a b = (a.0 ++ b.0, b.1 ∙ (ap (λ (l : List _). l ++ b.0) a.1 ∙ append_assoc xs a.0 b.0))

pub saw_grew : (plan : Plan) (v w : View Rec) (found more : List Rec) → SeatSaw plan v found more w → SeatGrew v w
saw_grew plan v w found more h = record { seen = longer_still v.seen found w.seen h.later (more, h.seen); own = (numbered (length found) more, h.own) }

pub took_grew : (plan : Plan) (v w : View Rec) (t : Turn) → SeatTook plan v t w → SeatGrew v w
took_grew plan v w t h = saw_grew plan v w h.found h.more h.saw

pub grew_still : (v : View Rec) → SeatGrew v v
grew_still v = record { seen = starts_here v.seen; own = starts_here v.own }

pub grew_on : (u v w : View Rec) → SeatGrew u v → SeatGrew v w → SeatGrew u w
grew_on u v w a b = record { seen = longer_still u.seen v.seen w.seen a.seen b.seen; own = longer_still u.own v.own w.own a.own b.own }

-- a longer history has the BEG too
pub saw_later : (plan : Plan) (found seen : List Rec) (lease : Lease) → StartsWith found seen → SawBeg plan seen lease → SawBeg plan found lease
saw_later plan found seen lease later saw_beg = record {
  before = saw_beg.before;
  beg = saw_beg.beg;
  behind = saw_beg.behind ++ later.0;
  seen_is = later.1 ∙ (ap (λ (xs : List Rec). xs ++ later.0) saw_beg.seen_is ∙ append_assoc saw_beg.before (saw_beg.beg ∷ saw_beg.behind) later.0);
  event = saw_beg.event;
  taken = saw_beg.taken;
}

-- who was handed a unit has seen its BEG
handed : (plan : Plan) (found : List Rec) (e : Event) (o : Option Lease) (lease : Lease) (seen more : List Rec) → o ≡ Some lease → HandsOut (now plan found) e o → more ≡ record_of (now plan found) e ∷ [] → seen ≡ found ++ more → SawBeg plan seen lease
handed plan found (event.Run p) o lease seen more is h made at = absurd (let never : None ≡ Some lease = sym h ∙ is in cc)
handed plan found (event.Ast p) o lease seen more is h made at = absurd (let never : None ≡ Some lease = sym h ∙ is in cc)
handed plan found (event.Rdn p) o lease seen more is h made at = absurd (let never : None ≡ Some lease = sym h ∙ is in cc)
handed plan found (event.Don u) o lease seen more is h made at = absurd (let never : None ≡ Some lease = sym h ∙ is in cc)
handed plan found event.Tick o lease seen more is h made at = absurd (let never : None ≡ Some lease = sym h ∙ is in cc)
handed plan found (event.Beg u) o lease seen more is h made at =
    let same : h.0 ≡ lease = cc in
    let k : IsLeaseAt (now plan found) u lease = subst (IsLeaseAt (now plan found) u) same h.2 in
    record {
      before = found;
      beg = record_of (now plan found) (event.Beg u);
      behind = [];
      seen_is = at ∙ ap (λ (xs : List Rec). found ++ xs) made;
      event = ap event.Beg (sym k.unit);
      taken = subst (λ (v : _). IsLeaseAt (now plan found) v lease) (sym k.unit) k;
    }

pub saw_handed : (plan : Plan) (v w : View Rec) (t : Turn) (lease : Lease) → SeatTook plan v t w → t ≡ Took (Some lease) → SawBeg plan w.seen lease
saw_handed plan v w t lease h is =
    let k : TakesEvent plan h.found (Some lease) h.more = subst (λ (x : Turn). Takes plan h.found x h.more) is h.took in
    handed plan h.found k.event (Some lease) lease w.seen h.more refl k.hands k.record_is h.saw.seen

-- who was told the end has seen it
pub took_end : (plan : Plan) (v w : View Rec) (t : Turn) → SeatTook plan v t w → AtEnd plan t w.seen
took_end plan v w (Took l) h = tt
took_end plan v w Nothing h = tt
took_end plan v w Stale h = tt
took_end plan v w NoMemory h = tt
took_end plan v w (Ended e) h =
    let seen : w.seen ≡ h.found = h.saw.seen ∙ (ap (λ (xs : List Rec). h.found ++ xs) h.took.1 ∙ append-nil h.found) in
    subst (λ (xs : List Rec). SawEnd plan xs e) (sym seen) (record { run = h.saw.run; ended = h.took.0 })

pub gave_end : (plan : Plan) (v w : View Rec) (s : LeaseServed) (t : Turn) → SeatGave plan v s t w → AtEnd plan t w.seen
gave_end plan v w s (Took l) h = tt
gave_end plan v w s Nothing h = tt
gave_end plan v w s Stale h = tt
gave_end plan v w s NoMemory h = tt
gave_end plan v w s (Ended e) h =
    let seen : w.seen ≡ h.found = h.saw.seen ∙ (ap (λ (xs : List Rec). h.found ++ xs) h.gave.2 ∙ append-nil h.found) in
    subst (λ (xs : List Rec). SawEnd plan xs e) (sym seen) (record { run = h.saw.run; ended = h.gave.0 })
