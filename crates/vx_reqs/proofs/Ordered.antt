-- The order of places, kept by each change.
use mathlib.Core.Bool.{and-false}
use Rattle.std.proofs.Common.{◌≡◌, ◌≢◌, ℕ, ◌+◌, ◌<◌, ◌≤◌, ◌==◌, ◌&&◌, List, [], ◌∷◌, ◌++◌, Bool, true, false, not, Option, Some, None, option_map, get_or, refl, ap, sym, subst, ◌∙◌, arith, eqb-true, eq-eqb, true≢false}
use Rattle.std.specs.List.{filter, find}
use Rattle.vx_base.specs.Lists.{amend}
use Rattle.vx_record.specs.Types.{Device, Id, Request, UnitNo}
use Rattle.vx_base.specs.Queues.{is_unit, is_served_by, waits_for}
use Rattle.vx_reqs.specs.Places.{Place, holds, is_held, emptied, changed, AllKeep, IsOrdered}
use Rattle.vx_reqs.proofs.Numbers.{keep_put, keep_lower, keep_begun, keep_begun_elsewhere, keep_settled, keep_idle, keep_amend, keep_kept}
use Rattle.vx_reqs.proofs.Rising.{rises_put, rises_amend, rises_kept, own_changed}
use Rattle.vx_record.specs.Requests.{taken_up}
use Rattle.vx_record.specs.Cancel.{with_abort}

-- what holds of one unit and of the others
by_unit : (P : UnitNo → Type 0) (u : UnitNo) → (u.0 < 32 → P u) → ((v : UnitNo) → u.0 ≢ v.0 → v.0 < 32 → P v) → (v : UnitNo) → v.0 < 32 → P v
by_unit P u here elsewhere v lt =
    elim (u.0 == v.0) as (λ b. (u.0 == v.0) ≡ b → P v) [
      | true ↦ λ e.
          let same : u ≡ v = ap (λ (n : ℕ). let w : UnitNo = record { 0 = n } in w) (eqb-true u.0 v.0 e) in
          subst P same (here (omega (arith, eqb-true u.0 v.0 e, lt)))
      | false ↦ λ e. elsewhere v (λ s. true≢false (sym (eq-eqb u.0 v.0 s) ∙ e)) lt
    ] refl

pub accepted : (places : List Place) (r : Request) (id : Id) (d : Device) (next : ℕ) (from lower served : List ℕ) → r.req.id ≡ id → r.req.device ≡ d → r.served ≡ false → next ≤ id.0 → ((u : UnitNo) → u.0 < 32 → is_unit u d ≡ true → get_or lower u.0 0 ≤ id.0) → ((u : UnitNo) → get_or lower u.0 0 ≤ get_or from u.0 0) → IsOrdered next from served places → IsOrdered (id.0 + 1) lower served (places ++ record { id = id; request = Some r } ∷ [])
accepted places r id d next from lower served same on unserved above here all ordered = record {
  rises = rises_put 0 places next (record { id = id; request = Some r }) ordered.rises above (ap (λ (i : Id). i.0) same);
  units = λ u lt. keep_put u (get_or lower u.0 0) (get_or served u.0 0) places (record { id = id; request = Some r }) (keep_lower u (get_or lower u.0 0) (get_or from u.0 0) (get_or served u.0 0) (all u) places (ordered.units u lt)) (record {
    waits = λ below. elim (is_unit u d) as (λ b. is_unit u d ≡ b → (is_unit u r.req.device && not r.served) ≡ false) [
      | true ↦ λ e. let bound = here u lt e in absurd (omega (arith, bound, below))
      | false ↦ λ e. ap (λ (b : Bool). b && not r.served) (ap (is_unit u) on ∙ e)
    ] refl;
    serves = λ _. ap (λ (b : Bool). is_unit u r.req.device && b) unserved ∙ and-false (is_unit u r.req.device);
  });
}

pub some_of : (i : Id) (o : Option Place) → Some i ≡ option_map (λ y. y.id) o → (y : Place) × (Some y ≡ o) × (y.id ≡ i)
some_of i None e = absurd (cc)
some_of i (Some y) e = (y, refl, cc)

pub none_of : (o : Option Place) → None ≡ option_map (λ y. y.id) o → None ≡ o
none_of None e = refl
none_of (Some y) e = absurd (cc)

pub begun_order : (u : UnitNo) (id : Id) (places : List Place) (next : ℕ) (from served new : List ℕ) → None ≡ find (holds (is_served_by u)) places → Some id ≡ option_map (λ y. y.id) (find (holds (waits_for u)) places) → (u.0 < 32 → get_or new u.0 0 ≡ id.0) → ((v : UnitNo) → u.0 ≢ v.0 → get_or new v.0 0 ≡ get_or served v.0 0) → IsOrdered next from served places → IsOrdered next from new (amend (holds (waits_for u)) (changed taken_up) places)
begun_order u id places next from served new none is here others ordered =
    let changed_places = amend (holds (waits_for u)) (changed taken_up) places in
    let found = some_of id (find (holds (waits_for u)) places) is in
    record {
      rises = rises_amend (holds (waits_for u)) (changed taken_up) (λ x. refl) (own_changed taken_up (λ r. refl)) 0 places next ordered.rises;
      units = by_unit (λ v. AllKeep v (get_or from v.0 0) (get_or new v.0 0) changed_places) u
          (λ lt. subst (λ (n : ℕ). AllKeep u (get_or from u.0 0) n changed_places) (ap (λ (i : Id). i.0) found.2 ∙ sym (here lt)) (keep_begun u (get_or from u.0 0) (get_or served u.0 0) places found.0 none found.1 (ordered.units u lt)))
          (λ v differs lt. subst (λ (n : ℕ). AllKeep v (get_or from v.0 0) n changed_places) (sym (others v differs)) (keep_begun_elsewhere u v differs (get_or from v.0 0) (get_or served v.0 0) places (ordered.units v lt)));
    }

others_stay : (u : UnitNo) (places : List Place) (from new served : List ℕ) → ((v : UnitNo) → u.0 ≢ v.0 → get_or new v.0 0 ≡ get_or from v.0 0) → ((v : UnitNo) → v.0 < 32 → AllKeep v (get_or from v.0 0) (get_or served v.0 0) places) → (v : UnitNo) → u.0 ≢ v.0 → v.0 < 32 → AllKeep v (get_or new v.0 0) (get_or served v.0 0) places
others_stay u places from new served others units v differs lt = subst (λ (n : ℕ). AllKeep v n (get_or served v.0 0) places) (sym (others v differs)) (units v lt)

pub settled_some : (u : UnitNo) (id : Id) (places : List Place) (next : ℕ) (from new served : List ℕ) → Some id ≡ option_map (λ y. y.id) (find (holds (waits_for u)) places) → (u.0 < 32 → get_or new u.0 0 ≡ id.0) → ((v : UnitNo) → u.0 ≢ v.0 → get_or new v.0 0 ≡ get_or from v.0 0) → IsOrdered next from served places → IsOrdered next new served places
settled_some u id places next from new served is here others ordered =
    let found = some_of id (find (holds (waits_for u)) places) is in
    record {
      rises = ordered.rises;
      units = by_unit (λ v. AllKeep v (get_or new v.0 0) (get_or served v.0 0) places) u
          (λ lt. subst (λ (n : ℕ). AllKeep u n (get_or served u.0 0) places) (ap (λ (i : Id). i.0) found.2 ∙ sym (here lt)) (keep_settled u (get_or from u.0 0) (get_or served u.0 0) 0 places next found.0 found.1 ordered.rises (ordered.units u lt)))
          (others_stay u places from new served others ordered.units);
    }

pub settled_none : (u : UnitNo) (places : List Place) (next : ℕ) (from new served : List ℕ) → None ≡ option_map (λ y. y.id) (find (holds (waits_for u)) places) → ((v : UnitNo) → u.0 ≢ v.0 → get_or new v.0 0 ≡ get_or from v.0 0) → IsOrdered next from served places → IsOrdered next new served places
settled_none u places next from new served is others ordered = record {
  rises = ordered.rises;
  units = by_unit (λ v. AllKeep v (get_or new v.0 0) (get_or served v.0 0) places) u
      (λ lt. keep_idle u (get_or from u.0 0) (get_or new u.0 0) (get_or served u.0 0) places (none_of (find (holds (waits_for u)) places) is) (ordered.units u lt))
      (others_stay u places from new served others ordered.units);
}

-- a request that leaves its place
pub ordered_emptied : (q : Place → Bool) (places : List Place) (next : ℕ) (from served : List ℕ) → IsOrdered next from served places → IsOrdered next from served (amend q emptied places)
ordered_emptied q places next from served ordered = record {
  rises = rises_amend q emptied (λ x. refl) (λ x own. tt) 0 places next ordered.rises;
  units = λ u lt. keep_amend q emptied u (get_or from u.0 0) (get_or served u.0 0) (λ x passes k. record { waits = λ _. refl; serves = λ _. refl }) places (ordered.units u lt);
}

marked_waits : (u : UnitNo) (i : Id) (o : Option Request) → holds (waits_for u) (changed with_abort (record { id = i; request = o })) ≡ holds (waits_for u) (record { id = i; request = o })
marked_waits u i None = refl
marked_waits u i (Some r) = refl

marked_serves : (u : UnitNo) (i : Id) (o : Option Request) → holds (is_served_by u) (changed with_abort (record { id = i; request = o })) ≡ holds (is_served_by u) (record { id = i; request = o })
marked_serves u i None = refl
marked_serves u i (Some r) = refl

-- a request that is marked
pub ordered_marked : (q : Place → Bool) (places : List Place) (next : ℕ) (from served : List ℕ) → IsOrdered next from served places → IsOrdered next from served (amend q (changed with_abort) places)
ordered_marked q places next from served ordered = record {
  rises = rises_amend q (changed with_abort) (λ x. refl) (own_changed with_abort (λ r. refl)) 0 places next ordered.rises;
  units = λ u lt. keep_amend q (changed with_abort) u (get_or from u.0 0) (get_or served u.0 0) (λ x passes k. record { waits = λ below. marked_waits u x.id x.request ∙ k.waits below; serves = λ differs. marked_serves u x.id x.request ∙ k.serves differs }) places (ordered.units u lt);
}

-- the places that are held
pub ordered_kept : (places : List Place) (next : ℕ) (from served : List ℕ) → IsOrdered next from served places → IsOrdered next from served (filter is_held places)
ordered_kept places next from served ordered = record {
  rises = rises_kept 0 places next ordered.rises;
  units = λ u lt. keep_kept u (get_or from u.0 0) (get_or served u.0 0) places (ordered.units u lt);
}
