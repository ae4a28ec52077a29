-- What the numbers of a unit say of places.
use mathlib.Core.Bool.{and-false}
use Rattle.std.proofs.Common.{◌≡◌, ◌≢◌, ℕ, ◌+◌, ◌<◌, ◌≤◌, ◌==◌, ◌&&◌, List, [], ◌∷◌, ◌++◌, Bool, true, false, cond, not, Option, Some, None, length, get_or, refl, ap, sym, subst, ◌∙◌, arith, suc, zero, eqb-true, ne_eqb}
use Rattle.std.specs.List.{filter, find}
use Rattle.std.proofs.lemmas.Bool.{and_parts}
use Rattle.vx_base.specs.Lists.{amend}
use Rattle.vx_record.specs.Types.{Device, Id, Request, UnitNo}
use Rattle.vx_base.specs.Queues.{is_on, is_unit, is_served_by, waits_for}
use Rattle.vx_base.specs.declared.request.Device.TheVariants as device
use Rattle.vx_reqs.specs.Places.{Place, holds, is_held, changed, Keeps, AllKeep, Rises}
use Rattle.vx_reqs.proofs.Rising.{rises_from}
use Rattle.vx_record.specs.Requests.{taken_up}

pub keep_at : (u : UnitNo) (from served : ℕ) (xs : List Place) → AllKeep u from served xs → (k : ℕ) (d : Place) → k < length xs → Keeps u from served (get_or xs k d)
keep_at u from served [] h k d lt = absurd (omega arith)
keep_at u from served (x ∷ xs) h zero d lt = h.0
keep_at u from served (x ∷ xs) h (suc k) d lt = keep_at u from served xs h.1 k d (omega arith)

pub keep_put : (u : UnitNo) (from served : ℕ) (xs : List Place) (x : Place) → AllKeep u from served xs → Keeps u from served x → AllKeep u from served (xs ++ x ∷ [])
keep_put u from served [] x h new = (new, tt)
keep_put u from served (y ∷ ys) x h new = (h.0, keep_put u from served ys x h.1 new)

pub keep_kept : (u : UnitNo) (from served : ℕ) (xs : List Place) → AllKeep u from served xs → AllKeep u from served (filter is_held xs)
keep_kept u from served [] h = tt
keep_kept u from served (x ∷ xs) h =
    let rest = keep_kept u from served xs h.1 in
    elim (is_held x) as (λ b. AllKeep u from served (cond b (x ∷ filter is_held xs) (filter is_held xs))) [
      | true ↦ (h.0, rest)
      | false ↦ rest
    ]

pub keep_amend : (q : Place → Bool) (g : Place → Place) (u : UnitNo) (from served : ℕ) → ((x : Place) → q x ≡ true → Keeps u from served x → Keeps u from served (g x)) → (xs : List Place) → AllKeep u from served xs → AllKeep u from served (amend q g xs)
keep_amend q g u from served keeps [] h = tt
keep_amend q g u from served keeps (x ∷ xs) h =
    elim (q x) as (λ b. q x ≡ b → AllKeep u from served (cond b (g x ∷ xs) (x ∷ amend q g xs))) [
      | true ↦ λ passes. (keeps x passes h.0, h.1)
      | false ↦ λ passes. (h.0, keep_amend q g u from served keeps xs h.1)
    ] refl

-- from a lower number on
pub keep_lower : (u : UnitNo) (lower from served : ℕ) → lower ≤ from → (xs : List Place) → AllKeep u from served xs → AllKeep u lower served xs
keep_lower u lower from served le [] h = tt
keep_lower u lower from served le (x ∷ xs) h = (record { waits = λ below. h.0.waits (omega (arith, below, le)); serves = h.0.serves }, keep_lower u lower from served le xs h.1)

pub none_in : {X : Type 0} (p : X → Bool) (x : X) (xs : List X) → None ≡ find p (x ∷ xs) → (p x ≡ false) × (None ≡ find p xs)
none_in p x xs e =
    elim (p x) as (λ b. p x ≡ b → None ≡ cond b (Some x) (find p xs) → (p x ≡ false) × (None ≡ find p xs)) [
      | true ↦ λ is found. absurd (cc)
      | false ↦ λ is found. (is, found)
    ] refl e

-- if the unit serves none, any number will do
pub keep_unserved : (u : UnitNo) (from served other : ℕ) (xs : List Place) → None ≡ find (holds (is_served_by u)) xs → AllKeep u from served xs → AllKeep u from other xs
keep_unserved u from served other [] none h = tt
keep_unserved u from served other (x ∷ xs) none h =
    let here = none_in (holds (is_served_by u)) x xs none in
    (record { waits = h.0.waits; serves = λ _. here.0 }, keep_unserved u from served other xs here.1 h.1)

no_wait : (u : UnitNo) (i : Id) (o : Option Request) → holds (waits_for u) (changed taken_up (record { id = i; request = o })) ≡ false
no_wait u i None = refl
no_wait u i (Some r) = and-false (is_on u r)

elsewhere : (u other : UnitNo) (d : Device) (b : Bool) → u.0 ≢ other.0 → (is_unit u d && b) ≡ true → (is_unit other d && true) ≡ false
elsewhere u other (device.Mailbox box) b differs on = refl
elsewhere u other (device.Unit v) b differs on =
    let here : u.0 ≡ v.0 = eqb-true u.0 v.0 (and_parts (u.0 == v.0) b on).0 in
    ap (λ (c : Bool). c && true) (ne_eqb other.0 v.0 (λ e. differs (here ∙ sym e)))

no_service : (u other : UnitNo) (i : Id) (o : Option Request) → u.0 ≢ other.0 → holds (waits_for u) (record { id = i; request = o }) ≡ true → holds (is_served_by other) (changed taken_up (record { id = i; request = o })) ≡ false
no_service u other i None differs on = refl
no_service u other i (Some r) differs on = elsewhere u other r.req.device (not r.served) differs on

-- the first that waits for a unit that serves none is served
pub keep_begun : (u : UnitNo) (from served : ℕ) (xs : List Place) (y : Place) → None ≡ find (holds (is_served_by u)) xs → Some y ≡ find (holds (waits_for u)) xs → AllKeep u from served xs → AllKeep u from y.id.0 (amend (holds (waits_for u)) (changed taken_up) xs)
keep_begun u from served [] y none found h = tt
keep_begun u from served (x ∷ xs) y none found h =
    let here = none_in (holds (is_served_by u)) x xs none in
    elim (holds (waits_for u) x) as (λ b. Some y ≡ cond b (Some x) (find (holds (waits_for u)) xs) → AllKeep u from y.id.0 (cond b (changed taken_up x ∷ xs) (x ∷ amend (holds (waits_for u)) (changed taken_up) xs))) [
      | true ↦ λ is. let e : y ≡ x = cc in (record { waits = λ _. no_wait u x.id x.request; serves = λ differs. absurd (differs (ap (λ (p : Place). p.id.0) (sym e))) }, keep_unserved u from served y.id.0 xs here.1 h.1)
      | false ↦ λ is. (record { waits = h.0.waits; serves = λ _. here.0 }, keep_begun u from served xs y here.1 is h.1)
    ] found

-- and to the other units nothing changes
pub keep_begun_elsewhere : (u other : UnitNo) → u.0 ≢ other.0 → (from served : ℕ) (xs : List Place) → AllKeep other from served xs → AllKeep other from served (amend (holds (waits_for u)) (changed taken_up) xs)
keep_begun_elsewhere u other differs from served xs h = keep_amend (holds (waits_for u)) (changed taken_up) other from served (λ x on k. record { waits = λ _. no_wait other x.id x.request; serves = λ _. no_service u other x.id x.request differs on }) xs h

-- with a new number, from the first that waits on
pub keep_above : (u : UnitNo) (from served : ℕ) (low : ℕ) (xs : List Place) (next : ℕ) → Rises low xs next → AllKeep u from served xs → AllKeep u low served xs
keep_above u from served low [] next rises h = tt
keep_above u from served low (x ∷ xs) next rises h = (record { waits = λ below. absurd (omega (arith, below, rises.1)); serves = h.0.serves }, keep_above u from served low xs next (rises_from low (x.id.0 + 1) xs next (omega (arith, rises.1)) rises.2) h.1)

pub keep_settled : (u : UnitNo) (from served : ℕ) (low : ℕ) (xs : List Place) (next : ℕ) (y : Place) → Some y ≡ find (holds (waits_for u)) xs → Rises low xs next → AllKeep u from served xs → AllKeep u y.id.0 served xs
keep_settled u from served low [] next y found rises h = tt
keep_settled u from served low (x ∷ xs) next y found rises h =
    elim (holds (waits_for u) x) as (λ b. holds (waits_for u) x ≡ b → Some y ≡ cond b (Some x) (find (holds (waits_for u)) xs) → AllKeep u y.id.0 served (x ∷ xs)) [
      | true ↦ λ passes is. let e : x ≡ y = cc in subst (λ (p : Place). AllKeep u p.id.0 served (x ∷ xs)) e (keep_above u from served x.id.0 (x ∷ xs) next (rises.0, omega arith, rises.2) h)
      | false ↦ λ passes is. (record { waits = λ _. passes; serves = h.0.serves }, keep_settled u from served (x.id.0 + 1) xs next y is rises.2 h.1)
    ] refl found

pub keep_idle : (u : UnitNo) (from other served : ℕ) (xs : List Place) → None ≡ find (holds (waits_for u)) xs → AllKeep u from served xs → AllKeep u other served xs
keep_idle u from other served [] none h = tt
keep_idle u from other served (x ∷ xs) none h =
    let here = none_in (holds (waits_for u)) x xs none in
    (record { waits = λ _. here.0; serves = h.0.serves }, keep_idle u from other served xs here.1 h.1)
