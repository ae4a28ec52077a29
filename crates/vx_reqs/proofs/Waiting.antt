-- The numbers from which reads wait at mailboxes, kept by each change.
use Rattle.std.proofs.Common.{◌≡◌, ◌≢◌, ℕ, ◌+◌, ◌<◌, ◌≤◌, ◌==◌, ◌&&◌, List, [], ◌∷◌, ◌++◌, Bool, true, false, cond, Option, Some, None, option_map, get_or, refl, ap, sym, subst, ◌∙◌, arith, eqb-true, eq-eqb, true≢false}
use Rattle.std.specs.List.{AllByRecursion, filter, find}
use Rattle.vx_base.specs.Lists.{amend}
use Rattle.vx_record.specs.Types.{BoxNo, Device, Func, Id, Req, Request}
use Rattle.vx_record.specs.Mailboxes.{is_box, is_waiting_func, waits_at}
use Rattle.vx_record.proofs.Lists.{all_amend, all_append, all_filter, all_weaker}
use Rattle.vx_reqs.specs.Places.{Place, holds, is_held, emptied, changed, AreFrom, IsFrom, Rises}
use Rattle.vx_reqs.proofs.Numbers.{none_in}
use Rattle.vx_reqs.proofs.Ordered.{none_of, some_of}
use Rattle.vx_reqs.proofs.Rising.{rises_from}

-- a request behind the others
pub reads_put : (places : List Place) (id : Id) (r : Request) (d : Device) (func : Func) (from lower : List ℕ) → r.req.device ≡ d → r.req.func ≡ func → ((b : BoxNo) → b.0 < 64 → (is_box b d && is_waiting_func func) ≡ true → get_or lower b.0 0 ≤ id.0) → ((b : BoxNo) → get_or lower b.0 0 ≤ get_or from b.0 0) → AreFrom from places → AreFrom lower (places ++ record { id = id; request = Some r } ∷ [])
reads_put places id r d func from lower on by here all reads b lt =
    let now = get_or lower b.0 0 in
    let old : AllByRecursion (IsFrom b now) places = all_weaker (IsFrom b (get_or from b.0 0)) (IsFrom b now) (λ x h below. h (omega (arith, below, all b))) places (reads b lt) in
    let new : IsFrom b now (record { id = id; request = Some r }) = λ below.
    ap (λ (e : Device). is_box b e && is_waiting_func r.req.func) on ∙ (ap (λ (f : Func). is_box b d && is_waiting_func f) by ∙ elim (is_box b d && is_waiting_func func) as (λ c. (is_box b d && is_waiting_func func) ≡ c → c ≡ false) [
      | true ↦ λ waits. let bound = here b lt waits in absurd (omega (arith, bound, below))
      | false ↦ λ waits. refl
    ] refl) in
    all_append (IsFrom b now) places (record { id = id; request = Some r } ∷ []) old (new, tt)

-- a request that leaves its place
pub reads_emptied : (q : Place → Bool) (places : List Place) (from : List ℕ) → AreFrom from places → AreFrom from (amend q emptied places)
reads_emptied q places from reads b lt = all_amend (IsFrom b (get_or from b.0 0)) q emptied (λ x h below. refl) places (reads b lt)

-- a request that is changed, but not what it asks
waits_still : (f : Request → Request) → ((r : Request) → (f r).req ≡ r.req) → (b : BoxNo) (i : Id) (o : Option Request) → holds (waits_at b) (changed f (record { id = i; request = o })) ≡ holds (waits_at b) (record { id = i; request = o })
waits_still f same b i None = refl
waits_still f same b i (Some r) = ap (λ (q : Req). is_box b q.device && is_waiting_func q.func) (same r)

pub reads_changed : (f : Request → Request) → ((r : Request) → (f r).req ≡ r.req) → (q : Place → Bool) (places : List Place) (from : List ℕ) → AreFrom from places → AreFrom from (amend q (changed f) places)
reads_changed f same q places from reads b lt = all_amend (IsFrom b (get_or from b.0 0)) q (changed f) (λ x h below. waits_still f same b x.id x.request ∙ h below) places (reads b lt)

-- the places that are held
pub reads_kept : (places : List Place) (from : List ℕ) → AreFrom from places → AreFrom from (filter is_held places)
reads_kept places from reads b lt = all_filter (IsFrom b (get_or from b.0 0)) is_held places (reads b lt)

-- A new number.

from_above : (b : BoxNo) (low : ℕ) (xs : List Place) (next : ℕ) → Rises low xs next → AllByRecursion (IsFrom b low) xs
from_above b low [] next rises = tt
from_above b low (x ∷ xs) next rises = (λ below. absurd (omega (arith, below, rises.1)), from_above b low xs next (rises_from low (x.id.0 + 1) xs next (omega (arith, rises.1)) rises.2))

from_found : (b : BoxNo) (low : ℕ) (xs : List Place) (next : ℕ) (y : Place) → Some y ≡ find (holds (waits_at b)) xs → Rises low xs next → AllByRecursion (IsFrom b y.id.0) xs
from_found b low [] next y found rises = tt
from_found b low (x ∷ xs) next y found rises =
    elim (holds (waits_at b) x) as (λ c. holds (waits_at b) x ≡ c → Some y ≡ cond c (Some x) (find (holds (waits_at b)) xs) → AllByRecursion (IsFrom b y.id.0) (x ∷ xs)) [
      | true ↦ λ waits is. let e : x ≡ y = cc in subst (λ (p : Place). AllByRecursion (IsFrom b p.id.0) (x ∷ xs)) e (from_above b x.id.0 (x ∷ xs) next (rises.0, omega arith, rises.2))
      | false ↦ λ waits is. (λ _. waits, from_found b (x.id.0 + 1) xs next y is rises.2)
    ] refl found

from_none : (b : BoxNo) (n : ℕ) (xs : List Place) → None ≡ find (holds (waits_at b)) xs → AllByRecursion (IsFrom b n) xs
from_none b n [] none = tt
from_none b n (x ∷ xs) none = let here = none_in (holds (waits_at b)) x xs none in (λ _. here.0, from_none b n xs here.1)

-- what holds of one mailbox and of the others
by_box : (P : BoxNo → Type 0) (b : BoxNo) → (b.0 < 64 → P b) → ((c : BoxNo) → b.0 ≢ c.0 → c.0 < 64 → P c) → (c : BoxNo) → c.0 < 64 → P c
by_box P b here elsewhere c lt =
    elim (b.0 == c.0) as (λ e. (b.0 == c.0) ≡ e → P c) [
      | true ↦ λ e.
          let same : b ≡ c = ap (λ (n : ℕ). let w : BoxNo = record { 0 = n } in w) (eqb-true b.0 c.0 e) in
          subst P same (here (omega (arith, eqb-true b.0 c.0 e, lt)))
      | false ↦ λ e. elsewhere c (λ s. true≢false (sym (eq-eqb b.0 c.0 s) ∙ e)) lt
    ] refl

module _ (b : BoxNo) (places : List Place) (from new : List ℕ) (others : (c : BoxNo) → b.0 ≢ c.0 → get_or new c.0 0 ≡ get_or from c.0 0) (reads : AreFrom from places) where
  elsewhere_still : (c : BoxNo) → b.0 ≢ c.0 → c.0 < 64 → AllByRecursion (IsFrom c (get_or new c.0 0)) places
  elsewhere_still c differs lt = subst (λ (n : ℕ). AllByRecursion (IsFrom c n) places) (sym (others c differs)) (reads c lt)

  pub settled_read : (id : Id) (next : ℕ) → Some id ≡ option_map (λ y. y.id) (find (holds (waits_at b)) places) → (b.0 < 64 → get_or new b.0 0 ≡ id.0) → Rises 0 places next → AreFrom new places
  settled_read id next is here rises =
      let found = some_of id (find (holds (waits_at b)) places) is in
      by_box (λ c. AllByRecursion (IsFrom c (get_or new c.0 0)) places) b
      (λ lt. subst (λ (n : ℕ). AllByRecursion (IsFrom b n) places) (ap (λ (i : Id). i.0) found.2 ∙ sym (here lt)) (from_found b 0 places next found.0 found.1 rises))
      elsewhere_still

  pub settled_no_read : None ≡ option_map (λ y. y.id) (find (holds (waits_at b)) places) → AreFrom new places
  settled_no_read is = by_box (λ c. AllByRecursion (IsFrom c (get_or new c.0 0)) places) b (λ lt. from_none b (get_or new b.0 0) places (none_of (find (holds (waits_at b)) places) is)) elsewhere_still

-- no number is below 0
pub from_first : (b : BoxNo) (n : ℕ) → n ≡ 0 → (places : List Place) → AllByRecursion (IsFrom b n) places
from_first b n zero [] = tt
from_first b n zero (x ∷ xs) = (λ below. absurd (omega (arith, zero, below)), from_first b n zero xs)
