-- The oldest read that waits at a mailbox is the first in the machine's list.
use Rattle.std.proofs.Common.{◌≡◌, ℕ, zero, suc, ◌+◌, ◌<◌, ◌≤◌, List, [], ◌∷◌, Bool, true, false, cond, ◌==◌, ◌&&◌, ◌||◌, nat_lt, Option, Some, None, refl, sym, ap, ◌∙◌, subst, arith, inl, inr, IsTrue, get_or, is_some}
use Rattle.std.proofs.lemmas.Bool.{eq-eqb, eqb-true, and_parts, cases_eq, ltb-true, ltb-false, false_from_ne_true, both_ways}
use Rattle.std.proofs.lemmas.Slice.Eq.{bytes_eq-Decides}
use Rattle.std.specs.List.{AllByRecursion, find, list_any}
use Rattle.std.specs.Prelude.{option_map, bytes_eq}
use Rattle.std.specs.Cmp.{both_ways as same_bools}
use Rattle.vx_record.specs.Types.{BoxNo, Device, Id, Mailbox, Request}
use Rattle.vx_base.specs.declared.effects.Effect.TheVariants as effect
use Rattle.vx_base.specs.declared.request.Device.TheVariants as device
use Rattle.vx_record.proofs.Lists.{either_by, all_weaker, all_from, all_find, none_passes, all_both, none_any, found_any}
use Rattle.vx_record.specs.Channels.{is_unit_of}
use Rattle.vx_record.specs.Finish.{this_request}
use Rattle.vx_record.specs.Mailboxes.{mailbox_at, is_box, is_waiting_func, waits_at}
use Rattle.vx_record.specs.Sound.{AreOrdered, request_id}
use Rattle.vx_record.specs.State.{State, box_at, no_unit_decl}
use Rattle.vx_record.proofs.Base.{Base}
use Rattle.vx_laws.proofs.Boxed.{Origin, origin, origin_of, origin_on, IsThere, Rooted, Boxed}
use Rattle.vx_record.proofs.Finds.{all_found}
use Rattle.vx_laws.proofs.Passing.{mailbox_is}
use Rattle.vx_laws.specs.Agrees.{device_title}
use Rattle.vx_laws.specs.Boxes.{is_at, asks, reads_at, oldest_read}
use Rattle.vx_laws.specs.Items.{Item, Head, Did}
use Rattle.vx_laws.specs.Lives.{Life, life, highest, is_outstanding, least_id, id_of}
use Rattle.vx_base.proofs.First.{found_passes}
use Rattle.std.proofs.lemmas.List.Folds.{list_any_at}
use Rattle.vx_base.specs.Lists.{is_some_and}

-- The least id that passes.

least_none : (test : Id → Bool) (n : ℕ) → ((k : ℕ) → 1 ≤ k → k ≤ n → test (id_of k) ≡ false) → least_id test n ≡ None
least_none test zero h = refl
least_none test (suc n) h = rw (least_none test n (λ k a b. h k a (omega (arith, b))), h (suc n) (omega arith) (omega arith)) refl

least_some : (test : Id → Bool) (n k : ℕ) → 1 ≤ k → k ≤ n → test (id_of k) ≡ true → ((j : ℕ) → 1 ≤ j → j < k → test (id_of j) ≡ false) → least_id test n ≡ Some (id_of k)
least_some test zero k a b t h = absurd (omega (arith, a, b))
least_some test (suc n) k a b t h =
    elim (cases_eq k (suc n)) [
      | inl same ↦ subst (λ (i : ℕ). least_id test (suc n) ≡ Some (id_of i)) (sym same) (rw (least_none test n (λ j c d. h j c (omega (arith, d, same))), subst (λ (i : ℕ). test (id_of i) ≡ true) same t) refl)
      | inr less ↦ rw (least_some test n k a (omega (arith, b, less)) t h) refl
    ]

-- An id that was opened is not above the highest.

at_least : (a b : ℕ) → a ≤ cond (nat_lt a b) b a
at_least a b = either_by (λ (n : ℕ). a ≤ n) (nat_lt a b) b a (λ t. let k = ltb-true a b t in omega (arith, k)) (λ f. omega arith)

at_least_this : (a b : ℕ) → b ≤ cond (nat_lt a b) b a
at_least_this a b = either_by (λ (n : ℕ). b ≤ n) (nat_lt a b) b a (λ t. omega arith) (λ f. let k = ltb-false a b f in omega (arith, k))

pub not_above : (past : List Item) (id : Id) (g : Origin) → origin_of past id ≡ Some g → id.0 ≤ highest past
not_above [] id g e = absurd (let never : None ≡ Some g = e in cc)
not_above (Did (effect.Open i kind p mode n) ∷ past) id g e =
    elim (cases_eq i.0 id.0) [
      | inl same ↦ let k = at_least_this (highest past) i.0 in omega (arith, k, same)
      | inr other ↦ let k = not_above past id g (sym (origin_on (Did (effect.Open i kind p mode n)) past id other) ∙ e) in let j = at_least (highest past) i.0 in omega (arith, k, j)
    ]
not_above (Head a b ∷ past) id g e = not_above past id g (sym (origin_on (Head a b) past id tt) ∙ e)
not_above (Did x ∷ past) id g e = not_above past id g (sym (origin_on (Did x) past id tt) ∙ e)

-- A device is the mailbox exactly where it has its name.

titled : (s : State) (past : List Item) (b : BoxNo) (box : Mailbox) (d : Device) → box_at s b ≡ Some box → IsThere s d → Boxed s past → bytes_eq (device_title s d) box.name ≡ is_box b d
titled s past b box (device.Unit u) is there h =
    false_from_ne_true _ (λ e. both_ways _ (h.boxes b box is).unit (list_any_at (is_unit_of box.name) s.system.units u.0 no_unit_decl there e))
titled s past b box (device.Mailbox c) is there h = by_box (box_at s c) refl there
  where
    by_box : (o : Option Mailbox) → box_at s c ≡ o → IsTrue (is_some o) → bytes_eq (mailbox_at s c).name box.name ≡ (b.0 == c.0)
    by_box None e k = absurd (let never : false ≡ true = k in cc)
    by_box (Some other) e k =
        let name : (mailbox_at s c).name ≡ other.name = ap (λ (x : Mailbox). x.name) (mailbox_is s c other e) in
        rw name (same_bools (bytes_eq other.name box.name) (b.0 == c.0)
        (λ t. eq-eqb b.0 c.0 (sym ((h.boxes b box is).alone c other e ((bytes_eq-Decides other.name box.name).0 t))))
        (λ t. let same : other.name ≡ box.name = (let one : Some other ≡ Some box = sym e ∙ (ap (λ (n : ℕ). get_or s.boxes n None) (sym (eqb-true b.0 c.0 t)) ∙ is) in let two : other ≡ box = cc in ap (λ (x : Mailbox). x.name) two) in (bytes_eq-Decides other.name box.name).1 same))

-- Reads that wait, by the records.

any_with : {A : Type 0} (p : A → Bool) (P : A → Type 0) (xs : List A) → list_any p xs ≡ true → AllByRecursion P xs → (x : A) × (p x ≡ true) × P x
any_with p P [] e h = absurd (let never : false ≡ true = e in cc)
any_with p P (x ∷ xs) e h = at (p x) refl (λ k. any_with p P xs k h.1) e
  where
    at : (b : Bool) → p x ≡ b → (list_any p xs ≡ true → (y : _) × (p y ≡ true) × P y) → (b || list_any p xs) ≡ true → (y : _) × (p y ≡ true) × P y
    at true is f k = (x, is, h.0)
    at false is f k = f k

reads_is : (s : State) (past : List Item) (b : BoxNo) (box : Mailbox) (r : Request) → box_at s b ≡ Some box → Rooted s past r → is_some_and is_outstanding (life past r.req.id) ≡ true → Boxed s past → is_some_and (reads_at box.name) (life past r.req.id) ≡ waits_at b r
reads_is s past b box r is root out h = by_life (life past r.req.id) root.is out
  where
    by_life : (o : Option Life) → option_map origin o ≡ Some (record { p = r.req.p; by = Some root.call; device = Some (device_title s r.req.device) }) → is_some_and is_outstanding o ≡ true → is_some_and (reads_at box.name) o ≡ waits_at b r
    by_life None e k = absurd (let never : false ≡ true = k in cc)
    by_life (Some l) e k =
        let g : Origin = record { p = r.req.p; by = Some root.call; device = Some (device_title s r.req.device) } in
        let it : origin l ≡ g = cc in
        let on : l.device ≡ Some (device_title s r.req.device) = ap (λ (x : Origin). x.device) it in
        let by : l.by ≡ Some root.call = ap (λ (x : Origin). x.by) it in
        let out_now : is_outstanding l ≡ true = k in
        let one : is_at box.name l.device ≡ is_box b r.req.device = ap (is_at box.name) on ∙ titled s past b box r.req.device is root.there h in
        let two : asks is_waiting_func l.by ≡ is_waiting_func r.req.func = ap (asks is_waiting_func) by ∙ ap is_waiting_func root.func in
        ap (λ (x : Bool). x && (is_at box.name l.device && asks is_waiting_func l.by)) out_now ∙ (ap (λ (x : Bool). x && asks is_waiting_func l.by) one ∙ ap (λ (x : Bool). is_box b r.req.device && x) two)

first_of_all : (p : Request → Bool) (low high : ℕ) (xs : List Request) (r : Request) → AreOrdered request_id low high xs → find p xs ≡ Some r → AllByRecursion (λ x. p x ≡ true → r.req.id.0 ≤ x.req.id.0) xs
first_of_all p low high [] r o e = tt
first_of_all p low high (x ∷ xs) r o e = at (p x) refl (λ k. first_of_all p (request_id x + 1) high xs r o.1 k) e
  where
    at : (b : Bool) → p x ≡ b → (find p xs ≡ Some r → AllByRecursion (λ x. p x ≡ true → r.req.id.0 ≤ x.req.id.0) xs) → cond b (Some x) (find p xs) ≡ Some r → (p x ≡ true → r.req.id.0 ≤ x.req.id.0) × AllByRecursion (λ x. p x ≡ true → r.req.id.0 ≤ x.req.id.0) xs
    at true is f k =
        let same : x ≡ r = cc in (
          (λ t. let e : x.req.id.0 ≡ r.req.id.0 = ap (λ (y : Request). y.req.id.0) same in omega (arith, e)),
          all_weaker (λ (y : Request). request_id x + 1 ≤ y.req.id.0) (λ (y : Request). p y ≡ true → r.req.id.0 ≤ y.req.id.0) (λ y low t. let e : x.req.id.0 ≡ r.req.id.0 = ap (λ (y : Request). y.req.id.0) same in omega (arith, e, low)) xs (all_from request_id (request_id x + 1) high xs o.1),
        )
    at false is f k = ((λ t. absurd (both_ways (p x) is t)), f k)

abbrev test_of : List Item → Mailbox → Id → Bool
test_of past box id = is_some_and (reads_at box.name) (life past id)

abbrev SameAs : State → List Item → BoxNo → Mailbox → Request → Type 0
SameAs s past b box r = (test_of past box r.req.id ≡ waits_at b r) × Rooted s past r

pub oldest_is : (s : State) (past : List Item) (b : BoxNo) (box : Mailbox) → box_at s b ≡ Some box → Base s → ((id : Id) → list_any (this_request id) s.requests ≡ is_some_and is_outstanding (life past id)) → Boxed s past →
    oldest_read past box.name ≡ option_map (λ (x : Request). x.req.id) (find (waits_at b) s.requests)
oldest_is s past b box is base listed h = by_first (find (waits_at b) s.requests) refl
  where
    opened_here : (id : Id) → (test_of past box) id ≡ true → list_any (this_request id) s.requests ≡ true
    opened_here id e = listed id ∙ out (life past id) e
      where
        out : (o : Option Life) → is_some_and (reads_at box.name) o ≡ true → is_some_and is_outstanding o ≡ true
        out None k = k
        out (Some l) k = (and_parts (is_outstanding l) _ k).0

    itself : (xs : List Request) (low : ℕ) → AreOrdered request_id low s.next xs → AllByRecursion (λ r. find (this_request r.req.id) xs ≡ Some r) xs
    itself xs low o = all_found request_id low s.next xs o

    all_same : AllByRecursion (SameAs s past b box) s.requests
    all_same =
        all_weaker (λ (r : Request). Rooted s past r × (find (this_request r.req.id) s.requests ≡ Some r)) (SameAs s past b box)
        (λ r k. (reads_is s past b box r is k.0 (sym (listed r.req.id) ∙ found_any (this_request r.req.id) s.requests r k.1) h, k.0)) s.requests
        (all_both (Rooted s past) (λ (r : Request). find (this_request r.req.id) s.requests ≡ Some r) s.requests h.requests (itself s.requests 0 base.requests))

    by_first : (o : Option Request) → find (waits_at b) s.requests ≡ o → oldest_read past box.name ≡ option_map (λ (x : Request). x.req.id) o
    by_first None e =
        least_none (test_of past box) (highest past)
        (λ k one low. false_from_ne_true ((test_of past box) (id_of k))
        (λ t.
        let found = any_with (this_request (id_of k)) (λ (r : Request). (SameAs s past b box) r × (waits_at b r ≡ false)) s.requests (opened_here (id_of k) t)
        (all_both (SameAs s past b box) (λ (r : Request). waits_at b r ≡ false) s.requests all_same (none_passes (waits_at b) s.requests (none_any (waits_at b) s.requests e))) in
        let same : found.0.req.id.0 ≡ k = eqb-true found.0.req.id.0 k found.1 in
        let yes : (test_of past box) found.0.req.id ≡ true = subst (λ (n : ℕ). (test_of past box) (id_of n) ≡ true) (sym same) t in
        both_ways (waits_at b found.0) found.2.1 (sym found.2.0.0 ∙ yes)))
    by_first (Some r) e =
        let mine = all_find (SameAs s past b box) (waits_at b) s.requests r all_same e in
        let waits = found_passes (waits_at b) s.requests r e in
        least_some (test_of past box) (highest past) r.req.id.0 mine.1.from (not_above past r.req.id _ mine.1.is) (mine.0 ∙ waits)
        (λ k one low. false_from_ne_true ((test_of past box) (id_of k))
        (λ t.
        let found = any_with (this_request (id_of k)) (λ (x : Request). (SameAs s past b box) x × (waits_at b x ≡ true → r.req.id.0 ≤ x.req.id.0)) s.requests (opened_here (id_of k) t)
        (all_both (SameAs s past b box) (λ (x : Request). waits_at b x ≡ true → r.req.id.0 ≤ x.req.id.0) s.requests all_same (first_of_all (waits_at b) 0 s.next s.requests r base.requests e)) in
        let same : found.0.req.id.0 ≡ k = eqb-true found.0.req.id.0 k found.1 in
        let yes : (test_of past box) found.0.req.id ≡ true = subst (λ (n : ℕ). (test_of past box) (id_of n) ≡ true) (sym same) t in
        let above = found.2.1 (sym found.2.0.0 ∙ yes) in
        omega (arith, above, same, low)))
