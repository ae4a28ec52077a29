-- A unit holds what it held at a BEG, and the request is the one that was taken up, for as long as that request is outstanding.
use Rattle.std.proofs.Common.{◌≡◌, ◌≢◌, ◌⊎◌, inl, inr, ℕ, ◌+◌, ◌≤◌, List, [], ◌∷◌, Bool, true, false, cond, ◌==◌, not, Option, Some, None, is_some, option_map, refl, sym, ap, ◌∙◌, subst, arith}
use Rattle.std.specs.List.{AllByRecursion, find, list_any}
use Rattle.std.proofs.lemmas.Bool.{and_parts, eq-eqb, eqb-true, false_from_ne_true, and_right}
use Rattle.vx_base.specs.Lists.{less}
use Rattle.vx_record.specs.Types.{Device, DeviceUnit, Event, Id, Pid, Queued, Req, Request, UnitNo}
use Rattle.vx_base.specs.Queues.{front, in_service, is_on, is_served_by, is_unit, waits_for}
use Rattle.vx_base.specs.Serving.{serve, settled}
use Rattle.vx_base.specs.declared.record.Event.TheVariants as event
use Rattle.vx_base.specs.declared.request.Device.TheVariants as device
use Rattle.vx_record.specs.Asts.{deliverable_ast}
use Rattle.vx_record.specs.Events.{beg, delivered, don, started, step}
use Rattle.vx_record.specs.Finish.{this_request}
use Rattle.vx_record.specs.Requests.{begun, taken_up, unit_ending, with_unit}
use Rattle.vx_record.specs.Rundown.{without_ast}
use Rattle.vx_record.specs.Sound.{request_id, AreOrdered}
use Rattle.vx_record.specs.State.{State, change, unit_at}
use Rattle.vx_record.proofs.Apart.{requests_found}
use Rattle.vx_record.proofs.Base.{Base}
use Rattle.vx_record.proofs.Cancelled.{finish_requests}
use Rattle.vx_record.proofs.Lists.{all_both, all_find, all_weaker, none_passes, removed, found_any, none_found}
use Rattle.vx_record.proofs.Along.{beg_base, step_base}
use Rattle.vx_record.proofs.Moves.{HasRequest}
use Rattle.vx_record.proofs.Steps.{IsThere, is_headed}
use Rattle.vx_record.proofs.Told.{started_moves, step_moves}
use Rattle.vx_carrier.proofs.Lasting.{HoldOfAll, Lasts, moves_hold}
use Rattle.vx_carrier.proofs.Listed.{amended_first, amended_found, not_found}
use Rattle.vx_record.proofs.Fixed.{Spares, step_keeps_unit}
use Rattle.vx_base.proofs.First.{found_passes, amend_found}
use Rattle.std.proofs.lemmas.Option.{same_Some}

-- What lasts, along an event that is no BEG.

abbrev pub is_beg : Event → Bool
is_beg (event.Beg u) = true
is_beg e = false

ast_holds : (n : ℕ) (P : Request → Type 0) → Lasts n P → (s : State) (p : Pid) (o : Option Queued) → HoldOfAll n P s → HoldOfAll n P (delivered s p o).after
ast_holds n P w s p None h = h
ast_holds n P w s p (Some q) h =
    let t = change s p (without_ast q.id) in
    moves_hold {refs = false} n P w t None (started t p q q.tag).effects (started t p q q.tag).after None (started_moves t p q q.tag) (record { above = h.above; all = h.all })

moved_holds : (n : ℕ) (P : Request → Type 0) → Lasts n P → (s : State) (e : Event) → is_headed e ≡ false → IsThere s e → Base s → HoldOfAll n P s → HoldOfAll n P (step s e).after
moved_holds n P w s e other m b h = moves_hold {refs = false} n P w s None (step s e).effects (step s e).after None (step_moves s e other m b) h

step_holds : (n : ℕ) (P : Request → Type 0) → Lasts n P → (s : State) (e : Event) → is_beg e ≡ false → IsThere s e → Base s → HoldOfAll n P s → HoldOfAll n P (step s e).after
step_holds n P w s (event.Run p) f m b h = moved_holds n P w s (event.Run p) refl m b h
step_holds n P w s (event.Ast p) f m b h = ast_holds n P w s p (deliverable_ast s p) h
step_holds n P w s (event.Rdn p) f m b h = moved_holds n P w s (event.Rdn p) refl m b h
step_holds n P w s (event.Beg u) f m b h = absurd (let never : true ≡ false = f in cc)
step_holds n P w s (event.Don u) f m b h = moved_holds n P w s (event.Don u) refl m b h
step_holds n P w s event.Tick f m b h = moved_holds n P w s event.Tick refl m b h

-- A BEG: the front request alone is taken up.

front_waits : (u : UnitNo) (xs : List Request) (r : Request) → front u xs ≡ Some r → (list_any (is_served_by u) xs ≡ false) × (find (waits_for u) xs ≡ Some r)
front_waits u xs r e = at (list_any (is_served_by u) xs) refl e
  where
    at : (b : Bool) → list_any (is_served_by u) xs ≡ b → cond b None (find (waits_for u) xs) ≡ Some r → (list_any (is_served_by u) xs ≡ false) × (find (waits_for u) xs ≡ Some r)
    at true t f = absurd (let never : None ≡ Some r = f in cc)
    at false t f = (t, f)

-- the request at the front has its id alone
front_has : (s : State) (u : UnitNo) (r : Request) → Base s → front u s.requests ≡ Some r → HasRequest s r
front_has s u r b e = all_find (HasRequest s) (waits_for u) s.requests r (requests_found s b) (front_waits u s.requests r e).1

beg_holds : (n : ℕ) (P : Request → Type 0) (s : State) (v : UnitNo) → Base s → ((r : Request) → front v s.requests ≡ Some r → P r → P (taken_up r)) → HoldOfAll n P s → HoldOfAll n P (step s (event.Beg v)).after
beg_holds n P s v b k h = at (front v s.requests) refl
  where
    at : (o : Option Request) → front v s.requests ≡ o → HoldOfAll n P (beg s o).after
    at None e = h
    at (Some r) e =
        let has = front_has s v r b e in
        record {
          above = h.above;
          all = amend_found P (this_request r.req.id) taken_up s.requests r has (k r e (all_find P (this_request r.req.id) s.requests r h.all has)) h.all;
        }

-- Which unit a request is on.

same_unit_no : (u v : UnitNo) (d : Device) → is_unit u d ≡ true → is_unit v d ≡ true → v.0 ≡ u.0
same_unit_no u v (device.Unit w) e f = eqb-true v.0 w.0 f ∙ sym (eqb-true u.0 w.0 e)
same_unit_no u v (device.Mailbox b) e f = absurd (let never : false ≡ true = e in cc)

served_on : (u : UnitNo) (r : Request) → is_served_by u r ≡ true → is_on u r ≡ true
served_on u r e = (and_parts (is_on u r) r.served e).0

waits_on : (u : UnitNo) (r : Request) → waits_for u r ≡ true → is_on u r ≡ true
waits_on u r e = (and_parts (is_on u r) (not r.served) e).0

unserved : (u : UnitNo) (r : Request) → r.served ≡ false → is_served_by u r ≡ false
unserved u r f = and_right (is_on u r) r.served f

-- No service of a unit begins but by its BEG.

-- nothing is served at the unit
abbrev IsIdleAt : UnitNo → Request → Type 0
IsIdleAt u r = is_served_by u r ≡ false

idle_lasts : (u : UnitNo) → Lasts 0 (IsIdleAt u)
idle_lasts u = record { marked = λ r h. h; opened = λ r above free. unserved u r free }

-- an event begins no service of the unit
abbrev pub BeginsNone : Event → UnitNo → Type 0
BeginsNone (event.Beg v) u = v.0 ≢ u.0
BeginsNone e u = Unit {0}

front_on : (s : State) (v : UnitNo) (r : Request) → front v s.requests ≡ Some r → is_on v r ≡ true
front_on s v r e = waits_on v r (found_passes (waits_for v) s.requests r (front_waits v s.requests r e).1)

idle_step : (u : UnitNo) (s : State) (e : Event) → BeginsNone e u → IsThere s e → Base s → HoldOfAll 0 (IsIdleAt u) s → HoldOfAll 0 (IsIdleAt u) (step s e).after
idle_step u s (event.Run p) k m b h = step_holds 0 (IsIdleAt u) (idle_lasts u) s (event.Run p) refl m b h
idle_step u s (event.Ast p) k m b h = step_holds 0 (IsIdleAt u) (idle_lasts u) s (event.Ast p) refl m b h
idle_step u s (event.Rdn p) k m b h = step_holds 0 (IsIdleAt u) (idle_lasts u) s (event.Rdn p) refl m b h
idle_step u s (event.Beg v) k m b h =
    beg_holds 0 (IsIdleAt u) s v b
    (λ r e i. false_from_ne_true (is_served_by u (taken_up r)) (λ on. k (same_unit_no u v r.req.device (served_on u (taken_up r) on) (front_on s v r e)))) h
idle_step u s (event.Don v) k m b h = step_holds 0 (IsIdleAt u) (idle_lasts u) s (event.Don v) refl m b h
idle_step u s event.Tick k m b h = step_holds 0 (IsIdleAt u) (idle_lasts u) s event.Tick refl m b h

-- a unit that serves a request after an event that begins none serves one before it
pub serves_before : (u : UnitNo) (s : State) (e : Event) → BeginsNone e u → IsThere s e → Base s → is_some (in_service u (step s e).after.requests) ≡ true → is_some (in_service u s.requests) ≡ true
serves_before u s e k m b h = at (in_service u s.requests) refl
  where
    at : (o : Option Request) → in_service u s.requests ≡ o → is_some o ≡ true
    at (Some r) i = refl
    at None i =
        let idle : HoldOfAll 0 (IsIdleAt u) (step s e).after = idle_step u s e k m b (record { above = omega arith; all = none_found (is_served_by u) s.requests i }) in
        let none : in_service u (step s e).after.requests ≡ None = not_found (is_served_by u) (step s e).after.requests idle.all in
        absurd (let never : false ≡ true = sym (ap is_some none) ∙ h in cc)

-- The service of a request.

-- no request has this id
abbrev IsOther : ℕ → Request → Type 0
IsOther q r = request_id r ≢ q

-- one with the id of r0 is r0, and is served; and what is served at the unit has this id
record IsOnly (u : UnitNo) (r0 : Req) (r : Request) : Type 0 where
  same : request_id r ≡ r0.id.0 → (r.req ≡ r0) × (r.served ≡ true)
  alone : is_served_by u r ≡ true → request_id r ≡ r0.id.0

other_lasts : (q : ℕ) → Lasts (q + 1) (IsOther q)
other_lasts q = record { marked = λ r h. h; opened = λ r above free e. absurd (omega (arith, above)) }

only_lasts : (u : UnitNo) (r0 : Req) → Lasts (r0.id.0 + 1) (IsOnly u r0)
only_lasts u r0 = record {
  marked = λ r h. record { same = h.same; alone = h.alone };
  opened = λ r above free. record { same = λ e. absurd (omega (arith, above)); alone = λ on. absurd (let off = unserved u r free in let never : true ≡ false = sym on ∙ off in cc) };
}

-- the unit serves r0, and holds what it held
record IsServing (u : UnitNo) (r0 : Req) (held : DeviceUnit) (s : State) : Type 0 where
  only : AllByRecursion (IsOnly u r0) s.requests
  unit : unit_at s u ≡ held
  serves : is_some (in_service u s.requests) ≡ true

-- the service of r0 at the unit has begun: it is done, or it goes on
pub record HasBegun (u : UnitNo) (r0 : Req) (held : DeviceUnit) (s : State) : Type 0 where
  on : is_unit u r0.device ≡ true
  pub base : Base s
  above : r0.id.0 + 1 ≤ s.next
  course : AllByRecursion (IsOther r0.id.0) s.requests ⊎ IsServing u r0 held s

-- a request that is r0 and served is served at the unit
served_at : (u : UnitNo) (r0 : Req) (r : Request) → is_unit u r0.device ≡ true → r.req ≡ r0 → r.served ≡ true → is_served_by u r ≡ true
served_at u r0 r on e f = rw (ap (λ (x : Req). is_unit u x.device) e ∙ on, f) refl

gone_if : (u : UnitNo) (r0 : Req) (r : Request) → is_unit u r0.device ≡ true → IsOnly u r0 r × (is_served_by u r ≡ false) → IsOther r0.id.0 r
gone_if u r0 r on h e =
    let k = h.0.same e in
    let yes = served_at u r0 r on k.0 k.1 in
    (let never : true ≡ false = sym yes ∙ h.1 in cc)

-- of a state in which only r0 is served: it goes on, or it is done
course_of : (u : UnitNo) (r0 : Req) (held : DeviceUnit) (s : State) → is_unit u r0.device ≡ true → AllByRecursion (IsOnly u r0) s.requests → unit_at s u ≡ held → AllByRecursion (IsOther r0.id.0) s.requests ⊎ IsServing u r0 held s
course_of u r0 held s on only unit = at (in_service u s.requests) refl
  where
    at : (o : Option Request) → in_service u s.requests ≡ o → AllByRecursion (IsOther r0.id.0) s.requests ⊎ IsServing u r0 held s
    at (Some r) e = inr (record { only = only; unit = unit; serves = ap is_some e })
    at None e =
        inl (all_weaker (λ r. IsOnly u r0 r × (is_served_by u r ≡ false)) (IsOther r0.id.0) (λ r h. gone_if u r0 r on h) s.requests
        (all_both (IsOnly u r0) (λ r. is_served_by u r ≡ false) s.requests only (none_found (is_served_by u) s.requests e)))

-- What it comes to by an event.

-- the DON of the unit ends it
don_ends : (u : UnitNo) (r0 : Req) (held : DeviceUnit) (s : State) → Base s → IsServing u r0 held s → AllByRecursion (IsOther r0.id.0) (step s (event.Don u)).after.requests
don_ends u r0 held s b h = at (in_service u s.requests) refl
  where
    at : (o : Option Request) → in_service u s.requests ≡ o → AllByRecursion (IsOther r0.id.0) (don s u o).after.requests
    at None e = absurd (let never : false ≡ true = sym (ap is_some e) ∙ h.serves in cc)
    at (Some r) e =
        let here : IsOnly u r0 r = all_find (IsOnly u r0) (is_served_by u) s.requests r h.only e in
        let same : request_id r ≡ r0.id.0 = here.alone (found_passes (is_served_by u) s.requests r e) in
        let x = settled (unit_at s u) r.req in
        let gone : AllByRecursion (IsOther r.req.id.0) (less (this_request r.req.id) s.requests) = removed request_id r.req.id.0 0 s.next s.requests b.requests in
        subst (λ (n : ℕ). AllByRecursion (IsOther n) (don s u (Some r)).after.requests) same
        (subst (AllByRecursion (IsOther r.req.id.0)) (sym (finish_requests (with_unit s u x) r (unit_ending r (serve (unit_at s u) r.req).reply))) gone)

-- the unit that serves has no BEG
beg_elsewhere : (u v : UnitNo) (r0 : Req) (held : DeviceUnit) (s : State) (r : Request) → IsServing u r0 held s → front v s.requests ≡ Some r → v.0 ≢ u.0
beg_elsewhere u v r0 held s r h e same =
    let are : v ≡ u = ap (λ (n : ℕ). record { 0 = n }) same in
    let f = front_waits u s.requests r (subst (λ (w : UnitNo). front w s.requests ≡ Some r) are e) in
    at (in_service u s.requests) refl f.0
  where
    at : (o : Option Request) → in_service u s.requests ≡ o → list_any (is_served_by u) s.requests ≡ false → ⊥
    at None i f = (let never : false ≡ true = sym (ap is_some i) ∙ h.serves in cc)
    at (Some x) i f = (let never : true ≡ false = sym (found_any (is_served_by u) s.requests x i) ∙ f in cc)

others_after : (q : ℕ) (s : State) (e : Event) → IsThere s e → Base s → q + 1 ≤ s.next → AllByRecursion (IsOther q) s.requests → HoldOfAll (q + 1) (IsOther q) (step s e).after
others_after q s (event.Run p) m b n h = step_holds (q + 1) (IsOther q) (other_lasts q) s (event.Run p) refl m b (record { above = n; all = h })
others_after q s (event.Ast p) m b n h = step_holds (q + 1) (IsOther q) (other_lasts q) s (event.Ast p) refl m b (record { above = n; all = h })
others_after q s (event.Rdn p) m b n h = step_holds (q + 1) (IsOther q) (other_lasts q) s (event.Rdn p) refl m b (record { above = n; all = h })
others_after q s (event.Beg v) m b n h = beg_holds (q + 1) (IsOther q) s v b (λ r e i. i) (record { above = n; all = h })
others_after q s (event.Don v) m b n h = step_holds (q + 1) (IsOther q) (other_lasts q) s (event.Don v) refl m b (record { above = n; all = h })
others_after q s event.Tick m b n h = step_holds (q + 1) (IsOther q) (other_lasts q) s event.Tick refl m b (record { above = n; all = h })

taken_elsewhere : (u v : UnitNo) (r0 : Req) (r : Request) → v.0 ≢ u.0 → is_on v r ≡ true → IsOnly u r0 r → IsOnly u r0 (taken_up r)
taken_elsewhere u v r0 r apart here h = record {
  same = λ e. ((h.same e).0, refl);
  alone = λ on. absurd (apart (same_unit_no u v r.req.device (served_on u (taken_up r) on) here));
}

only_after : (u : UnitNo) (r0 : Req) (held : DeviceUnit) (s : State) (e : Event) → IsThere s e → Base s → r0.id.0 + 1 ≤ s.next → IsServing u r0 held s → HoldOfAll (r0.id.0 + 1) (IsOnly u r0) (step s e).after
only_after u r0 held s (event.Run p) m b n h = step_holds _ (IsOnly u r0) (only_lasts u r0) s (event.Run p) refl m b (record { above = n; all = h.only })
only_after u r0 held s (event.Ast p) m b n h = step_holds _ (IsOnly u r0) (only_lasts u r0) s (event.Ast p) refl m b (record { above = n; all = h.only })
only_after u r0 held s (event.Rdn p) m b n h = step_holds _ (IsOnly u r0) (only_lasts u r0) s (event.Rdn p) refl m b (record { above = n; all = h.only })
only_after u r0 held s (event.Beg v) m b n h = beg_holds (r0.id.0 + 1) (IsOnly u r0) s v b (λ r e i. taken_elsewhere u v r0 r (beg_elsewhere u v r0 held s r h e) (front_on s v r e) i) (record { above = n; all = h.only })
only_after u r0 held s (event.Don v) m b n h = step_holds _ (IsOnly u r0) (only_lasts u r0) s (event.Don v) refl m b (record { above = n; all = h.only })
only_after u r0 held s event.Tick m b n h = step_holds _ (IsOnly u r0) (only_lasts u r0) s event.Tick refl m b (record { above = n; all = h.only })

-- what spares the unit
goes_on : (u : UnitNo) (r0 : Req) (held : DeviceUnit) (s : State) (e : Event) → Spares e u → is_unit u r0.device ≡ true → IsThere s e → Base s → r0.id.0 + 1 ≤ s.next → IsServing u r0 held s
    → AllByRecursion (IsOther r0.id.0) (step s e).after.requests ⊎ IsServing u r0 held (step s e).after
goes_on u r0 held s e spares on m b n h = course_of u r0 held (step s e).after on (only_after u r0 held s e m b n h).all (step_keeps_unit s e u spares ∙ h.unit)

ends_or_on : (u v : UnitNo) (r0 : Req) (held : DeviceUnit) (s : State) (b : Bool) → (u.0 == v.0) ≡ b → is_unit u r0.device ≡ true → Base s → r0.id.0 + 1 ≤ s.next → IsServing u r0 held s
    → AllByRecursion (IsOther r0.id.0) (step s (event.Don v)).after.requests ⊎ IsServing u r0 held (step s (event.Don v)).after
ends_or_on u v r0 held s true t on b n h =
    let are : u ≡ v = ap (λ (n : ℕ). record { 0 = n }) (eqb-true u.0 v.0 t) in
    inl (subst (λ (w : UnitNo). AllByRecursion (IsOther r0.id.0) (step s (event.Don w)).after.requests) are (don_ends u r0 held s b h))
ends_or_on u v r0 held s false t on b n h = goes_on u r0 held s (event.Don v) (λ same. let yes : (u.0 == v.0) ≡ true = eq-eqb u.0 v.0 same in let never : true ≡ false = sym yes ∙ t in cc) on tt b n h

course_step : (u : UnitNo) (r0 : Req) (held : DeviceUnit) (s : State) (e : Event) → is_unit u r0.device ≡ true → IsThere s e → Base s → r0.id.0 + 1 ≤ s.next → IsServing u r0 held s
    → AllByRecursion (IsOther r0.id.0) (step s e).after.requests ⊎ IsServing u r0 held (step s e).after
course_step u r0 held s (event.Run p) on m b n h = goes_on u r0 held s (event.Run p) tt on m b n h
course_step u r0 held s (event.Ast p) on m b n h = goes_on u r0 held s (event.Ast p) tt on m b n h
course_step u r0 held s (event.Rdn p) on m b n h = goes_on u r0 held s (event.Rdn p) tt on m b n h
course_step u r0 held s (event.Beg v) on m b n h = goes_on u r0 held s (event.Beg v) tt on m b n h
course_step u r0 held s (event.Don v) on m b n h = ends_or_on u v r0 held s (u.0 == v.0) refl on b n h
course_step u r0 held s event.Tick on m b n h = goes_on u r0 held s event.Tick tt on m b n h

course_after : (u : UnitNo) (r0 : Req) (held : DeviceUnit) (s : State) (e : Event) → IsThere s e → HasBegun u r0 held s → AllByRecursion (IsOther r0.id.0) s.requests ⊎ IsServing u r0 held s → HasBegun u r0 held (step s e).after
course_after u r0 held s e m k (inl gone) =
    let after = others_after r0.id.0 s e m k.base k.above gone in
    record { on = k.on; base = step_base s e m k.base; above = after.above; course = inl after.all }
course_after u r0 held s e m k (inr h) = record {
  on = k.on;
  base = step_base s e m k.base;
  above = (only_after u r0 held s e m k.base k.above h).above;
  course = course_step u r0 held s e k.on m k.base k.above h;
}

pub begun_step : (u : UnitNo) (r0 : Req) (held : DeviceUnit) (s : State) (e : Event) → IsThere s e → HasBegun u r0 held s → HasBegun u r0 held (step s e).after
begun_step u r0 held s e m k = course_after u r0 held s e m k k.course

-- The BEG.

below : (high : ℕ) (xs : List Request) (low : ℕ) → AreOrdered request_id low high xs → (low ≤ high) × AllByRecursion (λ r. request_id r + 1 ≤ high) xs
below high [] low h = (h, tt)
below high (x ∷ xs) low h = let k = below high xs (request_id x + 1) h.1 in (omega (arith, h.0, k.0), (k.0, k.1))

same_found : (s : State) (r x : Request) → find (this_request r.req.id) s.requests ≡ Some r → HasRequest s x → request_id x ≡ request_id r → x ≡ r
same_found s r x at has e =
    let are : x.req.id ≡ r.req.id = ap (λ (n : ℕ). record { 0 = n }) e in
    same_Some x r (sym has ∙ ap (λ (i : Id). find (this_request i) s.requests) are ∙ at)

-- at its BEG the front request is the only one that the unit serves
pub begun_at : (s : State) (u : UnitNo) (r : Request) → Base s → front u s.requests ≡ Some r → HasBegun u r.req (unit_at s u) (step s (event.Beg u)).after
begun_at s u r b e =
    let f = front_waits u s.requests r e in
    let has = front_has s u r b e in
    let t = begun s r in
    let base : Base t = beg_base s (Some r) b in
    let found : find (this_request r.req.id) t.requests ≡ Some (taken_up r) = amended_found (this_request r.req.id) taken_up s.requests r has (eq-eqb r.req.id.0 r.req.id.0 refl) in
    let idle : AllByRecursion (λ x. is_served_by u x ≡ false) s.requests = none_found (is_served_by u) s.requests (idle_unit f.0) in
    let alone : AllByRecursion (λ x. is_served_by u x ≡ true → request_id x ≡ r.req.id.0) t.requests =
    amend_found (λ x. is_served_by u x ≡ true → request_id x ≡ r.req.id.0) (this_request r.req.id) taken_up s.requests r has (λ on. refl)
    (all_weaker (λ x. is_served_by u x ≡ false) (λ x. is_served_by u x ≡ true → request_id x ≡ r.req.id.0) (λ x off on. absurd (let never : true ≡ false = sym on ∙ off in cc)) s.requests idle) in
    let only : AllByRecursion (IsOnly u r.req) t.requests =
    all_weaker (λ x. HasRequest t x × (is_served_by u x ≡ true → request_id x ≡ r.req.id.0)) (IsOnly u r.req)
    (λ x h. record { same = λ q. (let is = same_found t (taken_up r) x found h.0 q in (ap (λ (y : Request). y.req) is, ap (λ (y : Request). y.served) is)); alone = h.1 }) t.requests
    (all_both (HasRequest t) (λ x. is_served_by u x ≡ true → request_id x ≡ r.req.id.0) t.requests (requests_found t base) alone) in
    let begun_is : HasBegun u r.req (unit_at s u) t = record {
      on = front_on s u r e;
      base = base;
      above = all_find (λ x. request_id x + 1 ≤ s.next) (waits_for u) s.requests r (below s.next s.requests 0 b.requests).1 f.1;
      course = course_of u r.req (unit_at s u) t (front_on s u r e) only refl;
    } in
    subst (λ (o : Option Request). HasBegun u r.req (unit_at s u) (beg s o).after) (sym e) begun_is
  where
    idle_unit : list_any (is_served_by u) s.requests ≡ false → in_service u s.requests ≡ None
    idle_unit f = not_found (is_served_by u) s.requests (none_passes (is_served_by u) s.requests f)

-- What is in service is what was taken up, and the unit holds what it held.
pub still : (u : UnitNo) (r0 : Req) (held : DeviceUnit) (s : State) (r : Request) → HasBegun u r0 held s → in_service u s.requests ≡ Some r → request_id r ≡ r0.id.0 → (r.req ≡ r0) × (unit_at s u ≡ held)
still u r0 held s r k e same = at k.course
  where
    at : AllByRecursion (IsOther r0.id.0) s.requests ⊎ IsServing u r0 held s → (r.req ≡ r0) × (unit_at s u ≡ held)
    at (inl gone) = absurd (all_find (IsOther r0.id.0) (is_served_by u) s.requests r gone e same)
    at (inr h) = (((all_find (IsOnly u r0) (is_served_by u) s.requests r h.only e).same same).0, h.unit)

-- it serves the request then
pub begun_serves : (s : State) (u : UnitNo) (r : Request) → Base s → front u s.requests ≡ Some r → in_service u (step s (event.Beg u)).after.requests ≡ Some (taken_up r)
begun_serves s u r b e =
    let f = front_waits u s.requests r e in
    let served : is_served_by u (taken_up r) ≡ true = rw (front_on s u r e) refl in
    subst (λ (o : Option Request). in_service u (beg s o).after.requests ≡ Some (taken_up r)) (sym e)
    (amended_first (is_served_by u) (this_request r.req.id) taken_up s.requests r (front_has s u r b e) served (none_passes (is_served_by u) s.requests f.0))

-- After the DON of the unit it serves none: what is served there has the id of the request, and no request has it then.
none_left : (u : UnitNo) (r0 : Req) (t : State) (o : Option Request) → in_service u t.requests ≡ o → AllByRecursion (IsOnly u r0) t.requests → AllByRecursion (IsOther r0.id.0) t.requests → is_some o ≡ true → ⊥
none_left u r0 t None e only gone some = (let never : false ≡ true = some in cc)
none_left u r0 t (Some r) e only gone some =
    all_find (IsOther r0.id.0) (is_served_by u) t.requests r gone e ((all_find (IsOnly u r0) (is_served_by u) t.requests r only e).alone (found_passes (is_served_by u) t.requests r e))

gone_asked : (r0 : Req) (u : UnitNo) (s : State) (o : Option Request) → in_service u s.requests ≡ o → AllByRecursion (IsOther r0.id.0) s.requests → option_map (λ (r : Request). r.req.id) o ≡ Some r0.id → ⊥
gone_asked r0 u s None e gone asked = (let never : None ≡ Some r0.id = asked in cc)
gone_asked r0 u s (Some r) e gone asked =
    let same : r.req.id ≡ r0.id = same_Some r.req.id r0.id asked in
    all_find (IsOther r0.id.0) (is_served_by u) s.requests r gone e (ap (λ (i : Id). i.0) same)

pub none_serves : (u : UnitNo) (r0 : Req) (held : DeviceUnit) (s : State) (v : UnitNo) → v.0 ≡ u.0 → HasBegun u r0 held s → option_map (λ (r : Request). r.req.id) (in_service u s.requests) ≡ Some r0.id → is_some (in_service v (step s (event.Don u)).after.requests) ≡ true → ⊥
none_serves u r0 held s v same k asked after_it =
    let are : v ≡ u = ap (λ (n : ℕ). record { 0 = n }) same in
    let t = (step s (event.Don u)).after in
    at k.course (subst (λ (w : UnitNo). is_some (in_service w t.requests) ≡ true) are after_it)
  where
    at : AllByRecursion (IsOther r0.id.0) s.requests ⊎ IsServing u r0 held s → is_some (in_service u (step s (event.Don u)).after.requests) ≡ true → ⊥
    at (inl gone) here = gone_asked r0 u s (in_service u s.requests) refl gone asked
    at (inr h) here =
        none_left u r0 (step s (event.Don u)).after (in_service u (step s (event.Don u)).after.requests) refl (only_after u r0 held s (event.Don u) tt k.base k.above h).all (don_ends u r0 held s k.base h) here
