-- Units that are made ready, leave to be served, and come back.
use Rattle.std.proofs.Common.{◌≡◌, ◌<◌, List, Bool, true, false, length, map, Option, Some, None, IsSome, IfSome, OnSome, IfNone, OnOk, OnErr, Ok, Err, Result, option_map, slice_index_or, slice_set, refl, sym, ap, subst, arith, ◌∙◌}
use Rattle.std.specs.Vec.{with_item}
use Rattle.std.proofs.lemmas.Bool.{and_parts}
use Rattle.std.proofs.lemmas.List.{length-map, set-get_or}
use Rattle.vx_base.proofs.Lists.{some_mapped}
use Rattle.vx_record.specs.Types.{Id, Req, Request, UnitNo}
use Rattle.vx_base.specs.Queues.{in_service, is_on, is_served_by}
use Rattle.vx_base.proofs.First.{found_passes}
use Rattle.vx_record.proofs.Lists.{all_find}
use Rattle.vx_units.specs.Leases.{Lease, LeaseServed, Stand, Home, Out, Back, is_out}
use Rattle.vx_procs.specs.Held.{ServesAsked}
use Rattle.vx_procs.specs.Kernel.{Kernel, asked_for, ending_for, stand_for, with_stand}
use Rattle.vx_procs.specs.Leases.{IsLeaseOf, IsOfOut, IsOutFor, IsToLease, served_by}
use Rattle.vx_procs.specs.Requests.{IsOwnRequest}
use Rattle.vx_procs.specs.Units.{Ending, IsIn, IsTakenOf, Kept, asked_of, stand_of, stood}
use Rattle.vx_procs.specs.View.{IsHeld, ending_of, ends, kernel, state, unit_of}
use Rattle.vx_procs.specs.declared.procs.Core.TheInside.{Inside}
use Rattle.vx_procs.proofs.Inside.{stand_here}
use Rattle.vx_procs.proofs.Requested.{ending_there, held_unit, prepared_as, seen_unit, unit_device}

-- one fact by another, if a result or an option is there or not

pub on_ok : {A E P Q : Type 0} (r : Result A E) → (P → Q) → OnOk r P → OnOk r Q
on_ok (Ok x) f h = f h
on_ok (Err e) f h = tt

pub on_err : {A E P Q : Type 0} (r : Result A E) → (P → Q) → OnErr r P → OnErr r Q
on_err (Ok x) f h = tt
on_err (Err e) f h = f h

pub on_some : {A P Q : Type 0} (o : Option A) → (P → Q) → OnSome o P → OnSome o Q
on_some None f h = tt
on_some (Some x) f h = f h

pub if_some : {A : Type 0} (P Q : A → Type 0) (o : Option A) → ((x : A) → P x → Q x) → IfSome o P → IfSome o Q
if_some P Q None f h = tt
if_some P Q (Some x) f h = f x h

pub if_none : {A P Q : Type 0} (o : Option A) → (P → Q) → IfNone o P → IfNone o Q
if_none None f h = f h
if_none (Some x) f h = tt

-- The unit that the code reads.

pub read_asked : {R : Type 0} (c : Inside R) (k : Kernel) (u : UnitNo) (old : Kept) → kernel c ≡ k → u.0 < length c.units.items → old ≡ slice_index_or c.units.items u.0 old → asked_of old.ending ≡ asked_for k u
read_asked c k u old view within is = ap asked_of (seen_unit c k u old view within is).1

pub read_stand : {R : Type 0} (c : Inside R) (k : Kernel) (u : UnitNo) (old : Kept) → kernel c ≡ k → u.0 < length c.units.items → old ≡ slice_index_or c.units.items u.0 old → stand_of old.ending ≡ stand_for k u
read_stand c k u old view within is = ap stand_of (seen_unit c k u old view within is).1 ∙ sym (stand_here k.ends u.0)

pub read_in : {R : Type 0} (c : Inside R) (k : Kernel) (u : UnitNo) (old : Kept) → kernel c ≡ k → u.0 < length c.units.items → old ≡ slice_index_or c.units.items u.0 old → is_out (stand_for k u) ≡ false → IsIn old
read_in c k u old view within is h = ap is_out (read_stand c k u old view within is) ∙ h

-- The value if a unit changes.

-- it stayed
pub unit_stayed : {R : Type 0} (c : Inside R) (k : Kernel) (u : UnitNo) (old new : Kept) → kernel c ≡ k → old ≡ slice_index_or c.units.items u.0 old → new ≡ old → kernel (record c { units = with_item c.units u.0 new }) ≡ k
unit_stayed c k u old new view is same =
    let items : slice_set c.units.items u.0 new ≡ c.units.items = ap (λ (x : Kept). slice_set c.units.items u.0 x) (same ∙ is) ∙ set-get_or c.units.items u.0 old in
    ap (λ (xs : List Kept). let y : Kernel = record (kernel c) { state = record (state c) { units = map unit_of xs }; ends = map ending_of xs } in y) items ∙ view

-- its contents are elsewhere
pub unit_stood : {R : Type 0} (c : Inside R) (k : Kernel) (u : UnitNo) (old new : Kept) (stand : Stand) → kernel c ≡ k → u.0 < length c.units.items → old ≡ slice_index_or c.units.items u.0 old → new ≡ record old { ending = stood stand old.ending } → kernel (record c { units = with_item c.units u.0 new }) ≡ with_stand k u stand
unit_stood c k u old new stand view within is after =
    prepared_as c k u old new view within is (ap (λ (x : Kept). x.unit) after)
    ∙ ap (λ (o : Option Ending). let y : Kernel = record k { ends = slice_set k.ends u.0 o } in y) (ending_there c u new within ∙ (ap (λ (x : Kept). x.ending) after ∙ ap (stood stand) (seen_unit c k u old view within is).1))

-- what it is asked stays
pub held_asked_same : {R : Type 0} (c : Inside R) (k : Kernel) (u : UnitNo) (old new : Kept) → kernel c ≡ k → u.0 < length c.units.items → old ≡ slice_index_or c.units.items u.0 old → asked_of new.ending ≡ asked_of old.ending → IsHeld c → IsHeld (record c { units = with_item c.units u.0 new })
held_asked_same c k u old new view within is same h =
    let there : asked_of old.ending ≡ asked_of (slice_index_or (ends c) u.0 None) = ap asked_of (seen_unit c (kernel c) u old refl within is).1 in
    held_unit c u new c.log within (subst (λ (a : Option Req). ServesAsked c.requests.items u a) (sym (same ∙ there)) (h.served u)) h

-- A unit that serves a request.

-- the unit is there, and is asked that request
pub record IsBusy {R : Type 0} (c : Inside R) (u : UnitNo) (r : Request) : Type 0 where
  pub found : in_service u c.requests.items ≡ Some r
  pub within : u.0 < length c.units.items
  pub asked : asked_of (slice_index_or (ends c) u.0 None) ≡ Some r.req

busy_by : {R : Type 0} (c : Inside R) (u : UnitNo) (r : Request) → IsHeld c → in_service u c.requests.items ≡ Some r → IsBusy c u r
busy_by c u r h found =
    let rs = c.requests.items in
    let its = all_find (λ x. IsOwnRequest (state c) x.req) (is_served_by u) rs r h.requests found in
    let passes = found_passes (is_served_by u) rs r found in
    let fits = unit_device u (length (state c).units) r.req r.req.device (and_parts (is_on u r) r.served passes).0 its.device in
    record {
      found = found;
      within = omega (arith, fits.0, length-map c.units.items unit_of);
      asked = all_find (λ x. is_served_by u x ≡ true → asked_of (slice_index_or (ends c) u.0 None) ≡ Some x.req) (is_served_by u) rs r (h.served u).only found passes;
    }

pub busy_id : {R : Type 0} (c : Inside R) (u : UnitNo) (id : Id) → IsHeld c → Some id ≡ option_map (λ (r : Request). r.req.id) (in_service u c.requests.items) → (r : Request) × IsBusy c u r
busy_id c u id h e = let found = some_mapped (λ (r : Request). r.req.id) (in_service u c.requests.items) id (sym e) in (found.0, busy_by c u found.0 h found.1)

pub busy_req : {R : Type 0} (c : Inside R) (k : Kernel) (u : UnitNo) (q : Req) → kernel c ≡ k → IsHeld c → served_by k u ≡ Some q → (r : Request) × (IsBusy c u r × (r.req ≡ q))
busy_req c k u q view h e =
    let found = some_mapped (λ (r : Request). r.req) (in_service u c.requests.items) q (ap (λ (x : Kernel). served_by x u) view ∙ e) in
    (found.0, (busy_by c u found.0 h found.1, found.2))

some_asked : (o : Option Ending) (q : Req) → asked_of o ≡ Some q → IsSome o
some_asked None q e = absurd (cc)
some_asked (Some x) q e = refl

-- what the end of its service needs is there
pub ending_made : {R : Type 0} (c : Inside R) (k : Kernel) (u : UnitNo) (r : Request) → kernel c ≡ k → IsBusy c u r → IsSome (ending_for k u)
ending_made c k u r view busy = some_asked (ending_for k u) r.req (ap (λ (x : Kernel). asked_for x u) (sym view) ∙ busy.asked)

-- Out.

-- what was taken out is the lease of the unit
pub lease_of : {R : Type 0} (c : Inside R) (k : Kernel) (u : UnitNo) (r : Request) (old : Kept) (lease : Lease) → kernel c ≡ k → IsBusy c u r → old ≡ slice_index_or c.units.items u.0 old → IsTakenOf old u lease → IsLeaseOf k u lease
lease_of c k u r old lease view busy is taken =
    let own : Some r.req ≡ Some lease.req = sym busy.asked ∙ (ap (λ (x : Kernel). asked_for x u) view ∙ (sym (read_asked c k u old view busy.within is) ∙ taken.made.asked)) in
    record {
      unit = taken.unit;
      home = sym (read_stand c k u old view busy.within is) ∙ taken.made.home;
      request = ap (λ (x : Kernel). served_by x u) (sym view) ∙ (ap (option_map (λ (x : Request). x.req)) busy.found ∙ own);
      contents = taken.contents ∙ (seen_unit c k u old view busy.within is).0;
    }

none_asked : (o : Option Ending) (q : Req) → o ≡ None → asked_of o ≡ Some q → ⊥
none_asked None q e h = absurd (cc)
none_asked (Some x) q e h = absurd (cc)

pub not_to_lease : {R : Type 0} (c : Inside R) (k : Kernel) (u : UnitNo) (r : Request) (old : Kept) → kernel c ≡ k → IsBusy c u r → old ≡ slice_index_or c.units.items u.0 old → (stand_of old.ending ≡ Home → old.ending ≡ None) → IsToLease k u → ⊥
not_to_lease c k u r old view busy is none to =
    none_asked old.ending r.req (none (read_stand c k u old view busy.within is ∙ to.home)) (read_asked c k u old view busy.within is ∙ (ap (λ (x : Kernel). asked_for x u) (sym view) ∙ busy.asked))

-- Whether a unit is out.

out_is : (s : Stand) → is_out s ≡ true → s ≡ Out
out_is Home h = absurd (cc)
out_is Out h = refl
out_is Back h = absurd (cc)

pub out_iff : {R : Type 0} (c : Inside R) (k : Kernel) (u : UnitNo) (id served : Id) (old : Kept) (b : Bool) → kernel c ≡ k → IsHeld c → Some served ≡ option_map (λ (r : Request). r.req.id) (in_service u c.requests.items) → served ≡ id → old ≡ slice_index_or c.units.items u.0 old → b ≡ is_out (stand_of old.ending) → (b ≡ true → IsOutFor k u id) × (IsOutFor k u id → b ≡ true)
out_iff c k u id served old b view h found same is out =
    let busy = busy_id c u served h found in
    let stand = read_stand c k u old view busy.1.within is in
    let asked : option_map (λ (r : Request). r.req.id) (in_service u k.state.requests) ≡ Some id = ap (λ (x : Kernel). option_map (λ (r : Request). r.req.id) (in_service u x.state.requests)) (sym view) ∙ (sym found ∙ ap (λ (i : Id). let o : Option Id = Some i in o) same) in (
      (λ t. record { out = out_is (stand_for k u) (ap is_out (sym stand) ∙ (sym out ∙ t)); request = asked }),
      (λ x. out ∙ (ap is_out stand ∙ ap is_out x.out)),
    )

-- Back.

-- what comes back is the unit that is out
pub record IsComing {R : Type 0} (c : Inside R) (s : LeaseServed) (old : Kept) : Type 0 where
  pub out : stand_of old.ending ≡ Out
  pub asked : asked_of old.ending ≡ Some s.lease.req
  pub contents : s.lease.contents ≡ old.unit

pub back_within : {R : Type 0} (c : Inside R) (k : Kernel) (s : LeaseServed) → kernel c ≡ k → IsHeld c → IsOfOut k s → s.lease.unit.0 < length c.units.items
back_within c k s view h x = (busy_req c k s.lease.unit s.lease.req view h x.request).1.0.within

pub coming : {R : Type 0} (c : Inside R) (k : Kernel) (s : LeaseServed) (old : Kept) → kernel c ≡ k → IsHeld c → IsOfOut k s → old ≡ slice_index_or c.units.items s.lease.unit.0 old → IsComing c s old
coming c k s old view h x is =
    let u = s.lease.unit in
    let busy = busy_req c k u s.lease.req view h x.request in
    let within = busy.1.0.within in
    record {
      out = read_stand c k u old view within is ∙ x.out;
      asked = read_asked c k u old view within is ∙ (ap (λ (y : Kernel). asked_for y u) (sym view) ∙ (busy.1.0.asked ∙ ap (λ (q : Req). let o : Option Req = Some q in o) busy.1.1));
      contents = x.contents ∙ sym (seen_unit c k u old view within is).0;
    }

-- what is asked of a unit stays if its contents go elsewhere
pub stood_asked : (stand : Stand) (o : Option Ending) → asked_of (stood stand o) ≡ asked_of o
stood_asked stand None = refl
stood_asked stand (Some e) = refl

pub back_at : {R : Type 0} (c : Inside R) (k : Kernel) (s : LeaseServed) (u : UnitNo) → u ≡ s.lease.unit → kernel c ≡ k → IsHeld c → IsOfOut k s → u.0 < length c.units.items
back_at c k s u same view h x = subst (λ (v : UnitNo). v.0 < length c.units.items) (sym same) (back_within c k s view h x)

pub coming_at : {R : Type 0} (c : Inside R) (k : Kernel) (s : LeaseServed) (u : UnitNo) (old : Kept) → u ≡ s.lease.unit → kernel c ≡ k → IsHeld c → IsOfOut k s → old ≡ slice_index_or c.units.items u.0 old → IsComing c s old
coming_at c k s u old same view h x is = coming c k s old view h x (is ∙ ap (λ (v : UnitNo). slice_index_or c.units.items v.0 old) same)
