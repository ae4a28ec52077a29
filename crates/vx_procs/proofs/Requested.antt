-- What is held stays held, as requests are opened, begun, marked and finished, and units serve.
use Rattle.std.proofs.Common.{◌≡◌, ℕ, ◌+◌, ◌-◌, ◌<◌, ◌≤◌, length, length-append, List, [], ◌∷◌, ◌++◌, Bool, true, false, cond, not, ◌==◌, ◌&&◌, inl, inr, get_or-set_same, get_or-set_other, length-set, map, slice_index_or, slice_set, Option, Some, None, IsTrue, is_some, option_map, IsSome, arith, refl, sym, ap, subst, ◌∙◌}
use Rattle.std.specs.List.{AllByRecursion, find, list_any}
use Rattle.std.specs.Vec.{with_item}
use Rattle.std.proofs.lemmas.Bool.Decides.{nat_tests}
use Rattle.std.proofs.lemmas.Bool.{and_parts, cases_eq, eq-eqb, eqb-true, false_from_ne_true, or_parts, and_right}
use Rattle.std.proofs.lemmas.List.{get_or-map, length-map, map-set, set-get_or}
use Rattle.vx_base.proofs.Lists.{some_mapped}
use Rattle.vx_base.specs.Flags.{one}
use Rattle.vx_base.specs.Lists.{amend, less, tally}
use Rattle.vx_base.specs.Log.{Log}
use Rattle.vx_record.specs.Types.{Device, DeviceUnit, Frame, Id, Need, Pid, Promised, Reply, Req, Request, UnitNo}
use Rattle.vx_base.specs.Queues.{front, in_service, is_on, is_served_by, is_unit, waits_for}
use Rattle.vx_base.specs.Quotas.{is_within, together}
use Rattle.vx_base.specs.Roomy.{Roomy, with_items}
use Rattle.vx_base.specs.declared.request.Device.TheVariants as device
use Rattle.vx_base.specs.Serving.{serve, settled}
use Rattle.vx_base.proofs.First.{found_passes}
use Rattle.vx_record.specs.State.{Process, State, IsProcess, change, no_unit, process_at, unit_at}
use Rattle.vx_record.specs.Asts.{charged_ast}
use Rattle.vx_record.specs.Cancel.{with_abort}
use Rattle.vx_record.specs.Finish.{this_request}
use Rattle.vx_record.specs.Requests.{taken_up, with_unit}
use Rattle.vx_record.specs.Sound.{AreOrdered, request_id}
use Rattle.vx_record.specs.Charges.{exceeds, is_charged, is_same, request_need}
use Rattle.vx_record.proofs.Lists.{all_amend, all_append, all_find, all_less, all_weaker, either_by}
use Rattle.vx_quota.specs.Account.{Quotas, charged, released}
use Rattle.vx_reqs.specs.Requests.{begun}
use Rattle.vx_units.specs.Units.{is_for_unit}
use Rattle.vx_procs.specs.Held.{AreServed, Books, IsBooked, IsOwn, ServesAsked, books_at, spare}
use Rattle.vx_procs.specs.Kernel.{IsPrepared, Kernel, Room, asked_for, ending_for, log_or, opened, with_state}
use Rattle.vx_procs.specs.Ready.{HasSpares, owed}
use Rattle.vx_procs.specs.Requests.{IsForDevice, IsOwnRequest, begun_if, ended, ended_if, finished, promised_ast, replied, request_ast, served_if}
use Rattle.vx_procs.specs.Units.{Ending, IsMadeFor, Kept, asked_of, log_of, stand_of}
use Rattle.vx_procs.specs.View.{process, state, kernel, ending_of, ends, books, books_of, room_of, unit_of, IsHeld}
use Rattle.vx_procs.specs.Words.{with_queued_if}
use Rattle.vx_procs.specs.declared.procs.Core.TheInside.{Inside}
use Rattle.vx_procs.specs.declared.process.Proc.{Proc}
use Rattle.vx_procs.specs.declared.requests.Finished.{Finished}
use Rattle.vx_procs.proofs.Bills.{IsAlike, IsMore, alike_amend, alike_less, alike_more, its_charge, one_less, one_more, own_charge}
use Rattle.vx_procs.proofs.Booked.{counts_of, here_by, one_few, spare_used, spared, tally-append, tally-less}
use Rattle.vx_procs.proofs.Changed.{held_there, requests_as, seen}
use Rattle.vx_procs.proofs.Firsts.{amend_like, find_same}
use Rattle.vx_procs.proofs.Inside.{stand_here}
use Rattle.vx_procs.proofs.Ops.{booked_here, charged_limits, counts_here, left_for, queued_decl, queued_frames, spares_here, spares_in}
use Rattle.vx_record.proofs.OwnIds.{tally_amend}
use Rattle.vx_base.proofs.Needs.{need_is}

-- what a request of p is charged
own_need : (s : State) (p : Pid) (r : Request) → r.req.p ≡ p → IsOwnRequest s r.req → its_charge s p r ≡ request_need s r.req.device r.req.func (is_some r.ast) r.req.len
own_need s p r own its = own_charge s p r own its.transfer

-- any other process, as requests come and go

others_asked : (s : State) (before after : Option Pid) (rs : List Request) (q : Pid) (b : Books) → IsBooked s before q b → length (process_at s q).frames + spare after q ≤ b.room.frames → owed s q + spare after q ≤ b.room.asts → IsAlike s q rs s.requests → IsBooked (record s { requests = rs }) after q b
others_asked s before after rs q b h frames asts same =
    let counts = counts_of s before q b h in
    record {
      frames = frames;
      asts = omega (arith, asts, same.ast);
      used = need_is b.account.used _ (omega (arith, counts.ast, same.ast)) (counts.bio ∙ sym same.bio) (counts.dio ∙ sym same.dio) (counts.byt ∙ sym same.byt) counts.tqe;
      limits = h.limits;
    }

-- What a unit serves.

serving_more : (u : UnitNo) (rs : List Request) (r : Request) (asked : Option Req) → r.served ≡ false → ServesAsked rs u asked → ServesAsked (rs ++ r ∷ []) u asked
serving_more u rs r asked waits h =
    let none = and_right (is_on u r) r.served waits in
    record {
      few = omega (arith, h.few, ap one none, tally-append (is_served_by u) rs (r ∷ []));
      only = all_append _ rs (r ∷ []) h.only ((λ is. let e : false ≡ true = sym none ∙ is in absurd (cc)), tt);
    }

serving_less : (u : UnitNo) (test : Request → Bool) (rs : List Request) (r : Request) (asked : Option Req) → find test rs ≡ Some r → ServesAsked rs u asked → ServesAsked (less test rs) u asked
serving_less u test rs r asked found h = record {
  few = omega (arith, h.few, tally-less (is_served_by u) test rs r found);
  only = all_less _ test rs h.only;
}

serving_none : (u : UnitNo) (rs : List Request) (asked : Option Req) → tally (is_served_by u) rs ≡ 0 → AllByRecursion (λ r. is_served_by u r ≡ true → asked ≡ Some r.req) rs
serving_none u [] asked none = tt
serving_none u (r ∷ rs) asked none = (
  (λ is. absurd (omega (arith, none, ap one is))),
  serving_none u rs asked (omega (arith, none)),
)

-- if it serves none, it may be asked anything
pub free_serving : (u : UnitNo) (rs : List Request) (asked : Option Req) → tally (is_served_by u) rs ≡ 0 → ServesAsked rs u asked
free_serving u rs asked none = record { few = omega (arith, none); only = serving_none u rs asked none }

-- A request is opened.

pub held_asked : {R : Type 0} (r : Request) (need : Need) (c : Inside R) (k : Kernel) (p : Pid) (old new : Proc R) (rs : Roomy Request) → kernel c ≡ k → HasSpares k → r.req.p ≡ p → r.served ≡ false → IsOwnRequest k.state r.req → need ≡ request_need (state c) r.req.device r.req.func (is_some r.ast) r.req.len → exceeds k.state p need ≡ false → old ≡ slice_index_or c.procs.items (p.0 - 1) old → process new ≡ process old → room_of new ≡ room_of old → new.account ≡ charged old.account need → rs ≡ with_items c.requests (c.requests.items ++ r ∷ []) → IsHeld c → IsHeld (record c { procs = with_item c.procs (p.0 - 1) new; requests = rs; short = Some p })
held_asked r need c k p old new rs view has own waits is_own needs within is e room account put h =
    let s = state c in
    let its : IsOwnRequest s r.req = subst (λ (x : Kernel). IsOwnRequest x.state r.req) (sym view) is_own in
    let made : IsProcess s p = subst (λ (x : Pid). IsProcess s x) own its.made in
    let spares = spares_in c k view has in
    let was = seen c p old made is in
    let spare_room = spares_here c p old spares made is in
    let counts = counts_here c p old h made is in
    let items : rs.items ≡ c.requests.items ++ r ∷ [] = ap (λ (x : Roomy Request). x.items) put in
    let bill : its_charge s p r ≡ need = own_need s p r own its ∙ sym needs in
    let more : IsMore s p (its_charge s p r) c.requests.items rs.items = subst (λ (xs : List Request). IsMore s p (its_charge s p r) c.requests.items xs) (sym items) (one_more s p c.requests.items r) in
    let left = left_for c k p old need view h made is within in
    let used : new.account.used ≡ together old.account.used need = ap (λ (a : Quotas). a.used) account ∙ ap (λ (b : Bool). (cond b (record old.account { used = together old.account.used need }) old.account).used) left in
    let few = one_few (is_same r.req.p p && is_some r.ast) in
    held_there c (Some p) p new c.timers.items rs.items s.attention (ends c) made
    (here_by (record s { requests = rs.items }) (Some p) p (process new) c.timers.items (books_of old) (books_of new) made (booked_here c p old h made is).limits
    (ap (λ (x : Process). x.decl) e ∙ ap (λ (x : Process). x.decl) was)
    (omega (arith, spare_room.0, spare_used p, ap (λ (x : Process). length x.frames) e, ap (λ (x : Room). x.frames) room))
    (omega (arith, spare_room.1, spare_used p, ap (λ (x : Process). length x.asts) e, more.ast, few, ap (λ (x : Room). x.asts) room))
    (ap (λ (a : Quotas). a.limits) account ∙ charged_limits old.account need)
    (record {
      ast = omega (arith, ap (λ (n : Need). n.ast) used, ap (λ (n : Need). n.ast) bill, counts.ast, more.ast, ap (λ (x : Process). tally is_charged x.asts) e);
      tqe = omega (arith, ap (λ (n : Need). n.tqe) used, ap (λ (n : Need). n.tqe) bill, counts.tqe);
      bio = omega (arith, ap (λ (n : Need). n.bio) used, ap (λ (n : Need). n.bio) bill, counts.bio, more.bio);
      dio = omega (arith, ap (λ (n : Need). n.dio) used, ap (λ (n : Need). n.dio) bill, counts.dio, more.dio);
      byt = omega (arith, ap (λ (n : Need). n.byt) used, ap (λ (n : Need). n.byt) bill, counts.byt, more.byt);
    }))
    (λ q m other.
    let kept = spared c (Some p) q spares m in
    let same : IsAlike s q rs.items c.requests.items = subst (λ (xs : List Request). IsAlike s q xs c.requests.items) (sym items) (alike_more s q c.requests.items r (λ e. other (e ∙ ap (λ (x : Pid). x.0) own))) in
    others_asked s c.short (Some p) rs.items q (books_at (books c) q) (h.booked q m) kept.0 kept.1 same)
    h.timers
    (subst (λ (xs : List Request). AllByRecursion (λ x. IsOwnRequest s x.req) xs) (sym items) (all_append (λ x. IsOwnRequest s x.req) c.requests.items (r ∷ []) h.requests (its, tt)))
    h.attention
    (λ u. subst (λ (xs : List Request). ServesAsked xs u (asked_of (slice_index_or (ends c) u.0 None))) (sym items) (serving_more u c.requests.items r _ waits (h.served u)))
    made

-- A request is out.

-- the AST that it queues
queued_asts : (id : Id) (a : Option Promised) (pr : Process) → (tally is_charged (with_queued_if (promised_ast id a) pr).asts ≡ tally is_charged pr.asts + one (is_some a)) × (length (with_queued_if (promised_ast id a) pr).asts ≡ length pr.asts + one (is_some a))
queued_asts id None pr = (omega arith, omega arith)
queued_asts id (Some a) pr =
    let q = charged_ast id a.mode a.tag in
    (tally-append is_charged pr.asts (q ∷ []), length-append pr.asts (q ∷ []))

-- what a request was charged, and what is given back of it
record IsBack (s : State) (p : Pid) (r : Request) (need : Need) : Type 0 where
  own : (its_charge s p r).ast ≡ one (is_some r.ast)
  ast : need.ast ≡ 0
  bio : need.bio ≡ (its_charge s p r).bio
  dio : need.dio ≡ (its_charge s p r).dio
  byt : need.byt ≡ (its_charge s p r).byt
  tqe : need.tqe ≡ 0

back : (s : State) (p : Pid) (r : Request) (need : Need) → r.req.p ≡ p → IsOwnRequest s r.req → need ≡ request_need s r.req.device r.req.func false r.req.len → IsBack s p r need
back s p r need own its needs =
    let bare : Request = record r { ast = None } in
    let e : need ≡ its_charge s p bare = needs ∙ sym (own_need s p bare own its) in
    let same : is_same r.req.p p ≡ true = ap (λ (x : Pid). is_same x p) own ∙ eq-eqb p.0 p.0 refl in
    record {
      own = ap (λ b. one (b && is_some r.ast)) same;
      ast = ap (λ (n : Need). n.ast) e ∙ ap (λ b. one (b && false)) same;
      bio = ap (λ (n : Need). n.bio) e;
      dio = ap (λ (n : Need). n.dio) e;
      byt = ap (λ (n : Need). n.byt) e;
      tqe = ap (λ (n : Need). n.tqe) e;
    }

pub own_found : {R : Type 0} (test : Request → Bool) (c : Inside R) (r : Request) → IsHeld c → Some r ≡ find test c.requests.items → IsOwnRequest (state c) r.req
own_found test c r h found = all_find (λ x. IsOwnRequest (state c) x.req) test c.requests.items r h.requests (sym found)

-- there is a place for its AST
pub place_kept : {R : Type 0} (test : Request → Bool) (c : Inside R) (p : Pid) (r : Request) (old : Proc R) → IsHeld c → Some r ≡ find test c.requests.items → r.req.p ≡ p → old ≡ slice_index_or c.procs.items (p.0 - 1) old → length (process old).asts + one (is_some r.ast) ≤ (room_of old).asts
place_kept test c p r old h found own is =
    let s = state c in
    let its = own_found test c r h found in
    let made = subst (λ (x : Pid). IsProcess s x) own its.made in
    let b = booked_here c p old h made is in
    let more = one_less s p test c.requests.items r (sym found) in
    let was = seen c p old made is in
    let bill = back s p r _ own its refl in
    omega (arith, b.asts, more.ast, bill.own, ap (λ (x : Process). length x.asts) was)

within_all : (n u : Need) → n.ast ≤ u.ast → n.bio ≤ u.bio → n.dio ≤ u.dio → n.byt ≤ u.byt → n.tqe ≤ u.tqe → IsTrue (is_within n u)
within_all n u ast bio dio byt tqe = grind (arith, nat_tests)

-- what is given back was charged
pub charged_request : {R : Type 0} (test : Request → Bool) (need : Need) (c : Inside R) (p : Pid) (r : Request) (old : Proc R) → IsHeld c → Some r ≡ find test c.requests.items → r.req.p ≡ p → need ≡ request_need (state c) r.req.device r.req.func false r.req.len → old ≡ slice_index_or c.procs.items (p.0 - 1) old → IsTrue (is_within need old.account.used)
charged_request test need c p r old h found own needs is =
    let s = state c in
    let its = own_found test c r h found in
    let made = subst (λ (x : Pid). IsProcess s x) own its.made in
    let counts = counts_here c p old h made is in
    let more = one_less s p test c.requests.items r (sym found) in
    let bill = back s p r need own its needs in
    within_all need old.account.used (omega (arith, bill.ast)) (omega (arith, bill.bio, counts.bio, more.bio)) (omega (arith, bill.dio, counts.dio, more.dio)) (omega (arith, bill.byt, counts.byt, more.byt)) (omega (arith, bill.tqe))

pub held_ended : {R : Type 0} (test : Request → Bool) (need : Need) (c : Inside R) (p : Pid) (r : Request) (old new : Proc R) (rs : Roomy Request) → Some r ≡ find test c.requests.items → r.req.p ≡ p → need ≡ request_need (state c) r.req.device r.req.func false r.req.len → rs ≡ with_items c.requests (less test c.requests.items) → old ≡ slice_index_or c.procs.items (p.0 - 1) old → process new ≡ with_queued_if (request_ast r) (process old) → room_of new ≡ room_of old → new.account ≡ released old.account need → IsHeld c → IsHeld (record c { procs = with_item c.procs (p.0 - 1) new; requests = rs })
held_ended test need c p r old new rs found own needs left is e room account h =
    let s = state c in
    let its = own_found test c r h found in
    let made = subst (λ (x : Pid). IsProcess s x) own its.made in
    let was = seen c p old made is in
    let b = booked_here c p old h made is in
    let counts = counts_here c p old h made is in
    let items : rs.items ≡ less test c.requests.items = ap (λ (x : Roomy Request). x.items) left in
    let bill = back s p r need own its needs in
    let more : IsMore s p (its_charge s p r) rs.items c.requests.items = subst (λ (xs : List Request). IsMore s p (its_charge s p r) xs c.requests.items) (sym items) (one_less s p test c.requests.items r (sym found)) in
    let asts = queued_asts r.req.id r.ast (process old) in
    let used = ap (λ (a : Quotas). a.used) account in
    let o = request_ast r in
    held_there c c.short p new c.timers.items rs.items s.attention (ends c) made
    (here_by (record s { requests = rs.items }) c.short p (process new) c.timers.items (books_of old) (books_of new) made b.limits
    (ap (λ (x : Process). x.decl) e ∙ (queued_decl o (process old) ∙ ap (λ (x : Process). x.decl) was))
    (omega (arith, b.frames, ap (λ (x : Process). length x.frames) e, ap (λ (xs : List Frame). length xs) (queued_frames o (process old)), ap (λ (x : Process). length x.frames) was, ap (λ (x : Room). x.frames) room))
    (omega (arith, b.asts, ap (λ (x : Process). length x.asts) e, asts.1, more.ast, bill.own, ap (λ (x : Process). length x.asts) was, ap (λ (x : Room). x.asts) room))
    (ap (λ (a : Quotas). a.limits) account)
    (record {
      ast = omega (arith, ap (λ (n : Need). n.ast) used, bill.ast, bill.own, counts.ast, more.ast, asts.0, ap (λ (x : Process). tally is_charged x.asts) e);
      tqe = omega (arith, ap (λ (n : Need). n.tqe) used, bill.tqe, counts.tqe);
      bio = omega (arith, ap (λ (n : Need). n.bio) used, bill.bio, counts.bio, more.bio);
      dio = omega (arith, ap (λ (n : Need). n.dio) used, bill.dio, counts.dio, more.dio);
      byt = omega (arith, ap (λ (n : Need). n.byt) used, bill.byt, counts.byt, more.byt);
    }))
    (λ q m other.
    let bq = h.booked q m in
    let same : IsAlike s q rs.items c.requests.items = subst (λ (xs : List Request). IsAlike s q xs c.requests.items) (sym items) (alike_less s q test c.requests.items r (sym found) (λ x. other (x ∙ ap (λ (y : Pid). y.0) own))) in
    others_asked s c.short c.short rs.items q (books_at (books c) q) bq bq.frames bq.asts same)
    h.timers
    (subst (λ (xs : List Request). AllByRecursion (λ x. IsOwnRequest s x.req) xs) (sym items) (all_less (λ x. IsOwnRequest s x.req) test c.requests.items h.requests))
    h.attention
    (λ u. subst (λ (xs : List Request). ServesAsked xs u (asked_of (slice_index_or (ends c) u.0 None))) (sym items) (serving_less u test c.requests.items r _ (sym found) (h.served u)))
    h.marked

-- what was found in the code's list
pub asked_in : {R : Type 0} (test : Request → Bool) (c : Inside R) (k : Kernel) (o : Option Request) → kernel c ≡ k → o ≡ find test c.requests.items → o ≡ find test k.state.requests
asked_in test c k o view found = found ∙ ap (λ (x : Kernel). find test x.state.requests) view

found_under : (id : Id) (rs : List Request) (r : Request) → find (this_request id) rs ≡ Some r → r.req.id ≡ id
found_under id rs r found = ap (λ (n : ℕ). let x : Id = record { 0 = n } in x) (eqb-true r.req.id.0 id.0 (found_passes (this_request id) rs r found))

-- the value after it
pub ended_as : {R : Type 0} (id : Id) (c : Inside R) (k : Kernel) (p : Pid) (r : Request) (old new : Proc R) (rs : Roomy Request) → kernel c ≡ k → IsHeld c → Some r ≡ find (this_request id) c.requests.items → r.req.p ≡ p → old ≡ slice_index_or c.procs.items (p.0 - 1) old → process new ≡ with_queued_if (request_ast r) (process old) → room_of new ≡ room_of old → rs ≡ with_items c.requests (less (this_request id) c.requests.items) → kernel (record c { procs = with_item c.procs (p.0 - 1) new; requests = rs }) ≡ with_state k (ended_if k.state (find (this_request id) k.state.requests))
ended_as id c k p r old new rs view h found own is e room left =
    let its = own_found (this_request id) c r h found in
    let made : IsProcess k.state p = subst (λ (x : Kernel). IsProcess x.state p) view (subst (λ (x : Pid). IsProcess (state c) x) own its.made) in
    let under : r.req.id ≡ id = found_under id c.requests.items r (sym found) in
    requests_as (with_queued_if (request_ast r)) (λ (s : State). less (this_request id) s.requests) c k p old new rs view made is e room left
    ∙ (ap (λ (i : Id). with_state k (change (record k.state { requests = less (this_request i) k.state.requests }) p (with_queued_if (request_ast r)))) (sym under)
    ∙ (ap (λ (x : Pid). with_state k (change (record k.state { requests = less (this_request r.req.id) k.state.requests }) x (with_queued_if (request_ast r)))) (sym own)
    ∙ ap (λ (o : Option Request). with_state k (ended_if k.state o)) (asked_in (this_request id) c k (Some r) view found)))

-- A request is changed in nothing that is charged.

pub held_amended : {R : Type 0} (test : Request → Bool) (g : Request → Request) (c : Inside R) (rs : Roomy Request) → rs ≡ with_items c.requests (amend test g c.requests.items) → ((r : Request) → (g r).req ≡ r.req) → ((r : Request) → (g r).ast ≡ r.ast) → AreServed (amend test g c.requests.items) (ends c) → IsHeld c → IsHeld (record c { requests = rs })
held_amended test g c rs is same_req same_ast served h =
    let s = state c in
    let items : rs.items ≡ amend test g c.requests.items = ap (λ (x : Roomy Request). x.items) is in
    let t : State = record s { requests = rs.items } in
    record {
      booked = λ q m.
          let b = h.booked q m in
          others_asked s c.short c.short rs.items q (books_at (books c) q) b b.frames b.asts (subst (λ (xs : List Request). IsAlike s q xs c.requests.items) (sym items) (alike_amend s q test g same_req same_ast c.requests.items));
      timers = all_weaker (IsOwn s) (IsOwn t) (λ x o. record { made = o.made; target = o.target; ahead = o.ahead; soon = o.soon }) c.timers.items h.timers;
      requests = all_weaker (λ r. IsOwnRequest s r.req) (λ r. IsOwnRequest t r.req) (λ r o. record { made = o.made; transfer = o.transfer; device = o.device; iosb = o.iosb; buf = o.buf }) rs.items
          (subst (λ (xs : List Request). AllByRecursion (λ r. IsOwnRequest s r.req) xs) (sym items) (all_amend (λ r. IsOwnRequest s r.req) test g (λ r o. subst (λ (x : Req). IsOwnRequest s x) (sym (same_req r)) o) c.requests.items h.requests));
      attention = h.attention;
      served = subst (λ (xs : List Request). AreServed xs (ends c)) (sym items) served;
      marked = h.marked;
    }

pub held_marked : {R : Type 0} (id : Id) (c : Inside R) (rs : Roomy Request) → rs ≡ with_items c.requests (amend (this_request id) with_abort c.requests.items) → IsHeld c → IsHeld (record c { requests = rs })
held_marked id c rs is h =
    held_amended (this_request id) with_abort c rs is (λ r. refl) (λ r. refl) (λ u. record {
      few = omega (arith, (h.served u).few, tally_amend (is_served_by u) (this_request id) with_abort (λ r. refl) c.requests.items);
      only = all_amend (λ r. is_served_by u r ≡ true → asked_of (slice_index_or (ends c) u.0 None) ≡ Some r.req) (this_request id) with_abort (λ r o. o) c.requests.items (h.served u).only;
    }) h

-- A unit takes a request.

none_tally : {A : Type 0} (p : A → Bool) (xs : List A) → list_any p xs ≡ false → tally p xs ≡ 0
none_tally p [] e = refl
none_tally p (x ∷ xs) e = let parts = or_parts (p x) (list_any p xs) e in omega (arith, ap one parts.0, none_tally p xs parts.1)

-- a request that waits for u is of no other unit
taken_by : (u v : UnitNo) (d : Device) (served : Bool) → (is_unit u d && not served) ≡ true → one (is_unit v d && true) ≤ one (is_unit v d && served) + one (v.0 == u.0)
taken_by u v (device.Unit w) served e =
    let parts = and_parts (u.0 == w.0) (not served) e in
    let same : u.0 ≡ w.0 = eqb-true u.0 w.0 parts.0 in
    few (v.0 == w.0) (v.0 == u.0) served (λ is. eq-eqb v.0 u.0 (eqb-true v.0 w.0 is ∙ sym same))
  where
    few : (a b served : Bool) → (a ≡ true → b ≡ true) → one (a && true) ≤ one (a && served) + one b
    few true b served h = let e = ap one (h refl) in omega (arith, e)
    few false b served h = omega arith
taken_by u v (device.Mailbox b) served e = omega arith

served_more : (u v : UnitNo) (rs : List Request) → tally (is_served_by v) (amend (waits_for u) taken_up rs) ≤ tally (is_served_by v) rs + one (v.0 == u.0)
served_more u v [] = omega arith
served_more u v (r ∷ rs) =
    either_by (λ (xs : List Request). tally (is_served_by v) xs ≤ one (is_served_by v r) + tally (is_served_by v) rs + one (v.0 == u.0)) (waits_for u r) (taken_up r ∷ rs) (r ∷ amend (waits_for u) taken_up rs)
    (λ is. omega (arith, taken_by u v r.req.device r.served is))
    (λ isnt. omega (arith, served_more u v rs))

-- what is taken is what the unit is asked
only_taken : (u v : UnitNo) (rs : List Request) (asked : Option Req) → (v.0 ≡ u.0 → asked ≡ option_map (λ (r : Request). r.req) (find (waits_for u) rs)) → AllByRecursion (λ r. is_served_by v r ≡ true → asked ≡ Some r.req) rs → AllByRecursion (λ r. is_served_by v r ≡ true → asked ≡ Some r.req) (amend (waits_for u) taken_up rs)
only_taken u v [] asked next h = tt
only_taken u v (r ∷ rs) asked next h =
    elim (waits_for u r) as (λ b. waits_for u r ≡ b → (v.0 ≡ u.0 → asked ≡ option_map (λ (x : Request). x.req) (cond b (Some r) (find (waits_for u) rs))) → AllByRecursion (λ x. is_served_by v x ≡ true → asked ≡ Some x.req) (cond b (taken_up r ∷ rs) (r ∷ amend (waits_for u) taken_up rs))) [
      | true ↦ λ waits its. ((λ is. its (same_unit u v r.req.device (not r.served) waits is)), h.1)
      | false ↦ λ waits its. (h.0, only_taken u v rs asked its h.1)
    ] refl next
  where
    same_unit : (u v : UnitNo) (d : Device) (b : Bool) → (is_unit u d && b) ≡ true → (is_unit v d && true) ≡ true → v.0 ≡ u.0
    same_unit u v (device.Unit w) b e f = eqb-true v.0 w.0 (and_parts (v.0 == w.0) true f).0 ∙ sym (eqb-true u.0 w.0 (and_parts (u.0 == w.0) b e).0)
    same_unit u v (device.Mailbox n) b e f = absurd (cc)

-- the request that a unit takes next is the first that waits
next_free : (u : UnitNo) (rs : List Request) → list_any (is_served_by u) rs ≡ false → front u rs ≡ find (waits_for u) rs
next_free u rs free = ap (λ b. cond b None (find (waits_for u) rs)) free

served_taken : (u : UnitNo) (rs : List Request) (es : List (Option Ending)) → list_any (is_served_by u) rs ≡ false → IsSome (asked_of (slice_index_or es u.0 None)) → asked_of (slice_index_or es u.0 None) ≡ option_map (λ (r : Request). r.req) (front u rs) → AreServed rs es → AreServed (amend (waits_for u) taken_up rs) es
served_taken u rs es free there next h v = record {
  few = elim (cases_eq v.0 u.0) [
    | inl same ↦
        let is : v ≡ u = ap (λ (n : ℕ). let x : UnitNo = record { 0 = n } in x) same in
        let none = none_tally (is_served_by u) rs free in
        let few = one_few (u.0 == u.0) in
        let prepared = ap one there in
        let here = served_more u u rs in
        rw is (omega (arith, here, none, few, prepared))
    | inr other ↦
        let apart_so : (v.0 == u.0) ≡ false = false_from_ne_true (v.0 == u.0) (λ same. other (eqb-true v.0 u.0 same)) in
        omega (arith, served_more u v rs, ap one apart_so, (h v).few)
  ];
  only = only_taken u v rs (asked_of (slice_index_or es v.0 None)) (λ same. ap (λ (n : ℕ). asked_of (slice_index_or es n None)) same ∙ (next ∙ ap (option_map (λ (r : Request). r.req)) (next_free u rs free))) (h v).only;
}

pub held_taken : {R : Type 0} (u : UnitNo) (c : Inside R) (k : Kernel) (rs : Roomy Request) → kernel c ≡ k → IsPrepared k u → rs ≡ with_items c.requests (begun u c.requests.items) → IsHeld c → IsHeld (record c { requests = rs })
held_taken u c k rs view is_prepared is h =
    let prepared : IsPrepared (kernel c) u = subst (λ (x : Kernel). IsPrepared x u) (sym view) is_prepared in
    elim (list_any (is_served_by u) c.requests.items) as (λ b. list_any (is_served_by u) c.requests.items ≡ b → rs ≡ with_items c.requests (cond b c.requests.items (amend (waits_for u) taken_up c.requests.items)) → IsHeld (record c { requests = rs })) [
      | true ↦ λ _ same. subst (λ (x : Roomy Request). IsHeld (record c { requests = x })) (sym same) h
      | false ↦ λ free taken. held_amended (waits_for u) taken_up c rs taken (λ r. refl) (λ r. refl) (served_taken u c.requests.items (ends c) free prepared.asked prepared.next h.served) h
    ] refl is

-- in id order, it is the front request of the unit
begun_found : (s : State) (test : Request → Bool) (low : ℕ) (rs : List Request) → AreOrdered request_id low s.next rs → s.requests ≡ rs → record s { requests = amend test taken_up rs } ≡ begun_if s (find test rs)
begun_found s test low rs order same =
    elim (find test rs) as (λ o. find test rs ≡ o → record s { requests = amend test taken_up rs } ≡ begun_if s o) [
      | None ↦ λ none. ap (λ (xs : List Request). let t : State = record s { requests = xs } in t) (amend_nowhere_to test rs none ∙ sym same)
      | Some r ↦ λ found. ap (λ (xs : List Request). let t : State = record s { requests = xs } in t) (sym (amend_like request_id test taken_up low s.next rs r order found) ∙ ap (λ (xs : List Request). amend (this_request r.req.id) taken_up xs) (sym same))
    ] refl
  where
    amend_nowhere_to : (test : Request → Bool) (xs : List Request) → find test xs ≡ None → amend test taken_up xs ≡ xs
    amend_nowhere_to test [] e = refl
    amend_nowhere_to test (x ∷ xs) e =
        elim (test x) as (λ b. cond b (Some x) (find test xs) ≡ None → cond b (taken_up x ∷ xs) (x ∷ amend test taken_up xs) ≡ x ∷ xs) [
          | true ↦ λ is. absurd (cc)
          | false ↦ λ is. ap (λ ys. x ∷ ys) (amend_nowhere_to test xs is)
        ] e

begun_front : (s : State) (u : UnitNo) → AreOrdered request_id 0 s.next s.requests → record s { requests = begun u s.requests } ≡ begun_if s (front u s.requests)
begun_front s u order =
    elim (list_any (is_served_by u) s.requests) as (λ b. let t : State = record s { requests = cond b s.requests (amend (waits_for u) taken_up s.requests) } in t ≡ begun_if s (cond b None (find (waits_for u) s.requests))) [
      | true ↦ refl
      | false ↦ begun_found s (waits_for u) 0 s.requests order refl
    ]

-- the value if the requests alone change
pub asked_alone : {R : Type 0} (F : List Request → List Request) (c : Inside R) (k : Kernel) (rs : Roomy Request) → kernel c ≡ k → rs ≡ with_items c.requests (F c.requests.items) → kernel (record c { requests = rs }) ≡ with_state k (record k.state { requests = F k.state.requests })
asked_alone F c k rs view is =
    ap (λ (x : Roomy Request). kernel (record c { requests = x })) is ∙ ap (λ (x : Kernel). with_state x (record x.state { requests = F x.state.requests })) view

pub taken_as : {R : Type 0} (u : UnitNo) (c : Inside R) (k : Kernel) (rs : Roomy Request) → kernel c ≡ k → AreOrdered request_id 0 k.state.next k.state.requests → rs ≡ with_items c.requests (begun u c.requests.items) → kernel (record c { requests = rs }) ≡ with_state k (begun_if k.state (front u k.state.requests))
taken_as u c k rs view order is = asked_alone (begun u) c k rs view is ∙ ap (with_state k) (begun_front k.state u order)

-- A unit changes.

unit_set : {R : Type 0} (c : Inside R) (u : UnitNo) (new : Kept) (es : List (Option Ending)) → es ≡ slice_set (ends c) u.0 new.ending → ServesAsked c.requests.items u (asked_of new.ending) → u.0 < length (ends c) → AreServed c.requests.items (ends c) → AreServed c.requests.items es
unit_set c u new es is its within h v =
    let rs = c.requests.items in
    elim (cases_eq v.0 u.0) [
      | inl same ↦
          let here : v ≡ u = ap (λ (n : ℕ). let x : UnitNo = record { 0 = n } in x) same in
          let at : slice_index_or es u.0 None ≡ new.ending = ap (λ (xs : List (Option Ending)). slice_index_or xs u.0 None) is ∙ get_or-set_same (ends c) u.0 new.ending None within in
          subst (λ (w : UnitNo). ServesAsked rs w (asked_of (slice_index_or es w.0 None))) (sym here) (subst (λ (o : Option Ending). ServesAsked rs u (asked_of o)) (sym at) its)
      | inr other ↦
          let at : slice_index_or es v.0 None ≡ slice_index_or (ends c) v.0 None = ap (λ (xs : List (Option Ending)). slice_index_or xs v.0 None) is ∙ get_or-set_other (ends c) u.0 v.0 new.ending None other in
          subst (λ (o : Option Ending). ServesAsked rs v (asked_of o)) (sym at) (h v)
    ]

pub held_unit : {R : Type 0} (c : Inside R) (u : UnitNo) (new : Kept) (l : Log) → u.0 < length c.units.items → ServesAsked c.requests.items u (asked_of new.ending) → IsHeld c → IsHeld (record c { units = with_item c.units u.0 new; log = l })
held_unit c u new l within its h =
    let s = state c in
    let us = slice_set c.units.items u.0 new in
    let t : State = record s { units = map unit_of us } in
    let many : length (map unit_of us) ≡ length s.units = length-map us unit_of ∙ (length-set c.units.items u.0 new ∙ sym (length-map c.units.items unit_of)) in
    record {
      booked = λ q m. let b = h.booked q m in record { frames = b.frames; asts = b.asts; used = b.used; limits = b.limits };
      timers = all_weaker (IsOwn s) (IsOwn t) (λ x o. record { made = o.made; target = o.target; ahead = o.ahead; soon = o.soon }) c.timers.items h.timers;
      requests = all_weaker (λ r. IsOwnRequest s r.req) (λ r. IsOwnRequest t r.req) (λ r o. record { made = o.made; transfer = o.transfer; device = subst (λ n. IsForDevice n r.req r.req.device) (sym many) o.device; iosb = o.iosb; buf = o.buf }) c.requests.items h.requests;
      attention = h.attention;
      served = unit_set c u new (map ending_of us) (map-set ending_of c.units.items u.0 new) its (omega (arith, within, length-map c.units.items ending_of)) h.served;
      marked = h.marked;
    }

-- the value after it
pub unit_as : {R : Type 0} (c : Inside R) (k : Kernel) (u : UnitNo) (new : Kept) (l : Log) → kernel c ≡ k → kernel (record c { units = with_item c.units u.0 new; log = l }) ≡ record k { state = with_unit k.state u new.unit; log = l; ends = slice_set k.ends u.0 new.ending }
unit_as c k u new l view =
    ap (λ (xs : List DeviceUnit). let y : Kernel = record (kernel c) { state = record (state c) { units = xs }; log = l; ends = map ending_of (slice_set c.units.items u.0 new) } in y) (map-set unit_of c.units.items u.0 new)
    ∙ (ap (λ (xs : List (Option Ending)). let y : Kernel = record (kernel c) { state = with_unit (state c) u new.unit; log = l; ends = xs } in y) (map-set ending_of c.units.items u.0 new)
    ∙ ap (λ (x : Kernel). let y : Kernel = record x { state = with_unit x.state u new.unit; log = l; ends = slice_set x.ends u.0 new.ending } in y) view)

-- the unit that the code reads
pub seen_unit : {R : Type 0} (c : Inside R) (k : Kernel) (u : UnitNo) (old : Kept) → kernel c ≡ k → u.0 < length c.units.items → old ≡ slice_index_or c.units.items u.0 old → (old.unit ≡ unit_at k.state u) × (old.ending ≡ ending_for k u)
seen_unit c k u old view within is = (
  ap unit_of is ∙ (sym (get_or-map unit_of c.units.items u.0 old no_unit within) ∙ ap (λ (x : Kernel). unit_at x.state u) view),
  ap ending_of is ∙ (sym (get_or-map ending_of c.units.items u.0 old None within) ∙ ap (λ (x : Kernel). ending_for x u) view),
)

pub unit_within : {R : Type 0} (c : Inside R) (k : Kernel) (u : UnitNo) → kernel c ≡ k → u.0 < length k.state.units → u.0 < length c.units.items
unit_within c k u view within = omega (arith, subst (λ (x : Kernel). u.0 < length x.state.units) (sym view) within, length-map c.units.items unit_of)

-- What a unit is prepared for.

-- a unit with a request that it takes next serves none
pub front_free : (u : UnitNo) (rs : List Request) (q : Req) → Some q ≡ option_map (λ r. r.req) (front u rs) → tally (is_served_by u) rs ≡ 0
front_free u rs q e =
    elim (list_any (is_served_by u) rs) as (λ b. list_any (is_served_by u) rs ≡ b → Some q ≡ option_map (λ (r : Request). r.req) (cond b None (find (waits_for u) rs)) → tally (is_served_by u) rs ≡ 0) [
      | true ↦ λ some next. absurd (cc)
      | false ↦ λ free next. none_tally (is_served_by u) rs free
    ] refl e

-- a request on a unit is one for it
pub unit_device : (u : UnitNo) (n : ℕ) (q : Req) (d : Device) → is_unit u d ≡ true → IsForDevice n q d → (u.0 < n) × IsTrue (is_for_unit q)
unit_device u n q (device.Unit v) is own = let e = eqb-true u.0 v.0 is in (omega (arith, e, own.0), own.1)
unit_device u n q (device.Mailbox b) is own = absurd (cc)

front_found : (b : Bool) (o : Option Request) (q : Req) → Some q ≡ option_map (λ r. r.req) (cond b None o) → (r : Request) × ((o ≡ Some r) × (r.req ≡ q))
front_found true o q e = absurd (cc)
front_found false None q e = absurd (cc)
front_found false (Some r) q e = (r, (refl, let same : q ≡ r.req = cc in sym same))

pub front_own : {R : Type 0} (c : Inside R) (u : UnitNo) (q : Req) → IsHeld c → Some q ≡ option_map (λ r. r.req) (front u c.requests.items) → (u.0 < length c.units.items) × IsTrue (is_for_unit q)
front_own c u q h e =
    let found = front_found (list_any (is_served_by u) c.requests.items) (find (waits_for u) c.requests.items) q e in
    let r = found.0 in
    let its = all_find (λ x. IsOwnRequest (state c) x.req) (waits_for u) c.requests.items r h.requests found.1.0 in
    let on = (and_parts (is_on u r) (not r.served) (found_passes (waits_for u) c.requests.items r found.1.0)).0 in
    let fits = unit_device u (length (state c).units) r.req r.req.device on its.device in
    (omega (arith, fits.0, length-map c.units.items unit_of), subst (λ (x : Req). IsTrue (is_for_unit x)) found.1.1 fits.1)

pub ending_there : {R : Type 0} (c : Inside R) (u : UnitNo) (new : Kept) → u.0 < length c.units.items → slice_index_or (map ending_of (slice_set c.units.items u.0 new)) u.0 None ≡ new.ending
ending_there c u new within =
    ap (λ (xs : List (Option Ending)). slice_index_or xs u.0 None) (map-set ending_of c.units.items u.0 new) ∙ get_or-set_same (ends c) u.0 new.ending None (omega (arith, within, length-map c.units.items ending_of))

-- as it was made for a request
pub made_for : {R : Type 0} (c : Inside R) (u : UnitNo) (new : Kept) (q : Req) → u.0 < length c.units.items → Some q ≡ option_map (λ r. r.req) (front u c.requests.items) → IsMadeFor new.ending q → IsPrepared (kernel (record c { units = with_item c.units u.0 new })) u
made_for c u new q within next made =
    let at = ending_there c u new within in
    let asked : asked_of (slice_index_or (map ending_of (slice_set c.units.items u.0 new)) u.0 None) ≡ Some q = ap asked_of at ∙ made.asked in
    record {
      asked = ap is_some asked;
      next = asked ∙ next;
      home = stand_here (map ending_of (slice_set c.units.items u.0 new)) u.0 ∙ (ap stand_of at ∙ made.home);
    }

pub prepared_as : {R : Type 0} (c : Inside R) (k : Kernel) (u : UnitNo) (old new : Kept) → kernel c ≡ k → u.0 < length c.units.items → old ≡ slice_index_or c.units.items u.0 old → new.unit ≡ old.unit → kernel (record c { units = with_item c.units u.0 new }) ≡ record k { ends = slice_set k.ends u.0 (slice_index_or (map ending_of (slice_set c.units.items u.0 new)) u.0 None) }
prepared_as c k u old new view within is same =
    let there = seen_unit c k u old view within is in
    unit_as c k u new c.log view
    ∙ (ap (λ (d : DeviceUnit). let y : Kernel = record k { state = with_unit k.state u d; log = c.log; ends = slice_set k.ends u.0 new.ending } in y) (same ∙ there.0)
    ∙ (ap (λ (us : List DeviceUnit). let y : Kernel = record k { state = record k.state { units = us }; log = c.log; ends = slice_set k.ends u.0 new.ending } in y) (set-get_or k.state.units u.0 no_unit)
    ∙ (ap (λ (x : Kernel). let y : Kernel = record k { log = x.log; ends = slice_set k.ends u.0 new.ending } in y) view
    ∙ ap (λ (o : Option Ending). let y : Kernel = record k { ends = slice_set k.ends u.0 o } in y) (sym (ending_there c u new within)))))

pub served_as : {R : Type 0} (c : Inside R) (k : Kernel) (u : UnitNo) (q : Req) (old new : Kept) (l : Log) → kernel c ≡ k → u.0 < length c.units.items → old ≡ slice_index_or c.units.items u.0 old → Some l ≡ log_of old.ending → new ≡ record { unit = settled old.unit q; ending = None } → kernel (record c { units = with_item c.units u.0 new; log = l }) ≡ with_state (opened k u) (with_unit k.state u (settled (unit_at k.state u) q))
served_as c k u q old new l view within is given after =
    let there = seen_unit c k u old view within is in
    unit_as c k u new l view
    ∙ (ap (λ (x : Kept). let y : Kernel = record k { state = with_unit k.state u x.unit; log = l; ends = slice_set k.ends u.0 x.ending } in y) after
    ∙ (ap (λ (d : DeviceUnit). let y : Kernel = record k { state = with_unit k.state u (settled d q); log = l; ends = slice_set k.ends u.0 None } in y) there.0
    ∙ ap (λ (o : Option Log). let y : Kernel = record k { state = with_unit k.state u (settled (unit_at k.state u) q); log = log_or k.log o; ends = slice_set k.ends u.0 None } in y) (given ∙ ap log_of there.1)))

-- The end of a service.

-- the unit serves the request of an id, and no other, and it is the one that the unit was asked
pub record IsServing (k : Kernel) (u : UnitNo) (id : Id) : Type 0 where
  pub r : Request
  pub found : in_service u k.state.requests ≡ Some r
  pub by_id : find (this_request id) k.state.requests ≡ Some r
  pub fits : IsTrue (is_for_unit r.req)
  pub within : u.0 < length k.state.units
  pub asked : asked_for k u ≡ Some r.req
  pub single : tally (is_served_by u) k.state.requests ≡ 1

one_there : (n : ℕ) (b : Bool) → n + 1 ≤ one b → (b ≡ true) × (n ≡ 0)
one_there n true h = (refl, omega (arith, h))
one_there n false h = absurd (omega (arith, h))

pub serving : {R : Type 0} (c : Inside R) (k : Kernel) (u : UnitNo) (id : Id) → kernel c ≡ k → IsHeld c → AreOrdered request_id 0 k.state.next k.state.requests → Some id ≡ option_map (λ r. r.req.id) (in_service u c.requests.items) → IsServing k u id
serving c k u id view h order is = subst (λ (x : Kernel). IsServing x u id) view (here (subst (λ (x : Kernel). AreOrdered request_id 0 x.state.next x.state.requests) (sym view) order))
  where
    here : AreOrdered request_id 0 c.next c.requests.items → IsServing (kernel c) u id
    here ids =
        let rs = c.requests.items in
        let found = some_mapped (λ (r : Request). r.req.id) (in_service u rs) id (sym is) in
        let r = found.0 in
        let its = all_find (λ x. IsOwnRequest (state c) x.req) (is_served_by u) rs r h.requests found.1 in
        let passes = found_passes (is_served_by u) rs r found.1 in
        let fits = unit_device u (length (state c).units) r.req r.req.device (and_parts (is_on u r) r.served passes).0 its.device in
        let asked = slice_index_or (ends c) u.0 None in
        let there = one_there (tally (is_served_by u) (less (is_served_by u) rs)) (is_some (asked_of asked)) (omega (arith, (h.served u).few, tally-less (is_served_by u) (is_served_by u) rs r found.1, ap one passes)) in
        record {
          r = r;
          found = found.1;
          by_id = ap (λ (i : Id). find (this_request i) rs) (sym found.2) ∙ find_same request_id (is_served_by u) 0 c.next rs r ids found.1;
          fits = fits.1;
          within = fits.0;
          asked = all_find (λ x. is_served_by u x ≡ true → asked_of asked ≡ Some x.req) (is_served_by u) rs r (h.served u).only found.1 passes;
          single = omega (arith, there.1, tally-less (is_served_by u) (is_served_by u) rs r found.1, ap one passes);
        }

pub serving_there : (k : Kernel) (u : UnitNo) (id : Id) (x : IsServing k u id) → None ≡ option_map finished (find (this_request id) k.state.requests) → ⊥
serving_there k u id x none = let e : None ≡ Some (finished x.r) = none ∙ ap (option_map finished) x.by_id in absurd (cc)

pub serving_done : (k : Kernel) (u : UnitNo) (id : Id) (x : IsServing k u id) (done : Finished) → Some done ≡ option_map finished (find (this_request id) k.state.requests) → done ≡ finished x.r
serving_done k u id x done e = let f : Some done ≡ Some (finished x.r) = e ∙ ap (option_map finished) x.by_id in cc

pub serving_after : (k l : Kernel) (u : UnitNo) (id : Id) (x : IsServing k u id) → l ≡ with_state k (ended_if k.state (find (this_request id) k.state.requests)) → l ≡ with_state k (ended k.state x.r)
serving_after k l u id x e = e ∙ ap (λ (o : Option Request). with_state k (ended_if k.state o)) x.by_id

pub serving_free : (k l : Kernel) (u : UnitNo) (id : Id) (x : IsServing k u id) → l ≡ with_state k (ended k.state x.r) → tally (is_served_by u) l.state.requests ≡ 0
serving_free k l u id x e =
    let rs = k.state.requests in
    let same : x.r.req.id ≡ id = found_under id rs x.r x.by_id in
    let found : find (this_request x.r.req.id) rs ≡ Some x.r = ap (λ (i : Id). find (this_request i) rs) same ∙ x.by_id in
    let passes = found_passes (is_served_by u) rs x.r x.found in
    omega (arith, x.single, tally-less (is_served_by u) (this_request x.r.req.id) rs x.r found, ap one passes, ap (λ (y : Kernel). tally (is_served_by u) y.state.requests) e)

pub serving_replied : (k l : Kernel) (u : UnitNo) (id : Id) (x : IsServing k u id) (done : Finished) (reply : Reply) → l ≡ with_state k (ended k.state x.r) → done ≡ finished x.r → reply ≡ (serve (unit_at l.state u) done.req).reply → Some (done, reply) ≡ option_map (replied k.state u) (in_service u k.state.requests)
serving_replied k l u id x done reply e is answers =
    let same : reply ≡ (serve (unit_at k.state u) x.r.req).reply = answers ∙ (ap (λ (y : Kernel). (serve (unit_at y.state u) done.req).reply) e ∙ ap (λ (d : Finished). (serve (unit_at k.state u) d.req).reply) is) in
    ap (λ (d : Finished). let o : Option (Finished × Reply) = Some (d, reply) in o) is ∙ (ap (λ (y : Reply). let o : Option (Finished × Reply) = Some (finished x.r, y) in o) same ∙ ap (option_map (replied k.state u)) (sym x.found))

pub serving_ended : (k l n : Kernel) (u : UnitNo) (id : Id) (x : IsServing k u id) (done : Finished) → l ≡ with_state k (ended k.state x.r) → done ≡ finished x.r → n ≡ with_state (opened l u) (with_unit l.state u (settled (unit_at l.state u) done.req)) → n ≡ with_state (opened k u) (served_if k.state u (in_service u k.state.requests))
serving_ended k l n u id x done e is then =
    then
    ∙ (ap (λ (y : Kernel). with_state (opened y u) (with_unit y.state u (settled (unit_at y.state u) done.req))) e
    ∙ (ap (λ (d : Finished). with_state (opened k u) (with_unit (ended k.state x.r) u (settled (unit_at k.state u) d.req))) is
    ∙ ap (λ (o : Option Request). with_state (opened k u) (served_if k.state u o)) (sym x.found)))
