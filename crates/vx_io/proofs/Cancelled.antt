-- The requests of a channel, cancelled one after another.
use mathlib.Core.Bool.{and-false}
use Rattle.std.proofs.Common.{◌≡◌, ◌<◌, ℕ, List, [], ◌∷◌, ◌++◌, Bool, true, false, cond, not, ◌&&◌, length, Option, Some, None, option_map, refl, ap, sym, subst, ◌∙◌, arith}
use Rattle.std.specs.List.{AllByRecursion, filter, find}
use Rattle.std.proofs.lemmas.Bool.{and_parts, not-true, not-false}
use Rattle.vx_base.proofs.Lists.{some_mapped, none_mapped}
use Rattle.vx_base.specs.Lists.{amend, less}
use Rattle.vx_record.specs.Types.{Id, Pid, Request}
use Rattle.vx_base.specs.declared.cond.Cond.TheVariants.{Cancel}
use Rattle.vx_record.specs.State.{State}
use Rattle.vx_record.specs.Cancel.{cancel_request, cancelled_request, is_request_on, mark_part, with_abort, withdraw}
use Rattle.vx_record.specs.Finish.{ending, this_request}
use Rattle.vx_record.specs.Parts.{Part, and_then, each, nothing, part_if}
use Rattle.vx_record.specs.Sound.{AreOrdered, DeviceStands, ground, request_id}
use Rattle.vx_record.proofs.Cancelled.{cancelled_requests}
use Rattle.vx_record.proofs.Lists.{all_amend, all_find, all_less, all_weaker, either, either_by, ordered_amend}
use Rattle.vx_reqs.specs.Requests.{is_to_cancel}
use Rattle.vx_procs.specs.Kernel.{Acts, Fits, Kernel}
use Rattle.vx_procs.proofs.Firsts.{amend_like, filter_found, filter_none, find_same, less_same}
use Rattle.vx_procs.proofs.Rest.{IsDoing, acted, doing_begun, doing_end, doing_on, doing_room}
use Rattle.vx_io.specs.Cancelling.{AreCancellable, IsToCancel, cancel_found, cancel_requests}
use Rattle.vx_io.specs.Steady.{AreSteady, IsFit}
use Rattle.vx_io.proofs.Kept.{device_kept, finish_kept, kept_then, request_kept, withdrawn_kept}
use Rattle.vx_io.proofs.Steady.{steady_in, steady_less}
use Rattle.vx_base.proofs.First.{found_passes}

-- what is still to be done on a channel
abbrev pub cancel_rest : Pid → ℕ → State → Part
cancel_rest p chan s = each cancel_request (filter (is_to_cancel p chan) s.requests) s

-- Ids rise still.

-- what is done can go on

mark_steady : (s : State) (id : Id) → AreSteady s → AreSteady (record s { requests = amend (this_request id) with_abort s.requests })
mark_steady s id h = record {
  fit = all_amend (λ r. IsFit (length s.procs) r.req) (this_request id) with_abort (λ x k. k) s.requests h.fit;
  order = ordered_amend request_id (this_request id) with_abort (λ x. refl) 0 s.next s.requests h.order;
  entries = h.entries;
}

request_steady : (s : State) (r : Request) → AreSteady s → AreSteady (cancel_request s r).after
request_steady s r h =
    let P = λ (x : Part). AreSteady x.after in
    let kept = kept_then s (withdraw s r r.req.device).after (cancelled_request s r).after (withdrawn_kept s r r.req.device) (finish_kept (withdraw s r r.req.device).after r (ending Cancel 0 0 [])) in
    either P r.served _ (cancelled_request s r)
    (either P (not r.marked) (mark_part s r) (nothing s) (mark_steady s r.req.id h) h)
    (steady_in (cancelled_request s r).after (length s.procs) s.next (less (this_request r.req.id) s.requests) s.attention kept.many kept.next (cancelled_requests s r) kept.attention (steady_less s (this_request r.req.id) h))

abbrev IsOnDevice : State → Request → Type 0
IsOnDevice s r = DeviceStands (ground s) r.req.device

request_devices : (s : State) (r : Request) → AllByRecursion (IsOnDevice s) s.requests → AllByRecursion (IsOnDevice (cancel_request s r).after) (cancel_request s r).after.requests
request_devices s r h =
    let t = (cancel_request s r).after in
    let Q : Request → Type 0 = IsOnDevice t in
    let P = λ (x : Part). AllByRecursion Q x.after.requests in
    let still = all_weaker (IsOnDevice s) Q (λ x k. device_kept s t x.req.device (request_kept s r) k) s.requests h in
    either P r.served _ (cancelled_request s r)
    (either P (not r.marked) (mark_part s r) (nothing s) (all_amend Q (this_request r.req.id) with_abort (λ x k. k) s.requests still) still)
    (subst (AllByRecursion Q) (sym (cancelled_requests s r)) (all_less Q (this_request r.req.id) s.requests still))

-- A request that was marked has nothing done to it, so those that are still to be cancelled are all.

spent : (s : State) (r : Request) → (r.served && r.marked) ≡ true → cancel_request s r ≡ nothing s
spent s r e =
    let both = and_parts r.served r.marked e in
    ap (λ b. cond b (part_if (not r.marked) (mark_part s r) s) (cancelled_request s r)) both.0 ∙ ap (λ b. part_if (not b) (mark_part s r) s) both.1

all_to_cancel : (p : Pid) (chan : ℕ) (rs : List Request) (s : State) → each cancel_request (filter (is_request_on p chan) rs) s ≡ each cancel_request (filter (is_to_cancel p chan) rs) s
all_to_cancel p chan [] s = refl
all_to_cancel p chan (r ∷ rs) s =
    let on = filter (is_request_on p chan) rs in
    let left = filter (is_to_cancel p chan) rs in
    let a = cancel_request s r in
    let before : Part → Part → Part = λ x y. record { effects = x.effects ++ y.effects; after = y.after } in
    elim (is_request_on p chan r) as (λ b. each cancel_request (cond b (r ∷ on) on) s ≡ each cancel_request (cond (b && not (r.served && r.marked)) (r ∷ left) left) s) [
      | true ↦
          either_by (λ (xs : List Request). and_then a (each cancel_request on) ≡ each cancel_request xs s) (not (r.served && r.marked)) (r ∷ left) left
          (λ going. ap (before a) (all_to_cancel p chan rs a.after))
          (λ done. ap (λ (x : Part). and_then x (each cancel_request on)) (spent s r (not-false (r.served && r.marked) done)) ∙ all_to_cancel p chan rs s)
      | false ↦ all_to_cancel p chan rs s
    ]

-- The first of them, and then the rest.

amend_gone : {A : Type 0} (test : A → Bool) (f : A → A) (xs : List A) (x : A) → find test xs ≡ Some x → test (f x) ≡ false → filter test (amend test f xs) ≡ filter test (less test xs)
amend_gone test f [] x e gone = refl
amend_gone test f (y ∷ ys) x e gone =
    elim (test y) as (λ b. test y ≡ b → cond b (Some y) (find test ys) ≡ Some x → filter test (cond b (f y ∷ ys) (y ∷ amend test f ys)) ≡ filter test (cond b ys (y ∷ less test ys))) [
      | true ↦ λ is found.
          let same : y ≡ x = cc in
          let out : test (f y) ≡ false = ap (λ z. test (f z)) same ∙ gone in
          ap (λ b. cond b (f y ∷ filter test ys) (filter test ys)) out
      | false ↦ λ is found. ap (λ zs. cond (test y) (y ∷ zs) zs) (amend_gone test f ys x found gone)
    ] refl e

-- one that is served and was marked now is not to be cancelled
marked_out : (p : Pid) (chan : ℕ) (r : Request) → r.served ≡ true → is_to_cancel p chan (with_abort r) ≡ false
marked_out p chan r served =
    ap (λ b. is_request_on p chan r && not (b && true)) served ∙ and-false (is_request_on p chan r)

is_going : (p : Pid) (chan : ℕ) (r : Request) → is_to_cancel p chan r ≡ true → (r.served && r.marked) ≡ false
is_going p chan r e = not-true (r.served && r.marked) (and_parts (is_request_on p chan r) (not (r.served && r.marked)) e).1

unmarked : (served marked : Bool) → (served && marked) ≡ false → served ≡ true → marked ≡ false
unmarked true marked e is = e
unmarked false marked e is = absurd (cc)

pub served_part : (s : State) (r : Request) → r.served ≡ true → (r.served && r.marked) ≡ false → cancel_request s r ≡ mark_part s r
served_part s r served going =
    ap (λ b. cond b (part_if (not r.marked) (mark_part s r) s) (cancelled_request s r)) served ∙ ap (λ b. part_if (not b) (mark_part s r) s) (unmarked r.served r.marked going served)

pub waiting_part : (s : State) (r : Request) → r.served ≡ false → cancel_request s r ≡ cancelled_request s r
waiting_part s r waits = ap (λ b. cond b (part_if (not r.marked) (mark_part s r) s) (cancelled_request s r)) waits

-- those that are left to be cancelled after it
left_after : (p : Pid) (chan : ℕ) (s : State) (r : Request) → AreOrdered request_id 0 s.next s.requests → find (is_to_cancel p chan) s.requests ≡ Some r → filter (is_to_cancel p chan) (cancel_request s r).after.requests ≡ filter (is_to_cancel p chan) (less (is_to_cancel p chan) s.requests)
left_after p chan s r order found =
    let test = is_to_cancel p chan in
    let going = is_going p chan r (found_passes test s.requests r found) in
    elim r.served as (λ b. r.served ≡ b → filter test (cancel_request s r).after.requests ≡ filter test (less test s.requests)) [
      | true ↦ λ served.
          let marked = ap (λ (x : Part). x.after.requests) (served_part s r served going) ∙ amend_like request_id test with_abort 0 s.next s.requests r order found in
          ap (filter test) marked ∙ amend_gone test with_abort s.requests r found (marked_out p chan r served)
      | false ↦ λ waits.
          let out = ap (λ (x : Part). x.after.requests) (waiting_part s r waits) ∙ (cancelled_requests s r ∙ less_same request_id test 0 s.next s.requests r order found) in
          ap (filter test) out
    ] refl

rest_first : (p : Pid) (chan : ℕ) (s : State) (r : Request) → AreOrdered request_id 0 s.next s.requests → find (is_to_cancel p chan) s.requests ≡ Some r → cancel_rest p chan s ≡ and_then (cancel_request s r) (cancel_rest p chan)
rest_first p chan s r order found =
    let test = is_to_cancel p chan in
    let a = cancel_request s r in
    ap (λ xs. each cancel_request xs s) (filter_found test s.requests r found)
    ∙ ap (λ (xs : List Request). and_then a (each cancel_request xs)) (sym (left_after p chan s r order found))

-- The loop.
pub record IsCancelling (p : Pid) (chan : ℕ) (first k : Kernel) : Type 0 where
  pub going : AreCancellable k.state
  pub doing : IsDoing (cancel_requests p chan first.state) first (cancel_rest p chan k.state) k

-- the first request that is still to be cancelled, by its id
record IsNext (p : Pid) (chan : ℕ) (s : State) (id : Id) : Type 0 where
  r : Request
  found : find (is_to_cancel p chan) s.requests ≡ Some r
  by_id : find (this_request id) s.requests ≡ Some r

next_found : (p : Pid) (chan : ℕ) (s : State) (id : Id) → AreOrdered request_id 0 s.next s.requests → Some id ≡ option_map (λ r. r.req.id) (find (is_to_cancel p chan) s.requests) → IsNext p chan s id
next_found p chan s id order given =
    let found = some_mapped (λ (r : Request). r.req.id) (find (is_to_cancel p chan) s.requests) id (sym given) in
    record {
      r = found.0;
      found = found.1;
      by_id = ap (λ (i : Id). find (this_request i) s.requests) (sym found.2) ∙ find_same request_id (is_to_cancel p chan) 0 s.next s.requests found.0 order found.1;
    }

pub cancelling_begun : (p : Pid) (chan : ℕ) (k : Kernel) → AreCancellable k.state → Fits k (cancel_requests p chan k.state).effects → IsCancelling p chan k k
cancelling_begun p chan k going room =
    let whole = cancel_requests p chan k.state in
    record { going = going; doing = subst (λ (x : Part). IsDoing whole k x k) (all_to_cancel p chan k.state.requests k.state) (doing_begun whole k room) }

pub cancelling_next : (p : Pid) (chan : ℕ) (first k : Kernel) (id : Id) → IsCancelling p chan first k → Some id ≡ option_map (λ r. r.req.id) (find (is_to_cancel p chan) k.state.requests) → IsToCancel k.state id
cancelling_next p chan first k id h given =
    let x = next_found p chan k.state id h.going.steady.order given in
    record {
      r = x.r;
      found = x.by_id;
      device = all_find (IsOnDevice k.state) (is_to_cancel p chan) k.state.requests x.r h.going.devices x.found;
      steady = h.going.steady;
      going = is_going p chan x.r (found_passes (is_to_cancel p chan) k.state.requests x.r x.found);
    }

pub cancelling_room : (p : Pid) (chan : ℕ) (first k : Kernel) (id : Id) → IsCancelling p chan first k → Some id ≡ option_map (λ r. r.req.id) (find (is_to_cancel p chan) k.state.requests) → Fits k (cancel_found k.state (find (this_request id) k.state.requests)).effects
cancelling_room p chan first k id h given =
    let x = next_found p chan k.state id h.going.steady.order given in
    let room = doing_room (cancel_requests p chan first.state) first k (cancel_rest p chan k.state) (cancel_request k.state x.r) (cancel_rest p chan) (rest_first p chan k.state x.r h.going.steady.order x.found) h.doing in
    subst (λ (o : Option Request). Fits k (cancel_found k.state o).effects) (sym x.by_id) room

next_done : (p : Pid) (chan : ℕ) (k l : Kernel) (id : Id) (x : IsNext p chan k.state id) → Acts (cancel_found k.state (find (this_request id) k.state.requests)) k l → l ≡ acted k (cancel_request k.state x.r)
next_done p chan k l id x did = did ∙ ap (λ (o : Option Request). acted k (cancel_found k.state o)) x.by_id

pub cancelling_on : (p : Pid) (chan : ℕ) (first k l : Kernel) (id : Id) → IsCancelling p chan first k → Some id ≡ option_map (λ r. r.req.id) (find (is_to_cancel p chan) k.state.requests) → Acts (cancel_found k.state (find (this_request id) k.state.requests)) k l → IsCancelling p chan first l
cancelling_on p chan first k l id h given did =
    let s = k.state in
    let x = next_found p chan s id h.going.steady.order given in
    let there = next_done p chan k l id x did in
    let going : AreCancellable (cancel_request s x.r).after = record { devices = request_devices s x.r h.going.devices; steady = request_steady s x.r h.going.steady } in
    record {
      going = subst (λ (y : Kernel). AreCancellable y.state) (sym there) going;
      doing = doing_on (cancel_requests p chan first.state) first k l (cancel_rest p chan s) (cancel_request s x.r) (cancel_rest p chan) (rest_first p chan s x.r h.going.steady.order x.found) there h.doing;
    }

pub cancelling_fewer : (p : Pid) (chan : ℕ) (first k l : Kernel) (id : Id) → IsCancelling p chan first k → Some id ≡ option_map (λ r. r.req.id) (find (is_to_cancel p chan) k.state.requests) → Acts (cancel_found k.state (find (this_request id) k.state.requests)) k l → length (filter (is_to_cancel p chan) l.state.requests) < length (filter (is_to_cancel p chan) k.state.requests)
cancelling_fewer p chan first k l id h given did =
    let s = k.state in
    let x = next_found p chan s id h.going.steady.order given in
    let there = next_done p chan k l id x did in
    let left : filter (is_to_cancel p chan) l.state.requests ≡ filter (is_to_cancel p chan) (less (is_to_cancel p chan) s.requests) =
    ap (λ (y : Kernel). filter (is_to_cancel p chan) y.state.requests) there ∙ left_after p chan s x.r h.going.steady.order x.found in
    let all = filter_found (is_to_cancel p chan) s.requests x.r x.found in
    omega (arith, ap (λ (rs : List Request). length rs) left, ap (λ (rs : List Request). length rs) all)

pub cancelling_end : (p : Pid) (chan : ℕ) (first k : Kernel) → IsCancelling p chan first k → None ≡ option_map (λ r. r.req.id) (find (is_to_cancel p chan) k.state.requests) → Acts (cancel_requests p chan first.state) first k
cancelling_end p chan first k h given =
    let none = none_mapped (λ (r : Request). r.req.id) (find (is_to_cancel p chan) k.state.requests) (sym given) in
    doing_end (cancel_requests p chan first.state) first k k (cancel_rest p chan k.state) (ap (λ xs. each cancel_request xs k.state) (filter_none (is_to_cancel p chan) k.state.requests none)) refl h.doing
