-- One request that is cancelled: it is marked, or it is withdrawn and finishes.
use Rattle.std.proofs.Common.{◌≡◌, [], ◌++◌, Bool, true, false, Option, Some, None, option_map, refl, ap, sym, subst, ◌∙◌}
use Rattle.std.specs.List.{find, list_any}
use Rattle.std.proofs.lemmas.Bool.{eqb-true}
use Rattle.vx_record.specs.Types.{BoxNo, Device, Id, Request}
use Rattle.vx_base.specs.declared.cond.Cond.TheVariants.{Cancel}
use Rattle.vx_base.specs.declared.effects.Effect.TheVariants as effect
use Rattle.vx_base.specs.declared.request.Device.TheVariants as device
use Rattle.vx_record.specs.State.{State}
use Rattle.vx_record.specs.Cancel.{mark_part, withdraw}
use Rattle.vx_record.specs.Finish.{Ending, ending, finish_found, finish_id, this_request}
use Rattle.vx_record.specs.Parts.{Part, and_then, tells}
use Rattle.vx_record.proofs.Cancelled.{withdraw_requests}
use Rattle.vx_record.proofs.Lists.{found_any}
use Rattle.vx_procs.specs.Kernel.{Acts, Fits, Kernel}
use Rattle.vx_procs.specs.Requests.{to_abort}
use Rattle.vx_procs.proofs.Rest.{acted}
use Rattle.vx_io.specs.Cancelling.{IsToCancel, cancel_found, end_by, withdraw_by, withdraw_found}
use Rattle.vx_io.proofs.Cancelled.{served_part, waiting_part}
use Rattle.vx_base.proofs.First.{found_passes}
use Rattle.vx_base.specs.Lists.{is_some_and}

found_under : (s : State) (id : Id) (r : Request) → find (this_request id) s.requests ≡ Some r → r.req.id ≡ id
found_under s id r found = ap (λ n. let y : Id = record { 0 = n } in y) (eqb-true r.req.id.0 id.0 (found_passes (this_request id) s.requests r found))

-- it is in service

pub is_there : (s : State) (id : Id) → IsToCancel s id → list_any (this_request id) s.requests ≡ true
is_there s id x = found_any (this_request id) s.requests x.r x.found

pub is_serving : (s : State) (id : Id) (x : IsToCancel s id) (b : Bool) → b ≡ is_some_and (λ r. r.served) (find (this_request id) s.requests) → x.r.served ≡ b
is_serving s id x b e = sym (e ∙ ap (is_some_and (λ (r : Request). r.served)) x.found)

marked_part : (s : State) (id : Id) (x : IsToCancel s id) → x.r.served ≡ true → cancel_found s (find (this_request id) s.requests) ≡ mark_part s x.r
marked_part s id x served = ap (cancel_found s) x.found ∙ served_part s x.r served x.going

pub marked_as : (k l : Kernel) (id : Id) (x : IsToCancel k.state id) → x.r.served ≡ true → Acts (tells (effect.Mark id) (to_abort id k.state)) k l → Acts (cancel_found k.state (find (this_request id) k.state.requests)) k l
marked_as k l id x served did =
    let under = found_under k.state id x.r x.found in
    did ∙ (ap (λ (i : Id). acted k (tells (effect.Mark i) (to_abort i k.state))) (sym under) ∙ ap (acted k) (sym (marked_part k.state id x served)))

-- it is withdrawn

withdrawn_by : (s : State) (id : Id) (r : Request) (b : BoxNo) → find (this_request id) s.requests ≡ Some r → r.req.device ≡ device.Mailbox b → withdraw_by s b id ≡ withdraw s r r.req.device
withdrawn_by s id r b found is =
    ap (withdraw_by s b) (sym (found_under s id r found)) ∙ ap (withdraw s r) (sym is)

-- by its device
pub withdrawn_at : (s : State) (id : Id) (b : BoxNo) (d : Device) → d ≡ device.Mailbox b → Some d ≡ option_map (λ r. r.req.device) (find (this_request id) s.requests) → withdraw_by s b id ≡ withdraw_found s (find (this_request id) s.requests)
withdrawn_at s id b d to given = from (find (this_request id) s.requests) refl given
  where
    from : (o : Option Request) → find (this_request id) s.requests ≡ o → Some d ≡ option_map (λ r. r.req.device) o → withdraw_by s b id ≡ withdraw_found s o
    from None found e = absurd (cc)
    from (Some r) found e = let is : r.req.device ≡ d = cc in withdrawn_by s id r b found (is ∙ to)

-- and finishes

end_same : (s : State) (id : Id) (x : IsToCancel s id) → x.r.served ≡ false → end_by s id ≡ cancel_found s (find (this_request id) s.requests)
end_same s id x waits =
    let r = x.r in
    let w = withdraw s r r.req.device in
    let e : Ending = ending Cancel 0 0 [] in
    let joined : Part → Part = λ y. record { effects = w.effects ++ y.effects; after = y.after } in
    ap (λ (o : Option Request). and_then (withdraw_found s o) (λ a. finish_id a id e)) x.found
    ∙ (ap joined (ap (λ (o : Option Request). finish_found w.after o e) (ap (find (this_request id)) (withdraw_requests s r r.req.device) ∙ x.found))
    ∙ (sym (waiting_part s r waits) ∙ ap (cancel_found s) (sym x.found)))

pub end_room : (k : Kernel) (id : Id) (x : IsToCancel k.state id) → x.r.served ≡ false → Fits k (cancel_found k.state (find (this_request id) k.state.requests)).effects → Fits k (end_by k.state id).effects
end_room k id x waits room = subst (λ (a : Part). Fits k a.effects) (sym (end_same k.state id x waits)) room

pub ended_as : (k l : Kernel) (id : Id) (x : IsToCancel k.state id) → x.r.served ≡ false → Acts (end_by k.state id) k l → Acts (cancel_found k.state (find (this_request id) k.state.requests)) k l
ended_as k l id x waits did = did ∙ ap (acted k) (end_same k.state id x waits)
