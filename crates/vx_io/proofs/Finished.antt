-- The request of an id finishes, as the machine has it and as the code does it.
use Rattle.std.proofs.Common.{◌≡◌, ◌≤◌, length, Option, Some, None, option_map, refl, ap, sym, subst, ◌∙◌, arith, length-set, ◌-◌}
use Rattle.std.specs.List.{find}
use Rattle.vx_record.specs.Types.{Id, Reply, Request}
use Rattle.vx_record.specs.Finish.{Ending, finish_found, finish_id, this_request}
use Rattle.vx_record.specs.State.{process_at}
use Rattle.vx_record.proofs.Lists.{all_find}
use Rattle.vx_procs.specs.Kernel.{Acts, Fits, Kernel, with_state}
use Rattle.vx_procs.specs.Requests.{ended, ended_if, finished, request_ast}
use Rattle.vx_procs.specs.Words.{with_queued_if}
use Rattle.vx_procs.specs.declared.requests.Finished.{Finished}
use Rattle.vx_procs.proofs.Rest.{acted}
use Rattle.vx_io.specs.Finishing.{IsEnding, finishing}
use Rattle.vx_io.specs.Steady.{AreSteady, IsFit}
use Rattle.vx_io.proofs.QueuedFirst.{finish_same}
use Rattle.vx_io.proofs.Steady.{found_boxes, found_many, found_steady}

-- the request that was taken out, and was fit
pub record IsOut (k l : Kernel) (id : Id) (d : Finished) : Type 0 where
  pub r : Request
  pub found : find (this_request id) k.state.requests ≡ Some r
  pub fit : IsFit (length k.state.procs) r.req
  pub is : d ≡ finished r
  pub after : l ≡ with_state k (ended k.state r)

out_from : (k l : Kernel) (id : Id) (d : Finished) (o : Option Request) → find (this_request id) k.state.requests ≡ o → AreSteady k.state → Some d ≡ option_map finished o → l ≡ with_state k (ended_if k.state o) → IsOut k l id d
out_from k l id d None found h e after = absurd (cc)
out_from k l id d (Some r) found h e after = record {
  r = r;
  found = found;
  fit = all_find (λ (x : Request). IsFit (length k.state.procs) x.req) (this_request id) k.state.requests r h.fit found;
  is = let same : Some d ≡ Some (finished r) = e in cc;
  after = after;
}

pub out_of : (k l : Kernel) (id : Id) (d : Finished) → AreSteady k.state → Some d ≡ option_map finished (find (this_request id) k.state.requests) → l ≡ with_state k (ended_if k.state (find (this_request id) k.state.requests)) → IsOut k l id d
out_of k l id d h e after = out_from k l id d (find (this_request id) k.state.requests) refl h e after

pub ending_out : (k l : Kernel) (id : Id) (d : Finished) (reply : Reply) → IsOut k l id d → length reply.bytes ≤ 2048 → IsEnding l.state d.req reply
ending_out k l id d reply x size =
    let s = k.state in
    let r = x.r in
    let here : IsEnding (ended s r) r.req reply = record {
      made = record { above = x.fit.made.above; within = omega (arith, x.fit.made.within, length-set s.procs (r.req.p.0 - 1) (with_queued_if (request_ast r) (process_at s r.req.p))) };
      iosb = x.fit.iosb;
      buf = x.fit.buf;
      size = size;
    } in
    subst (λ (y : Kernel). IsEnding y.state d.req reply) (sym x.after) (subst (λ (y : Finished). IsEnding (ended s r) y.req reply) (sym x.is) here)

pub part_out : (k l : Kernel) (id : Id) (d : Finished) (e : Ending) → IsOut k l id d → finishing d e l.state ≡ finish_id k.state id e
part_out k l id d e x =
    let s = k.state in
    let r = x.r in
    ap (λ (y : Kernel). finishing d e y.state) x.after
    ∙ (ap (λ (y : Finished). finishing y e (ended s r)) x.is
    ∙ (finish_same s r e (record { above = x.fit.made.above; within = x.fit.made.within })
    ∙ ap (λ (o : Option Request). finish_found s o e) (sym x.found)))

pub room_out : (k l : Kernel) (id : Id) (d : Finished) (e : Ending) → IsOut k l id d → Fits k (finish_id k.state id e).effects → Fits l (finishing d e l.state).effects
room_out k l id d e x room =
    let here : Fits (with_state k (ended k.state x.r)) (finishing d e l.state).effects = subst (λ y. Fits k y.effects) (sym (part_out k l id d e x)) room in
    subst (λ (y : Kernel). Fits y (finishing d e l.state).effects) (sym x.after) here

pub done_out : (k l n : Kernel) (id : Id) (d : Finished) (e : Ending) → IsOut k l id d → Acts (finishing d e l.state) l n → Acts (finish_id k.state id e) k n
done_out k l n id d e x did =
    did ∙ (ap (λ (y : Kernel). acted y (finishing d e l.state)) x.after ∙ ap (acted k) (part_out k l id d e x))

-- what holds after it
pub after_steady : (k n : Kernel) (id : Id) (e : Ending) → AreSteady k.state → Acts (finish_id k.state id e) k n → AreSteady n.state
after_steady k n id e h did = subst (λ (y : Kernel). AreSteady y.state) (sym did) (found_steady k.state (find (this_request id) k.state.requests) e h)

pub after_many : (k n : Kernel) (id : Id) (e : Ending) → Acts (finish_id k.state id e) k n → length n.state.procs ≡ length k.state.procs
after_many k n id e did = ap (λ (y : Kernel). length y.state.procs) did ∙ found_many k.state (find (this_request id) k.state.requests) e

pub after_boxes : (k n : Kernel) (id : Id) (e : Ending) → Acts (finish_id k.state id e) k n → n.state.boxes ≡ k.state.boxes
after_boxes k n id e did = ap (λ (y : Kernel). y.state.boxes) did ∙ found_boxes k.state (find (this_request id) k.state.requests) e
