-- How a request finishes that is out already, with its AST queued; and what that relies on.
use Rattle.std.specs.Prelude.{◌≤◌, length}
use Rattle.std.specs.List.{AllByRecursion}
use Rattle.vx_base.specs.declared.effects.Effect.TheVariants as effect
use Rattle.vx_record.specs.Types.{Reply, Req}
use Rattle.vx_record.specs.State.{State, IsProcess}
use Rattle.vx_record.specs.Parts.{Part, and_then, part_if, tells}
use Rattle.vx_record.specs.Finish.{Ending, buf_part, done_flag_part, iosb_part, status_of}
use Rattle.vx_record.specs.Sound.{AreOrdered, RequestStands, ground, request_id}
use Rattle.vx_procs.specs.declared.requests.Finished.{Finished}

-- how it ended is told, and what it read and its status are stored
abbrev pub storing : Req → Ending → State → Part
storing r e s = and_then (and_then (tells (effect.Fin r.id e.0.cond) s) (λ a. buf_part a r e)) (λ b. iosb_part b r.p r.iosb (status_of e))

-- the effects of its end, with what is stored: its condition, the bytes that were read, its status block, its event flag, its AST
abbrev pub finishing : Finished → Ending → State → Part
finishing d e s = and_then (and_then (storing d.req e s) (λ c. done_flag_part c d.req)) (λ a. part_if d.queued (tells (effect.Que d.req.id) a) a)

-- The process is there; the status block and the buffer are those that it has; and the bytes fit into the buffer.
pub record IsEnding (s : State) (req : Req) (reply : Reply) : Type 0 where
  pub made : IsProcess s req.p
  pub iosb : req.iosb ≤ 32
  pub buf : req.buf ≤ 31
  pub size : length reply.bytes ≤ 2048

-- Requests stand, and their ids rise below the next id.
pub record AreRequests (s : State) : Type 0 where
  pub stand : AllByRecursion (RequestStands (ground s)) s.requests
  pub order : AreOrdered request_id 0 s.next s.requests
