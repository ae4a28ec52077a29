-- How a request finishes.
use Rattle.std.specs.Prelude.{ℕ, List, Bool, true, false, ◌&&◌, ◌==◌, not, nat_lt, Option, Some, None}
use Rattle.std.specs.List.{find}
use Rattle.vx_base.specs.Lists.{less}
use Rattle.vx_record.specs.Types.{Cond, Func, Id, Pid, Promised, Reply, Req, Request, Status}
use Rattle.vx_base.specs.declared.effects.Effect.TheVariants as effect
use Rattle.vx_base.specs.declared.request.Func.TheVariants.{Read, ReadNow, Write, WriteNow}
use Rattle.vx_image.specs.Storage.{with_status, with_bytes}
use Rattle.vx_record.specs.State.{Process, State, change}
use Rattle.vx_record.specs.Parts.{Part, nothing, tells, and_then, part_if}
use Rattle.vx_record.specs.Flags.{cell, flag_where_named}
use Rattle.vx_record.specs.Asts.{que_part, charged_ast}

abbrev pub is_read : Func → Bool
is_read Read = true
is_read ReadNow = true
is_read _ = false

abbrev pub is_write : Func → Bool
is_write Write = true
is_write WriteNow = true
is_write _ = false

abbrev pub this_request : Id → Request → Bool
this_request id r = r.req.id.0 == id.0

-- what a request ends with: the condition and the two numbers of its status block, and the bytes that were read
abbrev pub Ending : Type 0
Ending = Reply × ℕ

abbrev pub ending : Cond → ℕ → ℕ → List ℕ → Ending
ending cond count info bytes = (record { cond = cond; count = count; bytes = bytes }, info)

abbrev pub status_of : Ending → Status
status_of e = record { cond = Some e.0.cond; count = e.0.count; info = e.1 }

-- The five parts, each with its change.

abbrev pub fin_part : State → Id → Cond → Part
fin_part s id cond = tells (effect.Fin id cond) (record s { requests = less (this_request id) s.requests })

abbrev pub with_stored_bytes : ℕ → List ℕ → Process → Process
with_stored_bytes b bytes pr = record pr { store = with_bytes pr.store b bytes }

-- the bytes that were read, over the start of the buffer
abbrev pub buf_part : State → Req → Ending → Part
buf_part s r e = part_if (is_read r.func && nat_lt 0 e.0.count) (tells (effect.Buf r.p r.buf e.0.bytes) (change s r.p (with_stored_bytes r.buf e.0.bytes))) s

abbrev pub with_stored_status : ℕ → Status → Process → Process
with_stored_status i status pr = record pr { store = with_status pr.store i status }

abbrev pub put_status : State → Pid → ℕ → Status → Part
put_status s p i status = tells (effect.Iosb p i status.cond status.count status.info) (change s p (with_stored_status i status))

-- the status block, if the call named one
abbrev pub iosb_part : State → Pid → ℕ → Status → Part
iosb_part s p i status = part_if (not (i == 0)) (put_status s p i status) s

-- the event flag, if its number names a cell now
abbrev pub done_flag_part : State → Req → Part
done_flag_part s r = flag_where_named s (cell s r.p r.efn) true

-- the AST, if there is one; it is charged until it starts
abbrev pub done_ast_part : State → Req → Option Promised → Part
done_ast_part s r None = nothing s
done_ast_part s r (Some ast) = que_part s r.p (charged_ast r.id ast.mode ast.tag)

abbrev pub finish : State → Request → Ending → Part
finish s r e =
    and_then (and_then (and_then (and_then (fin_part s r.req.id e.0.cond) (λ a. buf_part a r.req e)) (λ b. iosb_part b r.req.p r.req.iosb (status_of e))) (λ c. done_flag_part c r.req)) (λ d. done_ast_part d r.req r.ast)

abbrev pub finish_found : State → Option Request → Ending → Part
finish_found s None e = nothing s
finish_found s (Some r) e = finish s r e

-- the request of an id finishes
abbrev pub finish_id : State → Id → Ending → Part
finish_id s id e = finish_found s (find (this_request id) s.requests) e
