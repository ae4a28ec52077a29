-- Charges: what a process's requests, timers and ASTs take of its five quotas, counted from the lists.
use Rattle.std.specs.Prelude.{ℕ, ◌+◌, Bool, true, false, ◌&&◌, ◌==◌, not, is_some, if◌then◌else◌}
use Rattle.vx_record.specs.Types.{Alarm, Attention, Device, Func, Need, Pid, Queued, Request, Timer}
use Rattle.vx_base.specs.Pieces.{OfTimer, OfWake}
use Rattle.vx_base.specs.Quotas.{no_need, together, is_within}
use Rattle.vx_base.specs.declared.request.Device.TheVariants as device
use Rattle.vx_base.specs.declared.request.Func.TheVariants.{Eof, EofNow, ReadAttn, WrtAttn}
use Rattle.vx_base.specs.Lists.{tally, total}
use Rattle.vx_record.specs.State.{State, process_at, limits_of, unit_decl}

abbrev pub is_same : Pid → Pid → Bool
is_same p q = p.0 == q.0

-- Requests.

-- a direct request is one to a block unit; one to a line unit or a mailbox is buffered
abbrev pub is_direct : State → Device → Bool
is_direct s (device.Unit u) = not ((unit_decl s u).blocks == 0)
is_direct s (device.Mailbox b) = false

abbrev pub is_end_of_file : Func → Bool
is_end_of_file Eof = true
is_end_of_file EofNow = true
is_end_of_file _ = false

-- bytes that a request moves: an end of file none
abbrev pub moved_bytes : Func → ℕ → ℕ
moved_bytes func len = if is_end_of_file func then 0 else len

abbrev pub is_request_of : Pid → Request → Bool
is_request_of p r = is_same r.req.p p

abbrev pub bears_ast : Pid → Request → Bool
bears_ast p r = is_request_of p r && is_some r.ast

abbrev pub is_buffered_of : State → Pid → Request → Bool
is_buffered_of s p r = is_request_of p r && not (is_direct s r.req.device)

abbrev pub is_direct_of : State → Pid → Request → Bool
is_direct_of s p r = is_request_of p r && is_direct s r.req.device

abbrev pub buffered_bytes : State → Pid → Request → ℕ
buffered_bytes s p r = if is_buffered_of s p r then moved_bytes r.req.func r.req.len else 0

-- Timers, wakes and attention entries.

abbrev pub is_timer : Alarm → Bool
is_timer (OfTimer efn reqid mode tag) = true
is_timer (OfWake target repeat) = false

-- a timer with an AST, and each scheduled wake, takes an AST
abbrev pub takes_ast : Alarm → Bool
takes_ast (OfTimer efn reqid mode tag) = is_some tag
takes_ast (OfWake target repeat) = true

abbrev pub is_timer_of : Pid → Timer → Bool
is_timer_of p t = is_same t.p p && is_timer t.what

abbrev pub charged_timer : Pid → Timer → Bool
charged_timer p t = is_same t.p p && takes_ast t.what

abbrev pub is_attention_of : Pid → Attention → Bool
is_attention_of p a = is_same a.p p

abbrev pub is_charged : Queued → Bool
is_charged q = q.charged

-- ASTLM: its requests with an AST, its attention entries, its timers with an AST, the wakes that it scheduled, and its
-- queued ASTs but those of $FORCEX
abbrev pub ast_charge : State → Pid → ℕ
ast_charge s p =
    tally (bears_ast p) s.requests + (tally (is_attention_of p) s.attention + (tally (charged_timer p) s.timers + tally is_charged (process_at s p).asts))

-- what p is charged now: BIOLM for buffered requests, DIOLM for direct ones, BYTLM for the bytes of the buffered ones, TQELM
-- for timers
abbrev pub charge : State → Pid → Need
charge s p = record {
  ast = ast_charge s p;
  bio = tally (is_buffered_of s p) s.requests;
  dio = tally (is_direct_of s p) s.requests;
  byt = total (buffered_bytes s p) s.requests;
  tqe = tally (is_timer_of p) s.timers;
}

-- in some account the charge now and the need exceed the limit
abbrev pub exceeds : State → Pid → Need → Bool
exceeds s p need = not (is_within (together (charge s p) need) (limits_of s p))

-- an AST if there is one
abbrev pub ast_need : Bool → Need
ast_need with_ast = record no_need { ast = if with_ast then 1 else 0 }

abbrev pub timer_need : Bool → Need
timer_need with_ast = record (ast_need with_ast) { tqe = 1 }

abbrev pub is_attention : Func → Bool
is_attention ReadAttn = true
is_attention WrtAttn = true
is_attention _ = false

abbrev pub direct_need : Bool → Need
direct_need with_ast = record (ast_need with_ast) { dio = 1 }

abbrev pub buffered_need : Bool → ℕ → Need
buffered_need with_ast bytes = record (ast_need with_ast) { bio = 1; byt = bytes }

-- what a request needs
abbrev pub request_need : State → Device → Func → Bool → ℕ → Need
request_need s dev func with_ast len =
    if is_attention func then ast_need with_ast else (
    if is_direct s dev then direct_need with_ast else buffered_need with_ast (moved_bytes func len))
