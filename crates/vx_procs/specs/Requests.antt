-- Words on requests: whose they are, what becomes of them, and what a finished one was.
use Rattle.std.specs.Prelude.{◌≡◌, ℕ, ◌<◌, ◌≤◌, false, Option, Some, None, IsTrue, is_some, length, ⊤}
use Rattle.vx_base.specs.Lists.{amend, less}
use Rattle.vx_record.specs.Types.{Device, Id, Promised, Queued, Reply, Req, Request, UnitNo}
use Rattle.vx_base.specs.Serving.{serve, settled}
use Rattle.vx_base.specs.declared.request.Device.TheVariants as device
use Rattle.vx_record.specs.State.{State, IsProcess, change, unit_at}
use Rattle.vx_record.specs.Asts.{charged_ast}
use Rattle.vx_record.specs.Cancel.{with_abort}
use Rattle.vx_record.specs.Charges.{is_attention}
use Rattle.vx_record.specs.Finish.{this_request}
use Rattle.vx_record.specs.Requests.{begun, with_unit}
use Rattle.vx_units.specs.Units.{is_for_unit}
use Rattle.vx_procs.specs.Words.{with_queued_if}
use Rattle.vx_procs.specs.declared.requests.Finished.{Finished}

-- a unit is one of so many, and the request is one for a unit
abbrev pub IsForDevice : ℕ → Req → Device → Type 0
IsForDevice n req (device.Unit u) = (u.0 < n) × IsTrue (is_for_unit req)
IsForDevice n req (device.Mailbox b) = ⊤

-- A request is a process's, no attention entry, and fits its device; its status block and its buffer are those that a process has.
pub record IsOwnRequest (s : State) (req : Req) : Type 0 where
  pub made : IsProcess s req.p
  pub transfer : is_attention req.func ≡ false
  pub device : IsForDevice (length s.units) req req.device
  pub iosb : req.iosb ≤ 32
  pub buf : req.buf ≤ 31

-- the AST that a request queues when it finishes

abbrev pub promised_ast : Id → Option Promised → Option Queued
promised_ast id None = None
promised_ast id (Some ast) = Some (charged_ast id ast.mode ast.tag)

abbrev pub request_ast : Request → Option Queued
request_ast r = promised_ast r.req.id r.ast

-- what is told of a request that was finished
abbrev pub finished : Request → Finished
finished r = record { req = r.req; marked = r.marked; queued = is_some r.ast }

-- the request is out, and its AST, if it has one, is queued
abbrev pub ended : State → Request → State
ended s r = change (record s { requests = less (this_request r.req.id) s.requests }) r.req.p (with_queued_if (request_ast r))

abbrev pub ended_if : State → Option Request → State
ended_if s None = s
ended_if s (Some r) = ended s r

-- the front request is in service
abbrev pub begun_if : State → Option Request → State
begun_if s None = s
begun_if s (Some r) = begun s r

-- the request is to be aborted
abbrev pub to_abort : Id → State → State
to_abort id s = record s { requests = amend (this_request id) with_abort s.requests }

-- a unit has served the request, which is out
abbrev pub served_by : State → UnitNo → Request → State
served_by s u r = ended (with_unit s u (settled (unit_at s u) r.req)) r

abbrev pub served_if : State → UnitNo → Option Request → State
served_if s u None = s
served_if s u (Some r) = served_by s u r

-- what is told of it, and what the unit replied
abbrev pub replied : State → UnitNo → Request → Finished × Reply
replied s u r = (finished r, (serve (unit_at s u) r.req).reply)
