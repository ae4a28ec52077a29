-- What is looked for among requests.
use Rattle.std.specs.Prelude.{Bool}
use Rattle.vx_record.specs.Types.{Request}
use Rattle.vx_base.specs.Queues.{is_served_by, waits_for}
use Rattle.vx_record.specs.Mailboxes.{waits_at}
use Rattle.vx_reqs.specs.Requests.{is_to_cancel, keeps_open}
use Rattle.vx_reqs.specs.declared.sought.Sought.{Sought}
use Rattle.vx_reqs.specs.declared.sought.Sought.TheVariants.{WithId, ServedBy, WaitingFor, WaitingAt, ToCancel, Open}
use Rattle.vx_record.specs.Finish.{this_request}

-- the request is one of those
abbrev pub is_sought : Sought → Request → Bool
is_sought (WithId id) = this_request id
is_sought (ServedBy u) = is_served_by u
is_sought (WaitingFor u) = waits_for u
is_sought (WaitingAt b) = waits_at b
is_sought (ToCancel p chan) = is_to_cancel p chan
is_sought (Open p mode) = keeps_open p mode
