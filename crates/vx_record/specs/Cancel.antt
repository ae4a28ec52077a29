-- Cancelling a channel, and the services that do.
use Rattle.std.specs.Prelude.{ℕ, [], Bool, true, ◌&&◌, ◌==◌, not, if◌then◌else◌}
use Rattle.std.specs.List.{filter, list_any}
use Rattle.vx_base.specs.Lists.{less, amend}
use Rattle.vx_record.specs.Types.{Attention, BoxNo, Channel, Cond, Device, Pid, Request}
use Rattle.vx_base.specs.declared.cond.Cond.TheVariants.{Normal, Cancel}
use Rattle.vx_base.specs.declared.effects.Effect.TheVariants as effect
use Rattle.vx_base.specs.declared.request.Device.TheVariants as device
use Rattle.vx_record.specs.State.{State}
use Rattle.vx_record.specs.Parts.{Part, Outcome, nothing, tells, and_then, each, part_if, answered}
use Rattle.vx_record.specs.Charges.{is_same}
use Rattle.vx_record.specs.Finish.{ending, finish, this_request}
use Rattle.vx_record.specs.Mailboxes.{mailbox_at, this_message, mcut_part, this_attention}
use Rattle.vx_record.specs.Channels.{at_channel, free_channel}

abbrev pub with_abort : Request → Request
with_abort r = record r { marked = true }

-- a request in service is to be aborted, and is told so once
abbrev pub mark_part : State → Request → Part
mark_part s r = tells (effect.Mark r.req.id) (record s { requests = amend (this_request r.req.id) with_abort s.requests })

-- a stored write is withdrawn
abbrev pub withdraw_from : State → Request → BoxNo → Part
withdraw_from s r b = part_if (list_any (this_message r.req.id) (mailbox_at s b).messages) (mcut_part s b r.req.id) s

abbrev pub withdraw : State → Request → Device → Part
withdraw s r (device.Unit u) = nothing s
withdraw s r (device.Mailbox b) = withdraw_from s r b

abbrev pub cancelled_request : State → Request → Part
cancelled_request s r = and_then (withdraw s r r.req.device) (λ a. finish a r (ending Cancel 0 0 []))

-- one in service gets its mark if it has none; any other is withdrawn if it is stored, and finishes
abbrev pub cancel_request : State → Request → Part
cancel_request s r = if r.served then part_if (not r.marked) (mark_part s r) s else cancelled_request s r

abbrev pub is_request_on : Pid → ℕ → Request → Bool
is_request_on p chan r = is_same r.req.p p && (r.req.chan == chan)

abbrev pub is_attention_on : Pid → ℕ → Attention → Bool
is_attention_on p chan a = is_same a.p p && (a.chan == chan)

abbrev pub drop_attention : State → Attention → Part
drop_attention s a = tells (effect.Drop a.id) (record s { attention = less (this_attention a.id) s.attention })

abbrev pub drop_attentions : State → Pid → ℕ → Part
drop_attentions s p chan = each drop_attention (filter (is_attention_on p chan) s.attention) s

-- the process's requests on the channel, and then its attention entries there, each in id order
abbrev pub cancel_channel : State → Pid → ℕ → Part
cancel_channel s p chan = and_then (each cancel_request (filter (is_request_on p chan) s.requests) s) (λ a. drop_attentions a p chan)

-- $CANCEL

abbrev pub cancel_at : State → Pid → ℕ → Channel → Outcome Cond
cancel_at s p chan ch = answered Normal (cancel_channel s p chan)

abbrev pub cancel : State → Pid → ℕ → Outcome Cond
cancel s p chan = at_channel s p chan (cancel_at s p chan)

-- $DASSGN

abbrev pub dassgn_at : State → Pid → ℕ → Channel → Outcome Cond
dassgn_at s p chan ch = answered Normal (and_then (cancel_channel s p chan) (λ a. free_channel a p chan))

abbrev pub dassgn : State → Pid → ℕ → Outcome Cond
dassgn s p chan = at_channel s p chan (dassgn_at s p chan)
