-- A request that is cancelled, and what that relies on.
use Rattle.std.specs.Prelude.{◌≡◌, ℕ, [], false, ⊤, ◌&&◌, Option, Some, None}
use Rattle.std.specs.List.{AllByRecursion, filter, find, list_any}
use Rattle.vx_record.specs.Types.{BoxNo, Id, Pid, Request}
use Rattle.vx_base.specs.declared.cond.Cond.TheVariants.{Cancel}
use Rattle.vx_record.specs.Cancel.{cancel_request, is_request_on, withdraw}
use Rattle.vx_record.specs.Finish.{ending, finish_id, this_request}
use Rattle.vx_record.specs.Mailboxes.{mailbox_at, mcut_part, this_message}
use Rattle.vx_record.specs.Parts.{Part, and_then, each, nothing, part_if}
use Rattle.vx_record.specs.Sound.{DeviceStands, ground}
use Rattle.vx_record.specs.State.{State}
use Rattle.vx_io.specs.Steady.{AreSteady}

-- the request that was found is cancelled
abbrev pub cancel_found : State → Option Request → Part
cancel_found s None = nothing s
cancel_found s (Some r) = cancel_request s r

-- what a mailbox stores under an id is withdrawn
abbrev pub withdraw_by : State → BoxNo → Id → Part
withdraw_by s b id = part_if (list_any (this_message id) (mailbox_at s b).messages) (mcut_part s b id) s

-- what a mailbox stores of the request that was found is withdrawn
abbrev pub withdraw_found : State → Option Request → Part
withdraw_found s None = nothing s
withdraw_found s (Some r) = withdraw s r r.req.device

-- the request of an id is withdrawn, and finishes
abbrev pub end_by : State → Id → Part
end_by s id = and_then (withdraw_found s (find (this_request id) s.requests)) (λ a. finish_id a id (ending Cancel 0 0 []))

-- the requests of a process on a channel, one after another
abbrev pub cancel_requests : Pid → ℕ → State → Part
cancel_requests p chan s = each cancel_request (filter (is_request_on p chan) s.requests) s

-- the device of the request that was found is there
abbrev pub IsDeviceThere : State → Option Request → Type 0
IsDeviceThere s None = ⊤
IsDeviceThere s (Some r) = DeviceStands (ground s) r.req.device

-- Requests can be cancelled: their devices are there, and what is done can go on.
pub record AreCancellable (s : State) : Type 0 where
  pub devices : AllByRecursion (λ r. DeviceStands (ground s) r.req.device) s.requests
  pub steady : AreSteady s

-- The request of an id is there, and is still to be cancelled.
pub record IsToCancel (s : State) (id : Id) : Type 0 where
  pub r : Request
  pub found : find (this_request id) s.requests ≡ Some r
  pub device : DeviceStands (ground s) r.req.device
  pub steady : AreSteady s
  pub going : (r.served && r.marked) ≡ false
