use Rattle.std.proofs.Common.{length}
use Rattle.vx_record.specs.State.{process_at}
use Rattle.vx_rundown.proofs.Cancelled.{IsCancelling, channels_behind}
use Rattle.vx_rundown.proofs.mode.cancel_channels.Given as goal

abbrev pub invariant-channels : goal.invariant-channels
invariant-channels g l = IsCancelling l.p l.mode l.fn.core l.after l.core

abbrev pub decreases-channels : goal.decreases-channels
decreases-channels g l = length (channels_behind l.mode l.after (process_at l.core.state l.p).channels)
