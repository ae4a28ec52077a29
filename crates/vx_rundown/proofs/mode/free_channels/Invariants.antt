use Rattle.std.proofs.Common.{length}
use Rattle.vx_base.specs.Channels.{channels_of}
use Rattle.vx_record.specs.State.{process_at}
use Rattle.vx_rundown.proofs.Freed.{IsFreeing}
use Rattle.vx_rundown.proofs.mode.free_channels.Given as goal

abbrev pub invariant-channels : goal.invariant-channels
invariant-channels g l = IsFreeing l.p l.mode l.fn.core l.core

abbrev pub decreases-channels : goal.decreases-channels
decreases-channels g l = length (channels_of l.mode (process_at l.core.state l.p).channels)
