use Rattle.std.proofs.Common.{length}
use Rattle.vx_record.specs.Cancel.{drop_attention, is_attention_on}
use Rattle.vx_io.proofs.Firing.{AreEnding}
use Rattle.vx_io.proofs.cancelling.drop_attentions.Given as goal

abbrev pub invariant-entries : goal.invariant-entries
invariant-entries g l = AreEnding drop_attention (is_attention_on l.p l.chan) l.fn.core l.core

abbrev pub decreases-entries : goal.decreases-entries
decreases-entries g l = length l.core.state.attention
