use Rattle.std.proofs.Common.{length}
use Rattle.vx_record.specs.Mailboxes.{fire_attention, is_attention_at}
use Rattle.vx_io.proofs.Firing.{AreEnding}
use Rattle.vx_io.proofs.attention.call_attention.Given as goal

abbrev pub invariant-entries : goal.invariant-entries
invariant-entries g l = AreEnding fire_attention (is_attention_at l.b l.func) l.fn.core l.core

abbrev pub decreases-entries : goal.decreases-entries
decreases-entries g l = length l.core.state.attention
