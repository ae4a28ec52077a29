use Rattle.vx_record.specs.Cancel.{drop_attention, is_attention_on}
use Rattle.vx_io.proofs.Firing.{drop_fewer, drop_on, drop_room, entries_begun, entries_end}
use Rattle.vx_io.proofs.cancelling.drop_attentions.Goals as goal

pub entries-init : goal.entries-init
entries-init g c = entries_begun drop_attention (is_attention_on c.args.p c.args.chan) c.args.core.now c.requires.order c.requires.room

pub drop_attention-requires : goal.drop_attention-requires
drop_attention-requires g c = record { room = drop_room (is_attention_on c.args.p c.args.chan) c.args.core.now c.entries.core c.in-Some.id c.entries.invariant c.in-Some.ensures }

pub entries-smaller : goal.entries-smaller
entries-smaller g c = drop_fewer (is_attention_on c.args.p c.args.chan) c.args.core.now c.entries.core c.drop_attention.new.core c.in-Some.id c.entries.invariant c.in-Some.ensures c.drop_attention.ensures

pub entries-preserved : goal.entries-preserved
entries-preserved g c = drop_on (is_attention_on c.args.p c.args.chan) c.args.core.now c.entries.core c.drop_attention.new.core c.in-Some.id c.entries.invariant c.in-Some.ensures c.drop_attention.ensures

pub returns : goal.returns
returns g c = entries_end drop_attention (is_attention_on c.args.p c.args.chan) c.args.core.now c.entries.core c.entries.invariant c.in_default.ensures
