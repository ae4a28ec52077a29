use Rattle.vx_record.specs.Mailboxes.{fire_attention, is_attention_at}
use Rattle.vx_io.proofs.Firing.{entries_begun, entries_end, fire_fewer, fire_on, fire_room}
use Rattle.vx_io.proofs.attention.call_attention.Goals as goal

pub entries-init : goal.entries-init
entries-init g c = entries_begun fire_attention (is_attention_at c.args.b c.args.func) c.args.core.now c.requires.entries c.requires.room

pub fire-requires : goal.fire-requires
fire-requires g c = record { room = fire_room (is_attention_at c.args.b c.args.func) c.args.core.now c.entries.core c.in-Some.id c.entries.invariant c.in-Some.ensures }

pub entries-smaller : goal.entries-smaller
entries-smaller g c = fire_fewer (is_attention_at c.args.b c.args.func) c.args.core.now c.entries.core c.fire.new.core c.in-Some.id c.entries.invariant c.in-Some.ensures c.fire.ensures

pub entries-preserved : goal.entries-preserved
entries-preserved g c = fire_on (is_attention_at c.args.b c.args.func) c.args.core.now c.entries.core c.fire.new.core c.in-Some.id c.entries.invariant c.in-Some.ensures c.fire.ensures

pub returns : goal.returns
returns g c = record { does = entries_end fire_attention (is_attention_at c.args.b c.args.func) c.args.core.now c.entries.core c.entries.invariant c.in_default.ensures }
