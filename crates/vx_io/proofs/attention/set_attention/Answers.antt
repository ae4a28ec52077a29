use Rattle.std.proofs.Common.{None, refl}
use Rattle.vx_record.specs.Requests.{new_attention}
use Rattle.vx_io.specs.Asking.{asked}
use Rattle.vx_io.proofs.Setting.{attended_fits, filled_fits, flagged_fits, opened_fits, set_as}
use Rattle.vx_io.proofs.attention.set_attention.Goals as goal

pub open-id-requires-clause-room : goal.open-id-requires-clause-room
open-id-requires-clause-room g c = let q = asked c.args.ask None in
    opened_fits c.args.core.now c.args.p q (new_attention c.args.core.now.state c.args.p q c.args.b (g.R.Routine.tagged c.args.routine)) c.requires.room

pub fill_status-requires-clause-room : goal.fill_status-requires-clause-room
fill_status-requires-clause-room g c = let q = asked c.args.ask None in
    filled_fits c.args.core.now c.open-id.new.core c.args.p q (new_attention c.args.core.now.state c.args.p q c.args.b (g.R.Routine.tagged c.args.routine)) c.open-id.ensures.does c.requires.room

pub set_where_named-requires-clause-room : goal.set_where_named-requires-clause-room
set_where_named-requires-clause-room g c = let q = asked c.args.ask None in
    flagged_fits c.args.core.now c.open-id.new.core c.fill_status.new.core c.args.p q (new_attention c.args.core.now.state c.args.p q c.args.b (g.R.Routine.tagged c.args.routine)) c.open-id.ensures.does c.fill_status.ensures c.requires.room

pub attend-requires-clause-room : goal.attend-requires-clause-room
attend-requires-clause-room g c = let q = asked c.args.ask None in
    attended_fits c.args.core.now c.open-id.new.core c.fill_status.new.core c.set_where_named.new.core c.args.p q (new_attention c.args.core.now.state c.args.p q c.args.b (g.R.Routine.tagged c.args.routine)) c.open-id.result c.open-id.ensures.id refl c.requires.opening.steady.entries c.open-id.ensures.does c.fill_status.ensures c.set_where_named.ensures c.requires.room

pub returns : goal.returns
returns g c =
    let k = c.args.core.now in
    let q = asked c.args.ask None in
    let a = new_attention k.state c.args.p q c.args.b (g.R.Routine.tagged c.args.routine) in
    set_as k c.open-id.new.core c.fill_status.new.core c.set_where_named.new.core c.attend.new.core c.args.p q a c.open-id.result c.open-id.ensures.id refl c.requires.opening.steady.entries c.open-id.ensures.does c.fill_status.ensures c.set_where_named.ensures c.attend.ensures
