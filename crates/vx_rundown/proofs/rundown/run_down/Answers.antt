use Rattle.vx_record.specs.Rundown.{run_down}
use Rattle.vx_procs.proofs.Rest.{answering_begun}
use Rattle.vx_rundown.specs.Steps.{modes_from}
use Rattle.vx_rundown.proofs.Modes.{does_as, pass_ends, pass_more, pass_room, running_at}
use Rattle.vx_rundown.proofs.rundown.run_down.Goals as goal

pub modes-init : goal.modes-init
modes-init g c = record { leaving = c.requires.leaving; rest = answering_begun (run_down c.args.p (modes_from c.args.outermost) c.args.core.now.state) c.args.core.now c.requires.room }

pub pass-requires-clause-leaving : goal.pass-requires-clause-leaving
pass-requires-clause-leaving g c = c.modes.invariant.leaving

pub pass-requires-clause-room : goal.pass-requires-clause-room
pass-requires-clause-room g c = pass_room (running_at c.modes.next c.in-Some.is c.modes.invariant)

pub returns-in-Some-pass : goal.returns-in-Some-pass
returns-in-Some-pass g c = pass_ends (running_at c.modes.next c.in-Some.is c.modes.invariant) (does_as c.in-Some-pass.is c.pass.ensures)

pub modes-preserved : goal.modes-preserved
modes-preserved g c = rw c.next_inner-next.ensures (pass_more (running_at c.modes.next c.in-Some.is c.modes.invariant) (does_as c.in_default-pass.is c.pass.ensures))
