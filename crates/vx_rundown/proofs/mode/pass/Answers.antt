use Rattle.vx_rundown.proofs.Left.{leaving_handling}
use Rattle.vx_rundown.proofs.mode.pass.Goals as goal

pub pass_on-requires-clause-leaving : goal.pass_on-requires-clause-leaving
pass_on-requires-clause-leaving g c = rw c.set_phase.ensures (leaving_handling c.args.core.now c.args.p c.args.mode c.requires.leaving)
