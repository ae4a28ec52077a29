use Rattle.vx_commands.proofs.Reported.{drawn_as}
use Rattle.vx_commands.proofs.judging.drawn.Goals as goal

pub returns-in_ok-text-in-Ok : goal.returns-in_ok-text-in-Ok
returns-in_ok-text-in-Ok c = drawn_as c.args.input.now c.args.report c.args.verdict c.in-Ok.journal c.in_ok-text-in-Ok.text c.requires.verdict c.in-Ok.ensures.only.journal c.in_ok-text-in-Ok.ensures
