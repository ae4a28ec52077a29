use Rattle.vx_commands.proofs.Reported.{told_as}
use Rattle.vx_commands.proofs.judging.reported.Goals as goal

pub returns-in_ok-text-in-Line : goal.returns-in_ok-text-in-Line
returns-in_ok-text-in-Line c = told_as c.args.input.now c.args.report c.args.verdict c.in_ok-text-in-Line.text c.in-Line.is c.requires.verdict c.in_ok-text-in-Line.ensures
