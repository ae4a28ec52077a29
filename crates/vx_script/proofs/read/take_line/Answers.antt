use Rattle.vx_script.proofs.Cutting.{lexed_badly}
use Rattle.vx_script.proofs.read.take_line.Goals as goal

pub returns-in-Err : goal.returns-in-Err
returns-in-Err c = rw c.line_fail.ensures (lexed_badly c.in-Err.fail c.args.line c.args.reading.now c.args.text.now c.in-Err.ensures.gives)
