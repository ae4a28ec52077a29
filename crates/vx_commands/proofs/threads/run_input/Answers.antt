use Rattle.vx_commands.specs.Carried.{IsRunText}
use Rattle.vx_tell.specs.Scripts.{OfScript, out_of_memory}
use Rattle.vx_tell.proofs.Told.{told_output}
use Rattle.vx_commands.proofs.threads.run_input.Goals as goal

pub returns-clause-told : goal.returns-clause-told
returns-clause-told g c = told_output (OfScript (IsRunText c.args.crew.limit) c.args.input.now) _ _ _ _ _ _ (rw c.as_slice.ensures at c.answer.ensures) out_of_memory c.tell_output.ensures.told
