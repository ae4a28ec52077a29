use Rattle.std.proofs.Common.{Err, List, ℕ, subst}
use Rattle.vx_grammar.specs.FirstFault.{TellsIfFault}
use Rattle.vx_simulate.specs.Simulated.{IsSimText}
use Rattle.vx_tell.specs.Scripts.{OfScript, out_of_memory}
use Rattle.vx_tell.proofs.Told.{refused_output, told_of_system, told_output}
use Rattle.vx_simulate.proofs.by_seed.simulate.Goals as goal

pub returns-in-Ok-clause-told : goal.returns-in-Ok-clause-told
returns-in-Ok-clause-told g c = told_of_system (IsSimText c.args.options) c.args.input.now c.in-Ok.system _ _ _ _ _ (rw c.as_slice.ensures at c.in-Ok.ensures.spelled.0) c.run.ensures.told

pub returns-in-Err-clause-told : goal.returns-in-Err-clause-told
returns-in-Err-clause-told g c =
    told_output (OfScript (IsSimText c.args.options) c.args.input.now) _ _ _ _ _ _ (refused_output (IsSimText c.args.options) c.args.input.now c.in-Err.fail _ (subst (λ (z : List ℕ). TellsIfFault z (Err c.in-Err.fail)) c.as_slice.ensures c.in-Err.ensures.fault) c.refusal.ensures) out_of_memory c.tell_output.ensures.told
