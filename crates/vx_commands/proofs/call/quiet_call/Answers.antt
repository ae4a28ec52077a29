use Rattle.std.proofs.Common.{sym, ◌∙◌}
use Rattle.std.proofs.KnownBytes.{Keeps-refl}
use Rattle.vx_commands.proofs.Answering.{told_size}
use Rattle.vx_commands.proofs.Lawful.{told_lawful}
use Rattle.vx_commands.proofs.call.quiet_call.Goals as goal

pub returns-in-Some-clause-told : goal.returns-in-Some-clause-told
returns-in-Some-clause-told g c = told_size c.args.words.now c.in-Some.n _ _ _ _ _ _ _ _ _ (sym c.size_of.ensures.size ∙ c.in-Some.is) (Keeps-refl _) c.summarize.ensures.told

pub returns-in-Some-clause-lawful : goal.returns-in-Some-clause-lawful
returns-in-Some-clause-lawful g c = told_lawful c.args.words.now _ _ (g.S.Source.faults c.args.source.now) (g.S.Source.faults c.args.source.now) _ _ _ _ _ (told_size c.args.words.now c.in-Some.n _ _ _ _ _ _ _ _ _ (sym c.size_of.ensures.size ∙ c.in-Some.is) (Keeps-refl _) c.summarize.ensures.told)

pub returns-in-None-clause-lawful : goal.returns-in-None-clause-lawful
returns-in-None-clause-lawful g c = told_lawful c.args.words.now _ _ _ _ _ _ _ _ _ c.answer_input.ensures.told
