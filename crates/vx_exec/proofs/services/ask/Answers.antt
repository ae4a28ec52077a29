use Rattle.std.proofs.Common.{ap, subst, sym, ◌∙◌}
use Rattle.vx_record.specs.Requests.{Asked, qio}
use Rattle.vx_record.specs.Services.{routine_or_none}
use Rattle.vx_procs.specs.Kernel.{Fits}
use Rattle.vx_exec.proofs.Running.{asked_once, asked_same}
use Rattle.vx_exec.proofs.services.ask.Goals as goal

pub qio-answer-requires-clause-room : goal.qio-answer-requires-clause-room
qio-answer-requires-clause-room g c =
    let s = c.args.core.now.state in
    let tag = c.routine_or_none-routine.ensures ∙ ap (routine_or_none s c.args.p c.args.args.now.a4) c.number.ensures in
    let same = asked_same s c.args.p c.args.args.now _ _ c.asking-asked.ensures tag in
    subst (λ (q : Asked). Fits c.args.core.now (qio s c.args.p q).effects) (sym same) c.requires.room

pub returns : goal.returns
returns g c =
    let s = c.args.core.now.state in
    let tag = c.routine_or_none-routine.ensures ∙ ap (routine_or_none s c.args.p c.args.args.now.a4) c.number.ensures in
    let same = asked_same s c.args.p c.args.args.now _ _ c.asking-asked.ensures tag in
    asked_once c.args.core.now c.qio-answer.new.core c.args.p c.args.args.now _ c.cond_of.result same (rw c.cond_of.ensures c.qio-answer.ensures.does)
