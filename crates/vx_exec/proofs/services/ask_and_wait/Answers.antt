use Rattle.std.proofs.Common.{ap, subst, sym, ◌∙◌}
use Rattle.vx_record.specs.Requests.{Asked, qiow}
use Rattle.vx_record.specs.Services.{routine_or_none}
use Rattle.vx_procs.specs.Kernel.{Fits}
use Rattle.vx_exec.proofs.Running.{asked_same}
use Rattle.vx_exec.proofs.services.ask_and_wait.Goals as goal

pub qiow-requires-clause-room : goal.qiow-requires-clause-room
qiow-requires-clause-room g c =
    let s = c.args.core.now.state in
    let tag = c.routine_or_none-routine.ensures ∙ ap (routine_or_none s c.args.p c.args.args.now.a4) c.number.ensures in
    let same = asked_same s c.args.p c.args.args.now _ _ c.asking-asked.ensures tag in
    subst (λ (q : Asked). Fits c.args.core.now (qiow s c.args.p q).effects) (sym same) c.requires.room
