use Rattle.std.proofs.Common.{ap, subst, sym, ◌∙◌}
use Rattle.vx_record.specs.Parts.{Part}
use Rattle.vx_procs.specs.Kernel.{Fits}
use Rattle.vx_procs.proofs.Rest.{acted}
use Rattle.vx_io.proofs.OneCancelled.{withdrawn_at}
use Rattle.vx_io.proofs.cancelling.withdraw.Goals as goal

pub withdraw_from-requires-clause-room : goal.withdraw_from-requires-clause-room
withdraw_from-requires-clause-room g c =
    let k = c.args.core.now in
    let d = c.in-Some-Mailbox in
    subst (λ (a : Part). Fits k a.effects) (sym (withdrawn_at k.state c.args.id d.b d.field-0 d.field-0-is d.ensures)) c.requires.room

pub returns-in-Some-Mailbox : goal.returns-in-Some-Mailbox
returns-in-Some-Mailbox g c =
    let k = c.args.core.now in
    let d = c.in-Some-Mailbox in
    c.withdraw_from.ensures ∙ ap (acted k) (withdrawn_at k.state c.args.id d.b d.field-0 d.field-0-is d.ensures)
