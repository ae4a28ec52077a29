use Rattle.std.proofs.Common.{◌≡◌, IsTrue, ap, subst, sym, ◌∙◌}
use Rattle.vx_record.proofs.Steps.{left_after}
use Rattle.vx_record.specs.State.{Process, State, IsProcess, change, process_at}
use Rattle.vx_record.specs.Rundown.{named_for_deletion}
use Rattle.vx_procs.specs.Kernel.{Kernel}
use Rattle.vx_procs.specs.Words.{handlers_have_own_ids}
use Rattle.vx_io.proofs.Changed.{made_still, process_there}
use Rattle.vx_rundown.proofs.deletion.delete.Goals as goal

pub drop_handlers-requires-clause-made : goal.drop_handlers-requires-clause-made
drop_handlers-requires-clause-made g c =
    let s = c.args.core.now.state in
    let q = c.args.q in
    let there : c.delete.new.self.state ≡ change s q named_for_deletion = ap (λ (x : Kernel). x.state) c.delete.ensures ∙ left_after (process_at s q).frames (change s q named_for_deletion) in
    subst (λ (x : State). IsProcess x q) (sym there) (made_still s q q named_for_deletion c.requires.made)

pub drop_handlers-requires-clause-ids : goal.drop_handlers-requires-clause-ids
drop_handlers-requires-clause-ids g c =
    let s = c.args.core.now.state in
    let q = c.args.q in
    let there : c.delete.new.self.state ≡ change s q named_for_deletion = ap (λ (x : Kernel). x.state) c.delete.ensures ∙ left_after (process_at s q).frames (change s q named_for_deletion) in
    subst (λ (x : State). IsTrue (handlers_have_own_ids (process_at x q).handlers)) (sym there)
    (subst (λ (pr : Process). IsTrue (handlers_have_own_ids pr.handlers)) (sym (process_there s q named_for_deletion c.requires.made)) c.requires.ids)
