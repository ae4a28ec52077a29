use Rattle.std.proofs.Common.{[], ◌∷◌, ◌++◌, map, ap, ◌∙◌}
use Rattle.std.proofs.lemmas.List.{map-append}
use Rattle.vx_record.specs.State.{Process}
use Rattle.vx_procs.specs.View.{process}
use Rattle.vx_procs.proofs.born.add_started.Goals as goal

pub returns-in_ok-push-clause-procs : goal.returns-in_ok-push-clause-procs
returns-in_ok-push-clause-procs g c =
    let old = c.args.procs.now.items in
    rw c.if-decl.true
    (ap (map process) c.in_ok-push.ensures.items
    ∙ (map-append process old (c.in_ok-created.field-0 ∷ [])
    ∙ ap (λ (p : Process). map process old ++ p ∷ []) c.in_ok-created.ensures.process))
