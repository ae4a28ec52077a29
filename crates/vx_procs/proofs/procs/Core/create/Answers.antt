use Rattle.std.proofs.Common.{◌≡◌, slice_index_or, arith, sym, ap, subst, ◌∙◌}
use Rattle.std.proofs.lemmas.Bool.Decides.{nat_tests}
use Rattle.vx_record.specs.Types.{Need, ProcDecl}
use Rattle.vx_record.specs.State.{Process, no_decl}
use Rattle.vx_record.specs.Runs.{born_of}
use Rattle.vx_record.specs.Control.{created, decl_at}
use Rattle.vx_procs.specs.Fresh.{IsBlank}
use Rattle.vx_procs.specs.Kernel.{Kernel}
use Rattle.vx_procs.specs.View.{process}
use Rattle.vx_procs.proofs.Created.{created_as, held_created, newcomer_place}
use Rattle.vx_procs.proofs.procs.Core.create.Goals as goal

pub put-requires : goal.put-requires
put-requires g c =
    let place = newcomer_place c.self.inside c.args.self.now c.self.view_is c.requires.newcomer in
    grind (arith, nat_tests)

pub invariant_of-self : goal.invariant_of-self
invariant_of-self g c =
    let r = c.into_proc-created.result in
    let k = c.args.self.now in
    let core = c.self.inside in
    let is : process r ≡ created k.state c.args.p c.args.place = c.into_proc-created.ensures.process ∙ ap (born_of c.args.place) c.declaration_by-decl.ensures in
    let limits : c.declaration_by-decl.result.limits ≡ (slice_index_or core.system.decls (process r).decl no_decl).limits =
    ap (λ (d : ProcDecl). d.limits) c.declaration_by-decl.ensures ∙ (ap (λ (x : Kernel). (decl_at x.state c.args.place).limits) (sym c.self.view_is) ∙ ap (λ (pr : Process). (slice_index_or core.system.decls pr.decl no_decl).limits) (sym is)) in
    held_created core (record core { procs = c.put.new.self; spare = c.take.new.self }) r c.put.ensures (subst (λ (n : Need). IsBlank n r) limits c.into_proc-created.ensures.fresh) c.self.invariant

pub returns-clause-after : goal.returns-clause-after
returns-clause-after g c =
    let core = c.self.inside in
    created_as core (record core { procs = c.put.new.self; spare = c.take.new.self }) c.args.self.now c.args.p c.args.place c.into_proc-created.result c.in-Some.spare c.self.view_is c.requires.newcomer (sym c.take.ensures.value ∙ c.in-Some.is) c.put.ensures c.take.ensures.after (c.into_proc-created.ensures.process ∙ ap (born_of c.args.place) c.declaration_by-decl.ensures) c.into_proc-created.ensures.room
