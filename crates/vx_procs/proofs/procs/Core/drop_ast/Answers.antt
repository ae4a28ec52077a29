use Rattle.std.proofs.Common.{ap, arith, length, sym, subst}
use Rattle.std.specs.List.{find}
use Rattle.vx_record.specs.Charges.{is_charged}
use Rattle.vx_record.specs.Rundown.{is_ast_reached}
use Rattle.vx_record.specs.State.{Process}
use Rattle.vx_procs.specs.View.{process}
use Rattle.vx_procs.specs.Words.{without_reached}
use Rattle.vx_procs.proofs.Changed.{changed_room}
use Rattle.vx_procs.proofs.Ops.{IsOut, counted_here, held_freed, out_less}
use Rattle.vx_procs.proofs.procs.Core.drop_ast.Goals as goal

pub drop_ast-requires : goal.drop_ast-requires
drop_ast-requires g c = counted_here c.self.inside c.args.self.now c.args.p c.at_mut.result.now c.self.view_is c.self.invariant c.requires c.at_mut.ensures.value

pub invariant_of-self : goal.invariant_of-self
invariant_of-self g c =
    let pr = process c.at_mut.result.now in
    let test = is_ast_reached c.args.mode in
    let e = c.drop_ast.ensures.after in
    held_freed (find test pr.asts) c.self.inside c.args.self.now c.args.p c.at_mut.result.now _ c.self.view_is c.requires c.at_mut.ensures.value (ap (λ (x : Process). x.decl) e) (omega (arith, ap (λ (x : Process). length x.frames) e)) (subst (λ (x : Process). IsOut is_charged (find test pr.asts) pr.asts x.asts) (sym e) (out_less is_charged test pr.asts)) c.drop_ast.ensures.room c.drop_ast.ensures.account c.self.invariant

pub returns-clause-after : goal.returns-clause-after
returns-clause-after g c = changed_room (without_reached c.args.mode) c.self.inside c.args.self.now c.args.p c.at_mut.result.now _ c.self.view_is c.requires c.at_mut.ensures.value c.drop_ast.ensures.after c.drop_ast.ensures.room
