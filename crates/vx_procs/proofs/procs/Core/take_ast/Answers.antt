use Rattle.std.proofs.Common.{ap, arith, sym, subst, ◌∙◌, IsTrue, length}
use Rattle.vx_record.specs.Asts.{deliverable_ast}
use Rattle.vx_record.specs.Charges.{is_charged}
use Rattle.vx_record.specs.State.{Process}
use Rattle.vx_procs.specs.View.{process}
use Rattle.vx_procs.specs.Words.{deliverable_of, have_own_ids, without_started}
use Rattle.vx_procs.proofs.Changed.{changed_room, seen_in}
use Rattle.vx_procs.proofs.Ops.{IsOut, counted_here, held_freed, out_started, started_decl, started_frames}
use Rattle.vx_procs.proofs.procs.Core.take_ast.Goals as goal

pub take-requires-clause-ids : goal.take-requires-clause-ids
take-requires-clause-ids g c = subst (λ (pr : Process). IsTrue (have_own_ids pr.asts)) (sym (seen_in c.self.inside c.args.self.now c.args.p c.at_mut.result.now c.self.view_is c.requires.made c.at_mut.ensures.value)) c.requires.ids

pub take-requires-clause-counts : goal.take-requires-clause-counts
take-requires-clause-counts g c = counted_here c.self.inside c.args.self.now c.args.p c.at_mut.result.now c.self.view_is c.self.invariant c.requires.made c.at_mut.ensures.value

pub invariant_of-self : goal.invariant_of-self
invariant_of-self g c =
    let pr = process c.at_mut.result.now in
    let own = subst (λ (x : Process). IsTrue (have_own_ids x.asts)) (sym (seen_in c.self.inside c.args.self.now c.args.p c.at_mut.result.now c.self.view_is c.requires.made c.at_mut.ensures.value)) c.requires.ids in
    let o = deliverable_of pr in
    let e = c.take.ensures.after in
    held_freed o c.self.inside c.args.self.now c.args.p c.at_mut.result.now _ c.self.view_is c.requires.made c.at_mut.ensures.value (ap (λ (x : Process). x.decl) e ∙ started_decl o pr) (omega (arith, ap (λ (x : Process). length x.frames) e, started_frames o pr)) (subst (λ (x : Process). IsOut is_charged o pr.asts x.asts) (sym e) (out_started pr own)) c.take.ensures.room c.take.ensures.account c.self.invariant

pub returns-clause-after : goal.returns-clause-after
returns-clause-after g c =
    let pr = process c.at_mut.result.now in
    let same = ap (λ (x : Process). deliverable_of x) (seen_in c.self.inside c.args.self.now c.args.p c.at_mut.result.now c.self.view_is c.requires.made c.at_mut.ensures.value) in
    changed_room (without_started (deliverable_ast c.args.self.now.state c.args.p)) c.self.inside c.args.self.now c.args.p c.at_mut.result.now _ c.self.view_is c.requires.made c.at_mut.ensures.value (c.take.ensures.after ∙ ap (λ d. without_started d pr) same) c.take.ensures.room
