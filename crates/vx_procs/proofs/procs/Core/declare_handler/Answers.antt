use Rattle.std.proofs.Common.{refl, arith}
use Rattle.vx_record.specs.Types.{Handler}
use Rattle.vx_record.specs.Rundown.{with_handler}
use Rattle.vx_procs.proofs.Changed.{changed_as, held_as}
use Rattle.vx_procs.proofs.procs.Core.declare_handler.Goals as goal

pub invariant_of-self : goal.invariant_of-self
invariant_of-self g c =
    let h : Handler = record { id = c.args.id; mode = c.args.mode; tag = g.R.Routine.tagged c.args.routine } in
    held_as (with_handler h) c.self.inside c.args.self.now c.args.p c.at_mut.result.now _ c.self.view_is c.requires.made c.at_mut.ensures.value (rw (c.declare-declared.ensures.after, c.requires.outside) refl) (rw (c.declare-declared.ensures.after, c.requires.outside) refl) (record { decl = refl; asts = refl; frames = omega arith }) c.self.invariant

pub returns : goal.returns
returns g c =
    let h : Handler = record { id = c.args.id; mode = c.args.mode; tag = g.R.Routine.tagged c.args.routine } in
    changed_as (with_handler h) c.self.inside c.args.self.now c.args.p c.at_mut.result.now _ c.self.view_is c.requires.made c.at_mut.ensures.value (rw (c.declare-declared.ensures.after, c.requires.outside) refl) (rw (c.declare-declared.ensures.after, c.requires.outside) refl)
