use Rattle.vx_record.specs.Types.{Queued}
use Rattle.vx_record.specs.Asts.{with_queued}
use Rattle.vx_procs.proofs.Changed.{changed_room}
use Rattle.vx_procs.proofs.Ops.{held_queued}
use Rattle.vx_procs.proofs.procs.Core.queue_ast.Goals as goal

pub invariant_of-self : goal.invariant_of-self
invariant_of-self g c =
    let q : Queued = record { id = c.args.id; mode = c.args.mode; tag = g.R.Routine.tagged c.args.routine; charged = c.args.charged } in
    held_queued q c.self.inside c.args.self.now c.args.p c.at_mut.result.now _ c.self.view_is c.requires.made c.requires.spares c.requires.within c.at_mut.ensures.value c.queue.ensures.after c.queue.ensures.room c.queue.ensures.account c.self.invariant

pub returns : goal.returns
returns g c =
    let q : Queued = record { id = c.args.id; mode = c.args.mode; tag = g.R.Routine.tagged c.args.routine; charged = c.args.charged } in
    changed_room (with_queued q) c.self.inside c.args.self.now c.args.p c.at_mut.result.now _ c.self.view_is c.requires.made c.at_mut.ensures.value c.queue.ensures.after c.queue.ensures.room
