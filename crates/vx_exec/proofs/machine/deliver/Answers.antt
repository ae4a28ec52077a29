use Rattle.vx_exec.proofs.Running.{inward_taken, set_taken}
use Rattle.vx_exec.proofs.machine.deliver.Goals as goal

pub start-requires-clause-set : goal.start-requires-clause-set
start-requires-clause-set g c = set_taken c.args.core.now c.take_ast.new.self c.args.p c.requires.next.set c.take_ast.ensures.after

pub start-requires-clause-inward : goal.start-requires-clause-inward
start-requires-clause-inward g c = rw c.mode-mode.ensures (inward_taken c.args.core.now c.take_ast.new.self c.args.p c.in-Some.ast c.requires.next.set.ready.made c.in-Some.ensures.found c.take_ast.ensures.after)
