use Rattle.vx_exec.proofs.Engines.{in_after, in_for}
use Rattle.vx_exec.proofs.exec.Exec.advance.Goals as goal

pub take-requires-clause-home : goal.take-requires-clause-home
take-requires-clause-home g c = in_for c.self.inside.engine c.args.event c.self.invariant.home

pub invariant_of-self-2 : goal.invariant_of-self-2
invariant_of-self-2 g c = record {
  on = rw c.forget_log.ensures c.take.ensures.on;
  home = rw c.forget_log.ensures (in_after c.self.inside.engine c.take.new.self c.args.event c.take.result c.take.ensures.after c.take.ensures.err c.self.invariant.home);
}
