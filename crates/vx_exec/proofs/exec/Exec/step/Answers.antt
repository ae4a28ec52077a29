use Rattle.vx_exec.proofs.Engines.{in_after, in_for}
use Rattle.vx_exec.proofs.exec.Exec.step.Goals as goal

pub step-requires-clause-home : goal.step-requires-clause-home
step-requires-clause-home g c = in_for c.self.inside.engine c.args.event c.self.invariant.home

pub invariant_of-self : goal.invariant_of-self
invariant_of-self g c = record {
  on = c.step.ensures.on;
  home = in_after c.self.inside.engine c.step.new.self c.args.event c.step.result c.step.ensures.after c.step.ensures.err c.self.invariant.home;
}
