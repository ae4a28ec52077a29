use Rattle.std.proofs.Common.{◌-◌, ◌≤◌}
use Rattle.vx_simulate.proofs.Simulated.{Writing}
use Rattle.vx_simulate.proofs.by_seed.write_journal.Given as goal

abbrev pub invariant-steps : goal.invariant-steps
invariant-steps g l = record {
  so_far : Writing l.fn.exec.state.system l.fn.options l.exec l.next.x (g.K.Sink.held l.fn.sink) (g.K.Sink.held l.sink) l.pending;
  later : g.K.Sink.faults l.fn.sink ≤ g.K.Sink.faults l.sink;
}

abbrev pub decreases-steps : goal.decreases-steps
decreases-steps g l = l.exec.limit - l.exec.taken
