use Rattle.vx_procs.specs.Words.{advanced_at}
use Rattle.vx_exec.proofs.Running.{advanced_call, set_moved}
use Rattle.vx_exec.proofs.machine.go_on.Goals as goal

pub stop_at-requires-clause-set : goal.stop_at-requires-clause-set
stop_at-requires-clause-set g c =
    let a = advanced_at c.args.core.now.state c.args.p in
    set_moved c.args.core.now c.run_local-place.new.self c.args.p a.store a.place c.requires.set c.run_local-place.ensures.after

pub stop_at-requires-clause-call : goal.stop_at-requires-clause-call
stop_at-requires-clause-call g c = advanced_call c.args.core.now c.args.p c.run_local-place.result.0 c.run_local-place.result.1 c.requires.set c.run_local-place.ensures.place c.run_local-place.ensures.stop
