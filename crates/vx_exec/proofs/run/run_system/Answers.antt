use Rattle.vx_exec.proofs.Runs.{chosen_run}
use Rattle.vx_exec.proofs.run.run_system.Goals as goal

pub returns-in-Ok : goal.returns-in-Ok
returns-in-Ok g c = chosen_run c.args.system c.args.seed c.args.limit c.in_ok-exec.exec c.take_run.new.exec c.in-Ok.recs c.in-Ok.end c.requires.within c.in_ok-exec.ensures c.in-Ok.ensures.run
