use Rattle.vx_simulate.proofs.Following.{fail_told, picked_run}
use Rattle.vx_simulate.proofs.schedule.run_picks.Goals as goal

pub returns-in-Err-clause-missing : goal.returns-in-Err-clause-missing
returns-in-Err-clause-missing g c = fail_told c.args.system c.args.places.now c.args.limit c.in_ok-exec.exec c.take_picks.new.exec c.in-Err.fail c.in_ok-exec.ensures c.in-Err.ensures.missing

pub returns-in-Ok-clause-done : goal.returns-in-Ok-clause-done
returns-in-Ok-clause-done g c = picked_run c.args.system c.args.places.now c.args.limit c.in_ok-exec.exec c.take_picks.new.exec c.in-Ok.recs c.in-Ok.end c.requires.within c.in_ok-exec.ensures c.in-Ok.ensures.done
