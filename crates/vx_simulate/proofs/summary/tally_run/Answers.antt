use Rattle.vx_record.specs.Events.{enabled}
use Rattle.vx_exec.proofs.Runs.{picked_there}
use Rattle.vx_simulate.proofs.Summing.{more_tallied}
use Rattle.vx_simulate.proofs.summary.tally_run.Goals as goal

pub step-requires-clause-enabled : goal.step-requires-clause-enabled
step-requires-clause-enabled c = picked_there c.steps.next.x (enabled c.steps.exec.state) c.in-Some-pick.event c.in-Some-pick.ensures.event

pub steps-preserved : goal.steps-preserved
steps-preserved c =
    let did = c.in_ok-rec-in-Some-pick.ensures in
    more_tallied c.args.exec.now c.steps.exec c.step.new.self c.args.seed c.steps.next.x c.pick.new.seed.x c.in_ok-rec-in-Some-pick.rec c.in-Some-pick.event c.steps.tally c.add.new.self c.steps.invariant c.in_default.ensures c.in-Some-pick.ensures.event c.in-Some-pick.ensures.seed did.rec did.after did.plan c.add.ensures.counts
