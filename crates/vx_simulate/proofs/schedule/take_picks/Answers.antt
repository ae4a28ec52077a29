use Rattle.std.proofs.Common.{List, sym, subst}
use Rattle.vx_record.specs.Types.{Rec}
use Rattle.vx_simulate.proofs.Following.{Following, ended_run, followed_more, left_falls, placed_there}
use Rattle.vx_record.specs.Events.{enabled}
use Rattle.vx_simulate.proofs.schedule.take_picks.Goals as goal

pub returns-in-Some-clause-done : goal.returns-in-Some-clause-done
returns-in-Some-clause-done g c = ended_run c.args.exec.now c.steps.exec c.args.places.now c.steps.left.now c.steps.recs c.in-Some.end c.steps.invariant c.in-Some.ensures

pub step-requires-clause-enabled : goal.step-requires-clause-enabled
step-requires-clause-enabled g c = placed_there (enabled c.steps.exec.state) c.next_place.result c.in-Some-enabled.event c.in-Some-enabled.ensures

pub steps-smaller : goal.steps-smaller
steps-smaller g c = left_falls c.steps.exec c.step.new.self _ c.in_default.ensures c.in_ok-step-in-Some-enabled.ensures.after

pub steps-preserved : goal.steps-preserved
steps-preserved g c =
    let did = c.in_ok-step-in-Some-enabled.ensures in
    let rec = c.in_ok-step-in-Some-enabled.field-0 in
    let more = followed_more c.args.exec.now c.steps.exec c.step.new.self c.args.places.now c.steps.left.now c.places_after-left.result.now c.steps.recs rec c.in-Some-enabled.event c.next_place.result c.steps.invariant c.in_default.ensures c.in-Some-enabled.ensures c.next_place.ensures c.places_after-left.ensures did.rec did.after did.plan in
    subst (λ (rs : List Rec). Following c.args.exec.now c.step.new.self c.args.places.now c.places_after-left.result.now rs) (sym c.in_ok-push-in-Some-enabled.ensures.ok) more
