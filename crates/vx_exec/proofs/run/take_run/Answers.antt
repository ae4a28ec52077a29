use Rattle.std.proofs.Common.{List, [], ◌∷◌, ◌++◌, ap, sym, subst, arith}
use Rattle.vx_record.specs.Types.{Rec}
use Rattle.vx_base.proofs.Results.{on_err_too}
use Rattle.vx_record.specs.Events.{enabled}
use Rattle.vx_exec.specs.Taken.{TakesSome}
use Rattle.vx_exec.specs.View.{Executive}
use Rattle.vx_exec.proofs.Runs.{Taking, ended_run, going_below, picked_there, taken_more}
use Rattle.vx_exec.proofs.run.take_run.Goals as goal

pub returns-in-Some-clause-run : goal.returns-in-Some-clause-run
returns-in-Some-clause-run g c = ended_run c.args.exec.now c.steps.exec c.args.seed c.steps.next.x c.steps.recs c.in-Some.end c.steps.invariant c.in-Some.ensures

pub step-requires-clause-enabled : goal.step-requires-clause-enabled
step-requires-clause-enabled g c = picked_there c.steps.next.x (enabled c.steps.exec.state) c.in-Some-pick.event c.in-Some-pick.ensures.event

pub steps-smaller : goal.steps-smaller
steps-smaller g c =
    let after = c.in_ok-step-in-Some-pick.ensures.after in
    let below = going_below c.steps.exec.limit c.steps.exec.taken c.steps.exec.state c.in_default.ensures in
    omega (arith, below, ap (λ (e : Executive). e.limit) after, ap (λ (e : Executive). e.taken) after)

pub steps-preserved : goal.steps-preserved
steps-preserved g c =
    let did = c.in_ok-step-in-Some-pick.ensures in
    let rec = c.in_ok-step-in-Some-pick.field-0 in
    let more = taken_more c.args.exec.now c.steps.exec c.step.new.self c.args.seed c.steps.next.x c.pick.new.seed.x c.steps.recs rec c.in-Some-pick.event c.steps.invariant c.in_default.ensures c.in-Some-pick.ensures.event c.in-Some-pick.ensures.seed did.rec did.after did.plan in
    subst (λ (rs : List Rec). Taking c.args.exec.now c.step.new.self c.args.seed c.pick.new.seed.x rs) (sym c.in_ok-push-in-Some-pick.ensures.ok) more

pub returns-in_err-step-in-Some-pick-clause-err : goal.returns-in_err-step-in-Some-pick-clause-err
returns-in_err-step-in-Some-pick-clause-err g c =
    rw c.in_err-step-in-Some-pick.ensures.err.1 (on_err_too {P = TakesSome c.args.exec.now c.steps.exec} c.from_residual.result (c.steps.recs, c.steps.invariant.takes))

pub returns-in_err-push-in-Some-pick-clause-err : goal.returns-in_err-push-in-Some-pick-clause-err
returns-in_err-push-in-Some-pick-clause-err g c =
    let did = c.in_ok-step-in-Some-pick.ensures in
    let rec = c.in_ok-step-in-Some-pick.field-0 in
    let more = taken_more c.args.exec.now c.steps.exec c.step.new.self c.args.seed c.steps.next.x c.pick.new.seed.x c.steps.recs rec c.in-Some-pick.event c.steps.invariant c.in_default.ensures c.in-Some-pick.ensures.event c.in-Some-pick.ensures.seed did.rec did.after did.plan in
    on_err_too {P = TakesSome c.args.exec.now c.step.new.self} c.from_residual-in_err-push-in-Some-pick.result (c.steps.recs ++ rec ∷ [], more.takes)
