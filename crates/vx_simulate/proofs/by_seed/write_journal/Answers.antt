use Rattle.std.proofs.Common.{arith}
use Rattle.vx_exec.proofs.Runs.{picked_there}
use Rattle.vx_record.specs.Events.{enabled, step}
use Rattle.vx_simulate.proofs.Simulated.{begun_writing, front_of_front, more_written, run_broken, run_written, some_front, some_lines, still_written}
use Rattle.vx_simulate.proofs.by_seed.write_journal.Goals as goal
use Rattle.vx_simulate.proofs.Following.{left_falls}

pub returns-in_err-write_all-clause-fault : goal.returns-in_err-write_all-clause-fault
returns-in_err-write_all-clause-fault g c = λ e. front_of_front c.args.exec.now.state.system c.args.options _ _ c.args.front c.requires.within c.requires.front (rw c.as_slice.ensures at c.in_err-write_all.ensures.err)

pub steps-init : goal.steps-init
steps-init g c = record {
  so_far = rw c.new-pending.ensures (begun_writing c.args.exec.now.state.system c.args.options c.args.exec.now _ _ c.args.front c.requires.opened c.requires.front (rw c.as_slice.ensures at c.in_ok-write_all.ensures.ok));
  later = c.write_all.ensures.cause.later;
}

pub returns-in_err-print_trailer-clause-no_memory : goal.returns-in_err-print_trailer-clause-no_memory
returns-in_err-print_trailer-clause-no_memory g c = λ e. some_lines c.args.exec.now.state.system c.args.options c.steps.exec c.steps.next.x _ _ c.steps.pending c.requires.within c.steps.invariant.so_far

pub returns-in_err-write_all-2-clause-fault : goal.returns-in_err-write_all-2-clause-fault
returns-in_err-write_all-2-clause-fault g c = λ e.
    run_broken c.args.exec.now.state.system c.args.options c.steps.exec c.steps.next.x _ _ _ c.steps.pending c.print_trailer.new.out c.in-Some.end c.requires.within c.steps.invariant.so_far c.in-Some.ensures c.in_ok-print_trailer.ensures
    (rw c.as_slice-in-Some.ensures at c.in_err-write_all-2.ensures.err)

pub returns-in-Some-clause-done : goal.returns-in-Some-clause-done
returns-in-Some-clause-done g c =
    run_written c.args.exec.now.state.system c.args.options c.steps.exec c.steps.next.x _ _ _ c.steps.pending c.print_trailer.new.out c.in-Some.end c.requires.within c.steps.invariant.so_far c.in-Some.ensures c.in_ok-print_trailer.ensures
    (rw c.as_slice-in-Some.ensures at c.in_ok-write_all-2.ensures.ok)

pub take_step-requires-clause-enabled : goal.take_step-requires-clause-enabled
take_step-requires-clause-enabled g c = picked_there c.steps.next.x (enabled c.steps.exec.state) c.in-Some-pick.event c.in-Some-pick.ensures.event

pub returns-in_err-take_step-in-Some-pick-clause-no_memory : goal.returns-in_err-take_step-in-Some-pick-clause-no_memory
returns-in_err-take_step-in-Some-pick-clause-no_memory g c = λ e. some_lines c.args.exec.now.state.system c.args.options c.steps.exec c.steps.next.x _ _ c.steps.pending c.requires.within c.steps.invariant.so_far

pub steps-smaller : goal.steps-smaller
steps-smaller g c = left_falls c.steps.exec c.take_step.new.exec (step c.steps.exec.state c.in-Some-pick.event).after c.in_default.ensures c.in_ok-take_step-in-Some-pick.ensures.after

pub steps-preserved : goal.steps-preserved
steps-preserved g c =
    let did = c.in_ok-take_step-in-Some-pick.ensures in
    let now = more_written c.args.exec.now.state.system c.args.options c.steps.exec c.take_step.new.exec c.steps.next.x c.pick.new.seed.x c.in-Some-pick.event _ _ c.steps.pending c.take_step.new.pending c.steps.invariant.so_far c.in_default.ensures c.in-Some-pick.ensures.event c.in-Some-pick.ensures.seed did.after did.plan did.printed in
    record {
      so_far = still_written c.args.exec.now.state.system c.args.options c.take_step.new.exec c.pick.new.seed.x _ _ _ c.take_step.new.pending c.send_piece.new.pending now c.in_ok-send_piece-in-Some-pick.ensures.ok;
      later = omega (arith, c.steps.invariant.later, c.send_piece.ensures.cause.later);
    }

pub returns-in_err-send_piece-in-Some-pick-clause-fault : goal.returns-in_err-send_piece-in-Some-pick-clause-fault
returns-in_err-send_piece-in-Some-pick-clause-fault g c = λ e.
    let did = c.in_ok-take_step-in-Some-pick.ensures in
    let now = more_written c.args.exec.now.state.system c.args.options c.steps.exec c.take_step.new.exec c.steps.next.x c.pick.new.seed.x c.in-Some-pick.event _ _ c.steps.pending c.take_step.new.pending c.steps.invariant.so_far c.in_default.ensures c.in-Some-pick.ensures.event c.in-Some-pick.ensures.seed did.after did.plan did.printed in
    some_front c.args.exec.now.state.system c.args.options c.take_step.new.exec c.pick.new.seed.x _ _ _ c.take_step.new.pending c.requires.within now c.in_err-send_piece-in-Some-pick.ensures.err
