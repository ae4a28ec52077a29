use Rattle.std.proofs.Common.{◌≡◌, ◌+◌, ◌++◌, drop}
use Rattle.vx_trailer.specs.Outcome.{led_lines}
use Rattle.vx_journal.specs.Transcript.{process_lines}
use Rattle.vx_trailer.proofs.outcome.print_processes.Given as goal

abbrev pub invariant-loop-n : goal.invariant-loop-n
invariant-loop-n l = l.out ++ led_lines l.lead (process_lines l.exec.state.system (1 + l.n) (drop l.n l.exec.state.procs)) ≡ l.fn.out ++ led_lines l.lead (process_lines l.exec.state.system 1 l.exec.state.procs)
