use Rattle.std.proofs.Common.{◌≡◌, ◌++◌, drop}
use Rattle.vx_trailer.specs.Outcome.{led_lines}
use Rattle.vx_journal.specs.Transcript.{unit_lines}
use Rattle.vx_trailer.proofs.outcome.print_units.Given as goal

abbrev pub invariant-loop-u : goal.invariant-loop-u
invariant-loop-u l = l.out ++ led_lines l.lead (unit_lines l.exec.state.system.units l.u (drop l.u l.exec.state.units)) ≡ l.fn.out ++ led_lines l.lead (unit_lines l.exec.state.system.units 0 l.exec.state.units)
