use Rattle.std.proofs.Common.{◌≡◌, ◌++◌, take}
use Rattle.vx_trailer.specs.Outcome.{led_lines}
use Rattle.vx_journal.specs.Transcript.{output_lines}
use Rattle.vx_trailer.proofs.outcome.print_outputs.Given as goal

abbrev pub invariant-loop-bytes : goal.invariant-loop-bytes
invariant-loop-bytes l = l.out ≡ l.fn.out ++ led_lines l.lead (output_lines l.name (take l.bytes-index l.outputs))
