use Rattle.std.proofs.Common.{◌≡◌, ◌++◌, take}
use Rattle.vx_text.specs.Quote.{inside_text}
use Rattle.vx_text.proofs.quote.print_inside.Given as goal

abbrev pub invariant-loop-b : goal.invariant-loop-b
invariant-loop-b l = l.out ≡ l.initial.out ++ inside_text (take l.b-index l.bytes)
