use Rattle.std.proofs.Common.{◌≡◌, ◌+◌, ◌++◌, drop, length}
use Rattle.vx_draw.specs.Frames.{open_bars}
use Rattle.vx_draw.proofs.frames.Stacks.end.Given as goal

abbrev pub invariant-loop-i : goal.invariant-loop-i
invariant-loop-i l =
    (l.out ++ open_bars (1 + l.i) l.until (drop l.i l.self-inside.items.items) ≡ l.fn.out ++ open_bars 1 l.until l.fn.self)
    × (length l.self-inside.items.items ≡ length l.fn.self)
