use Rattle.std.proofs.Common.{◌≡◌, ◌++◌, take}
use Rattle.vx_draw.specs.Picture.{no_frames}
use Rattle.vx_draw.proofs.picture.add_others.Given as goal

abbrev pub invariant-loop : goal.invariant-loop
invariant-loop l = l.stacks ≡ l.fn.stacks ++ no_frames (take l.index l.names)
