use Rattle.std.proofs.Common.{◌≡◌, ◌++◌, flat_map, take}
use Rattle.vx_draw.specs.Picture.{trailer_byte}
use Rattle.vx_draw.proofs.picture.print_trailer_bytes.Given as goal

abbrev pub invariant-loop-b : goal.invariant-loop-b
invariant-loop-b l = l.out ≡ l.fn.out ++ flat_map trailer_byte (take l.b-index l.trailer)
