use Rattle.std.proofs.Common.{reverse, ap}
use Rattle.vx_frames.proofs.Reversed.{same_reversed}
use Rattle.vx_frames.proofs.snapshot.same_stacks.Goals as goal

pub returns : goal.returns
returns c = (λ yes. ap reverse (c.same_items.ensures.0 yes), λ h. c.same_items.ensures.1 (same_reversed c.args.a.now c.args.b.now h))
