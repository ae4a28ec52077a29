use Rattle.std.proofs.Common.{refl}
use Rattle.vx_script.proofs.ending.image_of.Goals as goal

pub returns : goal.returns
returns c = rw (c.from_vec.ensures, c.into_vec-2.ensures, c.in_ok-stmts.ensures, c.into_vec.ensures) refl
