use Rattle.std.proofs.Common.{length}
use Rattle.vx_script.proofs.keys.+keys_at.Given as goal

abbrev pub decreases-keys_at : goal.decreases-keys_at
decreases-keys_at l = length l.tokens.now
