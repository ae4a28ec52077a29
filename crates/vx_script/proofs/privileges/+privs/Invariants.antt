use Rattle.std.proofs.Common.{length}
use Rattle.vx_script.proofs.privileges.+privs.Given as goal

abbrev pub decreases-name_first : goal.decreases-name_first
decreases-name_first l = length l.tokens.now

abbrev pub decreases-sign_first : goal.decreases-sign_first
decreases-sign_first l = length l.tokens.now
