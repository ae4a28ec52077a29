use Rattle.std.proofs.Common.{rules}
use Rattle.vx_turn.proofs.Keeps.{looks_as}
use Rattle.vx_turn.proofs.lock.Turnstile.look.Goals as goal

pub load-serving-requires : goal.load-serving-requires
load-serving-requires g c = (search rules, search rules, looks_as g.T.Kept.history _ _ _ c.args.ticket _ c.requires.waits.0 c.requires.waits.1)
