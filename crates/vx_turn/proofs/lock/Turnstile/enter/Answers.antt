use Rattle.std.proofs.Common.{rules}
use Rattle.vx_turn.proofs.Keeps.{draws_as}
use Rattle.vx_turn.proofs.lock.Turnstile.enter.Goals as goal

pub fetch_add-ticket-requires : goal.fetch_add-ticket-requires
fetch_add-ticket-requires g c = (search rules, search rules, draws_as g.T.Kept.history _ _ _ _ c.requires.outside.holds c.requires.outside.stage c.requires.outside.part)
