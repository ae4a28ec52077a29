use Rattle.std.proofs.Common.{rules}
use Rattle.vx_turn.proofs.Keeps.{top_is}
use Rattle.vx_turn.proofs.lock.Turnstile.take_out.Goals as goal

pub exchange-found-requires : goal.exchange-found-requires
exchange-found-requires g c = (search rules, top_is _ _ _ c.requires.has.1)
