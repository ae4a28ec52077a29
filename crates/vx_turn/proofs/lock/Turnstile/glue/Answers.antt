use Rattle.std.proofs.Common.{rules, ap, sym, ◌∙◌}
use Rattle.vx_turn.specs.Seats.{Lock}
use Rattle.vx_turn.proofs.Keeps.{joins}
use Rattle.vx_turn.proofs.lock.Turnstile.glue.Goals as goal

pub join_seat-requires : goal.join_seat-requires
join_seat-requires g c =
    let s = c.requires.seat in
    let o = c.requires.other in
    let known = sym (ap (λ (l : Lock). l.table) c.self.view_is) in
    (s.table ∙ known, o.table ∙ known, o.outside.holds, search rules, joins g.T.Kept.history _ _ _ _ _ s.outside.stage o.outside.stage s.outside.part)
