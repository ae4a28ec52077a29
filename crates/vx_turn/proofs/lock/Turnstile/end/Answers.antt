use Rattle.std.proofs.Common.{◌≡◌, Some, sym, ap, ◌∙◌, subst}
use mathlib.Core.Option.{some-injective}
use Rattle.vx_turn.specs.Rule.{Shared}
use Rattle.vx_turn.specs.Seats.{Lock}
use Rattle.vx_turn.proofs.Keeps.{settles}
use Rattle.vx_turn.proofs.lock.Turnstile.end.Goals as goal

pub unreachable-requires : goal.unreachable-requires
unreachable-requires g c =
    let s = settles g.T.Kept.history _ _ _ _ _ c.requires.seat.outside.stage (c.requires.all ∙ sym (ap (λ (l : Lock). l.seats) c.self.view_is)) c.close_with-closed.ensures.values.2 in
    let e : Some s.0 ≡ c.take-found.result = some-injective _ _ (sym s.1 ∙ c.take-found.ensures.value) in
    c.in_default.not-Some s.0 (sym e)

pub returns : goal.returns
returns g c =
    let s = settles g.T.Kept.history _ _ _ _ _ c.requires.seat.outside.stage (c.requires.all ∙ sym (ap (λ (l : Lock). l.seats) c.self.view_is)) c.close_with-closed.ensures.values.2 in
    let e : Some s.0 ≡ c.take-found.result = some-injective _ _ (sym s.1 ∙ c.take-found.ensures.value) in
    let same : s.0 ≡ c.in-Some.value = (let both : Some s.0 ≡ Some c.in-Some.value = e ∙ c.in-Some.is in cc) in
    subst (λ (x : g.row.T.Denot). Shared (g.T.Kept.history x) c.args.seat.me.0) same s.2
