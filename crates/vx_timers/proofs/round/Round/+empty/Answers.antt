use Rattle.std.proofs.Common.{◌≡◌, ◌/◌, ◌-◌, None, Option, ap, arith, length, replicate, rules, sym, ℕ, ◌∙◌}
use Rattle.std.proofs.lemmas.List.{length-replicate}
use Rattle.vx_timers.specs.Rounds.{winners}
use Rattle.vx_timers.proofs.Rounds.{winners_none}
use Rattle.vx_timers.proofs.round.Round.+empty.Goals as goal
use Rattle.vx_timers.proofs.round.Round.+empty.Goals.{then-places-le1, else-places-le1+in_ok-empty+in_ok-new}

pub invariant_of-result : goal.invariant_of-result
invariant_of-result t c =
    let places = c.args.places in
    let all : c.in_ok-times.times.items ≡ replicate places None = search rules in
    elim c.if-places-le1.branch [
      | then-places-le1 w ↦ rw w.next-is tt
      | else-places-le1+in_ok-empty+in_ok-new w ↦
          let fewer = w.in_ok-new.ensures.ok ∙ w.in_ok-empty.ensures in
          rw w.next-is (record {
            winners = fewer ∙ (winners_none places ∙ ap winners (sym all));
            fewer = omega (arith, ap length fewer, ap length all, w.if-places-le1.false, length-replicate {A = Option ℕ} places None, length-replicate {A = Option ℕ} (places - places / 2) None);
          })
    ]
