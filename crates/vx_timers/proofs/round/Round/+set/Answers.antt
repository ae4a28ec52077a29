use Rattle.std.proofs.Common.{◌/◌, ℕ, Box, Global, List, None, Option, ap, arith, length, rules, slice_index_or, slice_set, ◌∙◌}
use Rattle.std.proofs.lemmas.List.{length-set}
use Rattle.vx_timers.specs.Rounds.{winners}
use Rattle.vx_timers.specs.declared.round.Round.{Round}
use Rattle.vx_timers.proofs.Rounds.{length_winners, next_is, winners_set}
use Rattle.vx_timers.proofs.round.Round.+set.Goals as goal
use Rattle.vx_timers.proofs.round.Round.+set.Goals.{in-None, in-Some}

pub set-requires : goal.set-requires
set-requires t c =
    let next = next_is c.self.inside.times.items (λ (b : Box Round Global). b.value) c.self.inside.next c.in-Some.next c.in-Some.is c.self.invariant in
    let same = ap length (c.deref_mut.ensures.value ∙ next.winners) in
    (search rules, omega (arith, same, (length_winners c.self.inside.times.items).0, c.requires, ap length c.self.view_is))

pub invariant_of-self : goal.invariant_of-self
invariant_of-self t c = elim c.match-self.branch [
  | in-None w ↦ rw w.self-inside-is (rw w.in-None.is tt)
  | in-Some w ↦
      let times = c.self.inside.times.items in
      let half = c.args.place / 2 in
      let next = next_is times (λ (b : Box Round Global). b.value) c.self.inside.next w.in-Some.next w.in-Some.is c.self.invariant in
      let winner = w.winner_at.ensures ∙ ap (λ (xs : List (Option ℕ)). slice_index_or (winners xs) half None) w.as_slice.ensures.value in
      let set = w.set.ensures ∙ (ap (λ (xs : List (Option ℕ)). slice_set xs half w.winner_at.result) (w.deref_mut.ensures.value ∙ next.winners) ∙ ap (slice_set (winners times) half) winner) in
      rw w.self-inside-is (record {
        winners = set ∙ winners_set times c.args.place c.args.time (omega (arith, c.requires, ap length c.self.view_is));
        fewer = omega (arith, ap length w.set.ensures, ap length w.deref_mut.ensures.value, next.fewer, length-set w.deref_mut.result.now half w.winner_at.result, length-set times c.args.place c.args.time);
      })
]
