use Rattle.std.proofs.Common.{arith, sym, ◌∙◌}
use Rattle.vx_reqs.specs.Places.{holds}
use Rattle.vx_reqs.specs.Sought.{is_sought}
use Rattle.vx_reqs.proofs.Firsts.{some_place}
use Rattle.vx_reqs.proofs.Rising.{place_first, place_none}
use Rattle.vx_reqs.proofs.found.place_from.Goals as goal

pub returns-then-stands-clause-place : goal.returns-then-stands-clause-place
returns-then-stands-clause-place g c =
    place_first (holds (is_sought c.args.sought)) c.args.places.now.items c.loop-at.at some_place (omega (arith, c.loop-at-test.true, c.len.ensures)) (λ k lt. c.loop-at.invariant k some_place lt (omega (arith, lt, c.loop-at-test.true, c.len.ensures))) (sym (c.stands.ensures some_place) ∙ c.if-stands.true)

pub returns-clause-place : goal.returns-clause-place
returns-clause-place g c = place_none (holds (is_sought c.args.sought)) c.args.places.now.items (λ k d lt. c.loop-at.invariant k d (omega (arith, lt, c.loop-at-test.false, c.len.ensures)) lt)
