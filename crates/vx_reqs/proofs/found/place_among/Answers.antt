use Rattle.std.proofs.Common.{arith, sym, ◌∙◌}
use Rattle.vx_reqs.specs.Places.{holds}
use Rattle.vx_reqs.specs.Sought.{is_sought}
use Rattle.vx_reqs.proofs.Among.{among_some, among_none}
use Rattle.vx_reqs.proofs.Firsts.{some_place}
use Rattle.vx_reqs.proofs.found.place_among.Goals.{else-at-len-via-then-at-len+else-stands, else-at-len-via-else-at-len}
use Rattle.vx_reqs.proofs.found.place_among.Goals as goal

pub returns-then-stands-clause-place : goal.returns-then-stands-clause-place
returns-then-stands-clause-place g c =
    among_some (holds (is_sought c.args.sought)) c.args.places.now.items c.args.number c.first_from-at.result c.requires.others c.first_from-at.ensures.below some_place (omega (arith, c.if-at-len.true, c.len.ensures)) (sym (c.stands.ensures some_place) ∙ c.if-stands.true)

pub returns-else-at-len-clause-place : goal.returns-else-at-len-clause-place
returns-else-at-len-clause-place g c =
    among_none (holds (is_sought c.args.sought)) c.args.places.now.items c.args.number c.first_from-at.result c.requires.others c.first_from-at.ensures.below c.args.next c.requires.rises c.first_from-at.ensures.above (λ within d.
    elim c.else-at-len.branch [
      | else-at-len-via-then-at-len+else-stands w ↦ sym (w.stands.ensures d) ∙ w.if-stands.false
      | else-at-len-via-else-at-len w ↦ absurd (omega (arith, within, w.if-at-len.false, c.len.ensures))
    ])
