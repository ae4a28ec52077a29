use Rattle.std.proofs.Common.{◌≡◌, ◌<◌, ◌∙◌, ◌∷◌, List, ap, arith, drop, get_or, length, sym}
use Rattle.vx_record.specs.Types.{Request}
use Rattle.vx_reqs.proofs.Live.{live_held, live_left}
use Rattle.vx_reqs.proofs.snapshot.same_requests.Goals.{in-Some+in-Some-split_first+else-not-same, in_default}
use Rattle.vx_reqs.proofs.snapshot.same_requests.Goals as goal

pub loop-at-preserved : goal.loop-at-preserved
loop-at-preserved g c =
    let xs = c.args.places.now.items in
    let at = c.loop-at.at in
    let within : at < length xs = omega (arith, c.loop-at-test.true, c.len.ensures) in
    elim c.match-held.branch [
      | in-Some+in-Some-split_first+else-not-same w ↦
          let seen = live_held xs at w.in-Some.request.now within w.in-Some.ensures in
          let left : c.loop-at.left.now ≡ w.in-Some-split_first.first.now ∷ w.in-Some-split_first.others.now = w.in-Some-split_first.ensures.cases.0 in
          let first : w.in-Some-split_first.first.now ≡ w.in-Some.request.now = w.same.ensures.0 w.if-not-same.false in
          let others : List Request = w.in-Some-split_first.others.now in
          rw w.left-is (
            λ same. ap (drop 1) (sym left ∙ (c.loop-at.invariant.0 same ∙ seen)),
            λ same. c.loop-at.invariant.1 (left ∙ (ap (λ (r : Request). r ∷ others) first ∙ (ap (λ (rs : List Request). w.in-Some.request.now ∷ rs) same ∙ sym seen))),
          )
      | in_default w ↦
          let rest = live_left xs at within w.in_default.ensures in
          rw w.left-is (λ same. c.loop-at.invariant.0 same ∙ rest, λ same. c.loop-at.invariant.1 (same ∙ sym rest))
    ]

pub returns-in_default-split_first : goal.returns-in_default-split_first
returns-in_default-split_first g c =
    let within : c.loop-at.at < length c.args.places.now.items = omega (arith, c.loop-at-test.true, c.len.ensures) in
    let seen = live_held c.args.places.now.items c.loop-at.at c.in-Some.request.now within c.in-Some.ensures in
    (λ never. absurd (cc), λ same. absurd (omega (arith, ap length (c.loop-at.invariant.0 same ∙ seen), c.in_default-split_first.ensures.cases)))

pub returns-then-not-same : goal.returns-then-not-same
returns-then-not-same g c =
    let request : Request = c.in-Some.request.now in
    let within : c.loop-at.at < length c.args.places.now.items = omega (arith, c.loop-at-test.true, c.len.ensures) in
    let seen = live_held c.args.places.now.items c.loop-at.at request within c.in-Some.ensures in
    (λ never. absurd (cc), λ same. sym c.if-not-same.true ∙ c.same.ensures.1 (ap (λ (rs : List Request). get_or rs 0 request) (sym c.in-Some-split_first.ensures.cases.0 ∙ c.loop-at.invariant.0 same ∙ seen)))
