use Rattle.std.proofs.Common.{◌<◌, ◌+◌, ◌∙◌, List, [], ◌∷◌, ◌++◌, ap, arith, drop, length, sym}
use Rattle.std.proofs.lemmas.List.{append_assoc}
use Rattle.vx_record.specs.Types.{Request}
use Rattle.vx_reqs.specs.Places.{live}
use Rattle.vx_reqs.proofs.Live.{live_held, live_left}
use Rattle.vx_reqs.proofs.snapshot.put_away.Goals.{in-Some+in_ok-duplicate+in_ok-push, in_default}
use Rattle.vx_reqs.proofs.snapshot.put_away.Goals as goal

pub loop-at-preserved : goal.loop-at-preserved
loop-at-preserved g c =
    let xs = c.args.places.now.items in
    let at = c.loop-at.at in
    let within : at < length xs = omega (arith, c.loop-at-test.true, c.len.ensures) in
    elim c.match-held.branch [
      | in-Some+in_ok-duplicate+in_ok-push w ↦
          let seen = live_held xs at w.in-Some.request.now within w.in-Some.ensures in
          let rest : List Request = live (drop (at + 1) xs) in
          rw w.requests-is (ap (λ (rs : List Request). rs ++ rest) w.in_ok-push.ensures.items
          ∙ append_assoc c.loop-at.requests.items (w.in_ok-duplicate.field-0 ∷ []) rest
          ∙ ap (λ (r : Request). c.loop-at.requests.items ++ r ∷ rest) w.in_ok-duplicate.ensures
          ∙ ap (λ (rs : List Request). c.loop-at.requests.items ++ rs) (sym seen)
          ∙ c.loop-at.invariant)
      | in_default w ↦ rw w.requests-is (ap (λ (rs : List Request). c.loop-at.requests.items ++ rs) (sym (live_left xs at within w.in_default.ensures)) ∙ c.loop-at.invariant)
    ]
