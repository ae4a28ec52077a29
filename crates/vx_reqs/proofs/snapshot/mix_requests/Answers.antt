use Rattle.std.proofs.Common.{◌<◌, ◌∙◌, ap, arith, length, sym}
use Rattle.vx_reqs.specs.Digest.{mix_requests}
use Rattle.vx_reqs.proofs.Live.{live_held, live_left}
use Rattle.vx_reqs.proofs.snapshot.mix_requests.Goals.{in-Some, in_default}
use Rattle.vx_reqs.proofs.snapshot.mix_requests.Goals as goal

pub loop-at-preserved : goal.loop-at-preserved
loop-at-preserved g c =
    let xs = c.args.places.now.items in
    let at = c.loop-at.at in
    let within : at < length xs = omega (arith, c.loop-at-test.true, c.len.ensures) in
    elim c.match-held.branch [
      | in-Some w ↦ rw (w.mixed-is, w.mix-mixed.ensures, w.mix.ensures, w.req-req.ensures) (ap (mix_requests c.loop-at.mixed) (sym (live_held xs at w.in-Some.request.now within w.in-Some.ensures)) ∙ c.loop-at.invariant)
      | in_default w ↦ rw w.mixed-is (ap (mix_requests c.loop-at.mixed) (sym (live_left xs at within w.in_default.ensures)) ∙ c.loop-at.invariant)
    ]
