use Rattle.std.proofs.Common.{◌≡◌, ◌&&◌, ◌==◌, Some, None, ap, sym, ◌∙◌}
use Rattle.std.specs.HashMap.{get}
use Rattle.vx_laws.specs.Items.{latest_call, called_in}
use Rattle.vx_laws.specs.Lives.{device_name, named_in}
use Rattle.vx_judge.specs.Pairs.{pair_eq}
use Rattle.vx_judge.specs.Places.{past_in}
use Rattle.vx_judge.proofs.DeviceNames.{named_on, unnamed_on}
use Rattle.vx_judge.proofs.Passes.{latest_in}
use Rattle.vx_judge.proofs.channels.Channels.pass_effect.Goals as goal

pub returns-in_ok-insert-in-Some : goal.returns-in_ok-insert-in-Some
returns-in_ok-insert-in-Some c = λ past are p chan.
    let here = past_in past c.args.rec.now c.args.earlier.now in
    let told : Some c.in-Some.name ≡ named_in (latest_call here) = sym c.in-Some.is ∙ (c.named_in.ensures ∙ ap (λ h. named_in (called_in h)) (sym (latest_in past c.args.rec.now c.args.earlier.now))) in
    rw c.in-Var.is (named_on ((c.in-Var.p.0 == p.0) && (c.in-Var.n == chan)) c.in-Some.name (get pair_eq c.insert.new.self (p.0, chan)) (get pair_eq c.args.self.now.map (p.0, chan)) (device_name here p chan) (named_in (latest_call here)) (c.in_ok-insert-in-Some.ensures.updates.0 (p.0, chan)) told (are p chan))

pub returns-in-None : goal.returns-in-None
returns-in-None c = λ past are p chan.
    let here = past_in past c.args.rec.now c.args.earlier.now in
    let told : named_in (latest_call here) ≡ None = ap (λ h. named_in (called_in h)) (latest_in past c.args.rec.now c.args.earlier.now) ∙ (sym c.named_in.ensures ∙ c.in-None.is) in
    rw c.in-Var.is (unnamed_on ((c.in-Var.p.0 == p.0) && (c.in-Var.n == chan)) (get pair_eq c.args.self.now.map (p.0, chan)) (device_name here p chan) (named_in (latest_call here)) told (are p chan))
