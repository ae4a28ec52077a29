use Rattle.std.proofs.Common.{nat_eq, ap, sym, ◌∙◌}
use Rattle.vx_laws.specs.Items.{called_in}
use Rattle.vx_laws.specs.Lives.{life, new_life, device_called}
use Rattle.vx_judge.specs.Places.{past_in}
use Rattle.vx_judge.specs.Requests.{asked_at, asked_by, asked_in}
use Rattle.vx_judge.proofs.Tables.{opened_on}
use Rattle.vx_judge.proofs.Passes.{latest_in}
use Rattle.vx_judge.proofs.requests.Requests.pass_effect.Goals as goal

pub returns-in_ok-set-in-Open : goal.returns-in_ok-set-in-Open
returns-in_ok-set-in-Open c = λ past names are i.
    let here = past_in past c.args.rec.now c.args.earlier.now in
    rw c.in-Open.is (opened_on asked_by (nat_eq c.in-Open.id.0 i.0) (asked_in c.set.new.self i) (asked_in c.args.self.now i) c.asked_in.result (new_life here c.in-Open.kind c.in-Open.p c.in-Open.mode c.in-Open.n) (life here i)
    (c.in_ok-set-in-Open.ensures i)
    (c.asked_in.ensures here names ∙ ap (λ h. asked_at (device_called here (called_in h)) (called_in h)) (sym (latest_in past c.args.rec.now c.args.earlier.now)))
    (are i))
