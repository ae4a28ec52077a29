use Rattle.std.proofs.Common.{◌∷◌, refl}
use Rattle.vx_laws.specs.Items.{Did}
use Rattle.vx_judge.proofs.OpenIds.{open_on, open_filtered}
use Rattle.vx_judge.proofs.open_ids.OpenIds.pass_effect.Goals as goal

pub returns-in_ok-forget_ended-in-Gone : goal.returns-in_ok-forget_ended-in-Gone
returns-in_ok-forget_ended-in-Gone c = λ past is has id e.
    let here = Did c.args.effect.now in
    rw c.in_ok-forget_ended-in-Gone.ensures (open_filtered c.args.lives.now c.args.self.now.ids.items (here ∷ past) is (open_on c.args.self.now.ids.items past here (rw c.in-Gone.is refl) has) id e)

pub returns-in_ok-forget_ended-in-Enter : goal.returns-in_ok-forget_ended-in-Enter
returns-in_ok-forget_ended-in-Enter c = λ past is has id e.
    let here = Did c.args.effect.now in
    rw c.in_ok-forget_ended-in-Enter.ensures (open_filtered c.args.lives.now c.args.self.now.ids.items (here ∷ past) is (open_on c.args.self.now.ids.items past here (rw c.in-Enter.is refl) has) id e)
