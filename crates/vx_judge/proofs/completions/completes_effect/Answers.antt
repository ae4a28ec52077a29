use Rattle.std.proofs.Common.{◌≡◌, true}
use Rattle.vx_laws.specs.Items.{calling}
use Rattle.vx_laws.specs.Lives.{life}
use Rattle.vx_laws.specs.StatusLaw.{is_asked}
use Rattle.vx_judge.specs.Places.{past_in}
use Rattle.vx_judge.proofs.Passes.{effects_before_in, latest_in}
use Rattle.vx_judge.proofs.completions.completes_effect.Goals as goal
use Rattle.vx_laws.proofs.Quotas.{effects_left_is}

pub returns-in-Fin : goal.returns-in-Fin
returns-in-Fin c = λ past more debts clusters.
    let here = past_in past c.args.rec.now c.args.earlier.now in
    rw (c.in-Fin.is, effects_left_is c.args.later.now more) (c.is_told.ensures here (life here c.in-Fin.id) clusters (c.of.ensures here debts))

pub returns-else-not-is_asked : goal.returns-else-not-is_asked
returns-else-not-is_asked c = λ past more debts clusters.
    let asked : is_asked c.in-Open.kind ≡ true = cc in
    rw (c.in-Open.is, asked, effects_before_in past c.args.rec.now c.args.earlier.now, latest_in past c.args.rec.now c.args.earlier.now) (c.clears_iosb.ensures (calling c.args.rec.now.event c.args.rec.now.answer) c.owed_in.ensures)
