use Rattle.vx_judge.specs.Places.{past_in}
use Rattle.vx_judge.proofs.status.StatusJudge.pass_effect.Goals as goal

pub returns-clause-ok : goal.returns-clause-ok
returns-clause-ok c = λ past f.
    let here = past_in past c.args.rec.now c.args.earlier.now in record {
      values = c.in_ok-pass_effect.ensures here f.values;
      waits = c.in_ok-pass_effect-2.ensures here f.lives f.waits;
      enables = c.in_ok-pass_effect-3.ensures here f.enables;
      lives = c.in_ok-pass_effect-5.ensures here f.lives;
      debts = c.in_ok-pass_effect-4.ensures past f.debts;
    }
