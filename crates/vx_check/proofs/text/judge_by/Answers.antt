use Rattle.std.proofs.Common.{subst}
use Rattle.vx_record.specs.Runs.{first}
use Rattle.vx_record.specs.State.{State}
use Rattle.vx_check.proofs.TextJudged.{follows_system}
use Rattle.vx_check.specs.Following.{FollowsAll}
use Rattle.vx_check.proofs.text.judge_by.Goals as goal

pub returns-in-Ok : goal.returns-in-Ok
returns-in-Ok c = λ system is_first.
    let line = c.args.line in
    let text = c.args.text.now in
    let now = c.follow.new.exec in
    let f = c.in-Ok.followed in
    let follows : FollowsAll (first system) now line text f = subst (λ (s : State). FollowsAll s now line text f) is_first c.in-Ok.ensures.follows in
    c.judge_behind.ensures system line (follows_system (first system) now line text f follows) follows
