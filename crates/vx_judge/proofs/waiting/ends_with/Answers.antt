use Rattle.std.proofs.Common.{◌≡◌, Some, refl, ap, ◌∙◌}
use Rattle.vx_laws.specs.Items.{is_this_cond}
use Rattle.vx_laws.specs.StatusLaw.{resumes_wait}
use Rattle.vx_laws.specs.Values.{satisfied_by}
use Rattle.vx_judge.proofs.waiting.ends_with.Goals as goal

pub returns-in-Flags : goal.returns-in-Flags
returns-in-Flags c = λ past are.
    let ends : is_this_cond c.args.c (satisfied_by past c.args.p c.args.wait) ≡ resumes_wait past c.args.p c.args.c (Some c.args.wait) = rw c.in-Flags.is refl in
    c.is_this_cond.ensures ∙ (ap (is_this_cond c.args.c) (c.satisfied.ensures past are) ∙ ends)

pub returns-in-Synch : goal.returns-in-Synch
returns-in-Synch c = λ past are.
    let ends : is_this_cond c.args.c (satisfied_by past c.args.p c.args.wait) ≡ resumes_wait past c.args.p c.args.c (Some c.args.wait) = rw c.in-Synch.is refl in
    c.is_this_cond-in-Synch.ensures ∙ (ap (is_this_cond c.args.c) (c.satisfied-in-Synch.ensures past are) ∙ ends)
