use Rattle.std.proofs.Common.{ℕ, refl, subst}
use Rattle.vx_check.proofs.Courses.{course_opened, head_lost}
use Rattle.vx_check.specs.Following.{IsWrong}
use Rattle.vx_check.proofs.course.course_behind.Goals as goal

pub returns-in-Some : goal.returns-in-Some
returns-in-Some c = λ s r h bare place. head_lost s c.args.exec.now c.args.course.now r c.in-Some.n c.args.head h (subst (λ (k : ℕ). IsWrong k c.args.course.now c.in-Some.n) c.taken.ensures (c.in-Some.ensures.wrong c.in-Some.n refl))

pub returns-in-None : goal.returns-in-None
returns-in-None c = course_opened c.args.exec.now c.opened.new.exec c.args.course.now c.args.number c.args.head c.opened.result (c.in-None.ensures.right refl) c.opened.ensures
