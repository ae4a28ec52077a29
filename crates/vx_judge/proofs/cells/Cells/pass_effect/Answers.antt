use Rattle.vx_judge.proofs.CellWords.{flag_on, cluster_on}
use Rattle.vx_judge.proofs.cells.Cells.pass_effect.Goals as goal

pub returns-in_ok-set-in-Flag : goal.returns-in_ok-set-in-Flag
returns-in_ok-set-in-Flag c = λ past are.
    rw c.in-Flag.is (flag_on c.args.self.now c.set.new.self c.in-Flag.cell c.in-Flag.bit c.with_flag-word.result past
    (λ flags is. rw (← c.place_of.ensures) (c.with_flag-word.ensures flags (rw c.of.ensures is)))
    c.in_ok-set-in-Flag.ensures are)

pub returns-in_ok-clear-in-Cef : goal.returns-in_ok-clear-in-Cef
returns-in_ok-clear-in-Cef c = λ past are. rw c.in-Cef.is (cluster_on c.args.self.now c.clear.new.self c.in-Cef.group c.in-Cef.name c.in-Cef.bit past c.in_ok-clear-in-Cef.ensures are)
