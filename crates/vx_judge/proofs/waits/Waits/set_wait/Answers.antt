use Rattle.vx_judge.proofs.waits.Waits.set_wait.Goals as goal

pub returns-in_ok-insert-in-Some-clause-asked : goal.returns-in_ok-insert-in-Some-clause-asked
returns-in_ok-insert-in-Some-clause-asked c = λ q n. rw c.in-Some.is (c.in_ok-insert-in-Some.ensures.updates.0 (q.0, n))

pub returns-in-None-clause-asked : goal.returns-in-None-clause-asked
returns-in-None-clause-asked c = λ q n. rw c.in-None.is (c.remove.ensures.updates.0 (q.0, n))
