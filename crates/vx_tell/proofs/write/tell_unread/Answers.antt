use Rattle.vx_tell.proofs.write.tell_unread.Goals as goal

pub returns-in-Fault-clause-told : goal.returns-in-Fault-clause-told
returns-in-Fault-clause-told g c = rw c.in-Fault.is c.tell.ensures.told
