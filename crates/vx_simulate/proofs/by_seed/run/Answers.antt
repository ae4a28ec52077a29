use Rattle.std.proofs.Common.{refl}
use Rattle.vx_simulate.proofs.Simulated.{told_cut, told_front, told_run}
use Rattle.vx_simulate.proofs.by_seed.run.Goals as goal

pub returns-in-Ok-clause-told : goal.returns-in-Ok-clause-told
returns-in-Ok-clause-told g c = rw c.from.ensures (told_run c.args.system c.args.options _ _ _ _ c.in-Ok.end c.in-Ok.ensures.done)

pub returns-in-Err-NoMemory-clause-told : goal.returns-in-Err-NoMemory-clause-told
returns-in-Err-NoMemory-clause-told g c = told_cut c.args.system c.args.options _ _ _ _ _ _ _ c.write_run.ensures.later (c.in-Err-NoMemory.ensures.no_memory (rw c.in-Err-NoMemory.field-0-is refl)) c.tell_no_memory.ensures.told

pub returns-in-Err-Fault-clause-told : goal.returns-in-Err-Fault-clause-told
returns-in-Err-Fault-clause-told g c = told_front c.args.system c.args.options _ _ _ _ (c.in-Err-Fault.ensures.fault (rw c.in-Err-Fault.field-0-is refl)) (c.in-Err-Fault.ensures.cause (rw c.in-Err-Fault.field-0-is refl))
