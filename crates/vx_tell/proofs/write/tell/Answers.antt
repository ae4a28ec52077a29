use Rattle.vx_tell.specs.Told.{broken, only, whole}
use Rattle.vx_tell.proofs.write.tell.Goals as goal

pub returns-in-Ok-clause-told : goal.returns-in-Ok-clause-told
returns-in-Ok-clause-told g c = whole c.args.status c.args.text.now only c.in-Ok.ensures.ok

pub returns-in-Err-clause-told : goal.returns-in-Err-clause-told
returns-in-Err-clause-told g c = broken c.args.status c.args.text.now only c.in-Err.ensures.err c.in-Err.ensures.cause.failed
