use Rattle.vx_laws.proofs.Messages.{every_channel}
use Rattle.vx_laws.proofs.agreement.every_device_agrees.Goals as goal

pub returns-clause-channels : goal.returns-clause-channels
returns-clause-channels c = λ system recs p n run above one. every_channel system recs p n run above one
