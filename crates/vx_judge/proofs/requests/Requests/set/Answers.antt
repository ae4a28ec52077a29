use Rattle.std.proofs.Common.{nat_eq}
use Rattle.std.specs.HashMap.{get}
use Rattle.vx_judge.proofs.Asking.{asked_set}
use Rattle.vx_judge.proofs.requests.Requests.set.Goals as goal

pub returns : goal.returns
returns c = λ i.
    asked_set (nat_eq c.args.id.0 i.0) c.args.asked.device (get nat_eq c.set_device.new.devices i.0) (get nat_eq c.args.self.now.devices i.0) (record { waits = c.args.asked.waits; len = c.args.asked.len }) (get nat_eq c.insert.new.self i.0) (get nat_eq c.args.self.now.map i.0)
    (c.in_ok-set_device.ensures i) (c.in_ok-insert.ensures.updates.0 i.0)
