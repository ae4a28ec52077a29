use Rattle.vx_carrier.proofs.First.{first_kept}
use Rattle.vx_carrier.proofs.desk.Desk.new.Goals as goal

pub invariant_of-result : goal.invariant_of-result
invariant_of-result g c =
    let e = c.new.ensures in
    let r = c.requires in
    rw c.new-2.ensures (first_kept g.J.Naming.plan c.args.exec c.new.result r.named r.new r.none e.exec e.home e.units e.limit)
