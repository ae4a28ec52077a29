use Rattle.vx_ctl.proofs.Ticking.{woken_made}
use Rattle.vx_ctl.proofs.time.fire_wake.Goals as goal

pub set_wake-requires : goal.set_wake-requires
set_wake-requires g c = rw c.end_or_put_off.ensures (woken_made c.args.core.now.state c.args.now c.args.repeat c.args.target c.requires.made)
