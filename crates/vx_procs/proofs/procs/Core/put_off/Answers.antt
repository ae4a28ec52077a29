use Rattle.std.proofs.Common.{◌≤◌, ap, subst, sym, ◌∙◌}
use Rattle.vx_record.specs.Types.{Timer}
use Rattle.vx_base.specs.Roomy.{Roomy}
use Rattle.vx_procs.specs.Kernel.{Kernel, with_state}
use Rattle.vx_procs.specs.View.{kernel}
use Rattle.vx_procs.specs.Words.{put_off_first}
use Rattle.vx_procs.proofs.Ops.{held_later}
use Rattle.vx_procs.proofs.procs.Core.put_off.Goals as goal

pub invariant_of-self : goal.invariant_of-self
invariant_of-self g c = held_later c.args.now c.args.ticks c.self.inside c.put_off.new.self c.put_off.ensures (subst (λ (k : Kernel). c.args.now ≤ k.state.time) (sym c.self.view_is) c.requires.past) c.ranges.ticks.fits c.self.invariant

pub returns : goal.returns
returns g c =
    ap (λ (ts : Roomy Timer). kernel (record c.self.inside { timers = ts })) c.put_off.ensures
    ∙ ap (λ (k : Kernel). with_state k (put_off_first c.args.now c.args.ticks k.state)) c.self.view_is
