use Rattle.std.proofs.Common.{◌≡◌, ◌-◌}
use Rattle.vx_image.specs.Local.{run_local}
use Rattle.vx_image.proofs.run.run_local.Given as goal

abbrev pub invariant-loop : goal.invariant-loop
invariant-loop l = run_local (l.most - l.counter) l.image (record { prm = l.prm; p = l.p }) l.store l.place ≡ run_local l.most l.image (record { prm = l.prm; p = l.p }) l.fn.store l.fn.pc
