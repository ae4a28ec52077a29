use Rattle.std.proofs.Common.{◌≡◌, drop, length}
use Rattle.vx_base.specs.Log.{HasRoom, logged}
use Rattle.vx_procs.specs.Words.{left}
use Rattle.vx_procs.proofs.frames.leave_all.Given as goal

abbrev pub invariant-loop : goal.invariant-loop
invariant-loop l = record {
  frames : l.frames ≡ record l.fn.frames { items = drop l.counter l.fn.frames.items };
  log : logged l.log (left l.frames.items) ≡ logged l.fn.log (left l.fn.frames.items);
  room : HasRoom l.log (length (left l.frames.items));
}
