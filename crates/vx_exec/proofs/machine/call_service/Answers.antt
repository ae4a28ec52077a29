use Rattle.std.proofs.Common.{◌+◌, sym, subst}
use Rattle.vx_record.specs.Events.{moved_behind}
use Rattle.vx_record.specs.Services.{service}
use Rattle.vx_record.specs.State.{process_at}
use Rattle.vx_procs.specs.Kernel.{Fits, Kernel, changed}
use Rattle.vx_exec.proofs.Running.{call_made, called_room, set_moved}
use Rattle.vx_exec.proofs.machine.call_service.Goals as goal

pub serve-requires-clause-set : goal.serve-requires-clause-set
serve-requires-clause-set g c = set_moved c.args.core.now c.move_behind.new.self c.args.p (process_at c.args.core.now.state c.args.p).store (c.args.place + 1) c.requires.set c.move_behind.ensures

pub serve-requires-clause-room : goal.serve-requires-clause-room
serve-requires-clause-room g c =
    let p = c.args.p in
    let moved = changed c.args.core.now p (moved_behind c.args.place) in
    let here = called_room p c.args.call (service moved.state p c.args.call) moved c.requires.room in
    subst (λ (k : Kernel). Fits k (service k.state p c.args.call).effects) (sym c.move_behind.ensures) here

pub set_r0-requires : goal.set_r0-requires
set_r0-requires g c =
    let set = set_moved c.args.core.now c.move_behind.new.self c.args.p (process_at c.args.core.now.state c.args.p).store (c.args.place + 1) c.requires.set c.move_behind.ensures in
    call_made c.move_behind.new.self c.serve.new.core c.args.p c.args.call c.serve.result set c.serve.ensures
