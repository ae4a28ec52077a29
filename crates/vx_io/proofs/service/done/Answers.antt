use Rattle.std.proofs.Common.{ap, sym, ◌∙◌}
use Rattle.vx_procs.specs.Kernel.{Kernel}
use Rattle.vx_io.proofs.Ended.{done_as, end_room, ending_there, served_of}
use Rattle.vx_io.proofs.service.done.Goals as goal

pub finish-requires-clause-ending : goal.finish-requires-clause-ending
finish-requires-clause-ending g c =
    let k = c.args.core.now in
    let l = c.end_service.new.self in
    let x = served_of k l c.args.u c.in-Some.done c.in-Some.reply c.in-Some.ensures.found c.in-Some.ensures.after in
    ending_there k l c.args.u c.in-Some.done c.in-Some.reply c.unit_ending-reply.result x c.requires.requests c.unit_ending-reply.ensures

pub finish-requires-clause-room : goal.finish-requires-clause-room
finish-requires-clause-room g c = end_room c.end_service.new.self c.in-Some.done (c.unit_ending-reply.result, 0) c.in-Some.ensures.log

pub returns-clause-does : goal.returns-clause-does
returns-clause-does g c =
    let k = c.args.core.now in
    let l = c.end_service.new.self in
    let x = served_of k l c.args.u c.in-Some.done c.in-Some.reply c.in-Some.ensures.found c.in-Some.ensures.after in
    done_as k l c.finish.new.core c.args.u c.in-Some.done c.in-Some.reply c.unit_ending-reply.result x c.requires.requests c.unit_ending-reply.ensures c.finish.ensures

pub returns-clause-untold : goal.returns-clause-untold
returns-clause-untold g c = ap (λ (k : Kernel). k.log.items) (sym c.in-Some.ensures.after) ∙ c.in-Some.ensures.log.none
