use Rattle.vx_io.proofs.Finished.{after_boxes, after_many, after_steady, done_out, ending_out, out_of, room_out}
use Rattle.vx_io.proofs.finish.finish_id.Goals as goal

pub finish-requires-clause-ending : goal.finish-requires-clause-ending
finish-requires-clause-ending g c =
    let k = c.args.core.now in
    let l = c.finish_request.new.self in
    ending_out k l c.args.id c.in-Some.done c.args.reply (out_of k l c.args.id c.in-Some.done c.requires.steady c.in-Some.ensures.found c.in-Some.ensures.after) c.requires.size

pub finish-requires-clause-room : goal.finish-requires-clause-room
finish-requires-clause-room g c =
    let k = c.args.core.now in
    let l = c.finish_request.new.self in
    room_out k l c.args.id c.in-Some.done (c.args.reply, c.args.info) (out_of k l c.args.id c.in-Some.done c.requires.steady c.in-Some.ensures.found c.in-Some.ensures.after) c.requires.room

pub returns-in-Some-clause-does : goal.returns-in-Some-clause-does
returns-in-Some-clause-does g c =
    let k = c.args.core.now in
    let l = c.finish_request.new.self in
    done_out k l c.finish.new.core c.args.id c.in-Some.done (c.args.reply, c.args.info) (out_of k l c.args.id c.in-Some.done c.requires.steady c.in-Some.ensures.found c.in-Some.ensures.after) c.finish.ensures

pub returns-in-Some-clause-steady : goal.returns-in-Some-clause-steady
returns-in-Some-clause-steady g c = after_steady c.args.core.now c.finish.new.core c.args.id (c.args.reply, c.args.info) c.requires.steady (returns-in-Some-clause-does g c)

pub returns-in-Some-clause-many : goal.returns-in-Some-clause-many
returns-in-Some-clause-many g c = after_many c.args.core.now c.finish.new.core c.args.id (c.args.reply, c.args.info) (returns-in-Some-clause-does g c)

pub returns-in-Some-clause-boxes : goal.returns-in-Some-clause-boxes
returns-in-Some-clause-boxes g c = after_boxes c.args.core.now c.finish.new.core c.args.id (c.args.reply, c.args.info) (returns-in-Some-clause-does g c)
