use Rattle.vx_io.proofs.Passing.{passed_part, rest_room, written_as}
use Rattle.vx_io.proofs.messages.deliver.Goals as goal

pub pass_on-requires-clause-room : goal.pass_on-requires-clause-room
pass_on-requires-clause-room g c =
    let k = c.args.core.now in
    let l = c.put_in.new.core in
    let same = passed_part k l c.args.b c.args.msg c.args.r c.read_reply-reply.result c.asked_len-len.result c.body_len-count.result c.requires.serving.steady.order c.requires.waits c.asked_len-len.ensures.len c.read_reply-reply.ensures.reply c.body_len-count.ensures c.put_in.ensures.after in
    rest_room k l c.args.b c.args.msg _ c.put_in.ensures.after same c.requires.room

pub returns : goal.returns
returns g c =
    let k = c.args.core.now in
    let l = c.put_in.new.core in
    let same = passed_part k l c.args.b c.args.msg c.args.r c.read_reply-reply.result c.asked_len-len.result c.body_len-count.result c.requires.serving.steady.order c.requires.waits c.asked_len-len.ensures.len c.read_reply-reply.ensures.reply c.body_len-count.ensures c.put_in.ensures.after in
    written_as k l c.pass_on.new.core c.args.b c.args.msg _ c.put_in.ensures.after same c.pass_on.ensures
