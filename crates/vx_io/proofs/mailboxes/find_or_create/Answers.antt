use Rattle.std.proofs.Common.{ap, ◌∙◌}
use Rattle.vx_record.specs.Channels.{box_named}
use Rattle.vx_io.specs.Asking.{box_asked}
use Rattle.vx_io.proofs.BoxNamed.{found_box, made_box}
use Rattle.vx_io.proofs.mailboxes.find_or_create.Goals as goal

pub returns-in-Some : goal.returns-in-Some
returns-in-Some g c =
    let k = c.args.core.now in
    found_box k c.assign.new.self c.args.p c.args.mode (box_asked c.args.ask) c.in-Some.b (box_named k.state c.args.ask.name) c.assign.result (c.in-Some.ensures.found ∙ ap (box_named k.state) c.text.ensures.text) c.assign.ensures

pub returns-in-None : goal.returns-in-None
returns-in-None g c =
    let k = c.args.core.now in
    made_box k c.create_box.new.core c.args.p c.args.mode (box_asked c.args.ask) (box_named k.state c.args.ask.name) c.create_box.result (c.in-None.ensures.found ∙ ap (box_named k.state) c.text.ensures.text) c.create_box.ensures
