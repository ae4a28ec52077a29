use Rattle.vx_rundown.proofs.Shelf.{cancel_done, cancel_none, cancel_room}
use Rattle.vx_rundown.proofs.handlers.cancel_newest.Goals as goal

pub tell-requires : goal.tell-requires
tell-requires g c = cancel_room c.args.p c.args.mode c.args.tag c.args.core.now c.drop_handler.new.self c.in-Some.id c.in-Some.ensures.id c.drop_handler.ensures.after c.requires.room

pub returns-in-Some : goal.returns-in-Some
returns-in-Some g c = cancel_done c.args.p c.args.mode c.args.tag c.args.core.now c.drop_handler.new.self c.tell.new.self c.in-Some.id c.requires.ids c.in-Some.ensures.id c.drop_handler.ensures.after c.tell.ensures

pub returns-in-None : goal.returns-in-None
returns-in-None g c = cancel_none c.args.p c.args.mode c.args.tag c.args.core.now c.drop_handler.new.self c.in-None.ensures.id (c.drop_handler.ensures.kept c.in-None.is)
