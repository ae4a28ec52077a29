use Rattle.vx_procs.specs.Handlers.{is_sought}
use Rattle.vx_rundown.proofs.Shelf.{drop_begun, drop_end, drop_fewer, drop_more, drop_room, handlers}
use Rattle.vx_rundown.proofs.handlers.drop_handlers.Goals as goal

pub handlers-init : goal.handlers-init
handlers-init g c = drop_begun handlers c.args.p (is_sought c.args.which) c.args.core.now c.requires.made c.requires.ids c.requires.room

pub drop_handler-requires : goal.drop_handler-requires
drop_handler-requires g c = c.handlers.invariant.made

pub tell-requires : goal.tell-requires
tell-requires g c = drop_room handlers c.args.p (is_sought c.args.which) c.args.core.now c.handlers.core c.drop_handler.new.self c.in-Some.id c.handlers.invariant c.in-Some.ensures.id c.drop_handler.ensures.after

pub handlers-smaller : goal.handlers-smaller
handlers-smaller g c = rw c.tell.ensures (drop_fewer handlers c.args.p (is_sought c.args.which) c.handlers.core c.drop_handler.new.self c.in-Some.id c.handlers.invariant.made c.in-Some.ensures.id c.drop_handler.ensures.after)

pub handlers-preserved : goal.handlers-preserved
handlers-preserved g c = drop_more handlers c.args.p (is_sought c.args.which) c.args.core.now c.handlers.core c.drop_handler.new.self c.tell.new.self c.in-Some.id c.handlers.invariant c.in-Some.ensures.id c.drop_handler.ensures.after c.tell.ensures

pub returns : goal.returns
returns g c = drop_end handlers c.args.p (is_sought c.args.which) c.args.core.now c.handlers.core c.drop_handler.new.self c.handlers.invariant c.in_default.ensures.id c.drop_handler.ensures.after
