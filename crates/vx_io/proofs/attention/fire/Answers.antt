use Rattle.vx_io.proofs.Firing.{fired_done, fired_room}
use Rattle.vx_io.proofs.attention.fire.Goals as goal

pub tell_fired-requires : goal.tell_fired-requires
tell_fired-requires g c = fired_room c.args.core.now c.fire_attention.new.self c.args.id c.fire_attention.result c.fire_attention.ensures.found c.if-fire_attention.true c.fire_attention.ensures.after c.requires.room

pub returns-then-fire_attention : goal.returns-then-fire_attention
returns-then-fire_attention g c = fired_done c.args.core.now c.fire_attention.new.self c.tell_fired.new.core c.args.id c.fire_attention.result c.fire_attention.ensures.found c.if-fire_attention.true c.fire_attention.ensures.after c.tell_fired.ensures
