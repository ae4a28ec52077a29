use Rattle.vx_record.specs.Rundown.{is_ast_reached}
use Rattle.vx_rundown.proofs.Shelf.{asts, drop_begun, drop_end, drop_fewer, drop_more, drop_room}
use Rattle.vx_rundown.proofs.Standing.{own_ids_at}
use Rattle.vx_rundown.proofs.mode.drop_asts.Goals as goal

pub asts-init : goal.asts-init
asts-init g c = drop_begun asts c.args.p (is_ast_reached c.args.mode) c.args.core.now c.requires.leaving.made (own_ids_at c.args.core.now.state c.args.p c.requires.leaving.sound c.requires.leaving.made) c.requires.room

pub drop_ast-requires : goal.drop_ast-requires
drop_ast-requires g c = c.asts.invariant.made

pub tell-requires : goal.tell-requires
tell-requires g c = drop_room asts c.args.p (is_ast_reached c.args.mode) c.args.core.now c.asts.core c.drop_ast.new.self c.in-Some.id c.asts.invariant c.in-Some.ensures.id c.drop_ast.ensures.after

pub asts-smaller : goal.asts-smaller
asts-smaller g c = rw c.tell.ensures (drop_fewer asts c.args.p (is_ast_reached c.args.mode) c.asts.core c.drop_ast.new.self c.in-Some.id c.asts.invariant.made c.in-Some.ensures.id c.drop_ast.ensures.after)

pub asts-preserved : goal.asts-preserved
asts-preserved g c = drop_more asts c.args.p (is_ast_reached c.args.mode) c.args.core.now c.asts.core c.drop_ast.new.self c.tell.new.self c.in-Some.id c.asts.invariant c.in-Some.ensures.id c.drop_ast.ensures.after c.tell.ensures

pub returns : goal.returns
returns g c = drop_end asts c.args.p (is_ast_reached c.args.mode) c.args.core.now c.asts.core c.drop_ast.new.self c.asts.invariant c.in_default.ensures.id c.drop_ast.ensures.after
