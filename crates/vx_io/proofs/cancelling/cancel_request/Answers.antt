use Rattle.std.proofs.Common.{◌∙◌}
use Rattle.vx_io.proofs.OneCancelled.{end_room, ended_as, is_serving, is_there, marked_as}
use Rattle.vx_io.proofs.cancelling.cancel_request.Goals as goal

pub mark-requires-clause-there : goal.mark-requires-clause-there
mark-requires-clause-there g c = is_there c.args.core.now.state c.args.id c.requires.open

pub returns-then-is_served : goal.returns-then-is_served
returns-then-is_served g c =
    let x = c.requires.open in
    marked_as c.args.core.now c.mark.new.core c.args.id x (is_serving c.args.core.now.state c.args.id x c.is_served.result c.is_served.ensures ∙ c.if-is_served.true) c.mark.ensures

pub end_request-requires-clause-room : goal.end_request-requires-clause-room
end_request-requires-clause-room g c =
    let x = c.requires.open in
    end_room c.args.core.now c.args.id x (is_serving c.args.core.now.state c.args.id x c.is_served.result c.is_served.ensures ∙ c.if-is_served.false) c.requires.room

pub returns-else-is_served : goal.returns-else-is_served
returns-else-is_served g c =
    let x = c.requires.open in
    ended_as c.args.core.now c.end_request.new.core c.args.id x (is_serving c.args.core.now.state c.args.id x c.is_served.result c.is_served.ensures ∙ c.if-is_served.false) c.end_request.ensures
