use Rattle.std.proofs.Common.{is_none}
use Rattle.vx_mailbox.proofs.Table.{free_there, number_is}
use Rattle.vx_mailbox.proofs.boxes.Boxes.free.Goals as goal

pub returns-clause-number : goal.returns-clause-number
returns-clause-number c = number_is is_none c.self.inside.places.items _ c.args.self.now _ c.number_of.result c.self.view_is c.as_slice.ensures.value c.number_of.ensures.same c.place_of_none.ensures.place

pub returns-clause-none : goal.returns-clause-none
returns-clause-none c =
    free_there c.args.self.now.boxes c.number_of.result
    (number_is is_none c.self.inside.places.items _ c.args.self.now _ c.number_of.result c.self.view_is c.as_slice.ensures.value c.number_of.ensures.same c.place_of_none.ensures.place)
