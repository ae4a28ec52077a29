use Rattle.vx_record.specs.Channels.{is_box_of}
use Rattle.vx_mailbox.proofs.Table.{named_stands, number_is}
use Rattle.vx_mailbox.proofs.boxes.Boxes.named.Goals as goal

pub returns-clause-number : goal.returns-clause-number
returns-clause-number c = number_is (is_box_of c.args.name.now) c.self.inside.places.items _ c.args.self.now _ c.number_of.result c.self.view_is c.as_slice.ensures.value c.number_of.ensures.same c.place_of_name.ensures.place

pub returns-clause-stands : goal.returns-clause-stands
returns-clause-stands c =
    named_stands c.args.name.now c.args.self.now.boxes c.number_of.result
    (number_is (is_box_of c.args.name.now) c.self.inside.places.items _ c.args.self.now _ c.number_of.result c.self.view_is c.as_slice.ensures.value c.number_of.ensures.same c.place_of_name.ensures.place)
