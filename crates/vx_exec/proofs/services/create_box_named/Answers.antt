use Rattle.vx_exec.proofs.services.create_box_named.Goals as goal

pub create_box-requires-clause-room : goal.create_box-requires-clause-room
create_box-requires-clause-room g c =
    rw (c.place.ensures, c.name_of.ensures, c.number.ensures, c.number-2.ensures, c.number-3.ensures, c.access_mode.ensures) c.requires.room

pub returns : goal.returns
returns g c =
    rw (← c.place.ensures, ← c.name_of.ensures, ← c.number.ensures, ← c.number-2.ensures, ← c.number-3.ensures, ← c.access_mode.ensures)
    c.create_box.ensures
