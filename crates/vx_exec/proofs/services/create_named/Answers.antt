use Rattle.vx_exec.proofs.services.create_named.Goals as goal

pub create-requires-clause-room : goal.create-requires-clause-room
create-requires-clause-room g c = rw (c.place.ensures, c.decl_place-decl.ensures.place, c.text.ensures) c.requires.room

pub returns : goal.returns
returns g c = rw (← c.place.ensures, ← c.text.ensures, ← c.decl_place-decl.ensures.place) c.create.ensures
