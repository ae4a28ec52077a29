use Rattle.vx_exec.proofs.services.assign_named.Goals as goal

pub assign_device-requires-clause-room : goal.assign_device-requires-clause-room
assign_device-requires-clause-room g c = rw (c.place.ensures, c.text.ensures, c.access_mode-mode.ensures) c.requires.room

pub returns : goal.returns
returns g c = rw (← c.place.ensures, ← c.text.ensures, ← c.access_mode-mode.ensures) c.assign_device.ensures
