-- What is left of a state if memory runs out while another is brought back in its place.
use Rattle.std.specs.Prelude.{◌≡◌, []}
use Rattle.vx_record.specs.State.{State}

-- The system, the next id and the units are as they were; there are no processes, and nothing that they had open.
pub record IsEmptied (old new : State) : Type 0 where
  pub system : new.system ≡ old.system
  pub next : new.next ≡ old.next
  pub units : new.units ≡ old.units
  pub procs : new.procs ≡ []
  pub associations : new.common.associations ≡ []
  pub requests : new.requests ≡ []
  pub timers : new.timers ≡ []
  pub attention : new.attention ≡ []
