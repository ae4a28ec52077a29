-- What an executive keeps of its state.
use Rattle.std.specs.Prelude.{ℕ, ◌+◌, ◌≤◌, length}
use Rattle.vx_record.specs.Types.{UnitNo}
use Rattle.vx_image.specs.WellFormed.{IsWellFormed}
use Rattle.vx_record.specs.Sound.{IsSound}
use Rattle.vx_record.specs.State.{State, unit_at}

-- What the state names is there, in a system that is well formed, with at most 1,000 processes.
pub record IsWhole (s : State) : Type 0 where
  pub sound : IsSound s
  pub formed : IsWellFormed s.system
  pub few : length s.procs ≤ 1000

-- Each record opens at most one id, and no unit made more services than there are records; no more records were made than the limit
-- allows.
pub record IsGoing (s : State) (limit taken : ℕ) : Type 0 where
  pub whole : IsWhole s
  pub ids : s.next ≤ taken + 1
  pub services : (u : UnitNo) → (unit_at s u).services ≤ taken
  pub within : taken ≤ limit
  pub limited : limit ≤ 100000
