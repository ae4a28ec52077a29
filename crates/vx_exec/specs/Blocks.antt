-- Events of processes, by blocks of 32.
use Rattle.std.specs.Prelude.{ℕ, ◌+◌, ◌*◌, List, drop}
use Rattle.vx_record.specs.Types.{Event}
use Rattle.vx_record.specs.Events.{processes_from}
use Rattle.vx_record.specs.State.{State}
use Rattle.vx_procs.specs.Own.{block_of}

-- those of one block
abbrev pub events_in : State → ℕ → List Event
events_in s b = processes_from s (32 * b + 1) (block_of b s.procs)

-- those of a block and of all behind it
abbrev pub events_from : State → ℕ → List Event
events_from s b = processes_from s (32 * b + 1) (drop (32 * b) s.procs)
