-- All runs of a system: every order in which its events may come.
use Rattle.std.specs.Prelude.{ℕ, List, Option, Some, None, length, slice_get}
use Rattle.vx_record.specs.Types.{Event, System}
use Rattle.vx_record.specs.Events.{enabled, step}
use Rattle.vx_record.specs.Runs.{first}
use Rattle.vx_record.specs.State.{State}
use Rattle.vx_explore.specs.Runs.{IsCrowded, Run, runs}

-- how many events are enabled
abbrev pub event_count : State → ℕ
event_count s = length (enabled s)

abbrev pub after_event : State → Option Event → State
after_event s None = s
after_event s (Some e) = (step s e).after

-- the state after the enabled event at a place, from 0
abbrev pub after_place : State → ℕ → State
after_place s i = after_event s (slice_get (enabled s) i)

-- every run of at most so many records from a state: the place of the event of each record, and the state in which the run stops
abbrev pub runs_from : ℕ → State → List (Run State)
runs_from limit s = runs event_count after_place limit s

abbrev pub all_runs : System → ℕ → List (Run State)
all_runs system limit = runs_from limit (first system)

-- for some k up to the limit, k records lead to more than so many different states
abbrev pub IsTooWide : System → ℕ → ℕ → Type 0
IsTooWide system limit states = IsCrowded event_count after_place limit states (first system)
