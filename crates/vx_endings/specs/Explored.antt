-- An executive as a machine whose runs are explored. The private machine cites these, and no public contract does.
use Rattle.std.specs.Prelude.{ℕ, ◌+◌, Option, Some, None}
use Rattle.vx_record.specs.Types.{End}
use Rattle.vx_record.specs.Runs.{end_of, first}
use Rattle.vx_endings.specs.declared.ending.RunEnding.{RunEnding}
use Rattle.vx_exec.specs.View.{Executive}
use Rattle.vx_procs.specs.Digest.{digest_of}
use Rattle.vx_endings.specs.Endings.{ending_at}
use Rattle.vx_endings.specs.Interleavings.{after_place, event_count}

-- none, once the run has ended
abbrev pub open_count : Option End → ℕ → ℕ
open_count None n = n
open_count (Some end) n = 0

abbrev pub enabled_in : Executive → ℕ
enabled_in e = open_count (end_of e.limit e.taken e.state) (event_count e.state)

abbrev pub after_in : Executive → ℕ → Executive
after_in e i = record { state = after_place e.state i; limit = e.limit; taken = e.taken + 1 }

-- the executive of its system before the first event
abbrev pub start_of : Executive → Executive
start_of e = record { state = first e.state.system; limit = e.limit; taken = 0 }

abbrev pub ending_in : Executive → RunEnding
ending_in e = ending_at e.state

abbrev pub digest_in : Executive → ℕ
digest_in e = digest_of e.state
