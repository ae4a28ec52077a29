-- How all runs of a system end.
use Rattle.std.specs.Prelude.{ℕ, List, [], ◌∷◌, Bool, true, false, ◌&&◌, bytes_eq, if◌then◌else◌}
use Rattle.vx_record.specs.Types.{End, Event, System}
use Rattle.vx_base.specs.declared.record.End.TheVariants.{Done, Hung, Limit}
use Rattle.vx_record.specs.Events.{enabled}
use Rattle.vx_record.specs.Runs.{are_deleted}
use Rattle.vx_record.specs.State.{State}
use Rattle.vx_explore.specs.declared.found.Found.{Found}
use Rattle.vx_explore.specs.Runs.{shortest_first, summary}
use Rattle.vx_endings.specs.declared.ending.RunEnding.{RunEnding}
use Rattle.vx_trailer.specs.Outcome.{outcome_text}
use Rattle.vx_endings.specs.Interleavings.{all_runs}

-- A run stops if no event is enabled, and every process is deleted or not; or something is enabled, and the limit stops it.

abbrev pub end_by : Bool → List Event → End
end_by deleted [] = if deleted then Done else Hung
end_by deleted (e ∷ es) = Limit

abbrev pub end_at : State → End
end_at s = end_by (are_deleted s) (enabled s)

-- what the trailer of a transcript says of the processes, and of what the units have put out, each line behind a space
abbrev pub trailer_text : State → List ℕ
trailer_text s = outcome_text (32 ∷ []) s

-- how a run ends that stops in a state
abbrev pub ending_at : State → RunEnding
ending_at s = record { end = end_at s; trailer = trailer_text s }

-- Two runs end the same if their ends and their trailers are the same.

abbrev pub is_same_end : End → End → Bool
is_same_end Done Done = true
is_same_end Hung Hung = true
is_same_end Limit Limit = true
is_same_end _ _ = false

abbrev pub is_same : RunEnding → RunEnding → Bool
is_same d e = is_same_end d.end e.end && bytes_eq d.trailer e.trailer

-- each ending once, in the order of the shortest and then first run that ends so: the ending, how many runs end so, and the places
-- of the first
abbrev pub endings : System → ℕ → List (Found RunEnding)
endings system limit = summary ending_at is_same (shortest_first limit (all_runs system limit))
