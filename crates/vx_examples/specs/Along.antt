-- Runs along given events, if these are not those that a seed chooses.
use Rattle.std.specs.Prelude.{ℕ, List, [], ◌∷◌, Bool, true, false, ◌&&◌, ◌==◌, map}
use Rattle.std.specs.List.{list_any}
use Rattle.vx_record.specs.Types.{Contents, Event, Rec, System}
use Rattle.vx_base.specs.Pieces.{Lines, Blocks}
use Rattle.vx_base.specs.declared.record.Event.TheVariants as event
use Rattle.vx_record.specs.State.{State}
use Rattle.vx_record.specs.Events.{enabled, step}
use Rattle.vx_record.specs.Runs.{after, record_of}

-- the records of events, one after another
abbrev pub along : State → List Event → List Rec
along s [] = []
along s (e ∷ es) = record_of s e ∷ along (step s e).after es

abbrev pub is_event : Event → Event → Bool
is_event (event.Run p) (event.Run q) = p.0 == q.0
is_event (event.Ast p) (event.Ast q) = p.0 == q.0
is_event (event.Rdn p) (event.Rdn q) = p.0 == q.0
is_event (event.Beg u) (event.Beg v) = u.0 == v.0
is_event (event.Don u) (event.Don v) = u.0 == v.0
is_event event.Tick event.Tick = true
is_event _ _ = false

-- each of the events is enabled at its moment
abbrev pub are_enabled : State → List Event → Bool
are_enabled s [] = true
are_enabled s (e ∷ es) = list_any (is_event e) (enabled s) && are_enabled (step s e).after es

-- the exit codes of the processes after records
abbrev pub exit_codes : System → List Rec → List ℕ
exit_codes system recs = map (λ pr. pr.exit_code) (after system recs).procs

abbrev pub written_to : Contents → List (List ℕ)
written_to (Lines inputs outputs) = outputs
written_to (Blocks bytes) = []

-- the lines that each unit was given, after records
abbrev pub outputs : System → List Rec → List (List (List ℕ))
outputs system recs = map (λ u. written_to u.contents) (after system recs).units
