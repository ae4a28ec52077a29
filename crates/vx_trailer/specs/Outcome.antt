-- What a trailer says of the processes, and of what the units have put out.
use Rattle.std.specs.Prelude.{ℕ, List, [], ◌∷◌, ◌++◌, flat_map}
use Rattle.vx_record.specs.State.{State}
use Rattle.vx_journal.specs.Transcript.{process_lines, unit_lines}

-- lines, each behind a lead and with a line feed at its end
abbrev pub led_lines : List ℕ → List (List ℕ) → List ℕ
led_lines lead lines = flat_map (λ line. lead ++ (line ++ 10 ∷ [])) lines

-- how the processes stand in a state, and what the units have put out
abbrev pub outcome_text : List ℕ → State → List ℕ
outcome_text lead s = led_lines lead (process_lines s.system 1 s.procs) ++ led_lines lead (unit_lines s.system.units 0 s.units)
