-- Each record of a run has a spelling.
use Rattle.std.specs.Prelude.{List}
use Rattle.vx_record.specs.Types.{Rec, System}
use Rattle.vx_image.specs.WellFormed.{IsWellFormed}
use Rattle.vx_record.specs.Runs.{IsRun}
use Rattle.vx_lines.specs.SpelledRecords.{AreSpelled}
use Rattle.vx_spelled.specs.Held.{AreHeldRecs, AreNamed}

-- the records of a run of a well formed system have a spelling, if they hold what the program's types do
abbrev pub RunsAreSpelled : Type 0
RunsAreSpelled = (s : System) (recs : List Rec) → IsWellFormed s → AreNamed s.units → IsRun s recs → AreHeldRecs recs → AreSpelled s.units recs
