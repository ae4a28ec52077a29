-- The journal of a run, and what the program's types hold of it.
use Rattle.std.specs.Prelude.{◌<◌, ◌^◌, List, length}
use Rattle.std.specs.List.{AllByRecursion}
use Rattle.vx_record.specs.Types.{End, Rec, System}
use Rattle.vx_image.specs.WellFormed.{IsWellFormed}
use Rattle.vx_lines.specs.Records.{ended_lines}
use Rattle.vx_record.specs.Runs.{IsRun, after}
use Rattle.vx_units.specs.Units.{outputs_of}
use Rattle.vx_text.specs.Quote.{AreBytes}
use Rattle.vx_record.specs.Standing.{code_of}
use Rattle.vx_roundtrip.specs.Held.{IsHeldSystem}
use Rattle.vx_spelled.specs.Held.{AreHeldRecs}
use Rattle.vx_journal.specs.Transcript.{trailer_lines}
use Rattle.vx_journal.specs.declared.journal.Journal.{Journal}
use Rattle.vx_journal.specs.declared.journal.Part.TheVariants.{Ended}

-- the journal that the transcript of a run spells
abbrev pub run_journal : System → List Rec → End → Journal
run_journal system recs end = record { system = system; recs = recs; part = Ended; trailer = ended_lines (trailer_lines (after system recs) end (length recs)) }

-- Records are a run of a system, and numbers, names and bytes are such as the program's types hold: of the system, of the records,
-- and after them of how many processes there are, what their exit codes are, and what the units have put out.
pub record IsHeldRun (system : System) (recs : List Rec) : Type 0 where
  pub formed : IsWellFormed system
  pub held : IsHeldSystem system
  pub run : IsRun system recs
  pub recs_held : AreHeldRecs recs
  pub codes : AllByRecursion (λ pr. code_of pr < 2 ^ 32) (after system recs).procs
  pub few : length (after system recs).procs < 2 ^ 32
  pub outputs : AllByRecursion (λ u. AllByRecursion AreBytes (outputs_of u.contents)) (after system recs).units
