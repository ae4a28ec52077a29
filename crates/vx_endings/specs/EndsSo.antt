-- A run of the machine that has ended.
use Rattle.std.specs.Prelude.{◌≡◌, ℕ, ◌≤◌, List, Some, length}
use Rattle.vx_record.specs.Types.{Rec, System}
use Rattle.vx_record.specs.Runs.{IsRun, after, end_after}
use Rattle.vx_explore.specs.declared.found.Found.{Found}
use Rattle.vx_endings.specs.declared.ending.RunEnding.{RunEnding}
use Rattle.vx_endings.specs.Endings.{trailer_text}
use Rattle.vx_record.specs.Picked.{picked}

-- the records are a run of the system, at most as many as the limit, and the run has ended so
pub record EndsSo (system : System) (limit : ℕ) (recs : List Rec) (ending : RunEnding) : Type 0 where
  pub run : IsRun system recs
  pub within : length recs ≤ limit
  pub ended : end_after system recs limit ≡ Some ending.end
  pub trailer : ending.trailer ≡ trailer_text (after system recs)

-- the run that the row's places choose ends as the row says, and has a record for each place
pub record IsWitnessed (system : System) (limit : ℕ) (row : Found RunEnding) : Type 0 where
  pub ends : EndsSo system limit (picked system row.picks limit) row.what
  pub count : length (picked system row.picks limit) ≡ length row.picks
