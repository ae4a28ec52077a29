-- How all runs end.
use Rattle.std.proofs.Common.{◌≡◌, ℕ, ◌≤◌, List, Contains, map, subst, sym}
use Rattle.std.specs.List.{AllByRecursion}
use Rattle.vx_endings.proofs.Told.{every_row_witnessed, every_run_told}
use Rattle.vx_endings.specs.Endings.{endings}
use Rattle.vx_endings.specs.EndsSo.{IsWitnessed}
use Rattle.vx_endings.specs.declared.ending.RunEnding.{RunEnding}
use Rattle.vx_explore.specs.declared.found.Found.{Found}
use Rattle.vx_record.specs.Types.{System}
use Rattle.vx_commands.specs.Explored.{AreEndings}

-- the summary of all runs tells of each run that has ended, and of no other
pub are_endings : (system : System) (limit : ℕ) (rows : List (Found RunEnding)) → limit ≤ 100000 → rows ≡ endings system limit → AreEndings system limit rows
are_endings system limit rows few summed = record {
  summed = summed;
  every_run = λ recs ending e. subst (λ (rs : List (Found RunEnding)). Contains (map (λ row. row.what) rs) ending) (sym summed) (every_run_told system limit recs ending e);
  every_row = subst (AllByRecursion (IsWitnessed system limit)) (sym summed) (every_row_witnessed system limit few);
}
