-- What exploring a system comes to: how all its runs end, or that there are too many states.
use Rattle.std.specs.Prelude.{◌≡◌, ℕ, List, [], ◌∷◌, ◌++◌, Contains, map}
use Rattle.std.specs.List.{AllByRecursion}
use Rattle.vx_record.specs.Types.{End, Rec, System}
use Rattle.vx_endings.specs.Endings.{endings}
use Rattle.vx_endings.specs.EndsSo.{EndsSo, IsWitnessed}
use Rattle.vx_endings.specs.Interleavings.{IsTooWide}
use Rattle.vx_endings.specs.Text.{cut_line, endings_text}
use Rattle.vx_endings.specs.Worst.{worst_end}
use Rattle.vx_endings.specs.declared.ending.RunEnding.{RunEnding}
use Rattle.vx_explore.specs.declared.found.Found.{Found}
use Rattle.vx_tell.specs.Code.{status_of_end}
use Rattle.vx_tell.specs.declared.status.Status.{Status}
use Rattle.vx_tell.specs.declared.status.Status.TheVariants as status
use Rattle.vx_words.specs.declared.scope.Scope.{Scope}

-- These rows tell how all runs end of at most so many records. They are the summary of the list of all runs; each run that has ended
-- ends as one of them; and each is the end of the run that its places choose.
pub record AreEndings (system : System) (limit : ℕ) (rows : List (Found RunEnding)) : Type 0 where
  pub summed : rows ≡ endings system limit
  pub every_run : (recs : List Rec) (ending : RunEnding) → EndsSo system limit recs ending → Contains (map (λ row. row.what) rows) ending
  pub every_row : AllByRecursion (IsWitnessed system limit) rows

-- The text tells how all runs of a system end, and this is the worst end of them.
pub record TellsEndings (system : System) (scope : Scope) (end : End) (text : List ℕ) : Type 0 where
  pub rows : List (Found RunEnding)
  pub endings : AreEndings system scope.limit rows
  pub worst : end ≡ worst_end rows
  pub spells : text ≡ endings_text scope.limit rows

-- Some number of records leads to more states than may be kept, and the text is the line that tells it.
pub record TellsCut (system : System) (scope : Scope) (text : List ℕ) : Type 0 where
  pub wide : IsTooWide system scope.limit scope.states
  pub spells : text ≡ cut_line scope.states ++ 10 ∷ []

-- what `explore` comes to of a system
pub data IsExploreText (scope : Scope) (system : System) : Status → List ℕ → Type 0 where
  told : (end : End) (text : List ℕ) → TellsEndings system scope end text → IsExploreText scope system (status_of_end end) text
  cut : (text : List ℕ) → TellsCut system scope text → IsExploreText scope system status.Cut text
