-- A run of which the tally alone is kept.
use Rattle.std.specs.Prelude.{◌≡◌, ℕ, List}
use Rattle.vx_record.specs.Types.{End, Rec}
use Rattle.vx_exec.specs.Taken.{EndsRun}
use Rattle.vx_exec.specs.View.{Executive}
use Rattle.vx_gen.specs.Counted.{tally_of}
use Rattle.vx_gen.specs.declared.tally.Tally.{Tally}

-- the run that an executive took, of which the tally alone was kept
pub record Tallies (before after : Executive) (seed : ℕ) (tally : Tally) (end : End) : Type 0 where
  pub recs : List Rec
  pub ran : EndsRun before after seed recs end
  pub counts : tally ≡ tally_of recs
