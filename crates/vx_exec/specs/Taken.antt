-- What an executive comes to by a run that it takes.
use Rattle.std.specs.Prelude.{◌≡◌, ℕ, ◌+◌, ◌-◌, List, Some, length}
use Rattle.vx_record.specs.Types.{End, Rec, System}
use Rattle.vx_record.specs.Runs.{AreSteps, IsRun, after, after_from, chosen, chosen_from, end_after, end_of}
use Rattle.vx_exec.specs.View.{Executive, plan}

-- The records are the machine's from the state before on, and the state after is the one after them; they are counted, and
-- the system and the limit are as before.
pub record TakesRun (before after : Executive) (recs : List Rec) : Type 0 where
  pub steps : AreSteps before.state recs
  pub now : after.state ≡ after_from before.state recs
  pub counted : after.taken ≡ before.taken + length recs
  pub planned : plan after ≡ plan before

-- It took some steps of a run, or none, and their records are lost.
abbrev pub TakesSome : Executive → Executive → Type 0
TakesSome before after = (recs : List Rec) × TakesRun before after recs

-- The run has ended so, and its records are those that the seed chooses, as many as the limit leaves.
pub record EndsRun (before after : Executive) (seed : ℕ) (recs : List Rec) (end : End) : Type 0 where
  pub takes : TakesRun before after recs
  pub chosen : recs ≡ chosen_from (before.limit - before.taken) before.state seed
  pub ended : end_of after.limit after.taken after.state ≡ Some end

-- The executive took the run of the system that the seed chooses, with at most as many records as the limit: it is a run of
-- the machine, the state is the one after it, and it has ended so.
pub record IsChosenRun (system : System) (seed limit : ℕ) (exec : Executive) (recs : List Rec) (end : End) : Type 0 where
  pub run : IsRun system recs
  pub chosen : recs ≡ chosen system seed limit
  pub now : exec.state ≡ after system recs
  pub counted : exec.taken ≡ length recs
  pub limited : exec.limit ≡ limit
  pub ended : end_after system recs limit ≡ Some end
