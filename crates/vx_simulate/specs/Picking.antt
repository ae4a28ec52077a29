-- What an executive comes to by a run whose events stand at a list of places.
use Rattle.std.specs.Prelude.{◌≡◌, ℕ, ◌+◌, ◌-◌, List, None, Some, length}
use Rattle.vx_record.specs.Types.{End, Rec, System}
use Rattle.vx_exec.specs.Taken.{TakesRun}
use Rattle.vx_exec.specs.View.{Executive}
use Rattle.vx_record.specs.Events.{enabled}
use Rattle.vx_record.specs.Runs.{IsRun, after, end_after, end_of}
use Rattle.vx_record.specs.Picked.{IsMissing, picked, picked_from}
use Rattle.vx_simulate.specs.declared.schedule.PickFail.{PickFail}
use Rattle.vx_simulate.specs.declared.schedule.PickFail.TheVariants.{Missing, NoMemory}

-- The executive took the records that the places choose, as many as the limit leaves.
pub record Follows (before after : Executive) (places : List ℕ) (recs : List Rec) : Type 0 where
  pub takes : TakesRun before after recs
  pub picked : recs ≡ picked_from (before.limit - before.taken) before.state places

-- The run has ended so.
pub record EndsPicked (before after : Executive) (places : List ℕ) (recs : List Rec) (end : End) : Type 0 where
  pub follows : Follows before after places recs
  pub ended : end_of after.limit after.taken after.state ≡ Some end

-- The run goes on, but record n, the next, has no event at its place, if m events are enabled.
pub record StopsBefore (before after : Executive) (places : List ℕ) (n m : ℕ) : Type 0 where
  pub recs : List Rec
  pub follows : Follows before after places recs
  pub going : end_of after.limit after.taken after.state ≡ None
  pub next : n ≡ after.taken + 1
  pub count : m ≡ length (enabled after.state)

abbrev pub stops_at : Executive → Executive → List ℕ → PickFail → Type 0
stops_at before after places (Missing n m) = StopsBefore before after places n m
stops_at before after places NoMemory = Unit {0}

-- The executive took the run of the system that the places choose, with at most as many records as the limit: it is a run of
-- the machine, the state is the one after it, and it has ended so.
pub record IsPickedRun (system : System) (places : List ℕ) (limit : ℕ) (exec : Executive) (recs : List Rec) (end : End) : Type 0 where
  pub run : IsRun system recs
  pub picked : recs ≡ picked system places limit
  pub now : exec.state ≡ after system recs
  pub counted : exec.taken ≡ length recs
  pub limited : exec.limit ≡ limit
  pub ended : end_after system recs limit ≡ Some end

-- a place is not there
abbrev pub tells_missing : System → List ℕ → ℕ → PickFail → Type 0
tells_missing system places limit (Missing n m) = IsMissing system places limit n m
tells_missing system places limit NoMemory = Unit {0}
