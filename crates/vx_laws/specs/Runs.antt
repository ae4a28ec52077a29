-- How something is said of every run.
use Rattle.std.specs.Prelude.{◌≡◌, ℕ, List, Bool, true, Some}
use Rattle.vx_record.specs.Types.{Pid, Rec, System}
use Rattle.vx_base.specs.declared.record.End.TheVariants.{Done}
use Rattle.vx_record.specs.Runs.{IsRun, after, end_after}
use Rattle.vx_record.specs.State.{State}
use Rattle.vx_laws.specs.Items.{Item, past_of}
use Rattle.vx_laws.specs.Leftovers.{IsEnd}
use Rattle.vx_laws.specs.Once.{ends}
use Rattle.vx_laws.specs.RundownLaw.{is_gone, run_downs}

-- the records of every run keep a law
abbrev pub EveryRunKeeps : (List Rec → Bool) → Type 0
EveryRunKeeps law = (system : System) (recs : List Rec) → IsRun system recs → law recs ≡ true

-- after the records of every run, of the state and the past
abbrev pub AfterEveryRun : (State → List Item → Type 0) → Type 0
AfterEveryRun says = (system : System) (recs : List Rec) → IsRun system recs → says (after system recs) (past_of recs)

-- of the records of every run that is at its end and was not cut off
abbrev pub AtEveryEnd : (List Item → Type 0) → Type 0
AtEveryEnd says = (system : System) (recs : List Rec) (limit : ℕ) → IsRun system recs → IsEnd (end_after system recs limit) → says (past_of recs)

-- of any records that keep the first part of the law of once and the law of rundown, and of a process that is gone in them
abbrev pub OfEveryoneGone : (List Item → Pid → Type 0) → Type 0
OfEveryoneGone says = (recs : List Rec) (p : Pid) → ends recs ≡ true → run_downs recs ≡ true → is_gone (past_of recs) p ≡ true → says (past_of recs) p

-- of the records of every run that ends with all processes gone
abbrev pub AtEveryDone : (List Item → Type 0) → Type 0
AtEveryDone says = (system : System) (recs : List Rec) (limit : ℕ) → IsRun system recs → end_after system recs limit ≡ Some Done → says (past_of recs)
