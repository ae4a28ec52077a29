-- How the records are taken. Private contracts cite this alone.
use Rattle.std.specs.Prelude.{◌≡◌, ℕ, ◌+◌, ◌≤◌, ◌==◌, nat_lt, List, [], ◌∷◌, ◌++◌, length, if◌then◌else◌, Option, None, Some}
use Rattle.vx_record.specs.Types.{End, Rec}
use Rattle.vx_base.specs.declared.record.End.TheVariants.{Limit}
use Rattle.vx_record.specs.State.{State}
use Rattle.vx_record.specs.Runs.{AreSteps, end_of}
use Rattle.vx_exec.specs.Taken.{TakesRun}
use Rattle.vx_exec.specs.View.{Executive}
use Rattle.vx_journal.specs.declared.journal.Part.{Part}
use Rattle.vx_check.specs.Verdict.{part_verdict}
use Rattle.vx_check.specs.declared.verdict.Verdict.{Verdict}
use Rattle.vx_check.specs.declared.verdict.Verdict.TheVariants.{Bad}

-- the limit of the executive: the number of records, but 1 if there is none, and at most 100,000
abbrev pub most_for : ℕ → ℕ
most_for n = if n == 0 then 1 else (if nat_lt n 100000 then n else 100000)

-- how a run has ended behind so many records if that number is its limit, by how it has with the limit 100,000
abbrev pub end_for : ℕ → Option End → Option End
end_for taken (Some end) = Some end
end_for taken None = if taken == 0 then None else Some Limit

-- records are at most 100,000, and the machine's from a state on
pub record AreRun (s : State) (recs : List Rec) : Type 0 where
  pub few : length recs ≤ 100000
  pub steps : AreSteps s recs

-- The records before record n are the machine's from a state on, and with record n they are not.
pub record IsWrongFrom (s : State) (recs : List Rec) (n : ℕ) : Type 0 where
  pub before : List Rec
  pub rec : Rec
  pub rest : List Rec
  pub split : recs ≡ before ++ rec ∷ rest
  pub place : n ≡ length before + 1
  pub run : AreRun s before
  pub wrong : AreRun s (before ++ rec ∷ []) → ⊥

-- The verdict on records that are taken from a state on, and on what stands behind them: bad at the first that is wrong; and if
-- there is none, by the executive that has taken them.
pub data JudgesRecords (s : State) (recs : List Rec) (part : Part) (trailer : List ℕ) (v : Verdict) : Type 0 where
  at_record : (n : ℕ) → IsWrongFrom s recs n → v ≡ Bad n → JudgesRecords s recs part trailer v
  by_run : (now : Executive) → TakesRun (record { state = s; limit = most_for (length recs); taken = 0 }) now recs → length recs ≤ 100000 → v ≡ part_verdict now.state now.taken part trailer (end_of now.limit now.taken now.state) → JudgesRecords s recs part trailer v
