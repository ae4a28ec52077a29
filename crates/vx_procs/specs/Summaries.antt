-- What is remembered of the processes: of each alone, and of a block of 32 at a time.
use Rattle.std.specs.Prelude.{◌≡◌, ℕ, List, Option, None, IfSome, map, slice_index_or}
use Rattle.vx_record.specs.State.{Process, nobody}
use Rattle.vx_procs.specs.Own.{AreOwn, block_of, own_event}
use Rattle.vx_procs.specs.Processes.{process}
use Rattle.vx_procs.specs.Words.{deepest, depth}
use Rattle.vx_procs.specs.declared.process.Proc.{Proc}
use Rattle.vx_procs.specs.declared.seen.Seen.{Seen}
use Rattle.vx_procs.specs.declared.summary.Summary.{Summary}

-- What is remembered at each place is right. Nothing is remembered beyond the list.
abbrev pub AreKnown : {M : Type 0} → (ℕ → M → Type 0) → List (Option M) → Type 0
AreKnown Is ms = (i : ℕ) → IfSome (slice_index_or ms i None) (Is i)

-- This is right of this process.
pub record IsSeen (m : Seen) (pr : Process) : Type 0 where
  pub event : m.event ≡ own_event pr
  pub depth : m.depth ≡ depth pr

abbrev pub IsSeenAt : List Process → ℕ → Seen → Type 0
IsSeenAt prs i m = IsSeen m (slice_index_or prs i nobody)

abbrev pub AreSeen : List (Option Seen) → List Process → Type 0
AreSeen ms prs = AreKnown (IsSeenAt prs) ms

-- This is right of these processes.
pub record IsSummary (m : Summary) (prs : List Process) : Type 0 where
  pub events : IfSome m.events (λ n. AreOwn n prs)
  pub depth : m.depth ≡ deepest prs

abbrev pub IsSummaryOf : List Process → ℕ → Summary → Type 0
IsSummaryOf prs b m = IsSummary m (block_of b prs)

abbrev pub AreSummaries : List (Option Summary) → List Process → Type 0
AreSummaries ms prs = AreKnown (IsSummaryOf prs) ms

-- All that is remembered is right.
pub record AreRight {R : Type 0} (ss : List (Option Seen)) (ms : List (Option Summary)) (items : List (Proc R)) : Type 0 where
  pub seen : AreSeen ss (map process items)
  pub summaries : AreSummaries ms (map process items)
