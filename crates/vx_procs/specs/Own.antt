-- Whether a process has an event, if the process alone tells it.
use Rattle.std.specs.Prelude.{◌≡◌, ℕ, ◌*◌, ◌%◌, List, [], ◌∷◌, Bool, true, false, ◌&&◌, ◌||◌, ◌==◌, nat_lt, nat_le, if◌then◌else◌, Option, Some, None, drop, is_some, take}
use Rattle.std.specs.List.{AllByRecursion}
use Rattle.vx_base.specs.Flags.{all_set, any_set, is_set}
use Rattle.vx_base.specs.Lists.{tally}
use Rattle.vx_record.specs.Types.{Frame, Phase, Queued, Wait}
use Rattle.vx_base.specs.declared.frame.Phase.TheVariants as phase
use Rattle.vx_base.specs.declared.frame.Wait.TheVariants as wait
use Rattle.vx_image.specs.Storage.{status_at}
use Rattle.vx_record.specs.State.{Process}
use Rattle.vx_record.specs.Flags.{is_filled, local_flags}
use Rattle.vx_procs.specs.Words.{deliverable_of}

-- Whether a wait is over. None: that depends on a common flag, or on a status block that no process has.

abbrev pub hold_own : Process → ℕ → ℕ → Bool → Bool
hold_own pr efn mask all = if all then all_set (local_flags pr efn) mask else any_set (local_flags pr efn) mask

abbrev pub is_synchronized_own : Process → ℕ → ℕ → Bool
is_synchronized_own pr efn iosb = is_set (local_flags pr efn) (efn % 32) && ((iosb == 0) || is_filled (status_at pr.store iosb))

abbrev pub own_wait : Process → Wait → Option Bool
own_wait pr (wait.Flags efn mask all) = if nat_lt efn 64 then Some (hold_own pr efn mask all) else None
own_wait pr (wait.Synch efn iosb) = if nat_lt efn 64 && nat_le iosb 32 then Some (is_synchronized_own pr efn iosb) else None
own_wait pr wait.Hiber = Some pr.wake_pending

abbrev pub own_wait_if : Process → Option Wait → Option Bool
own_wait_if pr None = Some true
own_wait_if pr (Some w) = own_wait pr w

-- a mode that is drained waits for its requests
abbrev pub own_phase : Phase → Option Bool
own_phase (phase.Draining m) = None
own_phase phase.Deleted = Some false
own_phase other = Some true

abbrev pub own_run : Process → List Frame → Option Bool
own_run pr [] = own_phase pr.phase
own_run pr (f ∷ fs) = own_wait_if pr f.wait

abbrev pub ast_or_own : Process → Option Queued → Option Bool
ast_or_own pr None = own_run pr pr.frames
ast_or_own pr (Some q) = Some true

-- whether a process has an event; None if others must be asked
abbrev pub own_event : Process → Option Bool
own_event pr = if pr.suspended then Some false else ast_or_own pr (deliverable_of pr)

abbrev pub or_false : Option Bool → Bool
or_false None = false
or_false (Some b) = b

-- the process alone tells that it has an event
abbrev pub has_own : Process → Bool
has_own pr = or_false (own_event pr)

-- the process alone tells whether it has an event
abbrev pub is_own : Process → Bool
is_own pr = is_some (own_event pr)

-- Blocks of 32.

abbrev pub block_of : {A : Type 0} → ℕ → List A → List A
block_of b xs = take 32 (drop (32 * b) xs)

-- each of these processes alone tells whether it has an event, and so many have one
pub record AreOwn (n : ℕ) (prs : List Process) : Type 0 where
  pub own : AllByRecursion (λ pr. is_own pr ≡ true) prs
  pub count : n ≡ tally has_own prs
