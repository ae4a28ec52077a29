-- Control of processes: who may control whom, hibernation, suspension, forced exits, creation.
use Rattle.std.specs.Prelude.{ℕ, ◌+◌, [], ◌∷◌, ◌++◌, Bool, true, false, ◌&&◌, ◌||◌, ◌==◌, not, nat_le, if◌then◌else◌, length, replicate, Some, None, Result, Ok, Err}
use Rattle.vx_base.specs.Modes.{outer}
use Rattle.vx_record.specs.Types.{Cond, Id, Mode, Phase, Pid, Privs, ProcDecl, Queued}
use Rattle.vx_base.specs.Pieces.{all_on}
use Rattle.vx_base.specs.declared.cond.Cond.TheVariants.{Normal, NoPriv, NonExpr, NoSlot}
use Rattle.vx_base.specs.declared.effects.Effect.TheVariants as effect
use Rattle.vx_base.specs.declared.effects.Opened.TheVariants as opened
use Rattle.vx_base.specs.declared.frame.FrameKind.TheVariants as kind
use Rattle.vx_base.specs.declared.frame.Phase.TheVariants as phase
use Rattle.vx_base.specs.declared.frame.Wait.TheVariants as wait
use Rattle.vx_base.specs.declared.mode.Mode.TheVariants.{User}
use Rattle.vx_base.specs.declared.routine.Entry.TheVariants as entry
use Rattle.vx_image.specs.Storage.{no_storage}
use Rattle.vx_record.specs.State.{Process, State, process_at, change, current, next_id, past_id, pid, decl_in}
use Rattle.vx_record.specs.Parts.{Part, Outcome, nothing, tells, and_then, answered, at_tested, refused_value}
use Rattle.vx_record.specs.Flags.{with_wait}
use Rattle.vx_record.specs.Asts.{open_part, que_part}
use Rattle.vx_record.specs.declared.served.Served.{Served}
use Rattle.vx_record.specs.declared.served.Served.TheVariants.{Answered, Waits}

-- Process test: 0 is the caller; NONEXPR for a process that was not made, is deleted or was named by $DELPRC; NOPRIV if
-- the caller may not control it.

abbrev pub is_deleted_phase : Phase → Bool
is_deleted_phase phase.Deleted = true
is_deleted_phase _ = false

abbrev pub is_deleted : Process → Bool
is_deleted pr = is_deleted_phase pr.phase

-- it was made, is not deleted, and is not being deleted
abbrev pub exists_for_control : State → ℕ → Bool
exists_for_control s n = nat_le 1 n && (nat_le n (length s.procs) && not (is_deleted (process_at s (pid n)) || (process_at s (pid n)).delete_pending))

abbrev pub same_group : Process → Process → Bool
same_group a b = a.group == b.group

-- they are one; or of one group and member; or of one group, and the caller has GROUP or WORLD; or the caller has WORLD
abbrev pub may_control : State → Pid → Pid → Bool
may_control s p q =
    (p.0 == q.0) || (
    (same_group (process_at s p) (process_at s q) && ((process_at s p).member == (process_at s q).member)) || (
    (same_group (process_at s p) (process_at s q) && (process_at s p).privs.group) || (process_at s p).privs.world))

-- the process that a number names
abbrev pub named_process : Pid → ℕ → Pid
named_process p n = if n == 0 then p else pid n

abbrev pub process_test : State → Pid → ℕ → Result Pid Cond
process_test s p n =
    if not (exists_for_control s (named_process p n).0) then Err NonExpr else (
    if may_control s p (named_process p n) then Ok (named_process p n) else Err NoPriv)

-- what is done to the process that a number names
abbrev pub at_process : State → Pid → ℕ → (Pid → Outcome Cond) → Outcome Cond
at_process s p n go = at_tested s go (process_test s p n)

-- a change of that process, with no effect
abbrev pub changed_process : State → (Process → Process) → Pid → Outcome Cond
changed_process s f q = answered Normal (nothing (change s q f))

-- Hibernation and suspension.

abbrev pub with_wake : Bool → Process → Process
with_wake on pr = record pr { wake_pending = on }

abbrev pub with_suspension : Bool → Process → Process
with_suspension on pr = record pr { suspended = on }

-- $HIBER: a pending wake is used up; if none pends it waits
abbrev pub hiber : State → Pid → Outcome Served
hiber s p =
    if (process_at s p).wake_pending then answered (Answered Normal) (nothing (change s p (with_wake false))) else
    answered Waits (nothing (change s p (with_wait (Some wait.Hiber))))

-- $WAKE: at most one wake pends
abbrev pub wake : State → Pid → ℕ → Outcome Cond
wake s p n = at_process s p n (changed_process s (with_wake true))

-- $SUSPND
abbrev pub suspnd : State → Pid → ℕ → Outcome Cond
suspnd s p n = at_process s p n (changed_process s (with_suspension true))

-- $RESUME
abbrev pub resume : State → Pid → ℕ → Outcome Cond
resume s p n = at_process s p n (changed_process s (with_suspension false))

-- $FORCEX: a user mode AST of the process, which charges nobody

abbrev pub exit_ast : Id → ℕ → Queued
exit_ast id code = record { id = id; mode = User; tag = entry.Exit code; charged = false }

abbrev pub forced : State → ℕ → Pid → Outcome Cond
forced s code q = answered Normal (and_then (open_part s opened.Force q (Some User) 0 (past_id s)) (λ a. que_part a q (exit_ast (next_id s) code)))

abbrev pub forcex : State → Pid → ℕ → ℕ → Outcome Cond
forcex s p n code = at_process s p n (forced s code)

-- Creation.

-- a process of the declaration at a place, before its first statement
abbrev pub new_process : ℕ → ℕ → ℕ → Privs → Mode → Process
new_process place group member privs mode = record {
  decl = place;
  group = group;
  member = member;
  privs = privs;
  store = no_storage;
  frames = record { kind = kind.Main; mode = mode; pc = 0; prm = 0; saved_r0 = 0; wait = None } ∷ [];
  enables = all_on;
  asts = [];
  channels = replicate 64 None;
  handlers = [];
  cluster_0 = 0;
  cluster_1 = 0;
  wake_pending = false;
  suspended = false;
  delete_pending = false;
  exit_code = 0;
  phase = phase.Alive;
}

-- the privileges that both have
abbrev pub held_by_both : Privs → Privs → Privs
held_by_both a b = record {
  cmexec = a.cmexec && b.cmexec;
  cmkrnl = a.cmkrnl && b.cmkrnl;
  group = a.group && b.group;
  prmceb = a.prmceb && b.prmceb;
  prmmbx = a.prmmbx && b.prmmbx;
  world = a.world && b.world;
}

abbrev pub decl_at : State → ℕ → ProcDecl
decl_at s place = decl_in s.system place

-- the number of the process that is made next
abbrev pub next_pid : State → Pid
next_pid s = pid (length s.procs + 1)

-- a created process has its creator's group and member, no privilege that its creator lacks, and no inner mode
abbrev pub created : State → Pid → ℕ → Process
created s p place =
    new_process place (process_at s p).group (process_at s p).member (held_by_both (process_at s p).privs (decl_at s place).privs) (outer (decl_at s place).mode (current s p))

abbrev pub new_part : State → Pid → ℕ → Part
new_part s p place = tells (effect.New (next_pid s) (decl_at s place).name) (record s { procs = s.procs ++ created s p place ∷ [] })

-- $CREPRC of the declaration at a place: the number of the new process
abbrev pub creprc : State → Pid → ℕ → Outcome (Result ℕ Cond)
creprc s p place =
    if nat_le 1000 (length s.procs) then refused_value s NoSlot else
    answered (Ok (next_pid s).0) (new_part s p place)
