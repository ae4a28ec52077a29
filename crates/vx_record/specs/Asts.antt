-- ASTs: which one may start, how one is queued, and the services on ASTs and modes.
use Rattle.std.specs.Prelude.{ℕ, List, [], ◌∷◌, ◌++◌, Bool, true, ◌||◌, ◌==◌, not, nat_le, if◌then◌else◌, Option, Some, None}
use Rattle.vx_base.specs.Modes.{rank, inner, outer}
use Rattle.vx_record.specs.Types.{Cond, Entry, Frame, FrameKind, Id, Mode, Opened, Pid, Queued}
use Rattle.vx_base.specs.Pieces.{is_enabled_in, with_enable}
use Rattle.vx_base.specs.Queues.{deliverable}
use Rattle.vx_base.specs.declared.cond.Cond.TheVariants.{Normal, NoPriv, ExQuota}
use Rattle.vx_base.specs.declared.effects.Effect.TheVariants as effect
use Rattle.vx_base.specs.declared.effects.Opened.TheVariants as opened
use Rattle.vx_base.specs.declared.frame.FrameKind.TheVariants as kind
use Rattle.vx_base.specs.declared.mode.Mode.TheVariants.{Kernel, Exec}
use Rattle.vx_base.specs.declared.routine.Entry.TheVariants as entry
use Rattle.vx_base.specs.Frames.{active_mode}
use Rattle.vx_image.specs.Local.{place_of}
use Rattle.vx_record.specs.State.{Process, State, process_at, change, image_of, current, next_id, past_id}
use Rattle.vx_record.specs.Parts.{Part, Outcome, nothing, tells, and_then, answered, refused}
use Rattle.vx_record.specs.Charges.{exceeds, ast_need}
use Rattle.vx_record.specs.Flags.{how_it_was}

-- Ids.

-- an id is opened; what is opened with it stands in the state that follows
abbrev pub open_part : State → Opened → Pid → Option Mode → ℕ → State → Part
open_part s kind p mode n after = tells (effect.Open (next_id s) kind p mode n) after

-- Queuing.

abbrev pub with_queued : Queued → Process → Process
with_queued q pr = record pr { asts = pr.asts ++ q ∷ [] }

abbrev pub que_part : State → Pid → Queued → Part
que_part s p q = tells (effect.Que q.id) (change s p (with_queued q))

abbrev pub charged_ast : Id → Mode → Entry → Queued
charged_ast id mode tag = record { id = id; mode = mode; tag = tag; charged = true }

-- Which AST may start.

abbrev pub deliverable_at : Process → List Frame → Option Queued
deliverable_at pr [] = None
deliverable_at pr (f ∷ fs) = deliverable pr.enables f.mode (active_mode (f ∷ fs)) pr.asts

-- the AST that may start: none if the process has no frame or is suspended
abbrev pub deliverable_ast : State → Pid → Option Queued
deliverable_ast s p = if (process_at s p).suspended then None else deliverable_at (process_at s p) (process_at s p).frames

-- Entering a routine.

-- the place and the parameter of an entry
abbrev pub entry_place : State → Pid → Entry → ℕ
entry_place s p (entry.Label k prm) = place_of (image_of s p) k
entry_place s p (entry.Exit code) = 0
entry_place s p (entry.Host prm) = 0

abbrev pub entry_prm : Entry → ℕ
entry_prm (entry.Label k prm) = prm
entry_prm (entry.Exit code) = code
entry_prm (entry.Host prm) = prm

abbrev pub with_frame : Frame → Process → Process
with_frame f pr = record pr { frames = f ∷ pr.frames }

abbrev pub new_frame : State → Pid → FrameKind → Mode → Entry → ℕ → Frame
new_frame s p kind mode tag saved = record { kind = kind; mode = mode; pc = entry_place s p tag; prm = entry_prm tag; saved_r0 = saved; wait = None }

-- Services.

-- an AST is opened and queued
abbrev pub declared_ast : State → Pid → Mode → Entry → Part
declared_ast s p mode tag = and_then (open_part s opened.Ast p (Some mode) 0 (past_id s)) (λ a. que_part a p (charged_ast (next_id s) mode tag))

-- $DCLAST
abbrev pub dclast : State → Pid → Entry → Mode → Outcome Cond
dclast s p tag mode = if exceeds s p (ast_need true) then refused s ExQuota else answered Normal (declared_ast s p (outer mode (current s p)) tag)

abbrev pub with_delivery : Mode → Bool → Process → Process
with_delivery mode on pr = record pr { enables = with_enable pr.enables mode on }

abbrev pub enb_part : State → Pid → Mode → Bool → Part
enb_part s p mode on = tells (effect.Enb p mode on) (change s p (with_delivery mode on))

-- $SETAST: in the caller's mode
abbrev pub setast : State → Pid → ℕ → Outcome Cond
setast s p enb = answered (how_it_was (is_enabled_in (process_at s p).enables (current s p))) (enb_part s p (current s p) (not (enb == 0)))

-- a routine is entered in another mode
abbrev pub changed_mode : State → Pid → Mode → Entry → State
changed_mode s p mode tag = change s p (with_frame (new_frame s p kind.Change mode tag 0))

-- the caller runs in executive or kernel mode
abbrev pub is_inside : Mode → Bool
is_inside mode = nat_le (rank mode) 1

-- $CMEXEC
abbrev pub cmexec : State → Pid → Entry → Outcome Cond
cmexec s p tag =
    if is_inside (current s p) || ((process_at s p).privs.cmexec || (process_at s p).privs.cmkrnl) then
    answered Normal (nothing (changed_mode s p (inner (current s p) Exec) tag)) else refused s NoPriv

-- $CMKRNL
abbrev pub cmkrnl : State → Pid → Entry → Outcome Cond
cmkrnl s p tag =
    if is_inside (current s p) || (process_at s p).privs.cmkrnl then
    answered Normal (nothing (changed_mode s p Kernel tag)) else refused s NoPriv
