-- ASTs and modes: declaring, enabling, changing mode, and which AST may start. RunAstsInTurn, RunAstsByMode and
-- RunAstQuota show whole runs.
use Rattle.std.specs.Prelude.{◌≡◌, ◌∷◌, [], ◌++◌, ℕ, List, None, Option, Some, codes, false, refl, replicate, true}
use Rattle.vx_record.specs.Types.{Enables, Frame, Mode, Queued}
use Rattle.vx_base.specs.Pieces.{all_on}
use Rattle.vx_base.specs.declared.cond.Cond.TheVariants as cond
use Rattle.vx_base.specs.declared.effects.Opened.TheVariants as opened
use Rattle.vx_base.specs.declared.frame.FrameKind.TheVariants as kind
use Rattle.vx_base.specs.declared.mode.Mode.TheVariants as mode
use Rattle.vx_base.specs.declared.routine.Entry.TheVariants as entry
use Rattle.vx_base.specs.declared.service.Service.TheVariants as service
use Rattle.vx_examples.specs.Script.{call, enb, id, in_mode, no_privs, opens, process, que, routine, value}
use Rattle.vx_examples.specs.Small.{Answers, Refuses, alone, frame_of, somebody, somebody_in, with}
use Rattle.vx_record.specs.Asts.{deliverable_ast}
use Rattle.vx_record.specs.State.{Process}

abbrev ast : ℕ → Mode → ℕ → Queued
ast n mode prm = record { id = id n; mode = mode; tag = entry.Label 0 prm; charged = true }

-- $DCLAST: the mode is the outer one of the argument and the caller's.

pub dclast-user :
    Answers alone (call service.DclAst (routine (codes "T") ∷ value 9 ∷ in_mode mode.Kernel ∷ [])) cond.Normal
    (opens 7 opened.Ast 1 (Some mode.User) 0 ∷ que 7 ∷ [])
    (record (with (record somebody { asts = ast 7 mode.User 9 ∷ [] })) { next = 8 })
dclast-user = refl

pub dclast-inner :
    Answers (with (somebody_in mode.Kernel))
    (call service.DclAst (routine (codes "T") ∷ value 9 ∷ in_mode mode.Exec ∷ [])) cond.Normal
    (opens 7 opened.Ast 1 (Some mode.Exec) 0 ∷ que 7 ∷ [])
    (record (with (record (somebody_in mode.Kernel) { asts = ast 7 mode.Exec 9 ∷ [] })) { next = 8 })
dclast-inner = refl

-- it is queued behind what is queued, and starts at the label that is named
pub dclast-behind :
    Answers (with (record somebody { asts = ast 3 mode.User 0 ∷ [] }))
    (call service.DclAst (routine (codes "H") ∷ value 1 ∷ in_mode mode.User ∷ [])) cond.Normal
    (opens 7 opened.Ast 1 (Some mode.User) 0 ∷ que 7 ∷ [])
    (record (with (record somebody
    { asts = ast 3 mode.User 0 ∷ record (ast 7 mode.User 1) { tag = entry.Label 1 1 } ∷ [] })) { next = 8 })
dclast-behind = refl

-- ASTLM: 24 are charged
pub dclast-quota :
    Refuses (with (record somebody { asts = replicate 24 (ast 3 mode.User 0) }))
    (call service.DclAst (routine (codes "T") ∷ value 9 ∷ in_mode mode.Kernel ∷ [])) cond.ExQuota
dclast-quota = refl

-- those of $FORCEX are not charged
abbrev forced : Queued
forced = record (ast 3 mode.User 0) { tag = entry.Exit 5; charged = false }

pub dclast-forced :
    Answers (with (record somebody { asts = replicate 24 forced }))
    (call service.DclAst (routine (codes "T") ∷ value 9 ∷ in_mode mode.Kernel ∷ [])) cond.Normal
    (opens 7 opened.Ast 1 (Some mode.User) 0 ∷ que 7 ∷ [])
    (record (with (record somebody { asts = replicate 24 forced ++ ast 7 mode.User 9 ∷ [] })) { next = 8 })
dclast-forced = refl

-- $SETAST: in the caller's mode, and the answer says how it was.

pub setast-off :
    Answers alone (call service.SetAst (value 0 ∷ [])) cond.WasSet (enb 1 mode.User false ∷ [])
    (with (record somebody { enables = record all_on { user = false } }))
setast-off = refl

pub setast-on :
    Answers (with (record (somebody_in mode.Exec) { enables = record all_on { exec = false } }))
    (call service.SetAst (value 2 ∷ [])) cond.WasClr (enb 1 mode.Exec true ∷ [])
    (with (somebody_in mode.Exec))
setast-on = refl

pub setast-still_on :
    Answers (with (somebody_in mode.Super)) (call service.SetAst (value 1 ∷ [])) cond.WasSet
    (enb 1 mode.Super true ∷ []) (with (somebody_in mode.Super))
setast-still_on = refl

-- $CMEXEC

pub cmexec-without : Refuses alone (call service.CmExec (routine (codes "T") ∷ value 9 ∷ [])) cond.NoPriv
cmexec-without = refl

pub cmexec-super :
    Refuses (with (somebody_in mode.Super)) (call service.CmExec (routine (codes "T") ∷ value 9 ∷ [])) cond.NoPriv
cmexec-super = refl

-- the routine runs in a frame of its own, at its place
abbrev changed : Mode → Frame
changed mode = record (frame_of kind.Change mode) { pc = 1; prm = 9 }

abbrev calling : Mode → Process → Process
calling mode pr = record pr { frames = changed mode ∷ pr.frames }

abbrev may_exec : Process
may_exec = record somebody { privs = record no_privs { cmexec = true } }

abbrev may_kernel : Process
may_kernel = record somebody { privs = record no_privs { cmkrnl = true } }

pub cmexec-by_cmexec :
    Answers (with may_exec) (call service.CmExec (routine (codes "T") ∷ value 9 ∷ [])) cond.Normal []
    (with (calling mode.Exec may_exec))
cmexec-by_cmexec = refl

pub cmexec-by_cmkrnl :
    Answers (with may_kernel) (call service.CmExec (routine (codes "T") ∷ value 9 ∷ [])) cond.Normal []
    (with (calling mode.Exec may_kernel))
cmexec-by_cmkrnl = refl

pub cmexec-inside :
    Answers (with (somebody_in mode.Exec)) (call service.CmExec (routine (codes "T") ∷ value 9 ∷ [])) cond.Normal []
    (with (calling mode.Exec (somebody_in mode.Exec)))
cmexec-inside = refl

-- from kernel mode it stays in kernel mode
pub cmexec-kernel :
    Answers (with (somebody_in mode.Kernel)) (call service.CmExec (routine (codes "T") ∷ value 9 ∷ []))
    cond.Normal []
    (with (calling mode.Kernel (somebody_in mode.Kernel)))
cmexec-kernel = refl

-- $CMKRNL

pub cmkrnl-without : Refuses (with may_exec) (call service.CmKrnl (routine (codes "T") ∷ value 9 ∷ [])) cond.NoPriv
cmkrnl-without = refl

pub cmkrnl-with :
    Answers (with may_kernel) (call service.CmKrnl (routine (codes "T") ∷ value 9 ∷ [])) cond.Normal []
    (with (calling mode.Kernel may_kernel))
cmkrnl-with = refl

pub cmkrnl-inside :
    Answers (with (somebody_in mode.Exec)) (call service.CmKrnl (routine (codes "T") ∷ value 9 ∷ [])) cond.Normal []
    (with (calling mode.Kernel (somebody_in mode.Exec)))
cmkrnl-inside = refl

-- Which AST may start.

abbrev queued : Process → Process
queued pr = record pr { asts = ast 3 mode.User 1 ∷ ast 4 mode.Super 2 ∷ ast 5 mode.Super 3 ∷ [] }

-- the first of the innermost mode
pub deliverable-innermost : deliverable_ast (with (queued somebody)) (process 1) ≡ Some (ast 4 mode.Super 2)
deliverable-innermost = refl

-- if that mode is disabled, the next one outward
pub deliverable-disabled :
    deliverable_ast (with (record (queued somebody) { enables = record all_on { supervisor = false } }))
    (process 1) ≡
    Some (ast 3 mode.User 1)
deliverable-disabled = refl

pub deliverable-all_disabled :
    deliverable_ast (with
    (record (queued somebody) {
      enables = record
          { kernel = true; exec = true; supervisor = false; user = false };
    }))
    (process 1) ≡ None
deliverable-all_disabled = refl

-- none of a mode outer than the current one
pub deliverable-outer : deliverable_ast (with (queued (somebody_in mode.Exec))) (process 1) ≡ None
deliverable-outer = refl

pub deliverable-same :
    deliverable_ast (with (queued (somebody_in mode.Super))) (process 1) ≡ Some (ast 4 mode.Super 2)
deliverable-same = refl

-- none while an AST of that mode, or of an inner one, is active
abbrev within : Mode → Process → Process
within mode pr = record pr { frames = frame_of (kind.Ast (id 2)) mode ∷ pr.frames }

pub deliverable-active :
    deliverable_ast (with (record (within mode.User somebody) { asts = ast 3 mode.User 1 ∷ [] })) (process 1) ≡ None
deliverable-active = refl

pub deliverable-over :
    deliverable_ast (with (queued (within mode.User somebody))) (process 1) ≡ Some (ast 4 mode.Super 2)
deliverable-over = refl

pub deliverable-inner_active : deliverable_ast (with (queued (within mode.Super somebody))) (process 1) ≡ None
deliverable-inner_active = refl

-- also if a routine in an inner mode runs above the active AST
pub deliverable-changed :
    deliverable_ast (with
    (record (calling mode.Kernel (within mode.Super somebody)) { asts = ast 4 mode.Super 2 ∷ [] })) (process 1) ≡
    None
deliverable-changed = refl

pub deliverable-changed_inner :
    deliverable_ast (with
    (record (calling mode.Kernel (within mode.Super somebody))
    { asts = ast 4 mode.Super 2 ∷ ast 6 mode.Kernel 3 ∷ [] })) (process 1) ≡ Some (ast 6 mode.Kernel 3)
deliverable-changed_inner = refl

pub deliverable-suspended :
    deliverable_ast (with (record (queued somebody) { suspended = true })) (process 1) ≡ None
deliverable-suspended = refl

pub deliverable-no_frame : deliverable_ast (with (record (queued somebody) { frames = [] })) (process 1) ≡ None
deliverable-no_frame = refl

-- Of four modes the innermost that is enabled comes first; each mode has its own enable.

abbrev of_each_mode : List Queued
of_each_mode = ast 3 mode.User 0 ∷ ast 4 mode.Super 0 ∷ ast 5 mode.Exec 0 ∷ ast 6 mode.Kernel 0 ∷ []

abbrev first_of : Enables → Option Queued
first_of enables = deliverable_ast (with (record somebody { asts = of_each_mode; enables = enables })) (process 1)

pub deliverable-kernel : first_of all_on ≡ Some (ast 6 mode.Kernel 0)
deliverable-kernel = refl

pub deliverable-exec : first_of (record all_on { kernel = false }) ≡ Some (ast 5 mode.Exec 0)
deliverable-exec = refl

pub deliverable-super : first_of (record all_on { kernel = false; exec = false }) ≡ Some (ast 4 mode.Super 0)
deliverable-super = refl

pub deliverable-user :
    first_of (record all_on { kernel = false; exec = false; supervisor = false }) ≡ Some (ast 3 mode.User 0)
deliverable-user = refl
