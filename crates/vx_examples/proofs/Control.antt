-- Control of processes: who may control whom, hibernation, suspension, forced exits, creation and deletion.
-- RunHibernation, RunCreation, RunNoPrivilege, RunForcedExit and RunDeletion show whole runs.
use Rattle.std.specs.Prelude.{◌≡◌, ◌∷◌, [], ℕ, List, None, Some, codes, false, map, refl, replicate, true}
use Rattle.vx_record.specs.Types.{Call, Mode, Privs, ProcDecl}
use Rattle.vx_base.specs.declared.cond.Cond.TheVariants as cond
use Rattle.vx_base.specs.declared.effects.Opened.TheVariants as opened
use Rattle.vx_base.specs.declared.frame.Phase.TheVariants as phase
use Rattle.vx_base.specs.declared.frame.Wait.TheVariants as wait
use Rattle.vx_base.specs.declared.mode.Mode.TheVariants as mode
use Rattle.vx_base.specs.declared.routine.Entry.TheVariants as entry
use Rattle.vx_base.specs.declared.service.Service.TheVariants as service
use Rattle.vx_examples.specs.Script.{call, declared, id, in_r0, named, new, no_privs, opens, process, puts, que, value, variable}
use Rattle.vx_examples.specs.Small.{Answers, Comes, Refuses, Suspends, alone, both, small_store, small_system, somebody, somebody_in, waiting, with, with_all, with_both}
use Rattle.vx_image.specs.Storage.{no_storage}
use Rattle.vx_record.specs.Services.{service}
use Rattle.vx_record.specs.State.{Process, State}

-- The process test, by $WAKE of process 2.

abbrev wake_other : Call
wake_other = call service.Wake (value 2 ∷ [])

abbrev woken : Process → Process
woken pr = record pr { wake_pending = true }

-- 0 is the caller, and so is its own number
pub wake-self : Answers both (call service.Wake (value 0 ∷ [])) cond.Normal [] (with_both (woken somebody) somebody)
wake-self = refl

pub wake-own_number :
    Answers both (call service.Wake (value 1 ∷ [])) cond.Normal [] (with_both (woken somebody) somebody)
wake-own_number = refl

-- a wake that pends already stays one wake
pub wake-again :
    Answers (with (woken somebody)) (call service.Wake (value 0 ∷ [])) cond.Normal [] (with (woken somebody))
wake-again = refl

-- one group and member
pub wake-member : Answers both wake_other cond.Normal [] (with_both somebody (woken somebody))
wake-member = refl

-- another member of the group wants GROUP or WORLD
abbrev member_2 : Process
member_2 = record somebody { member = 2 }

abbrev with_group : Process
with_group = record somebody { privs = record no_privs { group = true } }

abbrev with_world : Process
with_world = record somebody { privs = record no_privs { world = true } }

pub wake-other_member : Refuses (with_both somebody member_2) wake_other cond.NoPriv
wake-other_member = refl

pub wake-by_group :
    Answers (with_both with_group member_2) wake_other cond.Normal [] (with_both with_group (woken member_2))
wake-by_group = refl

pub wake-by_world :
    Answers (with_both with_world member_2) wake_other cond.Normal [] (with_both with_world (woken member_2))
wake-by_world = refl

-- another group wants WORLD, also if the member is the same
abbrev group_2 : Process
group_2 = record somebody { group = 2 }

pub wake-other_group : Refuses (with_both with_group group_2) wake_other cond.NoPriv
wake-other_group = refl

pub wake-world_group :
    Answers (with_both with_world group_2) wake_other cond.Normal [] (with_both with_world (woken group_2))
wake-world_group = refl

-- no such process was made; it is deleted; $DELPRC named it: this comes before the question who may control it
pub wake-nobody : Refuses both (call service.Wake (value 3 ∷ [])) cond.NonExpr
wake-nobody = refl

pub wake-deleted :
    Refuses (with_both somebody (record group_2 { phase = phase.Deleted; frames = [] })) wake_other cond.NonExpr
wake-deleted = refl

pub wake-named :
    Refuses (with_both somebody (record group_2 { delete_pending = true; frames = []; phase = phase.Handlers mode.User }))
    wake_other cond.NonExpr
wake-named = refl

-- one that exits by itself can still be named
pub wake-exiting :
    Answers (with_both somebody (record somebody { frames = []; phase = phase.Handlers mode.User })) wake_other
    cond.Normal []
    (with_both somebody (record somebody { frames = []; phase = phase.Handlers mode.User; wake_pending = true }))
wake-exiting = refl

-- $HIBER

pub hiber-pending : Answers (with (woken somebody)) (call service.Hiber []) cond.Normal [] alone
hiber-pending = refl

pub hiber-waits : Suspends alone (call service.Hiber []) [] (with (waiting wait.Hiber))
hiber-waits = refl

-- $SUSPND and $RESUME

pub suspnd-other :
    Answers both (call service.Suspnd (value 2 ∷ [])) cond.Normal []
    (with_both somebody (record somebody { suspended = true }))
suspnd-other = refl

pub suspnd-nobody : Refuses both (call service.Suspnd (value 9 ∷ [])) cond.NonExpr
suspnd-nobody = refl

pub suspnd-stranger : Refuses (with_both somebody group_2) (call service.Suspnd (value 2 ∷ [])) cond.NoPriv
suspnd-stranger = refl

pub resume-other :
    Answers (with_both somebody (record somebody { suspended = true })) (call service.Resume (value 2 ∷ []))
    cond.Normal
    [] both
resume-other = refl

pub resume-nobody : Refuses both (call service.Resume (value 9 ∷ [])) cond.NonExpr
resume-nobody = refl

pub resume-stranger : Refuses (with_both somebody group_2) (call service.Resume (value 2 ∷ [])) cond.NoPriv
resume-stranger = refl

-- $FORCEX: an AST of the target in user mode, which charges nobody; the target is whom the effect names

pub forcex-other :
    Answers both (call service.ForceX (value 2 ∷ value 44 ∷ [])) cond.Normal
    (opens 7 opened.Force 2 (Some mode.User) 0 ∷ que 7 ∷ [])
    (record (with_both somebody (record somebody
    { asts = record { id = id 7; mode = mode.User; tag = entry.Exit 44; charged = false } ∷ [] })) { next = 8 })
forcex-other = refl

pub forcex-nobody : Refuses both (call service.ForceX (value 9 ∷ value 1 ∷ [])) cond.NonExpr
forcex-nobody = refl

pub forcex-stranger :
    Refuses (with_both somebody group_2) (call service.ForceX (value 2 ∷ value 1 ∷ [])) cond.NoPriv
forcex-stranger = refl

-- $CREPRC: the creator's group and member, the privileges that both have, the outer one of the declared mode and the
-- creator's

abbrev declares : ProcDecl → State → State
declares d s = record s { system = record small_system { decls = declared (codes "P") 0 ∷ d ∷ [] } }

abbrev kid : ProcDecl
kid = record (declared (codes "Q") 0) {
  group = 7;
  member = 7;
  mode = mode.Exec;
  privs = record no_privs
      { world = true; prmceb = true };
}

abbrev creator : Process
creator = record (somebody_in mode.Super)
    { group = 3; member = 4; privs = record no_privs { world = true; group = true } }

-- a process before its first statement: all ASTs enabled, 64 free channels, empty stores
abbrev newborn : Mode → Process
newborn m = record (somebody_in m) { decl = 1; channels = replicate 64 None; store = no_storage }

pub creprc-made :
    Answers (declares kid (with creator)) (call service.CrePrc (variable (codes "A") ∷ named (codes "Q") ∷ []))
    cond.Normal (new 2 (codes "Q") ∷ puts 1 (codes "A") 2 ∷ [])
    (declares kid
    (with_both (record creator { store = record small_store { vars = 2 ∷ 0 ∷ [] } })
    (record (newborn mode.Super) { group = 3; member = 4; privs = record no_privs { world = true } })))
creprc-made = refl

-- a declared mode further out than the creator's is kept; a declaration that starts by itself may be made again
pub creprc-outer :
    (service (with (somebody_in mode.Kernel)) (process 1)
    (call service.CrePrc (in_r0 ∷ named (codes "P") ∷ []))).after.procs ≡
    record (somebody_in mode.Kernel) { store = record small_store { r0 = 2 } } ∷ record (newborn mode.User)
    { decl = 0 } ∷ []
creprc-outer = refl

-- 1,000 were made: also if they are deleted
abbrev many : ℕ → State
many n = with_all (somebody ∷ replicate n (record somebody { phase = phase.Deleted; frames = [] }))

pub creprc-no_slot :
    Refuses (many 999) (call service.CrePrc (variable (codes "A") ∷ named (codes "Q") ∷ [])) cond.NoSlot
creprc-no_slot = refl

pub creprc-last : Comes (many 998) (call service.CrePrc (variable (codes "A") ∷ named (codes "Q") ∷ [])) cond.Normal
creprc-last = refl

-- each privilege only if both have it

abbrev all_privs : Privs
all_privs = record { cmexec = true; cmkrnl = true; group = true; prmceb = true; prmmbx = true; world = true }

abbrev privs_of_kid : Privs → Privs → List Privs
privs_of_kid held declared_ones =
    map (λ pr. pr.privs)
    (service (declares (record kid { privs = declared_ones }) (with (record somebody { privs = held }))) (process 1)
    (call service.CrePrc (in_r0 ∷ named (codes "Q") ∷ []))).after.procs

pub creprc-both : privs_of_kid all_privs all_privs ≡ all_privs ∷ all_privs ∷ []
creprc-both = refl

pub creprc-held : privs_of_kid all_privs no_privs ≡ all_privs ∷ no_privs ∷ []
creprc-held = refl

pub creprc-declared : privs_of_kid no_privs all_privs ≡ no_privs ∷ no_privs ∷ []
creprc-declared = refl
