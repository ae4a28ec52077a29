-- Exit, exit handlers and deletion, up to the rundown. RunExitHandlers, RunHandlerInKernel, RunNoHandler and
-- RunDeletion show whole runs.
use Rattle.std.specs.Prelude.{◌∷◌, [], ℕ, List, Some, codes, refl, true}
use Rattle.vx_record.specs.Types.{Frame, Handler, Mode}
use Rattle.vx_base.specs.declared.cond.Cond.TheVariants as cond
use Rattle.vx_base.specs.declared.effects.Opened.TheVariants as opened
use Rattle.vx_base.specs.declared.frame.FrameKind.TheVariants as kind
use Rattle.vx_base.specs.declared.frame.Phase.TheVariants as phase
use Rattle.vx_base.specs.declared.mode.Mode.TheVariants as mode
use Rattle.vx_base.specs.declared.routine.Entry.TheVariants as entry
use Rattle.vx_base.specs.declared.service.Service.TheVariants as service
use Rattle.vx_examples.specs.Script.{call, drops, id, leaves, no_routine, opens, routine, value}
use Rattle.vx_examples.specs.Small.{Answers, Refuses, alone, frame_of, somebody, somebody_in, with, with_both}
use Rattle.vx_record.specs.State.{Process}

-- two ASTs are active, the one of executive mode over the one of user mode
abbrev ast_frame : ℕ → Mode → Frame
ast_frame n mode = frame_of (kind.Ast (id n)) mode

abbrev busy_frames : List Frame
busy_frames = ast_frame 6 mode.Exec ∷ frame_of kind.Change mode.Exec ∷ ast_frame 5 mode.User ∷ frame_of kind.Main
    mode.User ∷ []

-- $EXIT: the mode is that of the top frame

pub exit-user :
    Answers alone (call service.Exit (value 44 ∷ [])) cond.Normal []
    (with (record somebody { frames = []; exit_code = 44; phase = phase.Handlers mode.User }))
exit-user = refl

pub exit-within :
    Answers (with (record somebody { frames = busy_frames })) (call service.Exit (value 44 ∷ [])) cond.Normal
    (leaves 6 ∷ leaves 5 ∷ [])
    (with (record somebody { frames = []; exit_code = 44; phase = phase.Handlers mode.Exec }))
exit-within = refl

-- within a handler the phase stays
pub exit-handler :
    Answers (with (record somebody
    { frames = frame_of kind.Handler mode.User ∷ []; exit_code = 44; phase = phase.Handlers mode.User }))
    (call service.Exit (value 45 ∷ [])) cond.Normal []
    (with (record somebody { frames = []; exit_code = 45; phase = phase.Handlers mode.User }))
exit-handler = refl

-- $DELPRC: ASTs are left, frames go, handlers are dropped, newest first, and the suspended mark goes

abbrev handler : ℕ → Mode → ℕ → Handler
handler n mode k = record { id = id n; mode = mode; tag = entry.Label k 0 }

abbrev victim : Process
victim = record somebody {
  frames = busy_frames;
  handlers = handler 4 mode.Super 0 ∷ handler 3 mode.User 1 ∷ [];
  suspended = true;
  exit_code = 9;
}

pub delprc-other :
    Answers (with_both somebody victim) (call service.DelPrc (value 2 ∷ [])) cond.Normal
    (leaves 6 ∷ leaves 5 ∷ drops 4 ∷ drops 3 ∷ [])
    (with_both somebody (record somebody { frames = []; exit_code = 9; delete_pending = true; phase = phase.Handlers mode.User }))
delprc-other = refl

-- one that exits already keeps its phase
pub delprc-exiting :
    Answers (with_both somebody (record somebody { frames = []; phase = phase.Draining mode.User }))
    (call service.DelPrc (value 2 ∷ [])) cond.Normal []
    (with_both somebody (record somebody { frames = []; phase = phase.Draining mode.User; delete_pending = true }))
delprc-exiting = refl

pub delprc-self :
    Answers alone (call service.DelPrc (value 0 ∷ [])) cond.Normal []
    (with (record somebody { frames = []; delete_pending = true; phase = phase.Handlers mode.User }))
delprc-self = refl

pub delprc-named :
    Refuses (with_both somebody (record somebody { frames = []; delete_pending = true; phase = phase.Handlers mode.User }))
    (call service.DelPrc (value 2 ∷ [])) cond.NonExpr
delprc-named = refl

pub delprc-stranger :
    Refuses (with_both somebody (record somebody { group = 2 })) (call service.DelPrc (value 2 ∷ [])) cond.NoPriv
delprc-stranger = refl

-- $DCLEXH: in front of those that were declared before

pub dclexh-second :
    Answers (with (record somebody { handlers = handler 3 mode.User 0 ∷ [] }))
    (call service.DclExh (routine (codes "H") ∷ [])) cond.Normal (opens 7 opened.Exh 1 (Some mode.User) 0 ∷ [])
    (record (with (record somebody { handlers = handler 7 mode.User 1 ∷ handler 3 mode.User 0 ∷ [] })) { next = 8 })
dclexh-second = refl

pub dclexh-kernel :
    Refuses (with (somebody_in mode.Kernel)) (call service.DclExh (routine (codes "H") ∷ [])) cond.IvSsRq
dclexh-kernel = refl

-- $CANEXH

abbrev with_handlers : Process
with_handlers = record somebody {
  handlers = handler 6 mode.User 0 ∷ handler 5 mode.Super 1 ∷ handler 4 mode.User 1 ∷
      handler 3 mode.User 0 ∷ [];
}

-- the newest with the routine, in the caller's mode
pub canexh-named :
    Answers (with with_handlers) (call service.CanExh (routine (codes "H") ∷ [])) cond.Normal (drops 4 ∷ [])
    (with (record somebody {
      handlers = handler 6 mode.User 0 ∷ handler 5 mode.Super 1 ∷ handler 3 mode.User 0 ∷
          [];
    }))
canexh-named = refl

-- all of the caller's mode, newest first
pub canexh-all :
    Answers (with with_handlers) (call service.CanExh (no_routine ∷ [])) cond.Normal
    (drops 6 ∷ drops 4 ∷ drops 3 ∷ [])
    (with (record somebody { handlers = handler 5 mode.Super 1 ∷ [] }))
canexh-all = refl

pub canexh-kernel : Refuses (with (somebody_in mode.Kernel)) (call service.CanExh (no_routine ∷ [])) cond.IvSsRq
canexh-kernel = refl

-- only another mode has one with the routine
pub canexh-no_handler :
    Refuses (with (record somebody { handlers = handler 5 mode.Super 1 ∷ [] }))
    (call service.CanExh (routine (codes "H") ∷ [])) cond.NoHandler
canexh-no_handler = refl

-- both in the caller's mode

pub dclexh-exec :
    Answers (with (somebody_in mode.Exec)) (call service.DclExh (routine (codes "H") ∷ [])) cond.Normal
    (opens 7 opened.Exh 1 (Some mode.Exec) 0 ∷ [])
    (record (with (record (somebody_in mode.Exec) { handlers = handler 7 mode.Exec 1 ∷ [] })) { next = 8 })
dclexh-exec = refl

pub canexh-exec :
    Answers (with (record (somebody_in mode.Exec)
    { handlers = handler 6 mode.User 1 ∷ handler 5 mode.Exec 1 ∷ [] }))
    (call service.CanExh (routine (codes "H") ∷ [])) cond.Normal (drops 5 ∷ [])
    (with (record (somebody_in mode.Exec) { handlers = handler 6 mode.User 1 ∷ [] }))
canexh-exec = refl
