-- Rundown, step by step: handlers, cancelling, draining and the end. RunExitHandlers, RunDeletion, RunTimers and
-- RunCommonFlags show whole runs.
use Rattle.std.specs.Prelude.{◌≡◌, ◌∷◌, [], ℕ, List, None, Some, codes, false, refl, true}
use Rattle.vx_record.specs.Types.{Answer, Frame, Handler, Mode, Phase, Queued, Request, Timer}
use Rattle.vx_base.specs.Pieces.{OfTimer, OfWake}
use Rattle.vx_base.specs.declared.cond.Cond.TheVariants as cond
use Rattle.vx_base.specs.declared.frame.FrameKind.TheVariants as kind
use Rattle.vx_base.specs.declared.frame.Phase.TheVariants as phase
use Rattle.vx_base.specs.declared.mode.Mode.TheVariants as mode
use Rattle.vx_base.specs.declared.record.Answer.TheVariants as answer
use Rattle.vx_base.specs.declared.record.Event.TheVariants as event
use Rattle.vx_base.specs.declared.request.Func.TheVariants as func
use Rattle.vx_base.specs.declared.routine.Entry.TheVariants as entry
use Rattle.vx_examples.specs.Script.{cef, drops, enters, fin, flag, gone, id, mark, mbx, no_clu, process}
use Rattle.vx_examples.specs.Small.{association, box_holding, cluster, frame_of, line_unit, on_box, on_unit, outstanding, sharing, somebody, with, with_both}
use Rattle.vx_record.specs.Events.{step}
use Rattle.vx_record.specs.Parts.{Outcome}
use Rattle.vx_record.specs.Services.{place}
use Rattle.vx_record.specs.State.{Process, State}

abbrev handler : ℕ → Mode → ℕ → Handler
handler n mode k = record { id = id n; mode = mode; tag = entry.Label k 0 }

abbrev leaving : Phase → Process → Process
leaving ph pr = record pr { frames = []; phase = ph }

-- a frame of an exit handler: its parameter is the exit code
abbrev handling : Mode → ℕ → Frame
handling mode place = record (frame_of kind.Handler mode) { pc = place; prm = 44 }

-- The newest handler of the mode is entered; H is at place 2 of the image.
pub rundown-handler :
    step (with (leaving (phase.Handlers mode.User)
    (record somebody {
      exit_code = 44;
      handlers = handler 5 mode.Super 0 ∷ handler 4 mode.User 1 ∷ handler 3 mode.User 0 ∷
          [];
    }))) (event.Rdn (process 1)) ≡ record {
      answer = answer.Handler;
      effects = enters 4 ∷ [];
      after = with (record somebody {
        exit_code = 44;
        phase = phase.Handlers mode.User;
        frames = handling mode.User 2 ∷ [];
        handlers = handler 5 mode.Super 0 ∷ handler 3 mode.User 0 ∷ [];
      });
    }
rundown-handler = refl

-- If none of user mode is left, what was opened in that mode goes, and the handlers of the next inner mode follow:
-- channels are cancelled, timers and the wakes that the process scheduled are dropped; then the channels are freed,
-- the queued ASTs of that mode are dropped, and the common clusters are dissociated.

abbrev timer : ℕ → ℕ → Mode → Timer
timer n p mode = record { id = id n; p = process p; due = 200; what = OfTimer 1 0 mode None }

abbrev wakes_up : ℕ → ℕ → ℕ → Timer
wakes_up n p target = record { id = id n; p = process p; due = 200; what = OfWake (process target) 0 }

abbrev ast : ℕ → Mode → Queued
ast n mode = record { id = id n; mode = mode; tag = entry.Label 0 0; charged = true }

abbrev reads : ℕ → Mode → Request
reads n mode = record (outstanding n line_unit func.Read)
    { req = record ((outstanding n line_unit func.Read).req) { iosb = 0; chan_mode = mode } }

-- two channels of user mode, and one of supervisor mode
abbrev with_channels : Process
with_channels = record somebody {
  channels = Some (on_unit 0 mode.User) ∷ Some (on_box 0 mode.User) ∷ Some
      (on_unit 1 mode.Super) ∷ [];
}

abbrev rich : Process → State
rich pr = sharing
    (record (with_both pr somebody) {
      boxes = Some (box_holding []) ∷ None ∷ [];
      requests = reads 11 mode.User ∷ [];
      timers = timer 12 1 mode.User ∷ timer 13 1 mode.Super ∷ timer 14 2 mode.User ∷ wakes_up 15 1 2 ∷ wakes_up 16
          2 1 ∷
          [];
    })
    (cluster (codes "C") false false 0 ∷ cluster (codes "D") true false 9 ∷ [])
    (association 1 3 (codes "C") ∷ association 1 2 (codes "D") ∷ [])

pub rundown-next_mode :
    step (rich (leaving (phase.Handlers mode.User)
    (record with_channels {
      exit_code = 44;
      handlers = handler 5 mode.Super 0 ∷ [];
      asts = ast 7 mode.User ∷ ast 8
          mode.Super ∷ ast 9 mode.User ∷ [];
    }))) (event.Rdn (process 1)) ≡ record {
      answer = answer.Handler;
      effects =
          fin 11 cond.Cancel ∷ flag 1 1 true ∷ drops 12 ∷ drops 15 ∷
          mbx (codes "BOX") false ∷ drops 7 ∷ drops 9 ∷ no_clu 1 2 ∷ no_clu 1 3 ∷ cef 1 (codes "C") false ∷ enters
          5 ∷ [];
      after = sharing
          (record
          (with_both
          (record somebody {
            exit_code = 44;
            cluster_0 = 2;
            phase = phase.Handlers mode.Super;
            frames = handling mode.Super 1 ∷ [];
            channels = None ∷ None ∷ Some (on_unit 1 mode.Super) ∷ [];
            asts = ast 8 mode.Super ∷ [];
          })
          somebody)
          { timers = timer 13 1 mode.Super ∷ timer 14 2 mode.User ∷ wakes_up 16 2 1 ∷ [] })
          (cluster (codes "D") true false 9 ∷ []) [];
    }
rundown-next_mode = refl

-- A request in service is marked, and waited for: nothing is freed yet.
pub rundown-busy :
    step (record (with (leaving (phase.Handlers mode.User) (record with_channels { asts = ast 7 mode.User ∷ [] })))
    { requests = record (reads 11 mode.User) { served = true } ∷ [] }) (event.Rdn (process 1)) ≡ record {
      answer = answer.Busy;
      effects = mark 11 ∷ [];
      after = record (with
          (leaving (phase.Draining mode.User) (record with_channels { asts = ast 7 mode.User ∷ [] }))) {
            requests = record (reads 11 mode.User) { served = true; marked = true } ∷ [];
          };
    }
rundown-busy = refl

-- A request of an inner mode is not waited for yet: user mode is released, and supervisor mode is cancelled and waits.
pub rundown-inner_busy :
    step (record (with
    (leaving (phase.Draining mode.User)
    (record with_channels { asts = ast 7 mode.User ∷ ast 8 mode.Super ∷ [] }))) {
      boxes = Some (box_holding []) ∷ None ∷ [];
      requests = record (reads 11 mode.Super)
          { served = true; req = record ((reads 11 mode.Super).req) { chan = 3 } } ∷ [];
    }) (event.Rdn (process 1)) ≡ record {
      answer = answer.Busy;
      effects = mbx (codes "BOX") false ∷ drops 7 ∷ mark 11 ∷ [];
      after = record (with
          (leaving (phase.Draining mode.Super)
          (record somebody {
            channels = None ∷ None ∷ Some (on_unit 1 mode.Super) ∷ [];
            asts = ast 8 mode.Super ∷
                [];
          }))) {
            requests = record (reads 11 mode.Super)
                { served = true; marked = true; req = record ((reads 11 mode.Super).req) { chan = 3 } } ∷ [];
          };
    }
rundown-inner_busy = refl

-- A channel that was freed before its request was done: the request is still waited for.
pub rundown-freed :
    (step (record (with (leaving (phase.Handlers mode.User) somebody))
    { requests = record (reads 11 mode.User) { served = true; marked = true } ∷ [] })
    (event.Rdn (process 1))).answer
    ≡ answer.Busy
rundown-freed = refl

-- The end: an exit from executive mode calls no handler of user mode, but drops them; wakes for the process are
-- dropped last.
pub rundown-gone :
    step (record (with_both
    (leaving (phase.Handlers mode.Exec)
    (record with_channels {
      exit_code = 44;
      handlers = handler 5 mode.User 0 ∷ handler 4 mode.User 1 ∷ [];
      asts = ast 7
          mode.User ∷ [];
    })) somebody) {
      boxes = Some (box_holding []) ∷ None ∷ [];
      timers = timer 12 1 mode.User ∷ timer 13 1 mode.Kernel ∷ wakes_up 15 1 1 ∷ wakes_up 16 2 1 ∷ wakes_up 17 2
          2 ∷ [];
    }) (event.Rdn (process 1)) ≡ record {
      answer = answer.Gone;
      effects = drops 12 ∷ drops 15 ∷ mbx (codes "BOX") false ∷ drops 7 ∷ drops 13 ∷ drops 5 ∷ drops 4 ∷ drops
          16 ∷ gone
          1 ∷ [];
      after = record (with_both (leaving phase.Deleted (record somebody { exit_code = 44 })) somebody)
          { timers = wakes_up 17 2 2 ∷ [] };
    }
rundown-gone = refl

-- A handler that returns leaves the phase: the next rundown step goes on with the next handler of the mode.
pub rundown-after_handler :
    step (with (record somebody {
      frames = handling mode.User 1 ∷ [];
      exit_code = 44;
      phase = phase.Handlers mode.User;
      handlers = handler 3 mode.User
          0 ∷ [];
    })) (event.Run (process 1)) ≡ record {
      answer = answer.Return;
      effects = [];
      after = with (record somebody
          { frames = []; exit_code = 44; phase = phase.Handlers mode.User; handlers = handler 3 mode.User 0 ∷ [] });
    }
rundown-after_handler = refl

pub rundown-second_handler :
    step (with (record somebody
    { frames = []; exit_code = 45; phase = phase.Handlers mode.User; handlers = handler 3 mode.User 0 ∷ [] }))
    (event.Rdn (process 1)) ≡ record {
      answer = answer.Handler;
      effects = enters 3 ∷ [];
      after = with (record somebody {
        frames = record (handling mode.User 1) { prm = 45 } ∷ [];
        exit_code = 45;
        phase = phase.Handlers
            mode.User;
      });
    }
rundown-second_handler = refl

-- Each inner mode has its handlers, the outermost first.

abbrev handlers_left : List Handler → Outcome Answer
handlers_left handlers = step (with
    (leaving (phase.Handlers mode.User) (record somebody { exit_code = 44; handlers = handlers })))
    (event.Rdn (process 1))

pub rundown-super_first : handlers_left (handler 4 mode.Exec 0 ∷ handler 3 mode.Super 0 ∷ []) ≡ record {
  answer = answer.Handler;
  effects = enters 3 ∷ [];
  after = with (record somebody {
    exit_code = 44;
    phase = phase.Handlers mode.Super;
    frames = handling mode.Super 1 ∷ [];
    handlers = handler 4
        mode.Exec 0 ∷ [];
  });
}
rundown-super_first = refl

pub rundown-exec : handlers_left (handler 4 mode.Exec 0 ∷ []) ≡ record {
  answer = answer.Handler;
  effects = enters 4 ∷ [];
  after = with (record somebody
      { exit_code = 44; phase = phase.Handlers mode.Exec; frames = handling mode.Exec 1 ∷ [] });
}
rundown-exec = refl

-- from supervisor mode: executive mode, then kernel mode, each cancelled in its turn
pub rundown-turns :
    (step (record (with (leaving (phase.Handlers mode.Super) somebody)) {
      timers = timer 3 1 mode.Kernel ∷ timer 4 1 mode.Exec ∷ timer 5 1 mode.Super ∷ timer 6 1 mode.User ∷ [];
    }) (event.Rdn (process 1))).effects ≡ drops 5 ∷ drops 6 ∷ drops 4 ∷ drops 3 ∷ gone 1 ∷ []
rundown-turns = refl
