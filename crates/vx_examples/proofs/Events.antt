-- Events: what is enabled, and what RUN and AST do. TICK stands in Timers, BEG and DON in Units, RDN in Rundown.
use Rattle.std.specs.Prelude.{◌≡◌, ◌∷◌, [], ℕ, List, None, Some, codes, false, refl, true}
use Rattle.vx_record.specs.Types.{Frame, Phase, Request, Stmt, Timer}
use Rattle.vx_base.specs.Pieces.{OfTimer, all_on}
use Rattle.vx_base.specs.declared.call.Operand.TheVariants as operand
use Rattle.vx_base.specs.declared.call.Target.TheVariants as target
use Rattle.vx_base.specs.declared.cond.Cond.TheVariants as cond
use Rattle.vx_base.specs.declared.frame.FrameKind.TheVariants as kind
use Rattle.vx_base.specs.declared.frame.Phase.TheVariants as phase
use Rattle.vx_base.specs.declared.frame.Wait.TheVariants as wait
use Rattle.vx_base.specs.declared.mode.Mode.TheVariants as mode
use Rattle.vx_base.specs.declared.record.Answer.TheVariants as answer
use Rattle.vx_base.specs.declared.record.End.TheVariants as end
use Rattle.vx_base.specs.declared.record.Event.TheVariants as event
use Rattle.vx_base.specs.declared.request.Func.TheVariants as func
use Rattle.vx_base.specs.declared.routine.Entry.TheVariants as entry
use Rattle.vx_base.specs.declared.service.Service.TheVariants as service
use Rattle.vx_examples.specs.Script.{call, calls, flag, held_in, id, in_r0, leaves, no_privs, process, puts_r0, routine, unit, value}
use Rattle.vx_examples.specs.Small.{alone, block_unit, both, frame_of, line_unit, outstanding, small_image, small_store, small_system, somebody, waiting, with, with_both}
use Rattle.vx_image.specs.declared.stmt.Rel.TheVariants as rel
use Rattle.vx_image.specs.declared.stmt.Stmt.TheVariants as stmt
use Rattle.vx_record.specs.Events.{enabled, step}
use Rattle.vx_record.specs.Runs.{end_of}
use Rattle.vx_record.specs.Services.{place}
use Rattle.vx_record.specs.State.{Process, State}

-- What is enabled.

pub enabled-processes : enabled both ≡ event.Run (process 1) ∷ event.Run (process 2) ∷ []
enabled-processes = refl

abbrev with_ast : Process → Process
with_ast pr = record pr {
  asts = record { id = id 4; mode = mode.User; tag = entry.Label 0 9; charged = true } ∷
      [];
}

-- an AST that may start comes before what the process would run, also if it waits
pub enabled-ast :
    enabled (with_both (with_ast (waiting wait.Hiber)) (with_ast somebody)) ≡ event.Ast (process 1) ∷ event.Ast
    (process 2) ∷ []
enabled-ast = refl

-- one that may not start leaves the process to run
pub enabled-ast_disabled :
    enabled (with (record (with_ast somebody) { enables = record all_on { user = false } })) ≡ event.Run
    (process 1) ∷ []
enabled-ast_disabled = refl

-- a suspended process gives nothing: to run, an AST, to be run down
pub enabled-suspended :
    enabled (with_both (record (with_ast somebody) { suspended = true })
    (record somebody { suspended = true; frames = []; phase = phase.Handlers mode.User })) ≡ []
enabled-suspended = refl

pub enabled-waiting : enabled (with_both (waiting wait.Hiber) (waiting (wait.Flags 5 32 false))) ≡ []
enabled-waiting = refl

pub enabled-satisfied :
    enabled (with_both (record (waiting wait.Hiber) { wake_pending = true })
    (record (waiting (wait.Flags 5 32 false)) { cluster_0 = 32 })) ≡ event.Run (process 1) ∷ event.Run (process 2) ∷ []
enabled-satisfied = refl

-- a wait on a number that names no cell any more
pub enabled-unnamed : enabled (with (waiting (wait.Synch 64 1))) ≡ event.Run (process 1) ∷ []
enabled-unnamed = refl

-- rundown: not if it is deleted, and not if a mode is drained that has an outstanding request

abbrev leaving : Phase → Process
leaving ph = record somebody { frames = []; phase = ph }

pub enabled-rundown :
    enabled (with_both (leaving (phase.Handlers mode.User)) (leaving (phase.Draining mode.Kernel))) ≡ event.Rdn
    (process 1) ∷ event.Rdn (process 2) ∷ []
enabled-rundown = refl

pub enabled-deleted : enabled (with_both (leaving phase.Deleted) somebody) ≡ event.Run (process 2) ∷ []
enabled-deleted = refl

-- a request of user mode is served at the line unit, and another is queued there; one is queued at the block unit
abbrev requests : List Request
requests = record (outstanding 1 line_unit func.Read) { served = true } ∷ outstanding 2 line_unit func.Read ∷
    outstanding 3 block_unit func.Read ∷ []

pub enabled-draining :
    enabled (record (with (leaving (phase.Draining mode.User))) { requests = requests }) ≡ event.Don (unit 0) ∷
    event.Beg (unit 1) ∷ []
enabled-draining = refl

-- its handlers are not kept back by requests, nor is the draining of an inner mode
pub enabled-handlers :
    enabled (record (with (leaving (phase.Handlers mode.User))) { requests = requests }) ≡ event.Rdn (process 1) ∷
    event.Don (unit 0) ∷ event.Beg (unit 1) ∷ []
enabled-handlers = refl

abbrev of_inner_mode : Request
of_inner_mode = record (outstanding 1 line_unit func.Read)
    { req = record ((outstanding 1 line_unit func.Read).req) { chan_mode = mode.Super } }

pub enabled-inner :
    enabled (record (with (leaving (phase.Draining mode.User))) { requests = of_inner_mode ∷ [] }) ≡ event.Rdn
    (process 1) ∷ event.Beg (unit 0) ∷ []
enabled-inner = refl

pub enabled-same_mode :
    enabled (record (with (leaving (phase.Draining mode.Super))) { requests = of_inner_mode ∷ [] }) ≡ event.Beg
    (unit 0) ∷ []
enabled-same_mode = refl

-- the processes, the units, and time
abbrev timers : List Timer
timers = record { id = id 5; p = process 1; due = 200; what = OfTimer 1 0 mode.User None } ∷ []

pub enabled-all : enabled (record both { requests = requests; timers = timers }) ≡
    event.Run (process 1) ∷ event.Run (process 2) ∷ event.Don (unit 0) ∷ event.Beg (unit 1) ∷ event.Tick ∷ []
enabled-all = refl

-- RUN with a wait only ends it: R0 takes the condition.

abbrev with_r0 : ℕ → Process → Process
with_r0 n pr = record pr { store = record small_store { r0 = n } }

pub resume-flags :
    step (with (record (waiting (wait.Flags 5 32 false)) { cluster_0 = 32 })) (event.Run (process 1)) ≡ record {
      answer = answer.Resume cond.Normal;
      effects = [];
      after = with (with_r0 1 (record somebody { cluster_0 = 32 }));
    }
resume-flags = refl

pub resume-unnamed : step (with (waiting (wait.Flags 64 1 true))) (event.Run (process 1)) ≡ record {
  answer = answer.Resume cond.UnasEfc;
  effects = [];
  after = with (with_r0 8060 somebody);
}
resume-unnamed = refl

-- a wake is used up
pub resume-hiber : step (with (record (waiting wait.Hiber) { wake_pending = true })) (event.Run (process 1)) ≡ record {
  answer = answer.Resume cond.Normal;
  effects = [];
  after = with (with_r0 1 somebody);
}
resume-hiber = refl

-- and by no other wait
pub resume-flags_wake :
    step (with (record (waiting (wait.Flags 5 32 false)) { cluster_0 = 32; wake_pending = true })) (event.Run (process 1)) ≡
    record {
      answer = answer.Resume cond.Normal;
      effects = [];
      after = with (with_r0 1 (record somebody { cluster_0 = 32; wake_pending = true }));
    }
resume-flags_wake = refl

-- RUN of a service: local statements first, with the values of its call computed; the place is behind it; R0 takes the
-- condition last.

abbrev running : List Stmt → State → State
running stmts s = record s { system = record small_system { images = record small_image { stmts = stmts } ∷ [] } }

abbrev at_place : ℕ → Process → Process
at_place n pr = record pr { frames = record (frame_of kind.Main mode.User) { pc = n } ∷ [] }

abbrev sets_flag : List Stmt
sets_flag = stmt.Let (target.Var 65) (operand.Num 3) ∷ stmt.Add (target.Var 66) (operand.Var 65) operand.Pid ∷ calls
    service.SetEf (held_in (codes "B") ∷ []) ∷ []

pub run-service : step (running sets_flag (with (with_r0 9 somebody))) (event.Run (process 1)) ≡ record {
  answer = answer.Service (call service.SetEf (value 4 ∷ [])) cond.WasClr;
  effects = flag 1 4 true ∷ [];
  after = running sets_flag (with
      (at_place 3 (record somebody { cluster_0 = 16; store = record small_store { vars = 3 ∷ 4 ∷ []; r0 = 1 } })));
}
run-service = refl

-- a refused one changes R0 and the place alone
abbrev sets_no_flag : List Stmt
sets_no_flag = calls service.SetEf (value 128 ∷ []) ∷ []

pub run-refused : step (running sets_no_flag alone) (event.Run (process 1)) ≡ record {
  answer = answer.Service (call service.SetEf (value 128 ∷ [])) cond.IllEfc;
  effects = [];
  after = running sets_no_flag (with (at_place 1 (with_r0 8052 somebody)));
}
run-refused = refl

-- R0 as the variable of an answer: the effect says the value, and then R0 takes the condition
abbrev reads_flags : List Stmt
reads_flags = calls service.ReadEf (value 0 ∷ in_r0 ∷ []) ∷ []

pub run-r0 : step (running reads_flags (with (record somebody { cluster_0 = 5 }))) (event.Run (process 1)) ≡ record {
  answer = answer.Service (call service.ReadEf (value 0 ∷ in_r0 ∷ [])) cond.WasSet;
  effects = puts_r0 1 5 ∷ [];
  after = running reads_flags (with (at_place 1 (with_r0 9 (record somebody { cluster_0 = 5 }))));
}
run-r0 = refl

-- one that waits leaves R0, and the wait stands in the top frame
abbrev hibernates : List Stmt
hibernates = calls service.Hiber [] ∷ []

pub run-waits : step (running hibernates (with (with_r0 9 somebody))) (event.Run (process 1)) ≡ record {
  answer = answer.Wait (call service.Hiber []);
  effects = [];
  after = running hibernates (with
      (with_r0 9 (record somebody
      { frames = record (frame_of kind.Main mode.User) { pc = 1; wait = Some wait.Hiber } ∷ [] })));
}
run-waits = refl

-- a routine in an inner mode: R0 is 1 as it starts, and its caller's place is behind the call
abbrev changes_mode : List Stmt
changes_mode = calls service.CmExec (routine (codes "H") ∷ value 9 ∷ []) ∷ []

abbrev may_exec : Process → Process
may_exec pr = record pr { privs = record no_privs { cmexec = true } }

pub run-cmexec :
    step (running changes_mode (with (with_r0 9 (may_exec somebody)))) (event.Run (process 1)) ≡ record {
      answer = answer.Service (call service.CmExec (routine (codes "H") ∷ value 9 ∷ [])) cond.Normal;
      effects = [];
      after = running changes_mode (with (with_r0 1 (may_exec (record somebody {
        frames = record (frame_of kind.Change mode.Exec) { pc = 2; prm = 9 } ∷ record (frame_of kind.Main mode.User)
            { pc = 1 } ∷ [];
      }))));
    }
run-cmexec = refl

-- a process that is deleted by its own call has no frame: R0 is set all the same
abbrev deletes_itself : List Stmt
deletes_itself = calls service.DelPrc (value 0 ∷ []) ∷ []

pub run-delprc : step (running deletes_itself alone) (event.Run (process 1)) ≡ record {
  answer = answer.Service (call service.DelPrc (value 0 ∷ [])) cond.Normal;
  effects = [];
  after = running deletes_itself (with
      (with_r0 1 (record somebody { frames = []; delete_pending = true; phase = phase.Handlers mode.User })));
}
run-delprc = refl

-- RUN at RETURN, or past the last statement.

abbrev above : Frame → Process → Process
above f pr = record pr { frames = f ∷ pr.frames }

abbrev in_ast : ℕ → Frame
in_ast place = record (frame_of (kind.Ast (id 4)) mode.User) { pc = place; saved_r0 = 77 }

-- of an AST: R0 is put back
pub return-ast : step (with (with_r0 5 (above (in_ast 1) somebody))) (event.Run (process 1)) ≡ record {
  answer = answer.Return;
  effects = leaves 4 ∷ [];
  after = with (with_r0 77 somebody);
}
return-ast = refl

pub return-ast_end : step (with (with_r0 5 (above (in_ast 3) somebody))) (event.Run (process 1)) ≡ record {
  answer = answer.Return;
  effects = leaves 4 ∷ [];
  after = with (with_r0 77 somebody);
}
return-ast_end = refl

-- of a routine in another mode, and of an exit handler: R0 stays
pub return-change :
    step (with (with_r0 5 (above (frame_of kind.Change mode.Exec) somebody))) (event.Run (process 1)) ≡ record {
      answer = answer.Return;
      effects = [];
      after = with (with_r0 5 somebody);
    }
return-change = refl

pub return-handler :
    step (with (with_r0 5
    (record somebody { frames = frame_of kind.Handler mode.User ∷ []; phase = phase.Handlers mode.User })))
    (event.Run (process 1)) ≡ record {
      answer = answer.Return;
      effects = [];
      after = with (with_r0 5 (record somebody { frames = []; phase = phase.Handlers mode.User }));
    }
return-handler = refl

-- of the main frame: an exit with R0 as code
pub return-main : step (with (with_r0 5 somebody)) (event.Run (process 1)) ≡ record {
  answer = answer.End;
  effects = [];
  after = with (with_r0 5 (record somebody { frames = []; exit_code = 5; phase = phase.Handlers mode.User }));
}
return-main = refl

pub end-main : step (with (with_r0 5 (at_place 3 somebody))) (event.Run (process 1)) ≡ record {
  answer = answer.End;
  effects = [];
  after = with (with_r0 5 (record somebody { frames = []; exit_code = 5; phase = phase.Handlers mode.User }));
}
end-main = refl

-- RUN of 1,000 local statements: T is at place 1, and so the one at place 0 runs once.

abbrev counts : List Stmt
counts = stmt.Let (target.Var 66) (operand.Num 7) ∷ stmt.Add (target.Var 65) (operand.Var 65) (operand.Num 1) ∷
    stmt.Goto 0 ∷ []

pub run-local : step (running counts alone) (event.Run (process 1)) ≡ record {
  answer = answer.Local;
  effects = [];
  after = running counts (with
      (at_place 2 (record somebody { store = record small_store { vars = 500 ∷ 7 ∷ [] } })));
}
run-local = refl

-- A loop of two statements, and a call behind it: if it takes the 1,000 statements, the call is left for the next
-- RUN.

abbrev loops : List Stmt
loops =
    stmt.Return ∷ stmt.Add (target.Var 65) (operand.Var 65) (operand.Num 1) ∷
    stmt.If (operand.Var 65) rel.Ne (operand.Num 500) 0 ∷ calls service.SetEf (value 5 ∷ []) ∷ []

abbrev counted : ℕ → Process → Process
counted n pr = record pr { store = record small_store { vars = n ∷ 0 ∷ [] } }

pub run-last_local : step (running loops (with (at_place 1 somebody))) (event.Run (process 1)) ≡ record {
  answer = answer.Local;
  effects = [];
  after = running loops (with (at_place 3 (counted 500 somebody)));
}
run-last_local = refl

pub run-after_local :
    (step (running loops (with (at_place 3 (counted 500 somebody)))) (event.Run (process 1))).answer ≡
    answer.Service (call service.SetEf (value 5 ∷ [])) cond.WasClr
run-after_local = refl

pub run-fewer_local :
    (step (running loops (with (at_place 1 (counted 1 somebody)))) (event.Run (process 1))).answer ≡
    answer.Service (call service.SetEf (value 5 ∷ [])) cond.WasClr
run-fewer_local = refl

-- AST: the routine starts in a frame of its own, with R0 saved; the AST is queued no more.
pub ast-starts : step (with (with_r0 5 (with_ast (waiting wait.Hiber)))) (event.Ast (process 1)) ≡ record {
  answer = answer.Ast (id 4);
  effects = [];
  after = with (with_r0 5
      (above (record (frame_of (kind.Ast (id 4)) mode.User) { pc = 1; prm = 9; saved_r0 = 5 })
      (waiting wait.Hiber)));
}
ast-starts = refl

-- a forced exit: its own id is left, and then it exits; R0 stays
pub ast-forced :
    step (with (with_r0 5
    (record somebody { asts = record { id = id 4; mode = mode.User; tag = entry.Exit 44; charged = false } ∷ [] })))
    (event.Ast (process 1)) ≡ record {
      answer = answer.Ast (id 4);
      effects = leaves 4 ∷ [];
      after = with (with_r0 5 (record somebody { frames = []; exit_code = 44; phase = phase.Handlers mode.User }));
    }
ast-forced = refl

-- The end of a run.

-- nothing is enabled: all processes are deleted, or not
pub end-done : end_of 10 3 (with_both (leaving phase.Deleted) (leaving phase.Deleted)) ≡ Some end.Done
end-done = refl

pub end-hung : end_of 3 3 (with_both (leaving phase.Deleted) (waiting wait.Hiber)) ≡ Some end.Hung
end-hung = refl

-- something is enabled: the limit is reached, or not
pub end-limit : end_of 3 3 both ≡ Some end.Limit
end-limit = refl

pub end-none : end_of 4 3 both ≡ None
end-none = refl

-- a timer that stands when all processes are deleted
pub end-tick : end_of 10 3 (record (with (leaving phase.Deleted)) { timers = timers }) ≡ None
end-tick = refl
