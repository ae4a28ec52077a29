-- Timers, scheduled wakes and time. RunTimers, RunTimerQuota, RunTimerAstQuota and RunForcedExit show whole runs.
use Rattle.std.specs.Prelude.{◌≡◌, ◌∷◌, [], ◌++◌, ℕ, List, None, Option, Some, codes, false, refl, replicate, true}
use Rattle.vx_record.specs.Types.{Entry, Mode, Timer}
use Rattle.vx_base.specs.Pieces.{OfTimer, OfWake}
use Rattle.vx_base.specs.declared.cond.Cond.TheVariants as cond
use Rattle.vx_base.specs.declared.effects.Opened.TheVariants as opened
use Rattle.vx_base.specs.declared.mode.Mode.TheVariants as mode
use Rattle.vx_base.specs.declared.record.Answer.TheVariants as answer
use Rattle.vx_base.specs.declared.record.Event.TheVariants as event
use Rattle.vx_base.specs.declared.routine.Entry.TheVariants as entry
use Rattle.vx_base.specs.declared.service.Service.TheVariants as service
use Rattle.vx_examples.specs.Script.{call, drops, fires, flag, id, in_mode, no_routine, opens, process, puts, que, routine, value, variable}
use Rattle.vx_examples.specs.Small.{Answers, Comes, Refuses, alone, both, small_store, somebody, somebody_in, with, with_both}
use Rattle.vx_record.specs.Events.{step}
use Rattle.vx_record.specs.State.{State}

-- a timer of process 1
abbrev timer : ℕ → ℕ → ℕ → ℕ → Mode → Option Entry → Timer
timer n due efn reqid mode tag = record { id = id n; p = process 1; due = due; what = OfTimer efn reqid mode tag }

-- a wake that a process scheduled for another
abbrev wakes_up : ℕ → ℕ → ℕ → ℕ → ℕ → Timer
wakes_up n p due target repeat = record
    { id = id n; p = process p; due = due; what = OfWake (process target) repeat }

abbrev timed : State → List Timer → State
timed s timers = record s { timers = timers }

-- $SETIMR: due at now and the ticks

pub setimr-plain :
    Answers (with (record somebody { cluster_0 = 33 }))
    (call service.SetImr (value 5 ∷ value 10 ∷ no_routine ∷ value 4 ∷ []))
    cond.Normal
    (flag 1 5 false ∷ opens 7 opened.Timer 1 None 0 ∷ [])
    (record (timed (with (record somebody { cluster_0 = 1 })) (timer 7 110 5 4 mode.User None ∷ [])) { next = 8 })
setimr-plain = refl

-- the identification is the parameter of its AST
pub setimr-ast :
    Answers (with (somebody_in mode.Exec))
    (call service.SetImr (value 5 ∷ value 0 ∷ routine (codes "H") ∷ value 4 ∷ [])) cond.Normal
    (flag 1 5 false ∷ opens 7 opened.Timer 1 (Some mode.Exec) 0 ∷ [])
    (record (timed (with (somebody_in mode.Exec)) (timer 7 100 5 4 mode.Exec (Some (entry.Label 1 4)) ∷ []))
    { next = 8 })
setimr-ast = refl

pub setimr-above :
    Refuses alone (call service.SetImr (value 128 ∷ value 10 ∷ no_routine ∷ value 0 ∷ [])) cond.IllEfc
setimr-above = refl

pub setimr-unnamed :
    Refuses alone (call service.SetImr (value 64 ∷ value 10 ∷ no_routine ∷ value 0 ∷ [])) cond.UnasEfc
setimr-unnamed = refl

-- TQELM: 10 timers stand
pub setimr-tqe :
    Refuses (timed alone (replicate 10 (timer 3 200 1 0 mode.User None)))
    (call service.SetImr (value 5 ∷ value 10 ∷ no_routine ∷ value 0 ∷ [])) cond.ExQuota
setimr-tqe = refl

-- the timers of another process, and scheduled wakes, take none of TQELM
pub setimr-others :
    Comes (timed both (replicate 10 (wakes_up 3 1 200 2 0) ++ replicate 10
    (record (timer 3 200 1 0 mode.User None) { p = process 2 })))
    (call service.SetImr (value 5 ∷ value 10 ∷ no_routine ∷ value 0 ∷ [])) cond.Normal
setimr-others = refl

-- ASTLM: 24 scheduled wakes are charged
pub setimr-astlm :
    Refuses (timed alone (replicate 24 (wakes_up 3 1 200 1 0)))
    (call service.SetImr (value 5 ∷ value 10 ∷ routine (codes "T") ∷ value 0 ∷ [])) cond.ExQuota
setimr-astlm = refl

-- $CANTIM: those of the identification, of the mode and outer ones

abbrev four_timers : State
four_timers =
    timed both
    (timer 2 200 1 4 mode.User None ∷ timer 3 200 1 5 mode.User (Some (entry.Label 0 5)) ∷ timer 4 200 1 4 mode.Exec
    None ∷
    record (timer 5 200 1 4 mode.User None) { p = process 2 } ∷ wakes_up 6 1 200 1 0 ∷ [])

pub cantim-one :
    Answers four_timers (call service.CanTim (value 4 ∷ in_mode mode.Kernel ∷ [])) cond.Normal (drops 2 ∷ [])
    (timed both
    (timer 3 200 1 5 mode.User (Some (entry.Label 0 5)) ∷ timer 4 200 1 4 mode.Exec None ∷
    record (timer 5 200 1 4 mode.User None) { p = process 2 } ∷ wakes_up 6 1 200 1 0 ∷ []))
cantim-one = refl

pub cantim-all :
    Answers four_timers (call service.CanTim (value 0 ∷ in_mode mode.Kernel ∷ [])) cond.Normal
    (drops 2 ∷ drops 3 ∷ [])
    (timed both (timer 4 200 1 4 mode.Exec None ∷ record (timer 5 200 1 4 mode.User None) { p = process 2 } ∷
    wakes_up
    6 1 200 1 0 ∷ []))
cantim-all = refl

-- from kernel mode, those of executive mode and outer ones
pub cantim-inner :
    Answers (record four_timers { procs = somebody_in mode.Kernel ∷ somebody ∷ [] })
    (call service.CanTim (value 4 ∷ in_mode mode.Exec ∷ [])) cond.Normal (drops 2 ∷ drops 4 ∷ [])
    (timed (with_both (somebody_in mode.Kernel) somebody)
    (timer 3 200 1 5 mode.User (Some (entry.Label 0 5)) ∷ record (timer 5 200 1 4 mode.User None)
    { p = process 2 } ∷ wakes_up 6 1 200 1 0 ∷ []))
cantim-inner = refl

pub cantim-none :
    Answers four_timers (call service.CanTim (value 9 ∷ in_mode mode.Kernel ∷ [])) cond.Normal [] four_timers
cantim-none = refl

-- $SCHDWK: charged to its caller

pub schdwk-other :
    Answers both (call service.SchdWk (value 2 ∷ value 5 ∷ value 3 ∷ [])) cond.Normal
    (opens 7 opened.Wake 1 None 3 ∷ [])
    (record (timed both (wakes_up 7 1 105 2 3 ∷ [])) { next = 8 })
schdwk-other = refl

pub schdwk-nobody : Refuses both (call service.SchdWk (value 3 ∷ value 5 ∷ value 0 ∷ [])) cond.NonExpr
schdwk-nobody = refl

pub schdwk-stranger :
    Refuses (with_both somebody (record somebody { group = 2 }))
    (call service.SchdWk (value 2 ∷ value 5 ∷ value 0 ∷ [])) cond.NoPriv
schdwk-stranger = refl

pub schdwk-quota :
    Refuses (timed both (replicate 24 (wakes_up 3 1 200 2 0)))
    (call service.SchdWk (value 0 ∷ value 5 ∷ value 0 ∷ []))
    cond.ExQuota
schdwk-quota = refl

-- $CANWAK: the wakes for the process, whoever scheduled them

pub canwak-own :
    Answers (timed both (wakes_up 2 1 200 1 0 ∷ wakes_up 3 1 200 2 0 ∷ wakes_up 4 2 150 1 9 ∷ timer 5 200 1 0
    mode.User
    None ∷ [])) (call service.CanWak (value 0 ∷ [])) cond.Normal
    (drops 2 ∷ drops 4 ∷ []) (timed both (wakes_up 3 1 200 2 0 ∷ timer 5 200 1 0 mode.User None ∷ []))
canwak-own = refl

pub canwak-nobody : Refuses both (call service.CanWak (value 3 ∷ [])) cond.NonExpr
canwak-nobody = refl

pub canwak-stranger :
    Refuses (with_both somebody (record somebody { group = 2 })) (call service.CanWak (value 2 ∷ [])) cond.NoPriv
canwak-stranger = refl

-- $GETTIM: the low 32 bits of the time

pub gettim-low :
    Answers (record alone { time = 4294967303 }) (call service.GetTim (variable (codes "A") ∷ [])) cond.Normal
    (puts 1 (codes "A") 7 ∷ [])
    (record (with (record somebody { store = record small_store { vars = 7 ∷ 0 ∷ [] } })) { time = 4294967303 })
gettim-low = refl

-- TICK: all that is due at the least due time, in id order

-- a timer, a repeating wake and a timer with an AST are due together; another is due later
abbrev due_together : State
due_together =
    timed both
    (wakes_up 2 1 120 2 15 ∷ timer 3 130 1 0 mode.User None ∷ timer 4 120 5 9 mode.User (Some (entry.Label 0 9)) ∷
    timer 5 120 64 0 mode.User None ∷ wakes_up 6 2 120 1 0 ∷ [])

pub tick-together :
    step due_together event.Tick ≡ record {
      answer = answer.Time 120;
      effects = fires 2 ∷ fires 4 ∷ flag 1 5 true ∷ que 4 ∷ fires 5 ∷ fires 6 ∷ [];
      after =
          record (timed
          (with_both
          (record somebody {
            cluster_0 = 32;
            wake_pending = true;
            asts = record
                { id = id 4; mode = mode.User; tag = entry.Label 0 9; charged = true } ∷ [];
          })
          (record somebody { wake_pending = true }))
          (wakes_up 2 1 135 2 15 ∷ timer 3 130 1 0 mode.User None ∷ [])) { time = 120 };
    }
tick-together = refl

-- a timer of no ticks is due now
pub tick-now :
    step (timed alone (timer 3 100 1 0 mode.User None ∷ timer 4 101 2 0 mode.User None ∷ [])) event.Tick ≡ record {
      answer = answer.Time 100;
      effects = fires 3 ∷ flag 1 1 true ∷ [];
      after = timed (with (record somebody { cluster_0 = 2 })) (timer 4 101 2 0 mode.User None ∷ []);
    }
tick-now = refl
