-- Timers and scheduled wakes: the services on them, and time.
use Rattle.std.specs.Prelude.{ℕ, ◌+◌, ◌%◌, ◌^◌, [], ◌∷◌, ◌++◌, Bool, true, false, ◌&&◌, ◌||◌, ◌==◌, nat_le, if◌then◌else◌, is_some, Option, Some, None}
use Rattle.std.specs.List.{filter}
use Rattle.vx_base.specs.Lists.{less, amend}
use Rattle.vx_base.specs.Modes.{outer, reaches}
use Rattle.vx_record.specs.Types.{Alarm, Cell, Cond, Entry, Id, Mode, Pid, Timer}
use Rattle.vx_base.specs.Pieces.{OfTimer, OfWake}
use Rattle.vx_base.specs.Queues.{least_due}
use Rattle.vx_base.specs.declared.cond.Cond.TheVariants.{Normal, ExQuota}
use Rattle.vx_base.specs.declared.effects.Effect.TheVariants as effect
use Rattle.vx_base.specs.declared.effects.Opened.TheVariants as opened
use Rattle.vx_record.specs.State.{State, change, current, next_id, past_id}
use Rattle.vx_record.specs.Parts.{Part, Outcome, nothing, tells, and_then, each, answered, refused}
use Rattle.vx_record.specs.Flags.{at_flag, cell, flag_part, flag_where_named}
use Rattle.vx_record.specs.Charges.{exceeds, ast_need, timer_need, is_same}
use Rattle.vx_record.specs.Asts.{open_part, que_part, charged_ast}
use Rattle.vx_record.specs.Control.{at_process, with_wake}

abbrev pub this_timer : Id → Timer → Bool
this_timer id t = t.id.0 == id.0

abbrev pub with_timer : State → Timer → State
with_timer s t = record s { timers = s.timers ++ t ∷ [] }

-- a timer or scheduled wake ends without firing
abbrev pub drop_timer : State → Timer → Part
drop_timer s t = tells (effect.Drop t.id) (record s { timers = less (this_timer t.id) s.timers })

-- those that pass end, in id order
abbrev pub drop_timers : (Timer → Bool) → State → Part
drop_timers passes s = each drop_timer (filter passes s.timers) s

-- $SETIMR

abbrev pub mode_of_ast : Mode → Option Entry → Option Mode
mode_of_ast mode None = None
mode_of_ast mode (Some tag) = Some mode

abbrev pub new_timer : State → Pid → ℕ → ℕ → Option Entry → ℕ → Timer
new_timer s p efn delta tag reqid = record { id = next_id s; p = p; due = s.time + delta; what = OfTimer efn reqid (current s p) tag }

abbrev pub open_timer : State → Pid → ℕ → ℕ → Option Entry → ℕ → Part
open_timer s p efn delta tag reqid =
    open_part s opened.Timer p (mode_of_ast (current s p) tag) 0 (with_timer (past_id s) (new_timer s p efn delta tag reqid))

-- the flag is cleared, and the timer stands
abbrev pub timer_set : State → Pid → ℕ → ℕ → Option Entry → ℕ → Cell → Part
timer_set s p efn delta tag reqid c = and_then (flag_part s c false) (λ a. open_timer a p efn delta tag reqid)

abbrev pub setimr_at : State → Pid → ℕ → ℕ → Option Entry → ℕ → Cell → Outcome Cond
setimr_at s p efn delta tag reqid c =
    if exceeds s p (timer_need (is_some tag)) then refused s ExQuota else answered Normal (timer_set s p efn delta tag reqid c)

abbrev pub setimr : State → Pid → ℕ → ℕ → Option Entry → ℕ → Outcome Cond
setimr s p efn delta tag reqid = at_flag s p efn (refused s) (setimr_at s p efn delta tag reqid)

-- $CANTIM: the caller's timers of the mode or outer ones, of that identification or of any if it is 0

abbrev pub is_cancelled_alarm : ℕ → Mode → Alarm → Bool
is_cancelled_alarm reqid m (OfTimer efn id mode tag) = reaches mode m && ((reqid == 0) || (id == reqid))
is_cancelled_alarm reqid m (OfWake target repeat) = false

abbrev pub is_cancelled_timer : Pid → ℕ → Mode → Timer → Bool
is_cancelled_timer p reqid m t = is_same t.p p && is_cancelled_alarm reqid m t.what

abbrev pub cantim : State → Pid → ℕ → Mode → Outcome Cond
cantim s p reqid mode = answered Normal (drop_timers (is_cancelled_timer p reqid (outer mode (current s p))) s)

-- $SCHDWK: it charges its caller

abbrev pub new_wake : State → Pid → Pid → ℕ → ℕ → Timer
new_wake s p q delta repeat = record { id = next_id s; p = p; due = s.time + delta; what = OfWake q repeat }

abbrev pub scheduled : State → Pid → ℕ → ℕ → Pid → Outcome Cond
scheduled s p delta repeat q =
    if exceeds s p (ast_need true) then refused s ExQuota else
    answered Normal (open_part s opened.Wake p None repeat (with_timer (past_id s) (new_wake s p q delta repeat)))

abbrev pub schdwk : State → Pid → ℕ → ℕ → ℕ → Outcome Cond
schdwk s p n delta repeat = at_process s p n (scheduled s p delta repeat)

-- $CANWAK: the scheduled wakes for a process

abbrev pub wakes : Pid → Alarm → Bool
wakes q (OfTimer efn reqid mode tag) = false
wakes q (OfWake target repeat) = is_same target q

abbrev pub is_wake_for : Pid → Timer → Bool
is_wake_for q t = wakes q t.what

abbrev pub unscheduled : State → Pid → Outcome Cond
unscheduled s q = answered Normal (drop_timers (is_wake_for q) s)

abbrev pub canwak : State → Pid → ℕ → Outcome Cond
canwak s p n = at_process s p n (unscheduled s)

-- $GETTIM: the low 32 bits of the time
abbrev pub gettim : State → ℕ
gettim s = s.time % 2 ^ 32

-- TICK: time moves to the least due time, and what is due then fires. All of that is due at one moment, so id order is the
-- order by due time and id.

abbrev pub que_timer : State → Timer → Mode → Option Entry → Part
que_timer s t mode None = nothing s
que_timer s t mode (Some tag) = que_part s t.p (charged_ast t.id mode tag)

abbrev pub fire_timer : State → Timer → Part
fire_timer s t = tells (effect.Fire t.id) (record s { timers = less (this_timer t.id) s.timers })

-- the same wake again, so many ticks later
abbrev pub due_again : ℕ → Timer → Timer
due_again repeat t = record t { due = t.due + repeat }

abbrev pub after_wake : State → Timer → ℕ → State
after_wake s t repeat =
    if repeat == 0 then record s { timers = less (this_timer t.id) s.timers } else record s { timers = amend (this_timer t.id) (due_again repeat) s.timers }

-- a timer fires, sets its flag if the number names one now, and queues its AST; a wake fires and pends
abbrev pub fired : State → Timer → Alarm → Part
fired s t (OfTimer efn reqid mode tag) = and_then (and_then (fire_timer s t) (λ a. flag_where_named a (cell a t.p efn) true)) (λ b. que_timer b t mode tag)
fired s t (OfWake target repeat) = tells (effect.Fire t.id) (change (after_wake s t repeat) target (with_wake true))

abbrev pub fire : State → Timer → Part
fire s t = fired s t t.what

abbrev pub is_due : ℕ → Timer → Bool
is_due now t = nat_le t.due now

abbrev pub at_time : State → ℕ → State
at_time s now = record s { time = now }

abbrev pub ticked_to : State → ℕ → Part
ticked_to s now = each fire (filter (is_due now) s.timers) (at_time s now)

abbrev pub due_time : Option Timer → State → ℕ
due_time None s = s.time
due_time (Some t) s = t.due

-- the moment of the next tick
abbrev pub next_time : State → ℕ
next_time s = due_time (least_due s.timers) s

abbrev pub tick : State → Part
tick s = ticked_to s (next_time s)
