-- Entries that fire, as the code takes them: the first that is due, again and again.
use Rattle.std.specs.Prelude.{◌≡◌, ℕ, ◌<◌, ◌≤◌, true, ◌==◌, if◌then◌else◌, Option, Some, None}
use Rattle.std.specs.List.{AllByRecursion, filter, find}
use Rattle.vx_record.specs.Types.{Queued, Timer}
use Rattle.vx_base.specs.declared.effects.Effect.TheVariants as effect
use Rattle.vx_record.specs.State.{State, change}
use Rattle.vx_record.specs.Control.{with_wake}
use Rattle.vx_record.specs.Flags.{cell, flag_where_named}
use Rattle.vx_record.specs.Parts.{Part, and_then, each, nothing, tells}
use Rattle.vx_record.specs.Timers.{fire, is_due}
use Rattle.vx_record.specs.Sound.{AreOrdered, timer_id}
use Rattle.vx_timers.specs.Seen.{falls_of}
use Rattle.vx_timers.specs.declared.due.Falls.{Falls}
use Rattle.vx_timers.specs.declared.due.Falls.TheVariants as falls
use Rattle.vx_procs.specs.Words.{moved_on, put_off_first, timer_ast}

abbrev pub told_ast : Option Queued → State → Part
told_ast None s = nothing s
told_ast (Some q) s = tells (effect.Que q.id) s

-- a wake that is due ends, or is due so many ticks later
abbrev pub woken_off : State → ℕ → ℕ → State
woken_off s now repeat = if repeat == 0 then moved_on s now (find (is_due now) s.timers) else put_off_first now repeat s

-- a timer sets its flag, and its AST is queued; a wake pends for its process
abbrev pub falls_part : State → ℕ → Timer → Falls → Part
falls_part s now t (falls.Timer efn) = and_then (flag_where_named s (cell s t.p efn) true) (λ b. told_ast (timer_ast t) (moved_on b now (Some t)))
falls_part s now t (falls.Wake target repeat) = nothing (change (woken_off s now repeat) target (with_wake true))

-- it fires, and does what it does
abbrev pub fired_first : State → ℕ → Option Timer → Part
fired_first s now None = nothing s
fired_first s now (Some t) = and_then (tells (effect.Fire t.id) s) (λ a. falls_part a now t (falls_of t.what))

abbrev pub firing : State → ℕ → Part
firing s now = fired_first s now (find (is_due now) s.timers)

-- all that is due, in id order
abbrev pub due_part : ℕ → State → Part
due_part now s = each fire (filter (is_due now) s.timers) s

-- entries in id order, none of them due before now, which 64 bits count with 2^32 ticks more
pub record AreFiring (now : ℕ) (s : State) : Type 0 where
  pub order : AreOrdered timer_id 0 s.next s.timers
  pub ahead : AllByRecursion (λ t. now ≤ t.due) s.timers
  pub time : s.time ≡ now
  pub counted : now < 9223372041149743104
