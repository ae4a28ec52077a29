-- What is enabled: events of processes that are there, and rundowns of processes that have no frame.
use Rattle.std.proofs.Common.{◌≡◌, ℕ, ◌+◌, ◌≤◌, List, [], ◌∷◌, true, length, Option, Some, None, Contains, refl, arith}
use Rattle.std.specs.List.{AllByRecursion}
use Rattle.vx_record.specs.Types.{DeviceUnit, Event, Frame, Pid, Request, Timer, UnitNo}
use Rattle.vx_base.specs.Queues.{front}
use Rattle.vx_base.specs.declared.record.Event.TheVariants as event
use Rattle.vx_record.specs.Events.{can_run_down, process_events, processes_from, beg_event, don_or_beg, units_from, tick_events, enabled}
use Rattle.vx_record.specs.State.{Process, State, IsProcess, process_at}
use Rattle.vx_record.proofs.Lists.{all_append, all_at}
use Rattle.vx_record.proofs.Steps.{IsThere}

abbrev pub Allowed : State → Event → Type 0
Allowed s (event.Run p) = IsProcess s p
Allowed s (event.Ast p) = IsProcess s p
Allowed s (event.Rdn p) = IsProcess s p × ((process_at s p).frames ≡ [])
Allowed s (event.Beg u) = Unit {0}
Allowed s (event.Don u) = Unit {0}
Allowed s event.Tick = Unit {0}

pub no_frames : (s : State) (p : Pid) (frames : List Frame) → can_run_down s p frames ≡ true → frames ≡ []
no_frames s p [] e = refl
no_frames s p (f ∷ fs) e = cc

process_allowed : (s : State) (p : Pid) → IsProcess s p → AllByRecursion (Allowed s) (process_events s p)
process_allowed s p m = grind arith

processes_allowed : (s : State) (n : ℕ) (prs : List Process) → 1 ≤ n → n + length prs ≡ 1 + length s.procs → AllByRecursion (Allowed s) (processes_from s n prs)
processes_allowed s n [] above e = tt
processes_allowed s n (pr ∷ prs) above e = let rest = processes_allowed s (n + 1) prs (omega arith) (omega arith) in grind (arith, all_append, process_allowed)

don_allowed : (s : State) (u : UnitNo) (o : Option Request) → AllByRecursion (Allowed s) (don_or_beg s u o)
don_allowed s u None = elim (front u s.requests) as (λ (o : Option Request). AllByRecursion (Allowed s) (beg_event u o)) [ None ↦ tt | Some r ↦ (tt, tt) ]
don_allowed s u (Some r) = (tt, tt)

units_allowed : (s : State) (n : ℕ) (us : List DeviceUnit) → AllByRecursion (Allowed s) (units_from s n us)
units_allowed s n [] = tt
units_allowed s n (u ∷ us) = let rest = units_allowed s (n + 1) us in grind (arith, all_append, don_allowed)

ticks_allowed : (s : State) (ts : List Timer) → AllByRecursion (Allowed s) (tick_events ts)
ticks_allowed s [] = tt
ticks_allowed s (t ∷ ts) = (tt, tt)

pub enabled_allowed : (s : State) (e : Event) → Contains (enabled s) e → Allowed s e
enabled_allowed s e c = grind (arith, all_append, processes_allowed, units_allowed, ticks_allowed, all_at)

-- the process of an event is there
allowed_there : (s : State) (e : Event) → Allowed s e → IsThere s e
allowed_there s (event.Rdn p) m = m.0
allowed_there s e m = m

pub enabled_there : (s : State) (e : Event) → Contains (enabled s) e → IsThere s e
enabled_there s e c = allowed_there s e (enabled_allowed s e c)
