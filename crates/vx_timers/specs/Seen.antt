-- What falls due as the code keeps it, seen as plain data.
use Rattle.std.specs.Prelude.{Bool, option_map}
use Rattle.vx_record.specs.Types.{Alarm, Entry, Timer}
use Rattle.vx_base.specs.Pieces.{OfTimer, OfWake}
use Rattle.vx_record.specs.Rundown.{is_timer_in, is_wake_by}
use Rattle.vx_record.specs.Timers.{is_cancelled_timer, is_due, is_wake_for}
use Rattle.vx_timers.specs.declared.due.Falls.{Falls}
use Rattle.vx_timers.specs.declared.due.Falls.TheVariants as falls
use Rattle.vx_timers.specs.declared.due.What.{What}
use Rattle.vx_timers.specs.declared.due.What.TheVariants as what
use Rattle.vx_timers.specs.declared.due.Which.{Which}
use Rattle.vx_timers.specs.declared.due.Which.TheVariants as which

-- the tag stands for the routine
abbrev pub alarm_of : {R : Type 0} → (R → Entry) → What R → Alarm
alarm_of tag (what.Timer efn reqid mode routine) = OfTimer efn reqid mode (option_map tag routine)
alarm_of tag (what.Wake target repeat) = OfWake target repeat

-- what an entry does when it falls due
abbrev pub falls_of : Alarm → Falls
falls_of (OfTimer efn reqid mode tag) = falls.Timer efn
falls_of (OfWake target repeat) = falls.Wake target repeat

-- whether an entry is one of those that are looked for
abbrev pub passes : Which → Timer → Bool
passes (which.Due now) = is_due now
passes (which.Cancelled p reqid mode) = is_cancelled_timer p reqid mode
passes (which.TimersOf p mode) = is_timer_in p mode
passes (which.WakesBy p) = is_wake_by p
passes (which.WakesFor q) = is_wake_for q
