-- Rundown mode by mode: what a mode comes to, an answer, or none if the next mode follows.
use Rattle.std.specs.Prelude.{List, [], ◌∷◌, Option, Some, None, if◌then◌else◌}
use Rattle.std.specs.List.{find}
use Rattle.vx_record.specs.Types.{Answer, Handler, Mode, Pid}
use Rattle.vx_base.specs.declared.effects.Effect.TheVariants as effect
use Rattle.vx_base.specs.declared.mode.Mode.TheVariants.{Kernel, Exec, Super, User}
use Rattle.vx_base.specs.declared.record.Answer.TheVariants as answer
use Rattle.vx_record.specs.Asts.{with_frame}
use Rattle.vx_record.specs.Parts.{Outcome, Part, answered, followed_by, nothing, part_of, tells}
use Rattle.vx_record.specs.Rundown.{cancelled_in, entered, handler_frame, handling, inner_modes, is_busy, is_handler_of, release}
use Rattle.vx_record.specs.State.{State, change, process_at}

-- the mode next to a mode, further in
abbrev pub next_inner : Mode → Option Mode
next_inner User = Some Super
next_inner Super = Some Exec
next_inner Exec = Some Kernel
next_inner Kernel = None

-- a mode and those further in
abbrev pub modes_from : Option Mode → List Mode
modes_from None = []
modes_from (Some m) = m ∷ inner_modes m

-- a handler that was taken out is entered
abbrev pub entered_as : State → Pid → Handler → Outcome Answer
entered_as s p h = answered answer.Handler (tells (effect.Enter h.id) (change s p (with_frame (handler_frame s p h))))

-- a mode that is drained: a request that is outstanding answers
abbrev pub drained : Pid → Mode → State → Outcome (Option Answer)
drained p m s = if is_busy s p m then answered (Some answer.Busy) (nothing s) else answered None (release s p m)

-- what was opened in a mode is cancelled, and it is drained
abbrev pub cancelled_and_drained : Pid → Mode → State → Outcome (Option Answer)
cancelled_and_drained p m s = followed_by (cancelled_in s p m) (drained p m)

-- the newest handler of the mode is entered; if there is none, the mode is cancelled and drained
abbrev pub passed_by : Pid → Mode → Option Handler → State → Outcome (Option Answer)
passed_by p m None s = cancelled_and_drained p m s
passed_by p m (Some h) s = answered (Some (entered s p h).answer) (part_of (entered s p h))

abbrev pub passed_on : Pid → Mode → State → Outcome (Option Answer)
passed_on p m s = passed_by p m (find (is_handler_of m) (process_at s p).handlers) s

-- rundown comes to a mode
abbrev pub passed : Pid → Mode → State → Outcome (Option Answer)
passed p m s = passed_on p m (handling p m s)

-- if it answers, that is the answer; else the next follows
abbrev pub then_by : Option Answer → Part → (State → Outcome Answer) → Outcome Answer
then_by None a next = followed_by a next
then_by (Some x) a next = answered x a

abbrev pub then_on : Outcome (Option Answer) → (State → Outcome Answer) → Outcome Answer
then_on o next = then_by o.answer (part_of o) next
