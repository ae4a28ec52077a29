-- What the frames of a process wait for, each as what its call asks for.
use Rattle.std.specs.Prelude.{List, [], ◌∷◌, Option, None}
use Rattle.vx_record.specs.Types.{Answer, Wait}
use Rattle.vx_base.specs.declared.record.Answer.TheVariants as answer
use Rattle.vx_laws.specs.Frames.{Turn, Enters, Returns, Clears, Stays, with_first}
use Rattle.vx_laws.specs.Values.{wait_of}
use Rattle.vx_base.specs.Lists.{rest}

abbrev pub waits_changed : Turn → List (Option Wait) → List (Option Wait)
waits_changed (Enters e) ws = None ∷ ws
waits_changed Returns ws = rest ws
waits_changed Clears ws = []
waits_changed Stays ws = ws

abbrev pub waits_answered : Answer → List (Option Wait) → List (Option Wait)
waits_answered (answer.Wait c) ws = with_first (wait_of c) ws
waits_answered (answer.Resume cond) ws = with_first None ws
waits_answered a ws = ws

-- what the top frame waits for, if there is one and it does
abbrev pub top_of : List (Option Wait) → Option Wait
top_of [] = None
top_of (w ∷ ws) = w
