-- The bars of a process's frames: an AST routine stands on what it interrupts.
use Rattle.std.specs.Prelude.{ℕ, ◌+◌, ◌-◌, ◌*◌, nat_lt, Bool, false, List, [], ◌∷◌, ◌++◌, codes, length, if◌then◌else◌, slice_index_or, slice_set}
use Rattle.vx_base.specs.declared.mode.Mode.{Mode}
use Rattle.vx_base.specs.declared.number.Pid.{Pid}
use Rattle.vx_base.specs.declared.mode.Mode.TheVariants.{Kernel, Exec, Super, User}
use Rattle.vx_draw.specs.Places.{process_x}
use Rattle.vx_draw.specs.Shapes.{bar}
use Rattle.vx_draw.specs.declared.frames.Bar.{Bar}
use Rattle.vx_draw.specs.declared.frames.Move.{Move}
use Rattle.vx_base.specs.Lists.{rest}
use Rattle.vx_draw.specs.declared.frames.Move.TheVariants as move

abbrev pub mode_class : Mode → List ℕ
mode_class Kernel = codes "kernel"
mode_class Exec = codes "exec"
mode_class Super = codes "super"
mode_class User = codes "user"

abbrev pub bar_class : Bar → List ℕ
bar_class b = if b.waits then codes "wait" else mode_class b.mode

-- a frame on so many others stands beside them; the fifth and those on it have one place
abbrev pub lane : ℕ → ℕ → ℕ
lane x below = x + (if nat_lt below 4 then 10 * below else 40)

-- the bar of a frame on so many others, in the column at x
unfoldable pub bar_on : ℕ → ℕ → Bar → ℕ → List ℕ
bar_on x below b until = bar (bar_class b) (lane x below) b.since until

-- the bars of all frames of a process
abbrev pub bars : ℕ → ℕ → List Bar → List ℕ
bars x until [] = []
bars x until (b ∷ bs) = bar_on x (length bs) b until ++ bars x until bs

-- the bar of the top frame
abbrev pub top_bar : ℕ → ℕ → List Bar → List ℕ
top_bar x until [] = []
top_bar x until (b ∷ bs) = bar_on x (length bs) b until

-- what a move draws: a bar ends where its frame ends, and where a wait begins or ends
abbrev pub move_text : ℕ → Move → List Bar → List ℕ
move_text x move.Stay bars' = []
move_text x (move.Turn at waits) bars' = top_bar x at bars'
move_text x (move.Leave at) bars' = top_bar x at bars'
move_text x (move.LeaveAll at) bars' = bars x at bars'
move_text x (move.Enter b) bars' = []
move_text x (move.Inward mode at) bars' = []

-- the mode that is further in
abbrev pub further_in : Mode → Mode → Mode
further_in Kernel mode = Kernel
further_in Exec mode = mode
further_in Super mode = mode
further_in User mode = mode

-- the top frame, which goes on as another bar
abbrev pub turned : ℕ → Bool → List Bar → List Bar
turned at waits [] = []
turned at waits (b ∷ bs) = record b { since = at; waits = waits } ∷ bs

abbrev pub inward : Mode → ℕ → List Bar → List Bar
inward mode at [] = []
inward mode at (b ∷ bs) = record { mode = further_in b.mode mode; since = at; waits = false } ∷ b ∷ bs

-- the frames after a move, the top first
abbrev pub moved : Move → List Bar → List Bar
moved move.Stay bars' = bars'
moved (move.Turn at waits) bars' = turned at waits bars'
moved (move.Leave at) bars' = rest bars'
moved (move.LeaveAll at) bars' = []
moved (move.Enter b) bars' = b ∷ bars'
moved (move.Inward mode at) bars' = inward mode at bars'

-- The frames of all processes, by their numbers from 1.

abbrev pub process_move_text : Pid → Move → List (List Bar) → List ℕ
process_move_text p m stacks = if nat_lt (p.0 - 1) (length stacks) then move_text (process_x p.0) m (slice_index_or stacks (p.0 - 1) []) else []

abbrev pub process_moved : Pid → Move → List (List Bar) → List (List Bar)
process_moved p m stacks = if nat_lt (p.0 - 1) (length stacks) then slice_set stacks (p.0 - 1) (moved m (slice_index_or stacks (p.0 - 1) [])) else stacks

-- the bars of all frames, of processes the first of which has its column at x
abbrev pub open_bars : ℕ → ℕ → List (List Bar) → List ℕ
open_bars p until [] = []
open_bars p until (stack ∷ stacks) = bars (process_x p) until stack ++ open_bars (p + 1) until stacks
