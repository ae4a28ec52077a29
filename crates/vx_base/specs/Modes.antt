-- Access modes.
use Rattle.std.specs.Prelude.{ℕ, Bool, nat_lt, nat_le, if◌then◌else◌, ◌==◌}
use Rattle.vx_base.specs.declared.mode.Mode.{Mode}
use Rattle.vx_base.specs.declared.mode.Mode.TheVariants.{Kernel, Exec, Super, User}

-- how far out a mode is
abbrev pub rank : Mode → ℕ
rank Kernel = 0
rank Exec = 1
rank Super = 2
rank User = 3

-- the outer one of two modes
abbrev pub outer : Mode → Mode → Mode
outer a b = if nat_lt (rank a) (rank b) then b else a

-- the inner one of two modes
abbrev pub inner : Mode → Mode → Mode
inner a b = if nat_lt (rank a) (rank b) then a else b

-- mode a is further in than mode b
abbrev pub is_inner : Mode → Mode → Bool
is_inner a b = nat_lt (rank a) (rank b)

-- mode a is mode b or further out
abbrev pub reaches : Mode → Mode → Bool
reaches a b = nat_le (rank b) (rank a)

-- the innermost mode
abbrev pub is_kernel : Mode → Bool
is_kernel m = rank m == 0
