-- Frames, in the words that the stack of a process and the machine share.
use Rattle.std.specs.Prelude.{List, [], ◌∷◌, Bool, true, false, if◌then◌else◌, Option, Some, None}
use Rattle.vx_base.specs.declared.frame.Frame.{Frame}
use Rattle.vx_base.specs.declared.frame.FrameKind.{FrameKind}
use Rattle.vx_base.specs.declared.frame.FrameKind.TheVariants.{Ast}
use Rattle.vx_base.specs.declared.mode.Mode.{Mode}

-- a frame of this kind runs the routine of an AST
abbrev pub is_ast : FrameKind → Bool
is_ast (Ast id) = true
is_ast _ = false

-- the innermost mode with an active AST: frames never go outward, so it is that of the first from the top
abbrev pub active_mode : List Frame → Option Mode
active_mode [] = None
active_mode (f ∷ fs) = if is_ast f.kind then Some f.mode else active_mode fs
