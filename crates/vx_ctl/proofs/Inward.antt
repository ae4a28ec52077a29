-- Frames go inward, or stay in their mode.
use Rattle.std.proofs.Common.{List, [], ◌∷◌, IsTrue, refl}
use Rattle.vx_base.specs.Modes.{inner, reaches}
use Rattle.vx_record.specs.Types.{Frame, Mode}
use Rattle.vx_base.specs.declared.mode.Mode.TheVariants.{Kernel, Exec, Super, User}
use Rattle.vx_frames.specs.Frames.{may_stand_on}
use Rattle.vx_record.specs.State.{top_mode}

-- a frame that is not further out than the mode that a process runs in may stand on its frames
pub may_stand : (f : Frame) (fs : List Frame) → IsTrue (reaches (top_mode fs) f.mode) → IsTrue (may_stand_on f fs)
may_stand f [] inward = refl
may_stand f (g ∷ fs) inward = inward

pub inner_reached : (m : Mode) → IsTrue (reaches m (inner m Exec))
inner_reached Kernel = refl
inner_reached Exec = refl
inner_reached Super = refl
inner_reached User = refl

pub kernel_reached : (m : Mode) → IsTrue (reaches m Kernel)
kernel_reached Kernel = refl
kernel_reached Exec = refl
kernel_reached Super = refl
kernel_reached User = refl
