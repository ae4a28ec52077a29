-- What rundown relies on.
use Rattle.std.specs.Prelude.{◌≡◌, [], false}
use Rattle.vx_base.specs.declared.frame.Phase.TheVariants as phase
use Rattle.vx_record.specs.Types.{Mode, Pid}
use Rattle.vx_record.specs.Rundown.{is_busy}
use Rattle.vx_record.specs.Sound.{IsSound}
use Rattle.vx_record.specs.State.{State, IsProcess, process_at}
use Rattle.vx_procs.specs.Kernel.{Kernel}
use Rattle.vx_procs.specs.Ready.{HasSpares}
use Rattle.vx_procs.specs.Words.{HasDecl, HasImage}

-- The process is there, with its image, and has no frame; all that the state names stands, and no two open things have one
-- id; and there are spares.
pub record IsLeaving (k : Kernel) (p : Pid) : Type 0 where
  pub made : IsProcess k.state p
  pub declared : HasDecl k.state p
  pub image : HasImage k.state p
  pub idle : (process_at k.state p).frames ≡ []
  pub sound : IsSound k.state
  pub spares : HasSpares k

-- A mode of the process is being drained, and no request of it or of an outer one is outstanding.
pub record IsDrained (s : State) (p : Pid) (m : Mode) : Type 0 where
  pub phase : (process_at s p).phase ≡ phase.Draining m
  pub idle : is_busy s p m ≡ false
