-- How a process stands when a run is over.
use Rattle.std.specs.Prelude.{ℕ, List, [], ◌∷◌, Option, Some, None, if◌then◌else◌}
use Rattle.vx_record.specs.Types.{Frame, Wait}
use Rattle.vx_base.specs.declared.frame.Wait.TheVariants as wait
use Rattle.vx_record.specs.State.{Process}
use Rattle.vx_record.specs.Control.{is_deleted}
use Rattle.vx_record.specs.declared.standing.Standing.{Standing}
use Rattle.vx_record.specs.declared.standing.Standing.TheVariants.{Gone, Susp, Rundown, Hiber, Flag, Active}

-- by what the top frame waits for
abbrev pub waiting : Option Wait → Standing
waiting None = Active
waiting (Some wait.Hiber) = Hiber
waiting (Some other) = Flag

abbrev pub framed : List Frame → Standing
framed [] = Rundown
framed (f ∷ fs) = waiting f.wait

-- the first that fits: gone, suspended, without a frame, hibernating, waiting for a flag, active
abbrev pub standing_of : Process → Standing
standing_of pr = if is_deleted pr then Gone else (if pr.suspended then Susp else framed pr.frames)

-- the exit code of a process that is gone, else 0
abbrev pub code_of : Process → ℕ
code_of pr = if is_deleted pr then pr.exit_code else 0
