-- What showing a system comes to.
use Rattle.std.specs.Prelude.{ℕ, List}
use Rattle.vx_record.specs.Types.{System}
use Rattle.vx_script.specs.Script.{script}
use Rattle.vx_tell.specs.declared.status.Status.{Status}
use Rattle.vx_tell.specs.declared.status.Status.TheVariants as status

-- what `show` comes to of a system: its canonical script
pub data IsShowText (system : System) : Status → List ℕ → Type 0 where
  shown : IsShowText system status.Done (script system)
