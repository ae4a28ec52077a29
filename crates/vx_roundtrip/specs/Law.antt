-- What is printed canonically is read back.
use Rattle.vx_image.specs.declared.system.System.{System}
use Rattle.vx_image.specs.WellFormed.{IsWellFormed}
use Rattle.vx_grammar.specs.Grammar.{Spells}
use Rattle.vx_script.specs.Script.{script}
use Rattle.vx_roundtrip.specs.Held.{IsHeldSystem}

-- the canonical script of a well formed system is spelled as the system
abbrev pub ReadsBack : Type 0
ReadsBack = (s : System) → IsWellFormed s → IsHeldSystem s → Spells (script s) s
