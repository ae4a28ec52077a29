-- What a command comes to that takes a script.
use Rattle.std.specs.Prelude.{ℕ, List}
use Rattle.vx_grammar.specs.Grammar.{Spells}
use Rattle.vx_image.specs.declared.system.System.{System}
use Rattle.vx_tell.specs.Lines.{no_memory}
use Rattle.vx_tell.specs.Refused.{IsNoScript}
use Rattle.vx_tell.specs.declared.status.Status.{Status}
use Rattle.vx_tell.specs.declared.status.Status.TheVariants as status

-- The input is the script of a system, and the text is one of that system's; or the input is no script; or memory ran out. The line on
-- memory states no cause.
pub data OfScript (Texts : System → Status → List ℕ → Type 0) (input : List ℕ) : Status → List ℕ → Type 0 where
  of_system : (system : System) (status : Status) (text : List ℕ) → Spells input system → Texts system status text → OfScript Texts input status text
  no_script : (text : List ℕ) → IsNoScript input text → OfScript Texts input status.Form text
  out_of_memory : OfScript Texts input status.NoMemory no_memory
