-- What is written of an input that is no script.
use Rattle.std.specs.Prelude.{◌≡◌, ℕ, List}
use Rattle.vx_grammar.specs.FirstFault.{Tells}
use Rattle.vx_script.specs.declared.fault.ScriptFail.{ScriptFail}
use Rattle.vx_script.specs.declared.fault.ScriptFail.TheVariants as fail
use Rattle.vx_script.specs.declared.fault.ScriptFault.{ScriptFault}
use Rattle.vx_tell.specs.Lines.{fault_line}
use Rattle.vx_tell.specs.declared.output.Output.{Output}
use Rattle.vx_tell.specs.declared.status.Status.TheVariants as status

-- The input is no script, and the text is the line of its first fault.
pub record IsNoScript (input text : List ℕ) : Type 0 where
  pub fault : ScriptFault
  pub tells : Tells input fault
  pub spells : text ≡ fault_line fault

-- what is told of a script that was not read: the line of its fault, if it has one
abbrev pub IsRefusalOf : ScriptFail → Output → Type 0
IsRefusalOf (fail.Fault fault) output = output ≡ record { status = status.Form; text = fault_line fault }
IsRefusalOf fail.NoMemory output = ⊥
