-- Readings that may fail, and what a function says that returns one.
use Rattle.std.specs.Prelude.{◌≡◌, ℕ, Option, Some, None, Result, Ok, Err}
use Rattle.vx_script.specs.declared.fault.FaultKind.{FaultKind}
use Rattle.vx_script.specs.declared.fault.ScriptFail.{ScriptFail}
use Rattle.vx_script.specs.declared.fault.ScriptFail.TheVariants as fail
use Rattle.vx_script.specs.declared.fault.ScriptFault.{ScriptFault}

infixl 10 ◌>>=◌
-- the first fault, or what follows
abbrev pub ◌>>=◌ : {A B E : Type 0} → Result A E → (A → Result B E) → Result B E
(Ok x) >>= f = f x
(Err e) >>= f = Err e

-- what is there, or this fault
abbrev pub given : {A : Type 0} → FaultKind → Option A → Result A FaultKind
given kind (Some x) = Ok x
given kind None = Err kind

-- What a function of a script returned is what reading gives, unless memory ran out.

abbrev pub ScriptFails : {Y : Type 0} → ScriptFail → Result Y ScriptFault → Type 0
ScriptFails fail.NoMemory read = Unit {0}
ScriptFails (fail.Fault fault) read = read ≡ Err fault

abbrev pub ReadsScript : {X : Type 0} → Result X ScriptFail → Result X ScriptFault → Type 0
ReadsScript (Ok x) read = read ≡ Ok x
ReadsScript (Err e) read = ScriptFails e read

-- a line's fault, with its line
abbrev pub at_line : {A : Type 0} → ℕ → Result A FaultKind → Result A ScriptFault
at_line line (Ok x) = Ok x
at_line line (Err kind) = Err (record { line = line; kind = kind })
