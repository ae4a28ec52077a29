-- Words of the contracts of the reader's own functions: how it cuts a text, what a function of a line leaves behind, and how units
-- get their lines. No public contract cites them.
use Rattle.std.specs.Prelude.{◌≡◌, ℕ, ◌==◌, ◌&&◌, not, List, [], ◌∷◌, ◌++◌, map, if◌then◌else◌, Result, Ok, Err}
use Rattle.std.specs.List.{prefix_len}
use Rattle.vx_image.specs.declared.unit.UnitDecl.{UnitDecl}
use Rattle.vx_text.specs.declared.token.LexFail.{LexFail}
use Rattle.vx_text.specs.declared.token.LexFail.TheVariants as lex_fail
use Rattle.vx_script.specs.Fields.{kind_of}
use Rattle.vx_script.specs.Lines.{begins_with}
use Rattle.vx_script.specs.Resolving.{input_if}
use Rattle.vx_script.specs.Results.{ScriptFails}
use Rattle.vx_script.specs.declared.fault.FaultKind.{FaultKind}
use Rattle.vx_script.specs.declared.fault.LineFail.{LineFail}
use Rattle.vx_script.specs.declared.fault.LineFail.TheVariants as line_fail
use Rattle.vx_script.specs.declared.fault.ScriptFail.{ScriptFail}
use Rattle.vx_script.specs.declared.fault.ScriptFault.{ScriptFault}
use Rattle.vx_script.specs.declared.lines.InputLine.{InputLine}
use Rattle.vx_script.specs.declared.parts.Parts.{Parts}

-- what stands before the first line feed, or before a return in front of it
abbrev pub first_line : List ℕ → List ℕ
first_line [] = []
first_line (b ∷ bytes) = if b == 10 then [] else (if (b == 13) && begins_with 10 bytes then [] else b ∷ first_line bytes)

-- how many bytes stand before the first line feed
abbrev pub line_len : List ℕ → ℕ
line_len text = prefix_len (λ b. not (b == 10)) text

-- a line without a return at its end
abbrev pub without_return : List ℕ → List ℕ
without_return [] = []
without_return (b ∷ []) = if b == 13 then [] else b ∷ []
without_return (b ∷ c ∷ bytes) = b ∷ without_return (c ∷ bytes)

-- a fault of tokens, with want of memory apart
abbrev pub fail_of : LexFail → LineFail
fail_of lex_fail.NoMemory = line_fail.NoMemory
fail_of e = line_fail.Fault (kind_of e)

-- What a function of a line left behind is what reading gives, unless the line has a fault or memory ran out.

abbrev pub LineFails : {Y : Type 0} → LineFail → Result Y FaultKind → Type 0
LineFails line_fail.NoMemory read = Unit {0}
LineFails (line_fail.Fault kind) read = read ≡ Err kind

abbrev pub LeavesLine : {X : Type 0} → Result (Unit {0}) LineFail → X → Result X FaultKind → Type 0
LeavesLine (Ok _) left read = read ≡ Ok left
LeavesLine (Err e) left read = LineFails e read

-- The same of a function of a script.
abbrev pub LeavesScript : {X : Type 0} → Result (Unit {0}) ScriptFail → X → Result X ScriptFault → Type 0
LeavesScript (Ok _) left read = read ≡ Ok left
LeavesScript (Err e) left read = ScriptFails e read

-- How units get their lines.

-- what was read, with these INPUT lines
abbrev pub with_inputs : List InputLine → Parts → Parts
with_inputs inputs parts = record parts { inputs = inputs }

abbrev pub unit_names : List UnitDecl → List (List ℕ)
unit_names units = map (λ u. u.name) units

-- the unit, with the text of an INPUT line at the end of its lines if it is one of the unit
abbrev pub with_line_if : InputLine → UnitDecl → UnitDecl
with_line_if input u = record u { inputs = u.inputs ++ input_if u.name input }
