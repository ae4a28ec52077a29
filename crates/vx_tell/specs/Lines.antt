-- The lines that a call writes beside what it was asked for.
use Rattle.std.specs.Prelude.{ℕ, List, ◌∷◌, [], ◌++◌, codes, decimal}
use Rattle.vx_script.specs.declared.fault.FaultKind.{FaultKind}
use Rattle.vx_script.specs.declared.fault.FaultKind.TheVariants as kind
use Rattle.vx_script.specs.declared.fault.ScriptFault.{ScriptFault}

abbrev pub usage : List ℕ
usage = codes "vms: usage\n"

abbrev pub too_long : List ℕ
too_long = codes "vms: input too long\n"

abbrev pub read_fault : List ℕ
read_fault = codes "vms: read fault\n"

-- the word of a fault, in capitals
abbrev pub kind_word : FaultKind → List ℕ
kind_word kind.Byte = codes "BYTE"
kind_word kind.Quote = codes "QUOTE"
kind_word kind.Number = codes "NUMBER"
kind_word kind.Name = codes "NAME"
kind_word kind.Word = codes "WORD"
kind_word kind.Service = codes "SERVICE"
kind_word kind.Argument = codes "ARGUMENT"
kind_word kind.Range = codes "RANGE"
kind_word kind.Twice = codes "TWICE"
kind_word kind.Unknown = codes "UNKNOWN"
kind_word kind.Extra = codes "EXTRA"
kind_word kind.Missing = codes "MISSING"
kind_word kind.End = codes "END"
kind_word kind.Size = codes "SIZE"

-- the line of a fault
abbrev pub fault_line : ScriptFault → List ℕ
fault_line f = codes "vms: line " ++ (decimal f.line ++ 32 ∷ (kind_word f.kind ++ 10 ∷ []))

-- the line of a transcript's first bad line
abbrev pub form_line : ℕ → List ℕ
form_line line = codes "vms: line " ++ (decimal line ++ codes " FORM\n")

abbrev pub no_memory : List ℕ
no_memory = codes "vms: no memory\n"
