-- The fault of a line, by its tokens and by what the lines before it declare. For kinds of faults, this definition is what a reader
-- must believe. A line's fields stand in order, the first that is wrong tells the kind, and room is looked for last.
use Rattle.std.specs.Prelude.{ℕ, not, List, [], ◌∷◌, length, drop, codes, Option, Some, None, Result, Ok, Err, bytes_eq, if◌then◌else◌}
use Rattle.vx_image.specs.WellFormed.{is_among}
use Rattle.vx_text.specs.Lex.{lex}
use Rattle.vx_text.specs.declared.token.Tok.{Tok}
use Rattle.vx_text.specs.declared.token.Tok.TheVariants.{Word}
use Rattle.vx_script.specs.Fields.{begins_with_sign, end_at, when, name_at, number_at, text_at, device_at, blocks_of, room_for, with_kind}
use Rattle.vx_script.specs.Keys.{no_keys, keys_from}
use Rattle.vx_script.specs.Results.{◌>>=◌}
use Rattle.vx_script.specs.Statements.{stmt_of}
use Rattle.vx_script.specs.declared.fault.FaultKind.{FaultKind}
use Rattle.vx_script.specs.declared.fault.FaultKind.TheVariants as kind
use Rattle.vx_grammar.specs.Declared.{DeclaredImage, Declared}

abbrev pub Verdict : Type 0
Verdict = Result (Unit {0}) FaultKind

-- the name stands for the first time
abbrev pub new_among : List (List ℕ) → List ℕ → Verdict
new_among names name = when (not (is_among name names)) kind.Twice

-- The lines that stand in no image; the tokens are those behind the line's word.

-- UNIT name LINE, and UNIT name BLOCK n
unfoldable pub unit_fault : Declared → List Tok → Verdict
unit_fault d tokens = do
  name ← name_at tokens
  _ ← new_among d.units name
  device ← device_at (drop 1 tokens)
  _ ← blocks_of device (drop 2 tokens)
  room_for 32 (length d.units)

-- INPUT unit "text"
unfoldable pub input_fault : List Tok → Verdict
input_fault tokens = do
  _ ← name_at tokens
  _ ← text_at (drop 1 tokens)
  end_at (drop 2 tokens)

-- FAULT unit n
unfoldable pub number_fault : Declared → List Tok → Verdict
number_fault d tokens = do
  unit ← name_at tokens
  n ← number_at 1 100000 (drop 1 tokens)
  _ ← new_among d.faults (n ∷ unit)
  end_at (drop 2 tokens)

-- IMAGE name
unfoldable pub image_fault : Declared → List Tok → Verdict
image_fault d tokens = do
  name ← name_at tokens
  _ ← new_among d.images name
  _ ← end_at (drop 1 tokens)
  room_for 256 (length d.images)

-- PROCESS name image key=value ..
unfoldable pub process_fault : Declared → List Tok → Verdict
process_fault d tokens = do
  name ← name_at tokens
  _ ← new_among d.processes name
  _ ← name_at (drop 1 tokens)
  _ ← keys_from 0 no_keys (drop 2 tokens)
  room_for 1000 (length d.processes)

abbrev pub outer_fault : Declared → List ℕ → List Tok → Verdict
outer_fault d word tokens =
    if bytes_eq word (codes "UNIT") then unit_fault d tokens else (
    if bytes_eq word (codes "INPUT") then input_fault tokens else (
    if bytes_eq word (codes "FAULT") then number_fault d tokens else (
    if bytes_eq word (codes "IMAGE") then image_fault d tokens else (
    if bytes_eq word (codes "PROCESS") then process_fault d tokens else Err kind.Word))))

abbrev pub outside_fault : Declared → List Tok → Verdict
outside_fault d [] = Ok tt
outside_fault d (Word word ∷ tokens) = outer_fault d word tokens
outside_fault d (t ∷ tokens) = Err kind.Word

-- The lines of an image.

-- a statement, or nothing
abbrev pub statement_fault : DeclaredImage → List Tok → Verdict
statement_fault o [] = Ok tt
statement_fault o (t ∷ tokens) = stmt_of t tokens >>= λ _. room_for 10000 o.stmts

-- a line that begins with a word: it is a label if a colon follows, whatever the word
abbrev pub word_fault : DeclaredImage → List ℕ → List Tok → Verdict
word_fault o word tokens =
    if begins_with_sign 58 tokens then (new_among o.labels word >>= λ _. statement_fault o (drop 1 tokens)) else (
    if bytes_eq word (codes "END") then end_at tokens else statement_fault o (Word word ∷ tokens))

abbrev pub inside_fault : DeclaredImage → List Tok → Verdict
inside_fault o (Word word ∷ tokens) = word_fault o word tokens
inside_fault o tokens = statement_fault o tokens

-- Lines.

abbrev pub fault_at : Declared → Option DeclaredImage → List Tok → Verdict
fault_at d None tokens = outside_fault d tokens
fault_at d (Some o) tokens = inside_fault o tokens

-- a line's first fault: that of its tokens, else of its fields
abbrev pub line_fault : Declared → List ℕ → Verdict
line_fault d line = with_kind (lex line) >>= fault_at d d.image
