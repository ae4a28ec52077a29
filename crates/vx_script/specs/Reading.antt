-- A script, line by line.
use Rattle.std.specs.Prelude.{ℕ, ◌+◌, List, [], ◌∷◌, ◌++◌, length, drop, codes, Option, Some, None, Result, Ok, Err, bytes_eq, if◌then◌else◌}
use Rattle.vx_image.specs.declared.system.System.{System}
use Rattle.vx_text.specs.declared.token.Tok.{Tok}
use Rattle.vx_text.specs.declared.token.Tok.TheVariants as tok
use Rattle.vx_text.specs.Lex.{lex}
use Rattle.vx_script.specs.Results.{◌>>=◌, at_line}
use Rattle.vx_script.specs.Lines.{lines_of}
use Rattle.vx_script.specs.Fields.{begins_with_sign, end_at, room_for, with_kind}
use Rattle.vx_script.specs.Statements.{stmt_of}
use Rattle.vx_script.specs.Declarations.{unused_name, unit_line, input_line, fault_line, image_line, process_line}
use Rattle.vx_script.specs.Places.{label_place}
use Rattle.vx_script.specs.Resolving.{with_image, resolve}
use Rattle.vx_script.specs.declared.draft.DraftImage.{DraftImage}
use Rattle.vx_script.specs.declared.fault.FaultKind.{FaultKind}
use Rattle.vx_script.specs.declared.fault.FaultKind.TheVariants as kind
use Rattle.vx_script.specs.declared.fault.ScriptFault.{ScriptFault}
use Rattle.vx_script.specs.declared.parts.Parts.{Parts}
use Rattle.vx_script.specs.declared.parts.Reading.{Reading}

-- A line between IMAGE and END.

-- a statement, if one stands
abbrev pub with_stmt : ℕ → DraftImage → List Tok → Result DraftImage FaultKind
with_stmt line image [] = Ok image
with_stmt line image (t ∷ tokens) = stmt_of t tokens >>= λ d. room_for 10000 (length image.lines) >>= λ _. Ok (record image { lines = image.lines ++ record { line = line; draft = d } ∷ [] })

-- a label, which names the next statement
abbrev pub with_label : DraftImage → List ℕ → DraftImage
with_label image name = record image { labels = image.labels ++ record { name = name; place = length image.lines } ∷ [] }

-- a label, and the statement behind it if any
abbrev pub labelled : ℕ → DraftImage → List ℕ → List Tok → Result DraftImage FaultKind
labelled line image name tokens = unused_name (label_place name image.labels) name >>= λ _. with_stmt line (with_label image name) tokens

-- the image goes on
abbrev pub goes_on : Parts → DraftImage → Reading
goes_on parts image = record { parts = parts; current = Some image }

abbrev pub going_on : Parts → Result DraftImage FaultKind → Result Reading FaultKind
going_on parts image = image >>= λ i. Ok (goes_on parts i)

abbrev pub ended : Parts → DraftImage → List Tok → Result Reading FaultKind
ended parts image tokens = end_at tokens >>= λ _. Ok (record { parts = with_image parts image; current = None })

-- a line that begins with a word: it is a label if a colon follows, whatever the word
abbrev pub word_line : ℕ → Parts → DraftImage → List ℕ → List Tok → Result Reading FaultKind
word_line line parts image word tokens =
    if begins_with_sign 58 (drop 1 tokens) then going_on parts (labelled line image word (drop 2 tokens)) else (
    if bytes_eq word (codes "END") then ended parts image (drop 1 tokens) else going_on parts (with_stmt line image tokens))

abbrev pub first_word : List Tok → Option (List ℕ)
first_word (tok.Word word ∷ tokens) = Some word
first_word _ = None

abbrev pub by_word : ℕ → Parts → DraftImage → List Tok → Option (List ℕ) → Result Reading FaultKind
by_word line parts image tokens None = going_on parts (with_stmt line image tokens)
by_word line parts image tokens (Some word) = word_line line parts image word tokens

abbrev pub inside : ℕ → Parts → DraftImage → List Tok → Result Reading FaultKind
inside line parts image tokens = by_word line parts image tokens (first_word tokens)

-- A line that stands in no image.

abbrev pub between_images : Parts → Reading
between_images parts = record { parts = parts; current = None }

abbrev pub with_unit : Parts → List Tok → Result Reading FaultKind
with_unit parts tokens = unit_line parts.units tokens >>= λ u. Ok (between_images (record parts { units = parts.units ++ u ∷ [] }))

abbrev pub with_input : ℕ → Parts → List Tok → Result Reading FaultKind
with_input line parts tokens = input_line line tokens >>= λ i. Ok (between_images (record parts { inputs = parts.inputs ++ i ∷ [] }))

abbrev pub with_fault : ℕ → Parts → List Tok → Result Reading FaultKind
with_fault line parts tokens = fault_line line parts.faults tokens >>= λ f. Ok (between_images (record parts { faults = parts.faults ++ f ∷ [] }))

abbrev pub with_process : ℕ → Parts → List Tok → Result Reading FaultKind
with_process line parts tokens = process_line line parts.decls tokens >>= λ d. Ok (between_images (record parts { decls = parts.decls ++ d ∷ [] }))

abbrev pub opened : Parts → List Tok → Result Reading FaultKind
opened parts tokens = image_line parts.images tokens >>= λ image. Ok (record { parts = parts; current = Some image })

abbrev pub outer_line : ℕ → Parts → List ℕ → List Tok → Result Reading FaultKind
outer_line line parts word tokens =
    if bytes_eq word (codes "UNIT") then with_unit parts tokens else (
    if bytes_eq word (codes "INPUT") then with_input line parts tokens else (
    if bytes_eq word (codes "FAULT") then with_fault line parts tokens else (
    if bytes_eq word (codes "IMAGE") then opened parts tokens else (
    if bytes_eq word (codes "PROCESS") then with_process line parts tokens else Err kind.Word))))

unfoldable pub outside : ℕ → Parts → List Tok → Result Reading FaultKind
outside line parts [] = Ok (between_images parts)
outside line parts (tok.Word word ∷ tokens) = outer_line line parts word tokens
outside line parts (t ∷ tokens) = Err kind.Word

-- Lines.

-- a line by its tokens; one without tokens changes nothing
abbrev pub by_place : ℕ → Parts → Option DraftImage → List Tok → Result Reading FaultKind
by_place line parts None tokens = outside line parts tokens
by_place line parts (Some image) tokens = inside line parts image tokens

abbrev pub accepted : ℕ → Reading → List Tok → Result Reading FaultKind
accepted line r tokens = by_place line r.parts r.current tokens

unfoldable pub take_line : ℕ → Reading → List ℕ → Result Reading FaultKind
take_line line r text = with_kind (lex text) >>= accepted line r

-- Scripts.

-- behind the last line: an image that is not ended is a fault of the line behind it
abbrev pub closed : ℕ → Parts → Option DraftImage → Result System ScriptFault
closed line parts (Some image) = Err (record { line = line; kind = kind.End })
closed line parts None = resolve parts

-- the lines from a line on
unfoldable pub read_lines : ℕ → Reading → List (List ℕ) → Result System ScriptFault
read_lines line r [] = closed line r.parts r.current
read_lines line r (l ∷ ls) = at_line line (take_line line r l) >>= λ s. read_lines (line + 1) s ls

abbrev pub nothing_read : Reading
nothing_read = record { parts = record { units = []; inputs = []; faults = []; images = []; decls = []; creations = []; unlabelled = None }; current = None }

-- the system that a text spells, or its first fault
unfoldable pub read_script : List ℕ → Result System ScriptFault
read_script text = read_lines 1 nothing_read (lines_of text)
