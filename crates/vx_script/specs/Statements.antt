-- The statements of an image.
use Rattle.std.specs.Prelude.{ℕ, List, [], ◌∷◌, drop, codes, Option, None, Result, Ok, Err, bytes_eq, if◌then◌else◌}
use Rattle.std.specs.List.{find}
use Rattle.vx_base.specs.declared.call.Call.{Call}
use Rattle.vx_base.specs.declared.call.Operand.{Operand}
use Rattle.vx_base.specs.declared.call.Target.{Target}
use Rattle.vx_base.specs.Services.{service_rows}
use Rattle.vx_image.specs.declared.stmt.Field.{Field}
use Rattle.vx_image.specs.declared.stmt.Field.TheVariants as field
use Rattle.vx_image.specs.declared.stmt.Rel.{Rel}
use Rattle.vx_image.specs.declared.stmt.Rel.TheVariants as rel
use Rattle.vx_image.specs.declared.stmt.Stmt.TheVariants as stmt
use Rattle.vx_text.specs.declared.token.Tok.{Tok}
use Rattle.vx_text.specs.declared.token.Tok.TheVariants as tok
use Rattle.vx_table.specs.Reading.{read_call}
use Rattle.vx_table.specs.declared.fail.CallFail.{CallFail}
use Rattle.vx_table.specs.declared.fail.CallFail.TheVariants as call_fail
use Rattle.vx_script.specs.Results.{◌>>=◌, given}
use Rattle.vx_script.specs.Fields.{first_of, end_at, is_sign, sign_at, word_at, name_at, number_at, text_at, operand_at, target_at}
use Rattle.vx_script.specs.declared.draft.Draft.{Draft}
use Rattle.vx_script.specs.declared.draft.Draft.TheVariants as draft
use Rattle.vx_script.specs.declared.fault.FaultKind.{FaultKind}
use Rattle.vx_script.specs.declared.fault.FaultKind.TheVariants as kind

-- LET v = x, LET v = x + y and LET v = x - y; the tokens are those behind the statement's word

abbrev pub added : Target → Operand → List Tok → Result Draft FaultKind
added v x tokens = operand_at tokens >>= λ y. end_at (drop 1 tokens) >>= λ _. Ok (draft.Plain (stmt.Add v x y))

abbrev pub subtracted : Target → Operand → List Tok → Result Draft FaultKind
subtracted v x tokens = operand_at tokens >>= λ y. end_at (drop 1 tokens) >>= λ _. Ok (draft.Plain (stmt.Sub v x y))

-- what stands behind the first value
abbrev pub let_rest : Target → Operand → List Tok → Result Draft FaultKind
let_rest v x [] = Ok (draft.Plain (stmt.Let v x))
let_rest v x (t ∷ tokens) = if is_sign 43 t then added v x tokens else (if is_sign 45 t then subtracted v x tokens else Err kind.Extra)

unfoldable pub let_stmt : List Tok → Result Draft FaultKind
let_stmt tokens = do
  v ← target_at tokens
  _ ← sign_at 61 (drop 1 tokens)
  x ← operand_at (drop 2 tokens)
  let_rest v x (drop 3 tokens)

-- GOTO label
unfoldable pub goto_stmt : List Tok → Result Draft FaultKind
goto_stmt tokens = do
  label ← name_at tokens
  _ ← end_at (drop 1 tokens)
  Ok (draft.Goto label)

abbrev pub rel_name : Rel → List ℕ
rel_name rel.Eq = codes "EQ"
rel_name rel.Ne = codes "NE"
rel_name rel.Lt = codes "LT"
rel_name rel.Ge = codes "GE"

abbrev pub rel_word : List ℕ → Option Rel
rel_word word = find (λ r. bytes_eq word (rel_name r)) (rel.Eq ∷ rel.Ne ∷ rel.Lt ∷ rel.Ge ∷ [])

abbrev pub rel_in : Tok → Option Rel
rel_in (tok.Word word) = rel_word word
rel_in _ = None

abbrev pub rel_at : List Tok → Result Rel FaultKind
rel_at tokens = first_of tokens >>= λ t. given kind.Word (rel_in t)

-- IF x EQ y GOTO label
unfoldable pub if_stmt : List Tok → Result Draft FaultKind
if_stmt tokens = do
  x ← operand_at tokens
  r ← rel_at (drop 1 tokens)
  y ← operand_at (drop 2 tokens)
  _ ← word_at (codes "GOTO") (drop 3 tokens)
  label ← name_at (drop 4 tokens)
  _ ← end_at (drop 5 tokens)
  Ok (draft.If x r y label)

-- PUT b "text"
unfoldable pub put_stmt : List Tok → Result Draft FaultKind
put_stmt tokens = do
  b ← number_at 0 31 tokens
  bytes ← text_at (drop 1 tokens)
  _ ← end_at (drop 2 tokens)
  Ok (draft.Plain (stmt.Put b bytes))

-- BYTE v b x
unfoldable pub byte_stmt : List Tok → Result Draft FaultKind
byte_stmt tokens = do
  v ← target_at tokens
  b ← number_at 0 31 (drop 1 tokens)
  x ← operand_at (drop 2 tokens)
  _ ← end_at (drop 3 tokens)
  Ok (draft.Plain (stmt.Byte v b x))

abbrev pub field_name : Field → List ℕ
field_name field.Status = codes "STATUS"
field_name field.Count = codes "COUNT"
field_name field.Info = codes "INFO"

abbrev pub field_word : List ℕ → Option Field
field_word word = find (λ f. bytes_eq word (field_name f)) (field.Status ∷ field.Count ∷ field.Info ∷ [])

abbrev pub field_in : Tok → Option Field
field_in (tok.Word word) = field_word word
field_in _ = None

abbrev pub field_at : List Tok → Result Field FaultKind
field_at tokens = first_of tokens >>= λ t. given kind.Word (field_in t)

-- IOSB v i STATUS
unfoldable pub iosb_stmt : List Tok → Result Draft FaultKind
iosb_stmt tokens = do
  v ← target_at tokens
  i ← number_at 1 32 (drop 1 tokens)
  f ← field_at (drop 2 tokens)
  _ ← end_at (drop 3 tokens)
  Ok (draft.Plain (stmt.Iosb v i f))

-- RETURN
unfoldable pub return_stmt : List Tok → Result Draft FaultKind
return_stmt tokens = end_at tokens >>= λ _. Ok (draft.Plain stmt.Return)

-- a local statement, by its word
unfoldable pub local_stmt : List ℕ → List Tok → Result Draft FaultKind
local_stmt word tokens =
    if bytes_eq word (codes "LET") then let_stmt tokens else (
    if bytes_eq word (codes "GOTO") then goto_stmt tokens else (
    if bytes_eq word (codes "IF") then if_stmt tokens else (
    if bytes_eq word (codes "PUT") then put_stmt tokens else (
    if bytes_eq word (codes "BYTE") then byte_stmt tokens else (
    if bytes_eq word (codes "IOSB") then iosb_stmt tokens else (
    if bytes_eq word (codes "RETURN") then return_stmt tokens else Err kind.Word))))))

-- a call of a service: its name is none, or its arguments have a fault
abbrev pub call_kind : CallFail → FaultKind
call_kind call_fail.UnknownService = kind.Service
call_kind _ = kind.Argument

abbrev pub called : Result Call CallFail → Result Draft FaultKind
called (Ok c) = Ok (draft.Plain (stmt.Service c))
called (Err e) = Err (call_kind e)

-- the statement that begins with a token
abbrev pub stmt_of : Tok → List Tok → Result Draft FaultKind
stmt_of (tok.Word word) tokens = local_stmt word tokens
stmt_of (tok.Service name) tokens = called (read_call service_rows (tok.Service name ∷ tokens))
stmt_of _ tokens = Err kind.Word

abbrev pub stmt_at : List Tok → Result Draft FaultKind
stmt_at [] = Err kind.Word
stmt_at (t ∷ tokens) = stmt_of t tokens
