-- The statements that tokens give are in range.
use Rattle.std.proofs.Common.{◌≡◌, ℕ, ◌≤◌, Bool, true, false, ◌&&◌, nat_lt, nat_le, List, [], ◌∷◌, length, drop, codes, Option, Some, None, Result, Ok, Err, IfOk, IsTrue, bytes_eq, refl, arith}
use Rattle.std.proofs.lemmas.Bool.{and_parts, and_from, leb-true, le-leb, lt-ltb}
use Rattle.vx_base.specs.declared.call.Call.{Call}
use Rattle.vx_base.specs.declared.call.Operand.{Operand}
use Rattle.vx_base.specs.declared.call.Target.{Target}
use Rattle.vx_base.specs.Services.{service_rows, is_call, is_operand, is_target}
use Rattle.vx_image.specs.declared.stmt.Stmt.{Stmt}
use Rattle.vx_image.specs.declared.stmt.Stmt.TheVariants as stmt
use Rattle.vx_text.specs.declared.token.Tok.{Tok}
use Rattle.vx_text.specs.declared.token.Tok.TheVariants as tok
use Rattle.vx_table.specs.Reading.{operand_of, operand_word, target_word, read_call}
use Rattle.vx_table.specs.declared.fail.CallFail.{CallFail}
use Rattle.vx_table.proofs.Calls.{IsOperandOr, IsTargetOr, operand_is, target_is, read_is}
use Rattle.vx_script.specs.Results.{given}
use Rattle.vx_script.specs.Fields.{first_of, end_at, is_sign, sign_at, word_at, name_at, number_in, within, number_between, number_at, text_in, text_at, operand_at, target_in, target_at}
use Rattle.vx_script.specs.Statements.{added, subtracted, let_rest, let_stmt, goto_stmt, rel_at, if_stmt, put_stmt, byte_stmt, field_at, iosb_stmt, return_stmt, local_stmt, called, stmt_of}
use Rattle.vx_script.specs.declared.draft.Draft.{Draft}
use Rattle.vx_script.specs.declared.fault.FaultKind.{FaultKind}
use Rattle.vx_script.specs.declared.draft.Draft.TheVariants as draft
use Rattle.vx_script.specs.declared.fault.FaultKind.TheVariants as kind
use Rattle.vx_script.proofs.Chains.{after, after_by}
use Rattle.vx_base.proofs.Bools.{either_by}
use Rattle.std.specs.Int.{IsInRange}

-- a statement that names no label, but for a call
abbrev pub is_plain : Stmt → Bool
is_plain (stmt.Let t x) = is_target t && is_operand x
is_plain (stmt.Add t x y) = is_target t && (is_operand x && is_operand y)
is_plain (stmt.Sub t x y) = is_target t && (is_operand x && is_operand y)
is_plain (stmt.Goto k) = false
is_plain (stmt.If x r y k) = false
is_plain (stmt.Put b bytes) = nat_lt b 32 && nat_le (length bytes) 2048
is_plain (stmt.Byte t b x) = is_target t && (nat_lt b 32 && is_operand x)
is_plain (stmt.Iosb t i f) = is_target t && (nat_le 1 i && nat_le i 32)
is_plain stmt.Return = true
is_plain (stmt.Service c) = is_call c

abbrev pub is_draft : Draft → Bool
is_draft (draft.Goto label) = true
is_draft (draft.If x r y label) = is_operand x && is_operand y
is_draft (draft.Plain s) = is_plain s

abbrev pub IsDraft : Draft → Type 0
IsDraft d = is_draft d ≡ true

abbrev IsDraftOr : Result Draft FaultKind → Type 0
IsDraftOr r = IfOk r IsDraft

-- Fields.

abbrev IsOperand : Operand → Type 0
IsOperand x = is_operand x ≡ true

abbrev IsTarget : Target → Type 0
IsTarget t = is_target t ≡ true

abbrev pub IsText : List ℕ → Type 0
IsText bytes = nat_le (length bytes) 2048 ≡ true

given_operand : (o : Option Operand) → IsOperandOr o → IfOk (given kind.Name o) IsOperand
given_operand None h = tt
given_operand (Some x) h = h

given_target : (o : Option Target) → IsTargetOr o → IfOk (given kind.Name o) IsTarget
given_target None h = tt
given_target (Some t) h = h

operand_in : (t : Tok) → IfOk (given kind.Name (operand_of t)) IsOperand
operand_in (tok.Word word) = given_operand (operand_word word) (operand_is word)
operand_in (tok.Num n) = refl
operand_in (tok.Cond c) = refl
operand_in (tok.Sign s) = tt
operand_in (tok.Service name) = tt
operand_in (tok.Quote bytes) = tt

operand : (tokens : List Tok) → IfOk (operand_at tokens) IsOperand
operand tokens = after (first_of tokens) (λ t. given kind.Name (operand_of t)) IsOperand λ t _. operand_in t

target_of : (t : Tok) → IfOk (target_in t) IsTarget
target_of (tok.Word word) = given_target (target_word word) (target_is word)
target_of (tok.Num n) = tt
target_of _ = tt

target : (tokens : List Tok) → IfOk (target_at tokens) IsTarget
target tokens = after (first_of tokens) target_in IsTarget λ t _. target_of t

between : (low high n : ℕ) → IfOk (within low high n) (IsInRange low high)
between low high n =
    either_by (λ r. IfOk r (IsInRange low high)) (nat_le low n && nat_le n high) (Ok n) (Err kind.Range)
    (λ e. let parts = and_parts (nat_le low n) (nat_le n high) e in (leb-true low n parts.0, leb-true n high parts.1))
    (λ _. tt)

pub number : (low high : ℕ) (tokens : List Tok) → IfOk (number_at low high tokens) (IsInRange low high)
number low high tokens =
    after (first_of tokens) (number_between low high) (IsInRange low high) λ t _. after (number_in t) (within low high) (IsInRange low high) λ n _.
    between low high n

text_of : (t : Tok) → IfOk (text_in t) IsText
text_of (tok.Quote bytes) = either_by (λ r. IfOk r IsText) (nat_le (length bytes) 2048) (Ok bytes) (Err kind.Range) (λ e. e) (λ _. tt)
text_of (tok.Num n) = tt
text_of _ = tt

pub text : (tokens : List Tok) → IfOk (text_at tokens) IsText
text tokens = after (first_of tokens) text_in IsText λ t _. text_of t

-- Statements.

added_is : (v : Target) (x : Operand) (tokens : List Tok) → IsTarget v → IsOperand x → IfOk (added v x tokens) IsDraft
added_is v x tokens h k =
    after_by (operand_at tokens) _ IsOperand IsDraft (operand tokens) λ y l.
    after (end_at (drop 1 tokens)) _ IsDraft λ _ _.
    and_from (is_target v) (is_operand x && is_operand y) h (and_from (is_operand x) (is_operand y) k l)

subtracted_is : (v : Target) (x : Operand) (tokens : List Tok) → IsTarget v → IsOperand x → IfOk (subtracted v x tokens) IsDraft
subtracted_is v x tokens h k =
    after_by (operand_at tokens) _ IsOperand IsDraft (operand tokens) λ y l.
    after (end_at (drop 1 tokens)) _ IsDraft λ _ _.
    and_from (is_target v) (is_operand x && is_operand y) h (and_from (is_operand x) (is_operand y) k l)

let_rest_is : (v : Target) (x : Operand) (tokens : List Tok) → IsTarget v → IsOperand x → IfOk (let_rest v x tokens) IsDraft
let_rest_is v x [] h k = and_from (is_target v) (is_operand x) h k
let_rest_is v x (t ∷ tokens) h k =
    either_by IsDraftOr (is_sign 43 t) _ _ (λ _. added_is v x tokens h k) (λ _.
    either_by IsDraftOr (is_sign 45 t) _ _ (λ _. subtracted_is v x tokens h k) (λ _. tt))

let_is : (tokens : List Tok) → IfOk (let_stmt tokens) IsDraft
unfolding let_stmt
let_is tokens =
    after_by (target_at tokens) _ IsTarget IsDraft (target tokens) λ v h.
    after (sign_at 61 (drop 1 tokens)) _ IsDraft λ _ _.
    after_by (operand_at (drop 2 tokens)) _ IsOperand IsDraft (operand (drop 2 tokens)) λ x k.
    let_rest_is v x (drop 3 tokens) h k

goto_is : (tokens : List Tok) → IfOk (goto_stmt tokens) IsDraft
unfolding goto_stmt
goto_is tokens =
    after (name_at tokens) _ IsDraft λ label _.
    after (end_at (drop 1 tokens)) _ IsDraft λ _ _. refl

if_is : (tokens : List Tok) → IfOk (if_stmt tokens) IsDraft
unfolding if_stmt
if_is tokens =
    after_by (operand_at tokens) _ IsOperand IsDraft (operand tokens) λ x h.
    after (rel_at (drop 1 tokens)) _ IsDraft λ r _.
    after_by (operand_at (drop 2 tokens)) _ IsOperand IsDraft (operand (drop 2 tokens)) λ y k.
    after (word_at (codes "GOTO") (drop 3 tokens)) _ IsDraft λ _ _.
    after (name_at (drop 4 tokens)) _ IsDraft λ label _.
    after (end_at (drop 5 tokens)) _ IsDraft λ _ _.
    and_from (is_operand x) (is_operand y) h k

put_is : (tokens : List Tok) → IfOk (put_stmt tokens) IsDraft
unfolding put_stmt
put_is tokens =
    after_by (number_at 0 31 tokens) _ (IsInRange 0 31) IsDraft (number 0 31 tokens) λ b h.
    after_by (text_at (drop 1 tokens)) _ IsText IsDraft (text (drop 1 tokens)) λ bytes k.
    after (end_at (drop 2 tokens)) _ IsDraft λ _ _.
    and_from (nat_lt b 32) (nat_le (length bytes) 2048) (lt-ltb b 32 (omega (arith, h.1))) k

byte_is : (tokens : List Tok) → IfOk (byte_stmt tokens) IsDraft
unfolding byte_stmt
byte_is tokens =
    after_by (target_at tokens) _ IsTarget IsDraft (target tokens) λ v h.
    after_by (number_at 0 31 (drop 1 tokens)) _ (IsInRange 0 31) IsDraft (number 0 31 (drop 1 tokens)) λ b k.
    after_by (operand_at (drop 2 tokens)) _ IsOperand IsDraft (operand (drop 2 tokens)) λ x l.
    after (end_at (drop 3 tokens)) _ IsDraft λ _ _.
    and_from (is_target v) (nat_lt b 32 && is_operand x) h (and_from (nat_lt b 32) (is_operand x) (lt-ltb b 32 (omega (arith, k.1))) l)

iosb_is : (tokens : List Tok) → IfOk (iosb_stmt tokens) IsDraft
unfolding iosb_stmt
iosb_is tokens =
    after_by (target_at tokens) _ IsTarget IsDraft (target tokens) λ v h.
    after_by (number_at 1 32 (drop 1 tokens)) _ (IsInRange 1 32) IsDraft (number 1 32 (drop 1 tokens)) λ i k.
    after (field_at (drop 2 tokens)) _ IsDraft λ f _.
    after (end_at (drop 3 tokens)) _ IsDraft λ _ _.
    and_from (is_target v) (nat_le 1 i && nat_le i 32) h (and_from (nat_le 1 i) (nat_le i 32) (le-leb 1 i k.0) (le-leb i 32 k.1))

return_is : (tokens : List Tok) → IfOk (return_stmt tokens) IsDraft
unfolding return_stmt
return_is tokens = after (end_at tokens) _ IsDraft λ _ _. refl

local_is : (word : List ℕ) (tokens : List Tok) → IfOk (local_stmt word tokens) IsDraft
unfolding local_stmt
local_is word tokens =
    either_by IsDraftOr (bytes_eq word (codes "LET")) _ _ (λ _. let_is tokens) (λ _.
    either_by IsDraftOr (bytes_eq word (codes "GOTO")) _ _ (λ _. goto_is tokens) (λ _.
    either_by IsDraftOr (bytes_eq word (codes "IF")) _ _ (λ _. if_is tokens) (λ _.
    either_by IsDraftOr (bytes_eq word (codes "PUT")) _ _ (λ _. put_is tokens) (λ _.
    either_by IsDraftOr (bytes_eq word (codes "BYTE")) _ _ (λ _. byte_is tokens) (λ _.
    either_by IsDraftOr (bytes_eq word (codes "IOSB")) _ _ (λ _. iosb_is tokens) (λ _.
    either_by IsDraftOr (bytes_eq word (codes "RETURN")) _ _ (λ _. return_is tokens) (λ _. tt)))))))

called_is : (r : Result Call CallFail) → IfOk r (λ c. IsTrue (is_call c)) → IfOk (called r) IsDraft
called_is (Ok c) h = h
called_is (Err e) h = tt

pub statement : (t : Tok) (tokens : List Tok) → IfOk (stmt_of t tokens) IsDraft
statement (tok.Word word) tokens = local_is word tokens
statement (tok.Service name) tokens =
    called_is (read_call service_rows (tok.Service name ∷ tokens))
    (read_is service_rows (tok.Service name ∷ tokens) (read_call service_rows (tok.Service name ∷ tokens)) refl refl)
statement (tok.Num n) tokens = tt
statement _ tokens = tt
