-- The fields of a line, from the left. Each is the first of the tokens that are left; if none is left it is missing.
use Rattle.std.specs.Prelude.{ℕ, ◌==◌, ◌&&◌, Bool, true, false, nat_le, nat_lt, List, [], ◌∷◌, length, drop, codes, Option, None, Result, Ok, Err, bytes_eq, if◌then◌else◌}
use Rattle.std.specs.List.{find}
use Rattle.vx_base.specs.declared.call.Operand.{Operand}
use Rattle.vx_base.specs.declared.call.Target.{Target}
use Rattle.vx_text.specs.declared.token.LexFail.{LexFail}
use Rattle.vx_text.specs.declared.token.LexFail.TheVariants as lex_fail
use Rattle.vx_text.specs.declared.token.Token.{Token}
use Rattle.vx_text.specs.declared.token.Tok.{Tok}
use Rattle.vx_text.specs.declared.token.Tok.TheVariants as tok
use Rattle.vx_table.specs.Reading.{toks, operand_of, target_word}
use Rattle.vx_script.specs.Results.{◌>>=◌, given}
use Rattle.vx_script.specs.declared.declaration.Device.{Device}
use Rattle.vx_script.specs.declared.declaration.Device.TheVariants as device
use Rattle.vx_script.specs.declared.fault.FaultKind.{FaultKind}
use Rattle.vx_script.specs.declared.fault.FaultKind.TheVariants as kind

-- the token that stands first
abbrev pub first_of : List Tok → Result Tok FaultKind
first_of [] = Err kind.Missing
first_of (t ∷ rest) = Ok t

-- nothing is left
abbrev pub end_at : List Tok → Result (Unit {0}) FaultKind
end_at [] = Ok tt
end_at (t ∷ rest) = Err kind.Extra

-- Fixed words and signs.

abbrev pub is_word : List ℕ → Tok → Bool
is_word text (tok.Word word) = bytes_eq word text
is_word text _ = false

abbrev pub is_sign : ℕ → Tok → Bool
is_sign sign (tok.Sign s) = s == sign
is_sign sign _ = false

abbrev pub begins_with_sign : ℕ → List Tok → Bool
begins_with_sign sign [] = false
begins_with_sign sign (t ∷ rest) = is_sign sign t

abbrev pub when : Bool → FaultKind → Result (Unit {0}) FaultKind
when true kind = Ok tt
when false kind = Err kind

abbrev pub sign_at : ℕ → List Tok → Result (Unit {0}) FaultKind
sign_at sign tokens = first_of tokens >>= λ t. when (is_sign sign t) kind.Word

abbrev pub word_at : List ℕ → List Tok → Result (Unit {0}) FaultKind
word_at text tokens = first_of tokens >>= λ t. when (is_word text t) kind.Word

-- Names, numbers and texts.

abbrev pub name_in : Tok → Result (List ℕ) FaultKind
name_in (tok.Word name) = Ok name
name_in _ = Err kind.Name

abbrev pub name_at : List Tok → Result (List ℕ) FaultKind
name_at tokens = first_of tokens >>= name_in

abbrev pub number_in : Tok → Result ℕ FaultKind
number_in (tok.Num n) = Ok n
number_in _ = Err kind.Number

abbrev pub within : ℕ → ℕ → ℕ → Result ℕ FaultKind
within low high n = if nat_le low n && nat_le n high then Ok n else Err kind.Range

-- a number from low to high

abbrev pub number_between : ℕ → ℕ → Tok → Result ℕ FaultKind
number_between low high t = number_in t >>= within low high

abbrev pub number_at : ℕ → ℕ → List Tok → Result ℕ FaultKind
number_at low high tokens = first_of tokens >>= number_between low high

abbrev pub at_most : ℕ → List ℕ → Result (List ℕ) FaultKind
at_most most bytes = if nat_le (length bytes) most then Ok bytes else Err kind.Range

abbrev pub text_in : Tok → Result (List ℕ) FaultKind
text_in (tok.Quote bytes) = at_most 2048 bytes
text_in _ = Err kind.Quote

-- a text of at most 2,048 bytes
abbrev pub text_at : List Tok → Result (List ℕ) FaultKind
text_at tokens = first_of tokens >>= text_in

-- the same, with nothing behind it
abbrev pub last_text : List Tok → Result (List ℕ) FaultKind
last_text tokens = text_at tokens >>= λ text. end_at (drop 1 tokens) >>= λ _. Ok text

-- Values and variables.

abbrev pub operand_at : List Tok → Result Operand FaultKind
operand_at tokens = first_of tokens >>= λ t. given kind.Name (operand_of t)

abbrev pub target_in : Tok → Result Target FaultKind
target_in (tok.Word word) = given kind.Name (target_word word)
target_in _ = Err kind.Name

abbrev pub target_at : List Tok → Result Target FaultKind
target_at tokens = first_of tokens >>= target_in

-- LINE, or BLOCK and a number of blocks.

abbrev pub device_name : Device → List ℕ
device_name device.Line = codes "LINE"
device_name device.Block = codes "BLOCK"

abbrev pub device_word : List ℕ → Option Device
device_word word = find (λ d. bytes_eq word (device_name d)) (device.Line ∷ device.Block ∷ [])

abbrev pub device_in : Tok → Option Device
device_in (tok.Word word) = device_word word
device_in _ = None

abbrev pub device_at : List Tok → Result Device FaultKind
device_at tokens = first_of tokens >>= λ t. given kind.Word (device_in t)

abbrev pub block_count : List Tok → Result ℕ FaultKind
block_count tokens = number_at 1 4096 tokens >>= λ n. end_at (drop 1 tokens) >>= λ _. Ok n

-- a line unit has no blocks
abbrev pub blocks_of : Device → List Tok → Result ℕ FaultKind
blocks_of device.Line tokens = end_at tokens >>= λ _. Ok 0
blocks_of device.Block tokens = block_count tokens

-- Bounds.

-- fewer than so many are there
abbrev pub room_for : ℕ → ℕ → Result (Unit {0}) FaultKind
room_for most count = when (nat_lt count most) kind.Size

-- The tokens of a line, or the kind of their fault.

abbrev pub kind_of : LexFail → FaultKind
kind_of lex_fail.Byte = kind.Byte
kind_of lex_fail.Quote = kind.Quote
kind_of lex_fail.Number = kind.Number
kind_of lex_fail.Name = kind.Name
kind_of lex_fail.NoMemory = kind.Byte

abbrev pub with_kind : Result (List Token) LexFail → Result (List Tok) FaultKind
with_kind (Ok tokens) = Ok (toks tokens)
with_kind (Err e) = Err (kind_of e)
