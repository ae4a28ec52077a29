-- What is printed is read back.
use Rattle.std.specs.Prelude.{◌≡◌, ℕ, ◌<◌, ◌^◌, Bool, true, false, IsTrue, List, [], ◌∷◌, Option, None, Some, Result, Ok, Err}
use Rattle.vx_base.specs.declared.call.Arg.{Arg}
use Rattle.vx_base.specs.declared.call.Arg.TheVariants as arg
use Rattle.vx_base.specs.declared.call.Call.{Call}
use Rattle.vx_base.specs.declared.call.Operand.{Operand}
use Rattle.vx_base.specs.declared.call.Operand.TheVariants as operand
use Rattle.vx_base.specs.Name.{is_name}
use Rattle.vx_base.specs.Services.{ServiceRow, is_unused}
use Rattle.vx_text.specs.declared.token.LexFail.{LexFail}
use Rattle.vx_text.specs.declared.token.Tok.{Tok}
use Rattle.vx_text.specs.declared.token.Token.{Token}
use Rattle.vx_text.specs.Lex.{lex}
use Rattle.vx_table.specs.Reading.{toks, read_call}
use Rattle.vx_table.specs.Spelling.{call_tokens, call_text}

-- what the type of an argument holds: numbers of 32 bits, and names
abbrev pub IsHeldOperand : Operand → Type 0
IsHeldOperand (operand.Num n) = n < 2 ^ 32
IsHeldOperand _ = Unit {0}

abbrev pub IsHeldLabel : Option (List ℕ) → Type 0
IsHeldLabel (Some label) = IsTrue (is_name label)
IsHeldLabel None = Unit {0}

abbrev pub IsHeld : Arg → Type 0
IsHeld (arg.Value x) = IsHeldOperand x
IsHeld (arg.Name name) = IsTrue (is_name name)
IsHeld (arg.Label label) = IsHeldLabel label
IsHeld _ = Unit {0}

abbrev pub held_unless : Bool → Arg → Type 0 → Type 0
held_unless true a rest = Unit {0}
held_unless false a rest = IsHeld a × rest

-- each argument up to the first that is not used
abbrev pub AreHeld : List Arg → Type 0
AreHeld [] = Unit {0}
AreHeld (a ∷ args) = held_unless (is_unused a) a (AreHeld args)

-- tokens without their places
abbrev pub toks_of : Result (List Token) LexFail → Result (List Tok) LexFail
toks_of (Ok tokens) = Ok (toks tokens)
toks_of (Err e) = Err e

-- the canonical text of a call has the call's tokens, and these are read as the call
pub record ReadsBack (rows : List ServiceRow) (call : Call) : Type 0 where
  pub text : toks_of (lex (call_text call)) ≡ Ok (call_tokens call)
  pub tokens : read_call rows (call_tokens call) ≡ Ok call
