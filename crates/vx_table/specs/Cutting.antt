-- Where the arguments stand in the tokens of a call, as the reader goes over them.
use Rattle.std.specs.Prelude.{ℕ, Bool, not, List, [], ◌∷◌, length, drop, nat_lt, if◌then◌else◌, Result, Ok, Err}
use Rattle.vx_base.specs.declared.call.Arg.{Arg}
use Rattle.vx_base.specs.declared.call.Args.{Args}
use Rattle.vx_base.specs.Services.{args_of}
use Rattle.vx_text.specs.declared.token.Tok.{Tok}
use Rattle.vx_text.specs.declared.token.Token.{Token}
use Rattle.vx_table.specs.declared.fail.CallFail.{CallFail}
use Rattle.vx_table.specs.declared.fail.CallFail.TheVariants as fail
use Rattle.vx_table.specs.Reading.{toks, is_comma, cut}

-- a token that is no comma
abbrev pub stays : Token → Bool
stays t = not (is_comma t.tok)

-- the pieces from a place on; none behind the end
abbrev pub left : ℕ → List Token → List (List Tok)
left at tokens = if nat_lt (length tokens) at then [] else cut (toks (drop at tokens))

-- the arguments, if no piece is left
abbrev pub finish : List Arg → List (List Tok) → Result Args CallFail
finish args [] = Ok (args_of args)
finish args (piece ∷ more) = Err fail.Extra
