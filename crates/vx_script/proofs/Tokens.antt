-- Tokens without their places.
use Rattle.std.proofs.Common.{◌≡◌, ℕ, List, drop, sym}
use Rattle.std.proofs.lemmas.List.{drop-map}
use Rattle.vx_text.specs.declared.token.Token.{Token}
use Rattle.vx_table.specs.Reading.{toks}

pub toks_behind : (n : ℕ) (tokens : List Token) → toks (drop n tokens) ≡ drop n (toks tokens)
toks_behind n tokens = sym (drop-map (λ (t : Token). t.tok) n tokens)
