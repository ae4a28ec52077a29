-- Keys, one after another.
use Rattle.std.proofs.Common.{◌≡◌, ℕ, zero, suc, List, [], ◌∷◌, length, drop, refl, sym, ap, ◌∙◌, arith, Result, Ok, Err}
use Rattle.vx_text.specs.declared.token.Tok.{Tok}
use Rattle.vx_text.specs.declared.token.Token.{Token}
use Rattle.vx_table.specs.Reading.{toks}
use Rattle.vx_script.specs.Results.{◌>>=◌}
use Rattle.vx_script.specs.Keys.{keys_from, taken_key}
use Rattle.vx_script.specs.declared.fault.FaultKind.{FaultKind}
use Rattle.vx_script.specs.declared.keys.Keys.{Keys}
use Rattle.vx_script.specs.declared.keys.TakenKey.{TakenKey}

-- tokens that are taken already are behind
pub keys_behind : (skip : ℕ) (keys : Keys) (tokens : List Tok) → keys_from skip keys tokens ≡ keys_from 0 keys (drop skip tokens)
unfolding keys_from
keys_behind zero keys tokens = refl
keys_behind (suc skip) keys [] = refl
keys_behind (suc skip) keys (t ∷ tokens) = keys_behind skip keys tokens

then_behind : (taken : Result TakenKey FaultKind) (tokens : List Tok) → (taken >>= λ k. keys_from k.used k.keys tokens) ≡ (taken >>= λ k. keys_from 0 k.keys (drop k.used tokens))
then_behind (Ok k) tokens = keys_behind k.used k.keys tokens
then_behind (Err e) tokens = refl

one_key : (keys : Keys) (t : Tok) (tokens : List Tok) → keys_from 0 keys (t ∷ tokens) ≡ (taken_key keys t tokens >>= λ k. keys_from 0 k.keys (drop k.used tokens))
unfolding keys_from
one_key keys t tokens = then_behind (taken_key keys t tokens) tokens

pub no_key : (keys : Keys) (tokens : List Token) → length tokens ≡ 0 → Ok keys ≡ keys_from 0 keys (toks tokens)
unfolding keys_from
no_key keys [] h = refl
no_key keys (t ∷ tokens) h = absurd (omega (arith, h))

-- what a first key gives is what all of them give

by_first : (keys : Keys) (first : Token) (rest tokens : List Token) → tokens ≡ first ∷ rest → keys_from 0 keys (toks tokens) ≡ (taken_key keys first.tok (toks rest) >>= λ k. keys_from 0 k.keys (drop k.used (toks rest)))
by_first keys first rest tokens h = ap (λ z. keys_from 0 keys (toks z)) h ∙ one_key keys first.tok (toks rest)

pub key_taken : (keys : Keys) (first : Token) (rest tokens : List Token) (k : TakenKey) → tokens ≡ first ∷ rest → Ok k ≡ taken_key keys first.tok (toks rest) → keys_from 0 k.keys (drop k.used (toks rest)) ≡ keys_from 0 keys (toks tokens)
key_taken keys first rest tokens k h taken = ap (λ z. z >>= λ k. keys_from 0 k.keys (drop k.used (toks rest))) taken ∙ sym (by_first keys first rest tokens h)

pub key_refused : (keys : Keys) (first : Token) (rest tokens : List Token) (kind : FaultKind) → tokens ≡ first ∷ rest → Err kind ≡ taken_key keys first.tok (toks rest) → Err kind ≡ keys_from 0 keys (toks tokens)
key_refused keys first rest tokens kind h taken = ap (λ z. z >>= λ k. keys_from 0 k.keys (drop k.used (toks rest))) taken ∙ sym (by_first keys first rest tokens h)
