-- A turn of the reader: what stands first, and then the bytes after it.
use Rattle.std.proofs.Common.{◌≡◌, ℕ, zero, suc, ◌+◌, ◌-◌, ◌<◌, ◌≤◌, List, [], ◌∷◌, ◌++◌, length, take, drop, get_or, Result, Ok, Err, refl, ap, ◌∙◌, arith, add-one, add-zero, append_assoc}
use Rattle.std.proofs.Math.Seq.{drop-cons}
use Rattle.vx_text.specs.declared.token.Token.{Token}
use Rattle.vx_text.specs.declared.token.LexFail.{LexFail}
use Rattle.std.proofs.Common.{true, false, nat_lt, nat_eq, codes, Option, rules}
use Rattle.std.specs.List.{starts_with}
use Rattle.vx_text.specs.declared.token.Tok.{Tok}
use Rattle.vx_text.specs.First.{first, word_of, cond_of}
use Rattle.std.proofs.lemmas.List.{drop_all, drop-drop, take_rest}
use Rattle.vx_text.specs.declared.first.First.{First}
use Rattle.vx_text.specs.declared.first.First.TheVariants.{End, Gap, Found, Bad}
use Rattle.vx_text.specs.Lex.{lex_from, by_first, with_front, token_at, Fails}
use Rattle.vx_text.specs.declared.token.LexFail.TheVariants as fail

pub lex_nothing : (at : ℕ) → lex_from 0 at [] ≡ Ok []
unfolding lex_from
lex_nothing at = refl

-- bytes of a token are passed over
pub lex_from-skip : (skip at : ℕ) (bytes : List ℕ) → lex_from skip at bytes ≡ lex_from 0 (at + skip) (drop skip bytes)
unfolding lex_from
lex_from-skip zero at bytes = ap (λ n. lex_from 0 n bytes) (omega arith)
lex_from-skip (suc skip) at [] = refl
lex_from-skip (suc skip) at (b ∷ bytes) = lex_from-skip skip (at + 1) bytes ∙ ap (λ n. lex_from 0 n (drop skip bytes)) (omega arith)

by_first-skip : (at : ℕ) (f : First) (rest : List ℕ) → by_first at f (λ skip. lex_from skip (at + 1) rest) ≡ by_first at f (λ skip. lex_from 0 (at + 1 + skip) (drop skip rest))
by_first-skip at End rest = refl
by_first-skip at Gap rest = lex_from-skip 0 (at + 1) rest
by_first-skip at (Found t len) rest = ap (with_front (token_at at t len ∷ [])) (lex_from-skip (len - 1) (at + 1) rest)
by_first-skip at (Bad f) rest = refl

turn_cons : (at b : ℕ) (rest : List ℕ) → lex_from 0 at (b ∷ rest) ≡ by_first at (first (b ∷ rest)) (λ skip. lex_from 0 (at + 1 + skip) (drop skip rest))
unfolding lex_from
turn_cons at b rest = by_first-skip at (first (b ∷ rest)) rest

-- what is read from a place on, by what stands first there
pub turn : (at : ℕ) (line : List ℕ) (f : First) → at < length line → f ≡ first (take (length line - at) (drop at line)) → lex_from 0 at (drop at line) ≡ by_first at f (λ skip. lex_from 0 (at + 1 + skip) (drop skip (drop (suc at) line)))
turn at line f h e =
    let cut : drop at line ≡ get_or line at 0 ∷ drop (suc at) line = drop-cons line at 0 h in
    rw (e, take_rest line at, cut) (turn_cons at (get_or line at 0) (drop (suc at) line))

pub turn_end : (at : ℕ) (line : List ℕ) → length line ≤ at → lex_from 0 at (drop at line) ≡ Ok []
turn_end at line h = rw (drop_all at line h) (lex_nothing at)

pub with_front-front : {A E : Type 0} (a b : List A) (r : Result (List A) E) → with_front (a ++ b) r ≡ with_front a (with_front b r)
with_front-front a b (Ok rest) = ap Ok (append_assoc a b rest)
with_front-front a b (Err f) = refl

-- after a token the reading goes on behind it
pub after_token : (front : List Token) (token : Token) (at len : ℕ) (line : List ℕ) → 0 < len → with_front (front ++ token ∷ []) (lex_from 0 (at + len) (drop (at + len) line)) ≡ with_front front (with_front (token ∷ []) (lex_from 0 (at + 1 + (len - 1)) (drop (len - 1) (drop (suc at) line))))
after_token front token at len line h =
    let place : at + 1 + (len - 1) ≡ at + len = omega arith in
    let rest : drop (len - 1) (drop (suc at) line) ≡ drop (at + len) line = rw drop-drop (ap (λ n. drop n line) (omega arith)) in
    rw (place, rest) (with_front-front front (token ∷ []) _)

pub after_gap : (at : ℕ) (line : List ℕ) → lex_from 0 (at + 1 + 0) (drop 0 (drop (suc at) line)) ≡ lex_from 0 (at + 1) (drop (at + 1) line)
after_gap at line = rw (add-one, add-zero) refl

pub fails : {Y : Type 0} (e : LexFail) (r : Result Y LexFail) → r ≡ Err e → Fails e r
fails fail.NoMemory r h = tt
fails _ r h = h

-- a word that begins with SS$_ is a condition
pub word_of-cond : (t : List ℕ) (r : Option Tok) → length t ≤ 31 → true ≡ starts_with nat_eq t (codes "SS$_") → r ≡ cond_of (take (length t - 4) (drop 4 t)) → r ≡ word_of t
word_of-cond t r short h e =
    let no : nat_lt 31 (length t) ≡ false = search (rules, arith) in
    rw (no, ← h) (rw (take_rest t 4) at e)
