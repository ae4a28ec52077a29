-- The tokens of a line, or its leftmost fault.
use Rattle.std.specs.Prelude.{◌≡◌, ℕ, zero, suc, ◌+◌, ◌-◌, ◌<◌, ◌≤◌, length, take, slice_range, List, [], ◌∷◌, ◌++◌, Result, Ok, Err}
use Rattle.vx_text.specs.declared.token.Token.{Token}
use Rattle.vx_text.specs.declared.token.Tok.{Tok}
use Rattle.vx_text.specs.declared.token.LexFail.{LexFail}
use Rattle.vx_text.specs.declared.token.LexFail.TheVariants as fail
use Rattle.vx_text.specs.declared.first.First.{First}
use Rattle.vx_text.specs.declared.first.First.TheVariants.{End, Gap, Found, Bad}
use Rattle.vx_text.specs.First.{first}

-- a token that stands first takes some of the bytes, and they alone make it
abbrev pub IsReading : List ℕ → First → Type 0
IsReading bytes (Found t len) = (0 < len) × (len ≤ length bytes) × (first (take len bytes) ≡ Found t len)
IsReading bytes _ = Unit {0}

-- items before those that the rest gives
abbrev pub with_front : {A E : Type 0} → List A → Result (List A) E → Result (List A) E
with_front front (Ok rest) = Ok (front ++ rest)
with_front front (Err f) = Err f

abbrev pub token_at : ℕ → Tok → ℕ → Token
token_at at t len = record { tok = t; start = at; end = at + len }

-- by what stands first at a place, and what a reading of the bytes after so many more gives
abbrev pub by_first : ℕ → First → (ℕ → Result (List Token) LexFail) → Result (List Token) LexFail
by_first at End rest = Ok []
by_first at Gap rest = rest 0
by_first at (Found t len) rest = with_front (token_at at t len ∷ []) (rest (len - 1))
by_first at (Bad f) rest = Err f

-- the tokens from a place on, behind so many bytes of a token that is read already
unfoldable pub lex_from : ℕ → ℕ → List ℕ → Result (List Token) LexFail
lex_from skip at [] = Ok []
lex_from (suc skip) at (b ∷ bytes) = lex_from skip (at + 1) bytes
lex_from zero at (b ∷ bytes) = by_first at (first (b ∷ bytes)) (λ skip. lex_from skip (at + 1) bytes)

abbrev pub lex : List ℕ → Result (List Token) LexFail
lex line = lex_from 0 0 line

-- What a function returned is what reading gives, unless memory ran out.
abbrev pub Fails : {Y : Type 0} → LexFail → Result Y LexFail → Type 0
Fails fail.NoMemory read = Unit {0}
Fails e read = read ≡ Err e

abbrev pub Gives : {X Y : Type 0} → (X → Y) → Result X LexFail → Result Y LexFail → Type 0
Gives view (Ok x) read = read ≡ Ok (view x)
Gives view (Err e) read = Fails e read

-- Where tokens stand.

-- a token is what stands first in its slice of the line, whole
abbrev pub IsToken : List ℕ → Token → Type 0
IsToken line t = first (slice_range line t.start t.end) ≡ Found t.tok (t.end - t.start)

-- the tokens stand in order from a place on, none is empty, and all are within the line
abbrev pub AreInOrder : ℕ → ℕ → List Token → Type 0
AreInOrder from length [] = from ≤ length
AreInOrder from length (t ∷ more) = (from ≤ t.start) × (t.start < t.end) × AreInOrder t.end length more
