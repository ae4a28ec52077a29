-- Tokens in order, and one more.
use Rattle.std.proofs.Common.{◌≡◌, ℕ, ◌+◌, ◌-◌, ◌<◌, ◌≤◌, List, [], ◌∷◌, ◌++◌, length, take, drop, arith}
use Rattle.std.specs.List.{AllByRecursion}
use Rattle.std.proofs.lemmas.List.{take_rest}
use Rattle.vx_text.specs.declared.token.Tok.{Tok}
use Rattle.vx_text.specs.declared.token.Token.{Token}
use Rattle.vx_text.specs.declared.first.First.TheVariants.{Found}
use Rattle.vx_text.specs.First.{first}
use Rattle.vx_text.specs.Lex.{IsToken, AreInOrder, token_at}

pub in_order-later : (tokens : List Token) (from a b : ℕ) → a ≤ b → AreInOrder from a tokens → AreInOrder from b tokens
in_order-later [] from a b h order = omega arith
in_order-later (t ∷ more) from a b h order = (order.0, order.1, in_order-later more t.end a b h order.2)

pub in_order-more : (tokens : List Token) (from at : ℕ) (t : Token) → AreInOrder from at tokens → at ≤ t.start → t.start < t.end → AreInOrder from t.end (tokens ++ t ∷ [])
in_order-more [] from at t order h some = (omega arith, some, omega arith)
in_order-more (u ∷ more) from at t order h some = (order.0, order.1, in_order-more more u.end at t order.2 h some)

pub all_more : (P : Token → Type 0) (tokens : List Token) (t : Token) → AllByRecursion P tokens → P t → AllByRecursion P (tokens ++ t ∷ [])
all_more P [] t all one = (one, tt)
all_more P (u ∷ more) t all one = (all.0, all_more P more t all.1 one)

-- what stands first at a place is the token of its slice
pub is_token : (line : List ℕ) (at len : ℕ) (t : Tok) → first (take len (take (length line - at) (drop at line))) ≡ Found t len → IsToken line (token_at at t len)
is_token line at len t h =
    let e : at + len - at ≡ len = omega arith in
    rw (e, ← take_rest line at) h
