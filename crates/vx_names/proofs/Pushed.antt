-- What is found by name, when one more item stands at the end.
use Rattle.std.proofs.Common.{◌≡◌, ℕ, ◌+◌, Bool, true, false, cond, ◌&&◌, ◌==◌, List, [], ◌∷◌, ◌++◌, length, Option, Some, None, is_some, position, bytes_eq, refl, sym, ap, ◌∙◌, true≢false, arith}
use Rattle.std.specs.List.{position_from}
use Rattle.std.specs.Map.{lookup}
use Rattle.std.specs.Option.{option_or}
use Rattle.std.specs.Cmp.Lexicographic.{bytes_decides}
use Rattle.std.proofs.lemmas.Cmp.{nat_eq_equiv, nat_list_eq_equiv}
use Rattle.std.proofs.lemmas.Iterator.Adapters.{position_from-zero}

-- what has a place keeps it, and what had none may have one now
kept : {X : Type 0} (is_new : Bool) (old new : Option X) → (is_new ≡ true → is_some old ≡ false)
    → cond is_new new old ≡ option_or old (cond is_new new None)
kept true None new lacks = refl
kept true (Some x) new lacks = absurd (true≢false (lacks refl))
kept false None new lacks = refl
kept false (Some x) new lacks = refl

-- a name that had no place has one now, and the others have what they had
pub noted : (places : List (List ℕ × ℕ)) (name k : List ℕ) (place : ℕ) → is_some (lookup (bytes_eq name) places) ≡ false
    → option_or (lookup (bytes_eq k) places) (cond (bytes_eq k name) (Some place) None)
    ≡ cond (bytes_eq name k) (Some place) (lookup (bytes_eq k) places)
noted places name k place lacks =
    let old = lookup (bytes_eq k) places in
    let none : bytes_eq k name ≡ true → is_some old ≡ false =
    λ e. ap (λ n. is_some (lookup (bytes_eq n) places)) ((bytes_decides k name).0 e) ∙ lacks in
    sym (ap (λ b. cond b (Some place) old) (nat_list_eq_equiv.symm name k) ∙ kept (bytes_eq k name) old (Some place) none)

past_one : (b : Bool) (i : ℕ) (old new last : Option ℕ) → new ≡ option_or old last → cond b (Some i) new ≡ option_or (cond b (Some i) old) last
past_one true i old new last rest = refl
past_one false i old new last rest = rest

position_from-push : {X : Type 0} (p : X → Bool) (i : ℕ) (xs : List X) (x : X)
    → position_from p i (xs ++ x ∷ []) ≡ option_or (position_from p i xs) (cond (p x) (Some (i + length xs)) None)
position_from-push p i [] x = let e : i ≡ i + 0 = omega arith in ap (λ n. cond (p x) (Some n) None) e
position_from-push p i (y ∷ ys) x =
    let e : i + 1 + length ys ≡ i + length (y ∷ ys) = omega arith in
    let last = λ (n : ℕ). option_or (position_from p (i + 1) ys) (cond (p x) (Some n) None) in
    past_one (p y) i _ _ _ (position_from-push p (i + 1) ys x ∙ ap last e)

-- the first place that passes, with one more item
pub position-push : {X : Type 0} (p : X → Bool) (xs : List X) (x : X)
    → position p (xs ++ x ∷ []) ≡ option_or (position p xs) (cond (p x) (Some (length xs)) None)
position-push p xs x =
    let e : 0 + length xs ≡ length xs = omega arith in
    position_from-zero p (xs ++ x ∷ []) ∙ position_from-push p 0 xs x
    ∙ ap (λ n. option_or (position_from p 0 xs) (cond (p x) (Some n) None)) e
    ∙ ap (λ o. option_or o (cond (p x) (Some (length xs)) None)) (sym (position_from-zero p xs))

-- a name and a number are those of another, or it has theirs
pub same_key : (name other : List ℕ) (number another : ℕ)
    → (bytes_eq name other && (number == another)) ≡ (bytes_eq other name && (another == number))
same_key name other number another =
    ap (λ b. b && (number == another)) (nat_list_eq_equiv.symm name other)
    ∙ ap (λ b. bytes_eq other name && b) (nat_eq_equiv.symm number another)
