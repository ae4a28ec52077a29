-- One of a kind, and that one: by what stands from the first of the kind on.
use mathlib.Core.Bool.{or-false, and-true, and-false}
use Rattle.std.proofs.Common.{◌≡◌, ℕ, ◌<◌, Bool, true, false, cond, not, ◌&&◌, ◌||◌, ◌==◌, List, [], ◌∷◌, ◌++◌, length, Option, Some, None, option_map, subst, reverse, refl, ap, sym, ◌∙◌, arith, length-append}
use Rattle.std.proofs.lemmas.Bool.{ne_eqb}
use Rattle.std.proofs.lemmas.List.{reverse-append}
use Rattle.std.proofs.lemmas.List.Elements.{filter-append}
use Rattle.std.specs.List.{filter, list_any}
use Rattle.vx_record.specs.Types.{Effect, Pid}
use Rattle.vx_base.specs.declared.effects.Effect.TheVariants as effect
use Rattle.vx_laws.specs.StatusLaw.{is_iosb, is_only, only, none_of, is_cleared_iosb, clears_iosb}
use Rattle.vx_judge.specs.Lists.{from_first}
use Rattle.vx_judge.specs.Owing.{owed}
use Rattle.vx_judge.specs.declared.owed.Owed.{Owed}
use Rattle.vx_laws.specs.Items.{Calling}
use Rattle.vx_record.specs.Services.{number}
use Rattle.vx_judge.proofs.Passes.{list_any_reverse}
use Rattle.vx_record.proofs.Lists.{either_by}

is_one : (n : ℕ) → 1 < n → (n == 1) ≡ false
is_one n h = ne_eqb n 1 (λ e. omega (arith, e, h))

any_where : {A : Type 0} (of is : A → Bool) (b : Bool) (x : A) (r : Bool) (fs : List A) → (is x ≡ true → b ≡ true) → r ≡ list_any is fs → (is x || r) ≡ list_any is (cond b (x ∷ fs) fs)
any_where of is true x r fs sub h = ap (λ (t : Bool). is x || t) h
any_where of is false x r fs sub h = by_case (is x) refl
  where
    by_case : (c : Bool) → is x ≡ c → (c || r) ≡ list_any is fs
    by_case true e = absurd (let never : false ≡ true = sub e in cc)
    by_case false e = h

-- what passes is of the kind
any_of : {A : Type 0} (of is : A → Bool) → ((x : A) → is x ≡ true → of x ≡ true) → (xs : List A) → list_any is xs ≡ list_any is (filter of xs)
any_of of is sub [] = refl
any_of of is sub (x ∷ xs) = any_where of is (of x) x (list_any is xs) (filter of xs) (sub x) (any_of of is sub xs)

only_one : (is : Effect → Bool) (fs : List Effect) → ((length fs == 1) && list_any is fs) ≡ is_only is fs
only_one is [] = refl
only_one is (x ∷ []) = or-false (is x)
only_one is (x ∷ (y ∷ fs)) = rw (is_one (length (x ∷ (y ∷ fs))) (omega arith)) refl

only_by : (of is : Effect → Bool) (es : List Effect) → ((x : Effect) → is x ≡ true → of x ≡ true) → ((length (filter of es) == 1) && list_any is es) ≡ only of is es
only_by of is es sub = rw (any_of of is sub es) (only_one is (filter of es))

cleared_iosb : (p : Pid) (i : ℕ) (x : Effect) → is_cleared_iosb p i x ≡ true → is_iosb x ≡ true
cleared_iosb p i (effect.Iosb q j d count info) e = refl
cleared_iosb p i x e = e

-- By what stands from the first of the kind on.

only_from : (of is : Effect → Bool) (b : Bool) (x : Effect) (es : List Effect) → of x ≡ b → only of is es ≡ only of is (from_first of es) → only of is (x ∷ es) ≡ only of is (cond b (x ∷ es) (from_first of es))
only_from of is true x es e h = refl
only_from of is false x es e h = rw e h

from_same : (of is : Effect → Bool) (es : List Effect) → only of is es ≡ only of is (from_first of es)
from_same of is [] = refl
from_same of is (x ∷ es) = only_from of is (of x) x es refl (from_same of is es)

from_passes : (of : Effect → Bool) (es : List Effect) (x : Effect) (more : List Effect) → from_first of es ≡ x ∷ more → of x ≡ true
from_passes of [] x more e = cc
from_passes of (y ∷ es) x more e = either_by (λ (l : List Effect). l ≡ x ∷ more → of x ≡ true) (of y) (y ∷ es) (from_first of es) (λ t k. let is : y ≡ x = cc in rw (← is) t) (λ f k. from_passes of es x more k) e

empty_where : (of : Effect → Bool) (b : Bool) (x : Effect) (es : List Effect) → (filter of es ≡ [] → list_any of es ≡ false) → cond b (x ∷ filter of es) (filter of es) ≡ [] → (b || list_any of es) ≡ false
empty_where of true x es k h = cc
empty_where of false x es k h = k h

empty_none : (of : Effect → Bool) (es : List Effect) → filter of es ≡ [] → list_any of es ≡ false
empty_none of [] e = refl
empty_none of (x ∷ es) e = empty_where of (of x) x es (empty_none of es) e

some_where : (of : Effect → Bool) (b : Bool) (x : Effect) (es : List Effect) (y : Effect) (ys : List Effect) → (filter of es ≡ y ∷ ys → list_any of es ≡ true) → cond b (x ∷ filter of es) (filter of es) ≡ y ∷ ys → (b || list_any of es) ≡ true
some_where of true x es y ys k h = refl
some_where of false x es y ys k h = k h

some_any : (of : Effect → Bool) (es : List Effect) (y : Effect) (ys : List Effect) → filter of es ≡ y ∷ ys → list_any of es ≡ true
some_any of [] y ys e = cc
some_any of (x ∷ es) y ys e = some_where of (of x) x es y ys (some_any of es y ys) e

only_first : (of is : Effect → Bool) (x : Effect) (more fs : List Effect) → filter of more ≡ fs → is_only is (x ∷ fs) ≡ (is x && not (list_any of more))
only_first of is x more [] e = rw (empty_none of more e) (sym (and-true (is x)))
only_first of is x more (y ∷ ys) e = rw (some_any of more y ys e) (sym (and-false (is x)))

only_kept : (of is : Effect → Bool) (b : Bool) (x : Effect) (more : List Effect) → b ≡ true → is_only is (cond b (x ∷ filter of more) (filter of more)) ≡ (is x && not (list_any of more))
only_kept of is true x more e = only_first of is x more (filter of more) refl
only_kept of is false x more e = cc

pub only_here : (of is : Effect → Bool) (es : List Effect) (x : Effect) (more : List Effect) → from_first of es ≡ x ∷ more → only of is es ≡ (is x && not (list_any of more))
only_here of is es x more e = from_same of is es ∙ (ap (only of is) e ∙ only_kept of is (of x) x more (from_passes of es x more e))

pub only_none : (of is : Effect → Bool) (es : List Effect) → from_first of es ≡ [] → only of is es ≡ false
only_none of is es e = from_same of is es ∙ ap (only of is) e

-- The same from behind: by how many there are, and whether one passes.

count_where : {A : Type 0} (of : A → Bool) (b : Bool) (x : A) (l fs : List A) → length l ≡ length fs → length (l ++ cond b (x ∷ []) []) ≡ length (cond b (x ∷ fs) fs)
count_where of true x l fs h = let e = length-append l (x ∷ []) in omega (arith, e, h)
count_where of false x l fs h = let e = length-append l [] in omega (arith, e, h)

count_reverse : {A : Type 0} (of : A → Bool) (xs : List A) → length (filter of (reverse xs)) ≡ length (filter of xs)
count_reverse of [] = refl
count_reverse of (x ∷ xs) =
    ap (λ (l : List _). length (filter of l)) (reverse-append (x ∷ []) xs)
    ∙ (ap length (filter-append of (reverse xs) (x ∷ [])) ∙ count_where of (of x) x (filter of (reverse xs)) (filter of xs) (count_reverse of xs))

pub none_before : (es : List Effect) → not (list_any is_iosb es) ≡ none_of is_iosb (reverse es)
none_before es = ap not (sym (list_any_reverse is_iosb es))

pub only_before : (p : Pid) (i : ℕ) (es : List Effect) → only is_iosb (is_cleared_iosb p i) es ≡ only is_iosb (is_cleared_iosb p i) (reverse es)
only_before p i es =
    sym (only_by is_iosb (is_cleared_iosb p i) es (cleared_iosb p i)) ∙ (rw (← count_reverse is_iosb es, ← list_any_reverse (is_cleared_iosb p i) es) (only_by is_iosb (is_cleared_iosb p i) (reverse es) (cleared_iosb p i)))

-- if a call names a status block
pub cleared_before : (o : Owed) (full : Option Calling) (es : List Effect) (w : Bool) → Some o ≡ option_map owed full → (o.iosb == 0) ≡ false → w ≡ only is_iosb (is_cleared_iosb o.p o.iosb) es → w ≡ clears_iosb (reverse es) full
cleared_before o None es w e n h = cc
cleared_before o (Some k) es w e n h =
    let same : o ≡ owed k = cc in
    let block : (number k.call.args.a3 == 0) ≡ false = subst (λ (x : Owed). (x.iosb == 0) ≡ false) same n in
    let there : w ≡ only is_iosb (is_cleared_iosb k.p (number k.call.args.a3)) es = subst (λ (x : Owed). w ≡ only is_iosb (is_cleared_iosb x.p x.iosb) es) same h in
    rw block (there ∙ only_before k.p (number k.call.args.a3) es)
