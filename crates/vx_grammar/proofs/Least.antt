-- The least of lines that may be none, and what marks of a line do to it.
use Rattle.std.proofs.Common.{◌≡◌, ◌⊎◌, inl, inr, ℕ, ◌≤◌, Bool, true, false, cond, nat_le, List, [], ◌∷◌, Option, Some, None, refl, ap, ◌∙◌, arith}
use Rattle.std.specs.List.{AllByRecursion, list_any}
use Rattle.std.proofs.lemmas.Bool.{leb-true, le-leb, or_parts}
use Rattle.vx_script.specs.Resolving.{least_line}

abbrev pub least : List (Option ℕ) → Option ℕ
least [] = None
least (o ∷ []) = o
least (o ∷ p ∷ os) = least_line o (least (p ∷ os))

abbrev pub Nothing : List (Option ℕ) → Type 0
Nothing os = AllByRecursion (λ (o : Option ℕ). o ≡ None) os

abbrev pub From : ℕ → Option ℕ → Type 0
From k None = Unit {0}
From k (Some j) = k ≤ j

abbrev pub Has : ℕ → List (Option ℕ) → Type 0
Has k [] = ⊥
Has k (o ∷ os) = (o ≡ Some k) ⊎ Has k os

-- this line is the least
abbrev pub Sees : ℕ → List (Option ℕ) → Type 0
Sees k os = Has k os × AllByRecursion (From k) os

from_earlier : (k : ℕ) (a b : Option ℕ) → From k a → From k b → From k (least_line a b)
from_earlier k None b h l = l
from_earlier k (Some i) None h l = h
from_earlier k (Some i) (Some j) h l = by (nat_le i j)
  where
    by : (t : Bool) → k ≤ cond t i j
    by true = h
    by false = l

first_least : (k : ℕ) (b : Option ℕ) → From k b → least_line (Some k) b ≡ Some k
first_least k None h = refl
first_least k (Some j) h = by (nat_le k j) refl
  where
    by : (t : Bool) → nat_le k j ≡ t → Some (cond t k j) ≡ Some k
    by true e = refl
    by false e = absurd (let low : nat_le k j ≡ true = le-leb k j h in cc)

second_least : (k : ℕ) (a : Option ℕ) → From k a → least_line a (Some k) ≡ Some k
second_least k None h = refl
second_least k (Some i) h = by (nat_le i k) refl
  where
    by : (t : Bool) → nat_le i k ≡ t → Some (cond t i k) ≡ Some k
    by true e = let low = leb-true i k e in let same : i ≡ k = omega (arith, low, h) in ap Some same
    by false e = refl

from_least : (k : ℕ) (os : List (Option ℕ)) → AllByRecursion (From k) os → From k (least os)
from_least k [] h = tt
from_least k (o ∷ []) h = h.0
from_least k (o ∷ p ∷ os) h = from_earlier k o (least (p ∷ os)) h.0 (from_least k (p ∷ os) h.1)

pub least_is : (k : ℕ) (os : List (Option ℕ)) → Sees k os → least os ≡ Some k
least_is k [] s = absurd s.0
least_is k (o ∷ []) s = elim s.0 [ inl e ↦ e | inr e ↦ absurd e ]
least_is k (o ∷ p ∷ os) s = elim s.0 [
  | inl e ↦ ap (λ (x : Option ℕ). least_line x (least (p ∷ os))) e ∙ first_least k (least (p ∷ os)) (from_least k (p ∷ os) s.1.1)
  | inr e ↦ ap (λ (x : Option ℕ). least_line o x) (least_is k (p ∷ os) (e, s.1.1)) ∙ second_least k o s.1.0
]

pub least_none : (os : List (Option ℕ)) → Nothing os → least os ≡ None
least_none [] h = refl
least_none (o ∷ []) h = h.0
least_none (o ∷ p ∷ os) h = ap (λ (x : Option ℕ). least_line x (least (p ∷ os))) h.0 ∙ least_none (p ∷ os) h.1

-- Lists in which a line is marked.

abbrev pub mark : ℕ → Bool → Option ℕ → Option ℕ
mark line false o = o
mark line true None = Some line
mark line true (Some k) = Some k

abbrev pub marked : ℕ → List Bool → List (Option ℕ) → List (Option ℕ)
marked line [] os = os
marked line (t ∷ ts) [] = []
marked line (t ∷ ts) (o ∷ os) = mark line t o ∷ marked line ts os

abbrev pub any_of : List Bool → Bool
any_of ts = list_any (λ (t : Bool). t) ts

-- no more marks than lines
abbrev pub Fills : List Bool → List (Option ℕ) → Type 0
Fills [] os = Unit {0}
Fills (t ∷ ts) [] = ⊥
Fills (t ∷ ts) (o ∷ os) = Fills ts os

-- what a line does to them: it is marked in some, or an image is ended
pub data Moves (line : ℕ) : Bool → List (Option ℕ) → List (Option ℕ) → Type 0 where
  marks : (ts : List Bool) (os : List (Option ℕ)) → Fills ts os → Moves line (any_of ts) os (marked line ts os)
  ends : (a b : Option ℕ) (os : List (Option ℕ)) → Moves line false (a ∷ b ∷ os) (least_line a b ∷ None ∷ os)

-- as long as nothing is marked
mark_none : (line : ℕ) (t : Bool) (o : Option ℕ) → t ≡ false → o ≡ None → mark line t o ≡ None
mark_none line true o e h = absurd (cc)
mark_none line false o e h = h

none_marked : (line : ℕ) (ts : List Bool) (os : List (Option ℕ)) → any_of ts ≡ false → Nothing os → Nothing (marked line ts os)
none_marked line [] os e h = h
none_marked line (t ∷ ts) [] e h = tt
none_marked line (t ∷ ts) (o ∷ os) e h =
    let p = or_parts t (any_of ts) e in
    (mark_none line t o p.0 h.0, none_marked line ts os p.1 h.1)

pub none_moves : (line : ℕ) (t : Bool) (os ps : List (Option ℕ)) → Moves line t os ps → t ≡ false → Nothing os → Nothing ps
none_moves line _ _ _ (marks ts os fills) e h = none_marked line ts os e h
none_moves line _ _ _ (ends a b os) e h = (ap (λ (x : Option ℕ). least_line x b) h.0 ∙ h.1.0, (refl, h.1.1))

-- if the line is marked
from_mark : (line : ℕ) (t : Bool) (o : Option ℕ) → o ≡ None → From line (mark line t o)
from_mark line true None h = omega arith
from_mark line true (Some k) h = absurd (cc)
from_mark line false None h = tt
from_mark line false (Some k) h = absurd (cc)

from_none : (line : ℕ) (o : Option ℕ) → o ≡ None → From line o
from_none line None h = tt
from_none line (Some k) h = absurd (cc)

all_from_none : (line : ℕ) (os : List (Option ℕ)) → Nothing os → AllByRecursion (From line) os
all_from_none line [] h = tt
all_from_none line (o ∷ os) h = (from_none line o h.0, all_from_none line os h.1)

all_from : (line : ℕ) (ts : List Bool) (os : List (Option ℕ)) → Nothing os → AllByRecursion (From line) (marked line ts os)
all_from line [] os h = all_from_none line os h
all_from line (t ∷ ts) [] h = tt
all_from line (t ∷ ts) (o ∷ os) h = (from_mark line t o h.0, all_from line ts os h.1)

has_mark : (line : ℕ) (ts : List Bool) (os : List (Option ℕ)) → Fills ts os → any_of ts ≡ true → Nothing os → Has line (marked line ts os)
has_mark line [] os f e h = absurd (cc)
has_mark line (t ∷ ts) [] f e h = absurd f
has_mark line (true ∷ ts) (None ∷ os) f e h = inl refl
has_mark line (true ∷ ts) (Some k ∷ os) f e h = absurd (let x : Some k ≡ None = h.0 in cc)
has_mark line (false ∷ ts) (o ∷ os) f e h = inr (has_mark line ts os f e h.1)

pub seen_moves : (line : ℕ) (t : Bool) (os ps : List (Option ℕ)) → Moves line t os ps → t ≡ true → Nothing os → Sees line ps
seen_moves line _ _ _ (marks ts os fills) e h = (has_mark line ts os fills e h, all_from line ts os h)
seen_moves line _ _ _ (ends a b os) e h = absurd (cc)

-- what is seen stays
from_marked : (k line : ℕ) (t : Bool) (o : Option ℕ) → k ≤ line → From k o → From k (mark line t o)
from_marked k line true None b h = b
from_marked k line true (Some j) b h = h
from_marked k line false o b h = h

stays_marked : (k line : ℕ) (t : Bool) (o : Option ℕ) → o ≡ Some k → mark line t o ≡ Some k
stays_marked k line true None h = absurd (cc)
stays_marked k line true (Some j) h = h
stays_marked k line false o h = h

all_stay : (k line : ℕ) (ts : List Bool) (os : List (Option ℕ)) → k ≤ line → AllByRecursion (From k) os → AllByRecursion (From k) (marked line ts os)
all_stay k line [] os b h = h
all_stay k line (t ∷ ts) [] b h = tt
all_stay k line (t ∷ ts) (o ∷ os) b h = (from_marked k line t o b h.0, all_stay k line ts os b h.1)

has_stays : (k line : ℕ) (ts : List Bool) (os : List (Option ℕ)) → Has k os → Has k (marked line ts os)
has_stays k line [] os h = h
has_stays k line (t ∷ ts) [] h = absurd h
has_stays k line (t ∷ ts) (o ∷ os) h = elim h [ inl e ↦ inl (stays_marked k line t o e) | inr e ↦ inr (has_stays k line ts os e) ]

ended_has : (k : ℕ) (a b : Option ℕ) (os : List (Option ℕ)) → From k a → From k b → Has k (a ∷ b ∷ os) → Has k (least_line a b ∷ None ∷ os)
ended_has k a b os f g h = elim h [
  | inl e ↦ inl (ap (λ (x : Option ℕ). least_line x b) e ∙ first_least k b g)
  | inr m ↦ elim m [ inl e ↦ inl (ap (λ (x : Option ℕ). least_line a x) e ∙ second_least k a f) | inr more ↦ inr (inr more) ]
]

pub stay_moves : (k line : ℕ) (t : Bool) (os ps : List (Option ℕ)) → Moves line t os ps → k ≤ line → Sees k os → Sees k ps
stay_moves k line _ _ _ (marks ts os fills) b s = (has_stays k line ts os s.0, all_stay k line ts os b s.1)
stay_moves k line _ _ _ (ends x y os) b s = (ended_has k x y os s.1.0 s.1.1.0 s.0, (from_earlier k x y s.1.0 s.1.1.0, (tt, s.1.1.1)))
