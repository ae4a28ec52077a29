-- The FAULT lines, and the numbers of one unit in order.
use Rattle.std.proofs.Common.{◌≡◌, ◌∙◌, ℕ, Bool, true, false, cond, not, ◌&&◌, ◌||◌, ◌==◌, nat_lt, nat_le, List, [], ◌∷◌, ◌++◌, bytes_eq, refl, ap, arith, drop, IfOk, Result}
use Rattle.std.specs.List.{list_all, list_any}
use Rattle.std.proofs.lemmas.Bool.{and_parts, and_from, or_parts, or_from, not_from_false, ltb-false, lt-ltb, le-leb, leb-true, eq-eqb, not-true, both_ways}
use Rattle.std.proofs.lemmas.List.Folds.{list_any-append}
use Rattle.std.proofs.lemmas.Slice.Eq.{bytes_eq-Decides}
use Rattle.vx_base.proofs.Any.{all_weaker, all_push}
use Rattle.vx_image.specs.WellFormed.{rises_above}
use Rattle.vx_text.specs.declared.token.Tok.{Tok}
use Rattle.vx_script.specs.Declarations.{is_fault_of, fresh_fault, fault_line}
use Rattle.vx_script.specs.Fields.{end_at, name_at, number_at}
use Rattle.vx_script.specs.Resolving.{fault_if, numbers_of}
use Rattle.vx_script.specs.Places.{in_place, rising}
use Rattle.vx_script.specs.declared.fault.FaultKind.{FaultKind}
use Rattle.vx_script.specs.declared.lines.FaultLine.{FaultLine}
use Rattle.vx_script.proofs.Appended.{all_flat, same_back, equal_back}
use Rattle.vx_script.proofs.Chains.{after, after_by}
use Rattle.vx_script.proofs.InRange.{number}
use Rattle.vx_base.proofs.Bools.{either_by}
use Rattle.std.specs.Int.{IsInRange}

abbrev pub is_number : ℕ → Bool
is_number n = nat_le 1 n && nat_le n 100000

abbrev pub is_numbered : FaultLine → Bool
is_numbered f = is_number f.number

-- no two lines name one service of one unit
abbrev pub are_apart : List FaultLine → Bool
are_apart [] = true
are_apart (f ∷ fs) = not (list_any (is_fault_of f.unit f.number) fs) && are_apart fs

fault_back : (f g : FaultLine) → is_fault_of f.unit f.number g ≡ is_fault_of g.unit g.number f
fault_back f g = ap (λ t. t && (f.number == g.number)) (same_back f.unit g.unit) ∙ ap (λ t. bytes_eq g.unit f.unit && t) (equal_back f.number g.number)

apart_push : (fs : List FaultLine) (f : FaultLine) → are_apart fs ≡ true → list_any (is_fault_of f.unit f.number) fs ≡ false → are_apart (fs ++ f ∷ []) ≡ true
apart_push [] f h k = refl
apart_push (g ∷ gs) f h k =
    let parts = and_parts (not (list_any (is_fault_of g.unit g.number) gs)) (are_apart gs) h in
    let apart = or_parts (is_fault_of f.unit f.number g) (list_any (is_fault_of f.unit f.number) gs) k in
    let old = not-true (list_any (is_fault_of g.unit g.number) gs) parts.0 in
    let new : is_fault_of g.unit g.number f ≡ false = fault_back g f ∙ apart.0 in
    let none : list_any (is_fault_of g.unit g.number) (gs ++ f ∷ []) ≡ false =
    list_any-append (is_fault_of g.unit g.number) gs (f ∷ []) ∙ or_from (list_any (is_fault_of g.unit g.number) gs)
    (is_fault_of g.unit g.number f || false) old (or_from (is_fault_of g.unit g.number f) false new refl) in
    and_from (not (list_any (is_fault_of g.unit g.number) (gs ++ f ∷ []))) (are_apart (gs ++ f ∷ [])) (not_from_false _ none) (apart_push gs f parts.1 apart.1)

-- numbers from 1 to 100,000, and each of a unit once
pub record AreFaults (faults : List FaultLine) : Type 0 where
  pub numbers : list_all is_numbered faults ≡ true
  pub apart : are_apart faults ≡ true

abbrev pub WithFault : List FaultLine → FaultLine → Type 0
WithFault faults f = AreFaults (faults ++ f ∷ [])

abbrev IsFreshFault : List ℕ → ℕ → List FaultLine → ℕ → Type 0
IsFreshFault unit n faults number = (number ≡ n) × (list_any (is_fault_of unit n) faults ≡ false)

fresh_fault_is : (unit : List ℕ) (n : ℕ) (faults : List FaultLine) → IfOk (fresh_fault unit n faults) (IsFreshFault unit n faults)
fresh_fault_is unit n faults =
    either_by {A = Result ℕ FaultKind} (λ r. IfOk r (IsFreshFault unit n faults)) (list_any (is_fault_of unit n) faults) _ _ (λ _. tt) (λ e. (refl, e))

pub fault_read : (line : ℕ) (faults : List FaultLine) (tokens : List Tok) → AreFaults faults → IfOk (fault_line line faults tokens) (WithFault faults)
unfolding fault_line
fault_read line faults tokens h =
    after (name_at tokens) _ (WithFault faults) λ unit _.
    after_by (number_at 1 100000 (drop 1 tokens)) _ (IsInRange 1 100000) (WithFault faults) (number 1 100000 (drop 1 tokens)) λ n k.
    after_by (fresh_fault unit n faults) _ (IsFreshFault unit n faults) (WithFault faults) (fresh_fault_is unit n faults) λ m new.
    after (end_at (drop 2 tokens)) _ (WithFault faults) λ _ _.
    let f : FaultLine = record { line = line; unit = unit; number = m } in
    let in_range : is_number m ≡ true = rw new.0 (and_from (nat_le 1 n) (nat_le n 100000) (le-leb 1 n k.0) (le-leb n 100000 k.1)) in
    record { numbers = all_push is_numbered faults f h.numbers in_range; apart = apart_push faults f h.apart (rw new.0 new.1) }

-- The numbers of one unit.

abbrev are_different : List ℕ → Bool
are_different [] = true
are_different (n ∷ ns) = list_all (λ m. not (n == m)) ns && are_different ns

not_this : (name : List ℕ) (n : ℕ) (f : FaultLine) (ns : List ℕ) (t : Bool) → t && (n == f.number) ≡ false
    → list_all (λ m. not (n == m)) ns ≡ true → list_all (λ m. not (n == m)) (cond t (f.number ∷ []) [] ++ ns) ≡ true
not_this name n f ns true h k = and_from (not (n == f.number)) (list_all (λ m. not (n == m)) ns) (not_from_false (n == f.number) h) k
not_this name n f ns false h k = k

number_absent : (name : List ℕ) (n : ℕ) (fs : List FaultLine) → list_any (is_fault_of name n) fs ≡ false
    → list_all (λ m. not (n == m)) (numbers_of name fs) ≡ true
number_absent name n [] h = refl
number_absent name n (f ∷ fs) h =
    let parts = or_parts (is_fault_of name n f) (list_any (is_fault_of name n) fs) h in
    not_this name n f (numbers_of name fs) (bytes_eq name f.unit) parts.0 (number_absent name n fs parts.1)

different : (name : List ℕ) (fs : List FaultLine) → are_apart fs ≡ true → are_different (numbers_of name fs) ≡ true
different name [] h = refl
different name (f ∷ fs) h =
    let parts = and_parts (not (list_any (is_fault_of f.unit f.number) fs)) (are_apart fs) h in
    let none = not-true (list_any (is_fault_of f.unit f.number) fs) parts.0 in
    let rest = different name fs parts.1 in
    either_by (λ ns. are_different (ns ++ numbers_of name fs) ≡ true) (bytes_eq name f.unit) (f.number ∷ []) []
    (λ e. and_from (list_all (λ m. not (f.number == m)) (numbers_of name fs)) (are_different (numbers_of name fs))
    (number_absent name f.number fs (ap (λ unit. list_any (is_fault_of unit f.number) fs) ((bytes_eq-Decides name f.unit).0 e) ∙ none)) rest)
    (λ _. rest)

numbers_are : (name : List ℕ) (fs : List FaultLine) → list_all is_numbered fs ≡ true → list_all is_number (numbers_of name fs) ≡ true
numbers_are name fs h =
    all_flat is_numbered is_number (fault_if name)
    (λ f k. either_by (λ ns. list_all is_number ns ≡ true) (bytes_eq name f.unit) (f.number ∷ []) [] (λ _. and_from (is_number f.number) true k refl) (λ _. refl))
    fs h

-- Numbers in order.

all_in_place : (p : ℕ → Bool) (n : ℕ) (ms : List ℕ) → p n ≡ true → list_all p ms ≡ true → list_all p (in_place n ms) ≡ true
all_in_place p n [] h k = and_from (p n) true h refl
all_in_place p n (m ∷ ms) h k =
    let parts = and_parts (p m) (list_all p ms) k in
    either_by (λ ns. list_all p ns ≡ true) (nat_lt n m) (n ∷ m ∷ ms) (m ∷ in_place n ms) (λ _. and_from (p n) (p m && list_all p ms) h k)
    (λ _. and_from (p m) (list_all p (in_place n ms)) parts.0 (all_in_place p n ms h parts.1))

all_rising : (p : ℕ → Bool) (ns : List ℕ) → list_all p ns ≡ true → list_all p (rising ns) ≡ true
all_rising p [] h = refl
all_rising p (n ∷ ns) h = let parts = and_parts (p n) (list_all p ns) h in all_in_place p n (rising ns) parts.0 (all_rising p ns parts.1)

above : (n m : ℕ) → nat_lt n m ≡ false → not (n == m) ≡ true → nat_lt m n ≡ true
above n m h k = lt-ltb m n (omega (arith, ltb-false n m h, unequal))
  where
    unequal : n ≡ m → ⊥
    unequal e = both_ways (n == m) (not-true (n == m) k) (eq-eqb n m e)

rises_in_place : (k n : ℕ) (ms : List ℕ) → rises_above k ms ≡ true → nat_lt k n ≡ true → list_all (λ m. not (n == m)) ms ≡ true
    → rises_above k (in_place n ms) ≡ true
rises_in_place k n [] h l none = and_from (nat_lt k n) true l refl
rises_in_place k n (m ∷ ms) h l none =
    let parts = and_parts (nat_lt k m) (rises_above m ms) h in
    let other = and_parts (not (n == m)) (list_all (λ m. not (n == m)) ms) none in
    either_by (λ ns. rises_above k ns ≡ true) (nat_lt n m) (n ∷ m ∷ ms) (m ∷ in_place n ms)
    (λ e. and_from (nat_lt k n) (nat_lt n m && rises_above m ms) l (and_from (nat_lt n m) (rises_above m ms) e parts.1))
    (λ e. and_from (nat_lt k m) (rises_above m (in_place n ms)) parts.0 (rises_in_place m n ms parts.1 (above n m e other.0) other.1))

rises : (ns : List ℕ) → are_different ns ≡ true → list_all is_number ns ≡ true → rises_above 0 (rising ns) ≡ true
rises [] h k = refl
rises (n ∷ ns) h k =
    let parts = and_parts (list_all (λ m. not (n == m)) ns) (are_different ns) h in
    let range = and_parts (is_number n) (list_all is_number ns) k in
    let first = and_parts (nat_le 1 n) (nat_le n 100000) range.0 in
    rises_in_place 0 n (rising ns) (rises ns parts.1 range.1) (lt-ltb 0 n (leb-true 1 n first.0)) (all_rising (λ m. not (n == m)) ns parts.0)

pub faults_rise : (name : List ℕ) (fs : List FaultLine) → AreFaults fs → rises_above 0 (rising (numbers_of name fs)) ≡ true
faults_rise name fs h = rises (numbers_of name fs) (different name fs h.apart) (numbers_are name fs h.numbers)

pub faults_within : (name : List ℕ) (fs : List FaultLine) → AreFaults fs → list_all (λ n. nat_le n 100000) (rising (numbers_of name fs)) ≡ true
faults_within name fs h =
    let ns = rising (numbers_of name fs) in
    let all : list_all is_number ns ≡ true = all_rising is_number (numbers_of name fs) (numbers_are name fs h.numbers) in
    all_weaker is_number (λ n. nat_le n 100000) (λ n k. (and_parts (nat_le 1 n) (nat_le n 100000) k).1) ns all
