-- The least id that passes, of a list that has each that passes.
use Rattle.std.proofs.Common.{◌≡◌, ℕ, zero, suc, ◌<◌, ◌≤◌, Bool, true, false, not, ◌&&◌, ◌==◌, nat_lt, List, [], ◌∷◌, Option, Some, None, refl, sym, ap, ◌∙◌, arith, eq-eqb}
use Rattle.std.proofs.lemmas.Bool.{eqb-true, ltb-true, ltb-false, ne_eqb}
use Rattle.std.specs.List.{list_any}
use Rattle.vx_record.specs.Types.{Id}
use Rattle.vx_laws.specs.Items.{is_id}
use Rattle.vx_laws.specs.Lives.{id_of, least_id}
use Rattle.vx_judge.specs.Readers.{lesser, if_passes, least_of}
use Rattle.vx_judge.proofs.OpenIds.{by_cases}

-- Of the ids up to a number.

none_below : (test : Id → Bool) (n : ℕ) → ((id : Id) → 1 ≤ id.0 → test id ≡ false) → least_id test n ≡ None
none_below test zero fails = refl
none_below test (suc n) fails = rw (none_below test n fails, fails (id_of (suc n)) (omega arith)) refl

none_up_to : (test : Id → Bool) (n : ℕ) → ((id : Id) → 1 ≤ id.0 → id.0 ≤ n → test id ≡ false) → least_id test n ≡ None
none_up_to test zero fails = refl
none_up_to test (suc n) fails = rw (none_up_to test n (λ id a w. fails id a (omega (arith, w))), fails (id_of (suc n)) (omega arith) (omega arith)) refl

least_here : (test : Id → Bool) (n : ℕ) (i : Id) → 1 ≤ i.0 → i.0 ≤ n → test i ≡ true → ((id : Id) → 1 ≤ id.0 → id.0 < i.0 → test id ≡ false) → least_id test n ≡ Some i
least_here test zero i above within t fails = absurd (omega (arith, above, within))
least_here test (suc n) i above within t fails =
    by_cases (suc n == i.0)
    (λ same.
    let n1 : suc n ≡ i.0 = eqb-true (suc n) i.0 same in
    let it : id_of (suc n) ≡ i = ap id_of n1 in
    let passes : test (id_of (suc n)) ≡ true = rw it t in
    rw (none_up_to test n (λ id a w. fails id a (omega (arith, w, n1))), passes) (ap Some it))
    (λ other.
    let apart : (suc n ≡ i.0) → ⊥ = λ e. let never : true ≡ false = sym (eq-eqb (suc n) i.0 e) ∙ other in cc in
    rw (least_here test n i above (omega (arith, within, apart)) t fails) refl)

-- Of a list.

abbrev AtMost : Option Id → Id → Type 0
AtMost None j = ⊥
AtMost (Some i) j = i.0 ≤ j.0

abbrev Passes : (Id → Bool) → Option Id → Type 0
Passes test None = true ≡ true
Passes test (Some i) = test i ≡ true

left_at_most : (a b : Option Id) (j : Id) → AtMost a j → AtMost (lesser a b) j
left_at_most None b j h = absurd h
left_at_most (Some a) None j h = h
left_at_most (Some a) (Some b) j h = by_cases (nat_lt b.0 a.0) (λ t. rw t (let l = ltb-true b.0 a.0 t in omega (arith, l, h))) (λ f. rw f h)

right_at_most : (a b : Option Id) (j : Id) → AtMost b j → AtMost (lesser a b) j
right_at_most a None j h = absurd h
right_at_most None (Some b) j h = h
right_at_most (Some a) (Some b) j h = by_cases (nat_lt b.0 a.0) (λ t. rw t h) (λ f. rw f (let l = ltb-false b.0 a.0 f in omega (arith, l, h)))

at_most : (test : Id → Bool) (ids : List Id) (j : Id) → list_any (is_id j) ids ≡ true → test j ≡ true → AtMost (least_of test ids) j
at_most test [] j h t = absurd (let never : false ≡ true = h in cc)
at_most test (i ∷ ids) j h t =
    by_cases (is_id j i)
    (λ same.
    let it : j ≡ i = ap id_of (eqb-true j.0 i.0 same) in
    let passes : test i ≡ true = rw it at t in
    left_at_most (if_passes test i) (least_of test ids) j (rw passes (let e = eqb-true j.0 i.0 same in omega (arith, e))))
    (λ other. let rest : list_any (is_id j) ids ≡ true = rw other at h in right_at_most (if_passes test i) (least_of test ids) j (at_most test ids j rest t))

lesser_passes : (test : Id → Bool) (a b : Option Id) → Passes test a → Passes test b → Passes test (lesser a b)
lesser_passes test None b p q = q
lesser_passes test (Some a) None p q = p
lesser_passes test (Some a) (Some b) p q = by_cases (nat_lt b.0 a.0) (λ t. rw t q) (λ f. rw f p)

one_passes : (test : Id → Bool) (i : Id) → Passes test (if_passes test i)
one_passes test i = by_cases (test i) (λ t. rw t t) (λ f. rw f refl)

passes : (test : Id → Bool) (ids : List Id) → Passes test (least_of test ids)
passes test [] = refl
passes test (i ∷ ids) = lesser_passes test (if_passes test i) (least_of test ids) (one_passes test i) (passes test ids)

-- Both are one.

counted : (b c : Bool) → (not b && c) ≡ true → (b ≡ false) × (c ≡ true)
counted true c h = absurd (let never : false ≡ true = h in cc)
counted false c h = (refl, h)

same_least : (test good : Id → Bool) (n : ℕ) (o : Option Id) → ((id : Id) → test id ≡ good id) → ((id : Id) → good id ≡ true → id.0 ≤ n) →
    Passes (λ id. not (id.0 == 0) && test id) o → ((j : Id) → 1 ≤ j.0 → good j ≡ true → AtMost o j) → o ≡ least_id good n
same_least test good n None same within p least = sym (none_below good n (λ id a. by_cases (good id) (λ t. absurd (least id a t)) (λ f. f)))
same_least test good n (Some i) same within p least =
    let two = counted (i.0 == 0) (test i) p in
    let z : (i.0 ≡ 0) → ⊥ = λ e. let f = two.0 in let never : true ≡ false = rw e at f in cc in
    let g : good i ≡ true = sym (same i) ∙ two.1 in
    sym (least_here good n i (omega (arith, z)) (within i g) g (λ id a below. by_cases (good id) (λ t. absurd (let l = least id a t in omega (arith, l, below))) (λ f. f)))

pub least_is : (test good : Id → Bool) (n : ℕ) (ids : List Id) → ((id : Id) → test id ≡ good id) → ((id : Id) → good id ≡ true → list_any (is_id id) ids ≡ true) →
    ((id : Id) → good id ≡ true → id.0 ≤ n) → least_of (λ id. not (id.0 == 0) && test id) ids ≡ least_id good n
least_is test good n ids same has within =
    same_least test good n (least_of (λ id. not (id.0 == 0) && test id) ids) same within (passes (λ id. not (id.0 == 0) && test id) ids) (λ j a g.
    let apart : (j.0 == 0) ≡ false = ne_eqb j.0 0 (λ e. let never : ⊥ = omega (arith, e, a) in never) in
    at_most (λ id. not (id.0 == 0) && test id) ids j (has j g) (rw (apart, same j) g))
