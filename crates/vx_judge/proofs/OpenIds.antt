-- The ids of which something may be open: what holds of each of them holds of each id up to the highest.
use mathlib.Core.Bool.{and-false}
use Rattle.std.proofs.Common.{◌≡◌, ℕ, zero, suc, ◌<◌, ◌≤◌, Bool, true, false, cond, not, ◌&&◌, ◌||◌, ◌==◌, nat_lt, List, [], ◌∷◌, Option, Some, None, refl, sym, ap, ◌∙◌, arith, eq-eqb, option_map}
use Rattle.std.proofs.lemmas.Bool.{ne_eqb, eqb-true, and_parts, lt-ltb, ltb-true, ltb-false, or_left}
use Rattle.std.specs.List.{list_all, list_any, filter}
use Rattle.vx_base.specs.declared.effects.Effect.TheVariants as effect
use Rattle.vx_record.specs.Types.{Id, Pid}
use Rattle.vx_base.specs.declared.record.Event.TheVariants as event
use Rattle.vx_laws.specs.Items.{Item, Head, Did, is_id}
use Rattle.vx_laws.specs.Lives.{Life, life, lived, subject, is_about, highest, id_of, all_ids, is_open, is_handler}
use Rattle.vx_laws.specs.RundownLaw.{is_left_of, is_of, is_later_handler}
use Rattle.vx_judge.specs.Lives.{kept, IsOf}
use Rattle.vx_judge.specs.OpenIds.{HasOpen, has_open, is_open_in}
use Rattle.vx_judge.specs.declared.lives.Lives.{Lives}
use Rattle.vx_laws.proofs.Shares.{lived_none, still_none}
use Rattle.vx_laws.proofs.Openings.{is_open_item}
use Rattle.vx_base.specs.Lists.{is_some_and}

pub by_cases : {A : Type 0} (b : Bool) → (b ≡ true → A) → (b ≡ false → A) → A
by_cases true f g = f refl
by_cases false f g = g refl

-- An id above the highest was not opened.

above_both : (b : Bool) (m i k : ℕ) → nat_lt m i ≡ b → cond b i m < k → (i < k) × (m < k)
above_both true m i k e h = (h, let l : nat_lt m i ≡ true = e in omega (arith, h, ltb-true m i l))
above_both false m i k e h = (by_cases (nat_lt i k) (λ t. ltb-true i k t) (λ f. absurd (let never : true ≡ false = sym (lt-ltb m i (let n = ltb-false i k f in omega (arith, h, n))) ∙ e in cc)), h)

pub known : (past : List Item) (id : Id) → highest past < id.0 → life past id ≡ None
known [] id h = refl
known (Did (effect.Open i kind p mode n) ∷ past) id h =
    let both = above_both (nat_lt (highest past) i.0) (highest past) i.0 id.0 refl h in
    let below = both.0 in
    rw (ne_eqb i.0 id.0 (λ e. let never : ⊥ = omega (arith, below, e) in never)) (known past id both.1)
known (x ∷ past) id h = still_none x past id refl (known past id h)

-- What is open was open, or is opened.

or_weaker : (a b c : Bool) → ((a && c) || b) ≡ true → (a || b) ≡ true
or_weaker true b c h = refl
or_weaker false b c h = h

or_first : (a b c : Bool) → ((a && c) || false) ≡ true → (a || b) ≡ true
or_first true b c h = refl
or_first false b c h = absurd (let never : false ≡ true = h in cc)

or_body : (a b : Bool) → (a || false) ≡ true → (a || b) ≡ true
or_body true b h = refl
or_body false b h = absurd (let never : false ≡ true = h in cc)

lives_open : (past : List Item) (x : Item) (l : Option Life) → is_open_item x ≡ false → is_some_and is_open (lived past x l) ≡ true → is_some_and is_open l ≡ true
lives_open past x None o h = absurd (let e : is_some_and is_open (lived past x None) ≡ false = rw (lived_none past x o) refl in cc)
lives_open past (Did (effect.Open id kind p mode n)) (Some l) o h = absurd (let never : true ≡ false = o in cc)
lives_open past (Did (effect.Fin id c)) (Some l) o h = or_weaker l.body l.routine _ h
lives_open past (Did (effect.Fire id)) (Some l) o h = or_weaker l.body l.routine _ h
lives_open past (Did (effect.Enter id)) (Some l) o h = or_weaker l.body l.routine _ h
lives_open past (Did (effect.Drop id)) (Some l) o h = or_first l.body l.routine _ h
lives_open past (Head (event.Ast p) a) (Some l) o h = or_body l.body l.routine h
lives_open past (Head (event.Beg u) a) (Some l) o h = h
lives_open past x (Some l) o h = h

was_open : (b : Bool) (past : List Item) (x : Item) (l : Option Life) → is_open_item x ≡ false → is_some_and is_open (cond b (lived past x l) l) ≡ true → is_some_and is_open l ≡ true
was_open true past x l o h = lives_open past x l o h
was_open false past x l o h = h

-- The list follows the past.

pub open_on : (ids : List Id) (past : List Item) (x : Item) → is_open_item x ≡ false → HasOpen ids past → HasOpen ids (x ∷ past)
open_on ids past x o h = λ id e. h id (was_open (is_about (subject x) id) past x (life past id) o e)

-- those alone that are open
pub filtered : (id : Id) (test : Id → Bool) (ids : List Id) → test id ≡ true → list_any (is_id id) ids ≡ true → list_any (is_id id) (filter test ids) ≡ true
filtered id test [] t h = h
filtered id test (i ∷ ids) t h =
    by_cases (is_id id i)
    (λ same.
    let n : id.0 ≡ i.0 = eqb-true id.0 i.0 same in
    let it : id ≡ i = ap (λ k. record { 0 = k }) n in
    let u : test i ≡ true = rw it at t in
    rw (u, same) refl)
    (λ other.
    let rest : list_any (is_id id) ids ≡ true = rw other at h in
    by_cases (test i)
    (λ u. rw (u, other) (filtered id test ids t rest))
    (λ u. rw u (filtered id test ids t rest)))

open_kept : (l : Option Life) → has_open (option_map kept l) ≡ is_some_and is_open l
open_kept None = refl
open_kept (Some l) = refl

pub open_filtered : (t : Lives) (ids : List Id) (past : List Item) → IsOf t past → HasOpen ids past → HasOpen (filter (is_open_in t) ids) past
open_filtered t ids past is h = λ id e. filtered id (is_open_in t) ids (ap has_open (is id) ∙ (open_kept (life past id) ∙ e)) (h id e)

-- What is asked of each of them is asked of each id.

all_listed : (test : Id → Bool) (id : Id) (ids : List Id) → list_any (is_id id) ids ≡ true → list_all test ids ≡ true → test id ≡ true
all_listed test id [] h all = absurd (let never : false ≡ true = h in cc)
all_listed test id (i ∷ ids) h all =
    let both = and_parts (test i) (list_all test ids) all in
    by_cases (is_id id i)
    (λ same.
    let n : id.0 ≡ i.0 = eqb-true id.0 i.0 same in
    let it : id ≡ i = ap (λ k. record { 0 = k }) n in
    rw it both.0)
    (λ other. let rest : list_any (is_id id) ids ≡ true = rw other at h in all_listed test id ids rest both.1)

some_fails : (test : Id → Bool) (ids : List Id) (A : Type 0) → list_all test ids ≡ false → ((id : Id) → test id ≡ false → A) → A
some_fails test [] A h k = absurd (let never : true ≡ false = h in cc)
some_fails test (i ∷ ids) A h k = by_cases (test i) (λ t. let rest : list_all test ids ≡ false = rw t at h in some_fails test ids A rest k) (λ f. k i f)

all_ids_from : (test : Id → Bool) (n : ℕ) → ((id : Id) → 1 ≤ id.0 → test id ≡ true) → all_ids test n ≡ true
all_ids_from test zero k = refl
all_ids_from test (suc n) k = rw (k (id_of (suc n)) (omega arith)) (all_ids_from test n k)

all_ids_fails : (test : Id → Bool) (n : ℕ) (id : Id) → 1 ≤ id.0 → id.0 ≤ n → test id ≡ false → all_ids test n ≡ false
all_ids_fails test zero id above within f = absurd (omega (arith, above, within))
all_ids_fails test (suc n) id above within f =
    by_cases (suc n == id.0)
    (λ same.
    let n1 : suc n ≡ id.0 = eqb-true (suc n) id.0 same in
    let it : id_of (suc n) ≡ id = ap id_of n1 in
    let g : test (id_of (suc n)) ≡ false = rw it f in
    rw g refl)
    (λ other.
    let apart : (suc n ≡ id.0) → ⊥ = λ e. let t = eq-eqb (suc n) id.0 e in let never : true ≡ false = sym t ∙ other in cc in
    rw (all_ids_fails test n id above (omega (arith, within, apart)) f) (and-false (test (id_of (suc n)))))

bool_same : (a b : Bool) → (a ≡ true → b ≡ true) → (a ≡ false → b ≡ false) → a ≡ b
bool_same true b h k = sym (h refl)
bool_same false b h k = sym (k refl)

lives_some : (o : Option Life) → o ≡ None → is_some_and is_open o ≡ true → ⊥
lives_some o e h = let f : is_some_and is_open o ≡ false = rw e refl in let never : true ≡ false = sym h ∙ f in cc

-- ids count from 1
counted_bad : (b c : Bool) → not (not b && c) ≡ false → (b ≡ false) × (c ≡ true)
counted_bad true c h = absurd (let never : true ≡ false = h in cc)
counted_bad false true h = (refl, refl)
counted_bad false false h = absurd (let never : true ≡ false = h in cc)

pub all_of_open : (bad : Id → Bool) (past : List Item) (ids : List Id) → HasOpen ids past → ((id : Id) → bad id ≡ true → is_some_and is_open (life past id) ≡ true) →
    list_all (λ id. not (not (id.0 == 0) && bad id)) ids ≡ all_ids (λ id. not (bad id)) (highest past)
all_of_open bad past ids has opened = bool_same _ _ every some
  where
    test : Id → Bool
    test id = not (not (id.0 == 0) && bad id)

    good : (id : Id) → list_all test ids ≡ true → 1 ≤ id.0 → not (bad id) ≡ true
    good id all above = by_cases (bad id)
        (λ is.
        let here : test id ≡ true = all_listed test id ids (has id (opened id is)) all in
        let n : (id.0 == 0) ≡ false = ne_eqb id.0 0 (λ e. let never : ⊥ = omega (arith, e, above) in never) in
        let never : test id ≡ false = rw (n, is) refl in cc)
        (λ is. rw is refl)

    every : list_all test ids ≡ true → all_ids (λ id. not (bad id)) (highest past) ≡ true
    every all = all_ids_from (λ id. not (bad id)) (highest past) (λ id above. good id all above)

    some : list_all test ids ≡ false → all_ids (λ id. not (bad id)) (highest past) ≡ false
    some fails = some_fails test ids _ fails (λ id f.
        let two = counted_bad (id.0 == 0) (bad id) f in
        let apart : (id.0 ≡ 0) → ⊥ = λ e. let t = eq-eqb id.0 0 e in let z = two.0 in let never : true ≡ false = sym t ∙ z in cc in
        let b = two.1 in
        let within : id.0 ≤ highest past = by_cases (nat_lt (highest past) id.0)
        (λ t. absurd (lives_some (life past id) (known past id (ltb-true (highest past) id.0 t)) (opened id b)))
        (λ g. ltb-false (highest past) id.0 g) in
        let bad_here : not (bad id) ≡ false = rw b refl in
        all_ids_fails (λ id. not (bad id)) (highest past) id (omega (arith, apart)) within bad_here)

-- What is left, and what is a later handler, is open.

pub left_is_open : (p : Pid) (l : Option Life) → is_some_and (is_left_of p) l ≡ true → is_some_and is_open l ≡ true
left_is_open p None h = h
left_is_open p (Some l) h = (and_parts (is_open l) (is_of p l) h).0

pub later_is_open : (id : Id) (l : Life) (j : Id) (k : Option Life) → is_some_and (is_later_handler id l j) k ≡ true → is_some_and is_open k ≡ true
later_is_open id l j None h = h
later_is_open id l j (Some k) h =
    let more = (and_parts (nat_lt id.0 j.0) _ h).1 in
    let body = (and_parts (is_handler k.kind) _ more).1 in
    or_left k.body k.routine (and_parts k.body _ body).0
