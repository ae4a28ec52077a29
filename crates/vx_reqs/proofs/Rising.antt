-- Places whose ids rise.
use Rattle.std.proofs.Common.{◌≡◌, ◌≢◌, ℕ, ◌+◌, ◌<◌, ◌≤◌, List, [], ◌∷◌, ◌++◌, Bool, true, false, cond, Option, Some, None, length, get_or, refl, ap, sym, subst, ◌∙◌, arith, suc, zero, position, nat_lt, lt-ltb, le-ltb, ne_eqb}
use Rattle.std.specs.List.{filter, position_or_len}
use Rattle.std.proofs.lemmas.List.Sums.{position_or_len_is}
use Rattle.vx_base.specs.Lists.{amend}
use Rattle.vx_record.specs.Types.{Id, Request}
use Rattle.vx_reqs.specs.Places.{Place, holds, is_held, changed, IsOwn, Rises}
use Rattle.vx_record.specs.Finish.{this_request}

-- each place has its own id, which is not below the first bound
pub rises_at : (low : ℕ) (xs : List Place) (next : ℕ) → Rises low xs next → (k : ℕ) (d : Place) → k < length xs → IsOwn (get_or xs k d) × (low ≤ (get_or xs k d).id.0)
rises_at low [] next h k d lt = absurd (omega arith)
rises_at low (x ∷ xs) next h zero d lt = (h.0, h.1)
rises_at low (x ∷ xs) next h (suc k) d lt =
    let rest = rises_at (x.id.0 + 1) xs next h.2 k d (omega arith) in
    (rest.0, omega (arith, rest.1, h.1))

pub rises_between : (low : ℕ) (xs : List Place) (next : ℕ) → Rises low xs next → (i j : ℕ) (d : Place) → i < j → j < length xs → (get_or xs i d).id.0 < (get_or xs j d).id.0
rises_between low [] next h i j d lt in_range = absurd (omega arith)
rises_between low (x ∷ xs) next h i zero d lt in_range = absurd (omega arith)
rises_between low (x ∷ xs) next h zero (suc j) d lt in_range =
    let rest = rises_at (x.id.0 + 1) xs next h.2 j d (omega arith) in
    omega (arith, rest.1)
rises_between low (x ∷ xs) next h (suc i) (suc j) d lt in_range = rises_between (x.id.0 + 1) xs next h.2 i j d (omega arith) (omega arith)

-- a place of its own holds no request with another id
other_in : (id i : Id) (o : Option Request) → IsOwn (record { id = i; request = o }) → i.0 ≢ id.0 → holds (this_request id) (record { id = i; request = o }) ≡ false
other_in id i None own differs = refl
other_in id i (Some r) own differs = ne_eqb r.req.id.0 id.0 (λ e. differs (sym own ∙ e))

pub is_other : (id : Id) (x : Place) → IsOwn x → x.id.0 ≢ id.0 → holds (this_request id) x ≡ false
is_other id x own differs = other_in id x.id x.request own differs

-- if none passes before a place that does, it is the first
pub place_first : {X : Type 0} (p : X → Bool) (xs : List X) (i : ℕ) (d : X) → i < length xs → ((k : ℕ) → k < i → p (get_or xs k d) ≡ false) → p (get_or xs i d) ≡ true → Some i ≡ position p xs
place_first p xs i d within before here =
    let at : position_or_len p xs ≡ i = position_or_len_is p xs i d (omega arith) before (λ _. here) in
    let is : Some i ≡ cond (nat_lt i (length xs)) (Some i) None = sym (ap (λ (b : Bool). cond b (Some i) None) (lt-ltb i (length xs) within)) in
    subst (λ (n : ℕ). Some i ≡ cond (nat_lt n (length xs)) (Some n) None) (sym at) is

pub place_none : {X : Type 0} (p : X → Bool) (xs : List X) → ((k : ℕ) (e : X) → k < length xs → p (get_or xs k e) ≡ false) → None ≡ position p xs
place_none p [] none = refl
place_none p (x ∷ xs) none =
    let n = length (x ∷ xs) in
    let at : position_or_len p (x ∷ xs) ≡ n = position_or_len_is p (x ∷ xs) n x (omega arith) (λ k lt. none k x lt) (λ lt. absurd (omega (arith, lt))) in
    let is : None ≡ cond (nat_lt n n) (Some n) None = sym (ap (λ (b : Bool). cond b (Some n) None) (le-ltb n n (omega arith))) in
    subst (λ (m : ℕ). None ≡ cond (nat_lt m n) (Some m) None) (sym at) is

-- one more, with an id that is not below the bound
pub rises_put : (low : ℕ) (xs : List Place) (next : ℕ) (x : Place) → Rises low xs next → next ≤ x.id.0 → IsOwn x → Rises low (xs ++ x ∷ []) (x.id.0 + 1)
rises_put low [] next x h above own = (own, omega (arith, h, above), omega arith)
rises_put low (y ∷ ys) next x h above own = (h.0, h.1, rises_put (y.id.0 + 1) ys next x h.2 above own)

-- a change that leaves the id
pub rises_amend : (q : Place → Bool) (g : Place → Place) (same : (x : Place) → (g x).id.0 ≡ x.id.0) (own : (x : Place) → IsOwn x → IsOwn (g x)) (low : ℕ) (xs : List Place) (next : ℕ) → Rises low xs next → Rises low (amend q g xs) next
rises_amend q g same own low [] next h = h
rises_amend q g same own low (x ∷ xs) next h =
    elim (q x) as (λ b. Rises low (cond b (g x ∷ xs) (x ∷ amend q g xs)) next) [
      | true ↦ (own x h.0, subst (λ n. low ≤ n) (sym (same x)) h.1, subst (λ n. Rises (n + 1) xs next) (sym (same x)) h.2)
      | false ↦ (h.0, h.1, rises_amend q g same own (x.id.0 + 1) xs next h.2)
    ]

own_in : (f : Request → Request) (same : (r : Request) → (f r).req.id.0 ≡ r.req.id.0) (i : Id) (o : Option Request) → IsOwn (record { id = i; request = o }) → IsOwn (changed f (record { id = i; request = o }))
own_in f same i None own = tt
own_in f same i (Some r) own = same r ∙ own

pub own_changed : (f : Request → Request) (same : (r : Request) → (f r).req.id.0 ≡ r.req.id.0) (x : Place) → IsOwn x → IsOwn (changed f x)
own_changed f same x own = own_in f same x.id x.request own

pub rises_from : (lower low : ℕ) (xs : List Place) (next : ℕ) → lower ≤ low → Rises low xs next → Rises lower xs next
rises_from lower low [] next le h = omega (arith, le, h)
rises_from lower low (x ∷ xs) next le h = (h.0, omega (arith, le, h.1), h.2)

-- without the places that are left
pub rises_kept : (low : ℕ) (xs : List Place) (next : ℕ) → Rises low xs next → Rises low (filter is_held xs) next
rises_kept low [] next h = h
rises_kept low (x ∷ xs) next h =
    let rest = rises_kept (x.id.0 + 1) xs next h.2 in
    elim (is_held x) as (λ b. Rises low (cond b (x ∷ filter is_held xs) (filter is_held xs)) next) [
      | true ↦ (h.0, h.1, rest)
      | false ↦ rises_from low (x.id.0 + 1) (filter is_held xs) next (omega (arith, h.1)) rest
    ]
