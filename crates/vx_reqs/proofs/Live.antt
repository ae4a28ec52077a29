-- The requests that stand in places: found, taken out, changed and added.
use Rattle.std.proofs.Common.{◌≡◌, ℕ, ◌+◌, ◌<◌, drop, get_or, sym, ◌∙◌, List, [], ◌∷◌, ◌++◌, Bool, true, false, cond, ◌||◌, Option, Some, None, length, refl, ap, option_to_list, is_some, Result, Ok, Err, OnOk, OnErr}
use Rattle.std.specs.List.{find, list_any, filter}
use Rattle.std.proofs.lemmas.List.{drop_more}
use Rattle.vx_base.specs.Lists.{less, amend}
use Rattle.vx_record.specs.Types.{Id, Request}
use Rattle.vx_base.specs.Roomy.{Roomy}
use Rattle.vx_reqs.specs.Places.{Place, holds, is_held, emptied, changed, live}

-- the request of a place that was found
abbrev pub request_of : Option Place → Option Request
request_of None = None
request_of (Some place) = place.request

found_in : (p : Request → Bool) (i : Id) (o : Option Request) (xs : List Place) → find p (live xs) ≡ request_of (find (holds p) xs) → find p (live (record { id = i; request = o } ∷ xs)) ≡ request_of (find (holds p) (record { id = i; request = o } ∷ xs))
found_in p i None xs rest = rest
found_in p i (Some r) xs rest = elim (p r) as (λ b. cond b (Some r) (find p (live xs)) ≡ request_of (cond b (Some (record { id = i; request = Some r })) (find (holds p) xs))) [
  | true ↦ refl
  | false ↦ rest
]

-- what is found among the requests is what stands in the place that is found
pub found_live : (p : Request → Bool) (xs : List Place) → find p (live xs) ≡ request_of (find (holds p) xs)
found_live p [] = refl
found_live p (x ∷ xs) = found_in p x.id x.request xs (found_live p xs)

less_in : (p : Request → Bool) (i : Id) (o : Option Request) (xs : List Place) → live (amend (holds p) emptied xs) ≡ less p (live xs) → live (amend (holds p) emptied (record { id = i; request = o } ∷ xs)) ≡ less p (live (record { id = i; request = o } ∷ xs))
less_in p i None xs rest = rest
less_in p i (Some r) xs rest = elim (p r) as (λ b. live (cond b (record { id = i; request = None } ∷ xs) (record { id = i; request = Some r } ∷ amend (holds p) emptied xs)) ≡ cond b (live xs) (r ∷ less p (live xs))) [
  | true ↦ refl
  | false ↦ ap (λ rs. r ∷ rs) rest
]

-- the place of the first that passes emptied
pub less_live : (p : Request → Bool) (xs : List Place) → live (amend (holds p) emptied xs) ≡ less p (live xs)
less_live p [] = refl
less_live p (x ∷ xs) = less_in p x.id x.request xs (less_live p xs)

amend_in : (p : Request → Bool) (f : Request → Request) (i : Id) (o : Option Request) (xs : List Place) → live (amend (holds p) (changed f) xs) ≡ amend p f (live xs) → live (amend (holds p) (changed f) (record { id = i; request = o } ∷ xs)) ≡ amend p f (live (record { id = i; request = o } ∷ xs))
amend_in p f i None xs rest = rest
amend_in p f i (Some r) xs rest = elim (p r) as (λ b. live (cond b (record { id = i; request = Some (f r) } ∷ xs) (record { id = i; request = Some r } ∷ amend (holds p) (changed f) xs)) ≡ cond b (f r ∷ live xs) (r ∷ amend p f (live xs))) [
  | true ↦ refl
  | false ↦ ap (λ rs. r ∷ rs) rest
]

-- the first that passes changed in its place
pub amend_live : (p : Request → Bool) (f : Request → Request) (xs : List Place) → live (amend (holds p) (changed f) xs) ≡ amend p f (live xs)
amend_live p f [] = refl
amend_live p f (x ∷ xs) = amend_in p f x.id x.request xs (amend_live p f xs)

any_in : (p : Request → Bool) (i : Id) (o : Option Request) (xs : List Place) → list_any (holds p) xs ≡ list_any p (live xs) → list_any (holds p) (record { id = i; request = o } ∷ xs) ≡ list_any p (live (record { id = i; request = o } ∷ xs))
any_in p i None xs rest = rest
any_in p i (Some r) xs rest = elim (p r) as (λ b. (b || list_any (holds p) xs) ≡ (b || list_any p (live xs))) [
  | true ↦ refl
  | false ↦ rest
]

pub any_live : (p : Request → Bool) (xs : List Place) → list_any (holds p) xs ≡ list_any p (live xs)
any_live p [] = refl
any_live p (x ∷ xs) = any_in p x.id x.request xs (any_live p xs)

put_in : (o : Option Request) (rs ss ts : List Request) → ss ≡ rs ++ ts → option_to_list o ++ ss ≡ (option_to_list o ++ rs) ++ ts
put_in None rs ss ts e = e
put_in (Some r) rs ss ts e = ap (λ qs. r ∷ qs) e

-- a place more, at the end
pub live_put : (xs : List Place) (i : Id) (r : Request) → live (xs ++ record { id = i; request = Some r } ∷ []) ≡ live xs ++ r ∷ []
live_put [] i r = refl
live_put (x ∷ xs) i r = put_in x.request (live xs) _ (r ∷ []) (live_put xs i r)

kept_in : (i : Id) (o : Option Request) (xs : List Place) → live (filter is_held xs) ≡ live xs → live (filter is_held (record { id = i; request = o } ∷ xs)) ≡ live (record { id = i; request = o } ∷ xs)
kept_in i None xs rest = rest
kept_in i (Some r) xs rest = ap (λ rs. r ∷ rs) rest

-- the places that are held have all requests
pub live_kept : (xs : List Place) → live (filter is_held xs) ≡ live xs
live_kept [] = refl
live_kept (x ∷ xs) = kept_in x.id x.request xs (live_kept xs)

pub any_found : {X : Type 0} (p : X → Bool) (xs : List X) → list_any p xs ≡ is_some (find p xs)
any_found p [] = refl
any_found p (x ∷ xs) =
    let rest = any_found p xs in
    elim (p x) as (λ b. (b || list_any p xs) ≡ is_some (cond b (Some x) (find p xs))) [
      | true ↦ refl
      | false ↦ rest
    ]

-- what stands at the first place that is left comes first
pub live_next : (xs : List Place) (i : ℕ) (o : Option Request) → i < length xs → ((d : Place) → o ≡ (get_or xs i d).request) → live (drop i xs) ≡ option_to_list o ++ live (drop (i + 1) xs)
live_next xs i o within is =
    let d : Place = let j : Id = record { 0 = 0 } in record { id = j; request = None } in
    ap live (drop_more xs i d within) ∙ ap (λ (p : Option Request). option_to_list p ++ live (drop (i + 1) xs)) (sym (is d))

-- a request comes first
pub live_held : (xs : List Place) (i : ℕ) (r : Request) → i < length xs → ((d : Place) → Some r ≡ (get_or xs i d).request) → live (drop i xs) ≡ r ∷ live (drop (i + 1) xs)
live_held xs i r within is = live_next xs i (Some r) within is

-- the first place is left
pub live_left : (xs : List Place) (i : ℕ) → i < length xs → ((d : Place) → None ≡ (get_or xs i d).request) → live (drop i xs) ≡ live (drop (i + 1) xs)
live_left xs i within is = live_next xs i None within is

-- the same requests, and as much room
pub same_room : {rs ss : List Request} {m n : ℕ} → rs ≡ ss → m ≡ n → (let v : Roomy Request = record { items = rs; capacity = m } in v) ≡ record { items = ss; capacity = n }
same_room {rs} {ss} {m} {n} is wide = ap (λ (xs : List Request). let v : Roomy Request = record { items = xs; capacity = m } in v) is ∙ ap (λ (k : ℕ). let v : Roomy Request = record { items = ss; capacity = k } in v) wide

pub on_ok : {T E : Type 0} (r : Result T E) (P Q : Type 0) → (P → Q) → OnOk r P → OnOk r Q
on_ok (Ok x) P Q f h = f h
on_ok (Err e) P Q f h = tt

pub on_err : {T E : Type 0} (r : Result T E) (P Q : Type 0) → (P → Q) → OnErr r P → OnErr r Q
on_err (Ok x) P Q f h = tt
on_err (Err e) P Q f h = f h
