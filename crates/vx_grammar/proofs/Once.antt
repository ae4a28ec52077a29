-- What stands once: of names that differ, none is among those that stand already.
use Rattle.std.proofs.Common.{◌≡◌, ℕ, ◌||◌, not, Bool, true, false, List, [], ◌∷◌, map, bytes_eq, refl, sym, ◌∙◌}
use Rattle.std.specs.List.{list_any}
use Rattle.std.proofs.lemmas.Bool.{and_parts, and_from, or_parts, or_from, not_from_false, not-true}
use Rattle.vx_image.specs.WellFormed.{is_among, are_distinct}

-- one more stands
pub record OneMore {A : Type 0} (name : A → List ℕ) (stands more : A → Bool) (x : A) : Type 0 where
  pub each : (y : A) → more y ≡ (bytes_eq (name x) (name y) || stands y)

pub still_none : {A : Type 0} (name : A → List ℕ) (stands more : A → Bool) (x : A) → OneMore name stands more x → (ys : List A)
    → is_among (name x) (map name ys) ≡ false → list_any stands ys ≡ false → list_any more ys ≡ false
still_none name stands more x one [] h k = refl
still_none name stands more x one (y ∷ ys) h k =
    let p = or_parts (bytes_eq (name x) (name y)) (is_among (name x) (map name ys)) h in
    let q = or_parts (stands y) (list_any stands ys) k in
    or_from (more y) (list_any more ys) (one.each y ∙ or_from (bytes_eq (name x) (name y)) (stands y) p.0 q.0) (still_none name stands more x one ys p.1 q.1)

pub none_before : {A : Type 0} (name : A → List ℕ) (stands more : A → Bool) (x : A) → OneMore name stands more x → (ys : List A)
    → list_any more ys ≡ false → (is_among (name x) (map name ys) ≡ false) × (list_any stands ys ≡ false)
none_before name stands more x one [] h = (refl, refl)
none_before name stands more x one (y ∷ ys) h =
    let p = or_parts (more y) (list_any more ys) h in
    let q = or_parts (bytes_eq (name x) (name y)) (stands y) (sym (one.each y) ∙ p.0) in
    let r = none_before name stands more x one ys p.1 in
    (or_from (bytes_eq (name x) (name y)) (is_among (name x) (map name ys)) q.0 r.0, or_from (stands y) (list_any stands ys) q.1 r.1)

-- the names of these differ, and none of them stands
pub record AreNew {A : Type 0} (name : A → List ℕ) (stands : A → Bool) (xs : List A) : Type 0 where
  pub none : list_any stands xs ≡ false
  pub apart : are_distinct (map name xs) ≡ true

pub and_new : {A : Type 0} (name : A → List ℕ) (stands more : A → Bool) (x : A) (xs : List A) → OneMore name stands more x
    → stands x ≡ false → AreNew name more xs → AreNew name stands (x ∷ xs)
and_new name stands more x xs one h k =
    let p = none_before name stands more x one xs k.none in
    record {
      none = or_from (stands x) (list_any stands xs) h p.1;
      apart = and_from (not (is_among (name x) (map name xs))) (are_distinct (map name xs)) (not_from_false (is_among (name x) (map name xs)) p.0) k.apart;
    }

pub first_new : {A : Type 0} (name : A → List ℕ) (stands : A → Bool) (x : A) (xs : List A) → AreNew name stands (x ∷ xs) → stands x ≡ false
first_new name stands x xs h = (or_parts (stands x) (list_any stands xs) h.none).0

pub rest_new : {A : Type 0} (name : A → List ℕ) (stands more : A → Bool) (x : A) (xs : List A) → OneMore name stands more x
    → AreNew name stands (x ∷ xs) → AreNew name more xs
rest_new name stands more x xs one h =
    let p = and_parts (not (is_among (name x) (map name xs))) (are_distinct (map name xs)) h.apart in
    record {
      none = still_none name stands more x one xs (not-true (is_among (name x) (map name xs)) p.0) (or_parts (stands x) (list_any stands xs) h.none).1;
      apart = p.1;
    }
