-- Entries in places: the first that passes found, taken out and changed; an entry put behind the others.
use Rattle.std.proofs.Common.{◌≡◌, ℕ, zero, suc, ◌+◌, ◌-◌, ◌<◌, List, [], ◌∷◌, ◌++◌, Bool, true, false, cond, not, Option, Some, None, length, map, option_map, position, slice_index_or, slice_set, is_some, nat_le, nat_lt, refl, ap, sym, ◌∙◌, arith, inl, inr}
use Rattle.std.specs.List.{filter, find, prefix_len}
use Rattle.std.proofs.lemmas.Bool.{cases_lt}
use Rattle.std.proofs.lemmas.List.{get_or-set_other, length-map}
use Rattle.std.proofs.lemmas.List.Quantifiers.{position-Some}
use Rattle.vx_base.specs.Lists.{amend, less, is_some_and}
use Rattle.vx_record.specs.Types.{Timer}
use Rattle.vx_base.specs.Queues.{least_due, sooner}
use Rattle.vx_record.specs.Timers.{is_due}
use Rattle.vx_timers.specs.Places.{entries, IsFree, time_of}
use Rattle.vx_timers.specs.Rounds.{is_by, least_of, lesser_of}
use Rattle.vx_timers.proofs.Position.{none_passes}

-- The first that passes.

-- what stands at the first place that passes is found, and taken out or changed where it stands
pub record IsFirst {A : Type 0} (p : A → Bool) (places : List (Option A)) (i : ℕ) (a : A) : Type 0 where
  pub found : find p (entries places) ≡ Some a
  pub without : entries (slice_set places i None) ≡ less p (entries places)
  pub changed : (f : A → A) → entries (slice_set places i (Some (f a))) ≡ amend p f (entries places)

pub first_there : {A : Type 0} (p : A → Bool) (places : List (Option A)) (i : ℕ) (a : A) → slice_index_or places i None ≡ Some a → p a ≡ true → ((k : ℕ) → k < i → is_some_and p (slice_index_or places k None) ≡ false) → IsFirst p places i a
first_there p [] i a e passes before = absurd (cc)
first_there p (None ∷ places) zero a e passes before = absurd (cc)
first_there {A} p (Some b ∷ places) zero a e passes before =
    let same : b ≡ a = cc in
    let yes : p b ≡ true = ap p same ∙ passes in
    record { found = rw yes (ap (λ (x : A). Some x) same); without = rw yes refl; changed = λ f. rw yes (ap (λ (x : A). f x ∷ entries places) (sym same)) }
first_there p (None ∷ places) (suc i) a e passes before =
    let rest = first_there p places i a e passes (λ k h. before (suc k) (omega (arith, h))) in
    record { found = rest.found; without = rest.without; changed = rest.changed }
first_there {A} p (Some b ∷ places) (suc i) a e passes before =
    let fails : p b ≡ false = before 0 (omega arith) in
    let rest = first_there p places i a e passes (λ k h. before (suc k) (omega (arith, h))) in
    let put : List A → List A = λ xs. b ∷ xs in
    record { found = rw fails rest.found; without = rw fails (ap put rest.without); changed = λ f. rw fails (ap put (rest.changed f)) }

-- if none passes, none is found
pub record IsNowhere {A : Type 0} (p : A → Bool) (places : List (Option A)) : Type 0 where
  pub found : None ≡ find p (entries places)
  pub without : entries places ≡ less p (entries places)
  pub changed : (f : A → A) → entries places ≡ amend p f (entries places)

pub none_there : {A : Type 0} (p : A → Bool) (places : List (Option A)) → ((k : ℕ) → k < length places → is_some_and p (slice_index_or places k None) ≡ false) → IsNowhere p places
none_there p [] before = record { found = refl; without = refl; changed = λ f. refl }
none_there p (None ∷ places) before =
    let rest = none_there p places (λ k h. before (suc k) (omega (arith, h))) in
    record { found = rest.found; without = rest.without; changed = rest.changed }
none_there {A} p (Some b ∷ places) before =
    let fails : p b ≡ false = before 0 (omega arith) in
    let rest = none_there p places (λ k h. before (suc k) (omega (arith, h))) in
    let put : List A → List A = λ xs. b ∷ xs in
    record { found = rw fails rest.found; without = rw fails (ap put rest.without); changed = λ f. rw fails (ap put (rest.changed f)) }

has_some : {A : Type 0} (p : A → Bool) (o : Option A) → is_some_and p o ≡ true → (a : A) × (o ≡ Some a) × (p a ≡ true)
has_some p None e = absurd (cc)
has_some p (Some a) e = (a, refl, e)

-- what stands at the first place that passes
pub first_at : {A : Type 0} (p : A → Bool) (places : List (Option A)) (i : ℕ) → Some i ≡ position (is_some_and p) places → (a : A) × (slice_index_or places i None ≡ Some a) × (p a ≡ true) × IsFirst p places i a
first_at p places i e =
    let there = position-Some (is_some_and p) places i None (sym e) in
    let one = has_some p (slice_index_or places i None) there.1 in
    (one.0, one.1, one.2, first_there p places i one.0 one.1 one.2 there.2)

pub nowhere : {A : Type 0} (p : A → Bool) (places : List (Option A)) → None ≡ position (is_some_and p) places → IsNowhere p places
nowhere p places e = none_there p places (none_passes (is_some_and p) places None e)

-- By the times.

due_prefix : (now : ℕ) (places : List (Option Timer)) → prefix_len (λ o. not (is_by now o)) (map time_of places) ≡ prefix_len (λ o. not (is_some_and (is_due now) o)) places
due_prefix now [] = refl
due_prefix now (None ∷ places) = ap (λ n. 1 + n) (due_prefix now places)
due_prefix now (Some t ∷ places) = ap (λ n. cond (not (is_due now t)) (1 + n) 0) (due_prefix now places)

-- the first time that has come is that of the first entry that is due
pub due_position : (now : ℕ) (places : List (Option Timer)) → position (is_by now) (map time_of places) ≡ position (is_some_and (is_due now)) places
due_position now places =
    let n = prefix_len (λ o. not (is_by now o)) (map time_of places) in
    ap (λ m. cond (nat_lt n m) (Some n) None) (length-map places time_of) ∙ ap (λ m. cond (nat_lt m (length places)) (Some m) None) (due_prefix now places)

sooner_time : (t : Timer) (o : Option Timer) → lesser_of (Some t.due) (option_map (λ u. u.due) o) ≡ Some (sooner t o).due
sooner_time t None = refl
sooner_time t (Some u) = elim (nat_le t.due u.due) as (λ b. cond b (Some t.due) (Some u.due) ≡ (let x : Timer = cond b t u in Some x.due)) [ true ↦ refl | false ↦ refl ]

-- the least time is that of the least due entry
pub least_time : (places : List (Option Timer)) → least_of (map time_of places) ≡ option_map (λ t. t.due) (least_due (entries places))
least_time [] = refl
least_time (None ∷ places) = least_time places
least_time (Some t ∷ places) = ap (lesser_of (Some t.due)) (least_time places) ∙ sooner_time t (least_due (entries places))

-- Places.

none_entries : {A : Type 0} (places : List (Option A)) → IsFree 0 places → entries places ≡ []
none_entries [] free = refl
none_entries (None ∷ places) free = none_entries places (λ k h. free (suc k) (omega arith))
none_entries (Some a ∷ places) free = absurd (let e = free 0 (omega arith) in cc)

-- an entry behind the others
pub entries_put : {A : Type 0} (places : List (Option A)) (i : ℕ) (a : A) → i < length places → IsFree i places → entries (slice_set places i (Some a)) ≡ entries places ++ a ∷ []
entries_put [] i a h free = absurd (omega (arith, h))
entries_put {A} (None ∷ places) zero a h free = let none = none_entries places (λ k h. free (suc k) (omega arith)) in rw none refl
entries_put (Some b ∷ places) zero a h free = absurd (let e = free 0 (omega arith) in cc)
entries_put (None ∷ places) (suc i) a h free = entries_put places i a (omega (arith, h)) (λ k h. free (suc k) (omega (arith, h)))
entries_put {A} (Some b ∷ places) (suc i) a h free = ap (λ (xs : List A). b ∷ xs) (entries_put places i a (omega (arith, h)) (λ k h. free (suc k) (omega (arith, h))))

-- a place before them changed leaves the free ones free
pub free_set : {A : Type 0} (used : ℕ) (places : List (Option A)) (i : ℕ) (o : Option A) → i < used → IsFree used places → IsFree used (slice_set places i o)
free_set used places i o before free = λ k h. get_or-set_other places i k o None (λ e. omega (arith, e, h, before)) ∙ free k h

-- a place with an entry is none of the free ones
pub used_before : {A : Type 0} (used : ℕ) (places : List (Option A)) (i : ℕ) (a : A) → slice_index_or places i None ≡ Some a → IsFree used places → i < used
used_before used places i a e free = elim (cases_lt i used) [ inl before ↦ before | inr past ↦ absurd (let f = free i past in cc) ]

-- an entry taken out, or changed
pub length_taken : {A : Type 0} (places : List (Option A)) (i : ℕ) (a : A) → slice_index_or places i None ≡ Some a → length (entries (slice_set places i None)) + 1 ≡ length (entries places)
length_taken [] i a e = absurd (cc)
length_taken (None ∷ places) zero a e = absurd (cc)
length_taken (Some b ∷ places) zero a e = omega arith
length_taken (None ∷ places) (suc i) a e = length_taken places i a e
length_taken (Some b ∷ places) (suc i) a e = let rest = length_taken places i a e in omega (arith, rest)

pub length_changed : {A : Type 0} (places : List (Option A)) (i : ℕ) (a b : A) → slice_index_or places i None ≡ Some a → length (entries (slice_set places i (Some b))) ≡ length (entries places)
length_changed [] i a b e = absurd (cc)
length_changed (None ∷ places) zero a b e = absurd (cc)
length_changed (Some c ∷ places) zero a b e = refl
length_changed (None ∷ places) (suc i) a b e = length_changed places i a b e
length_changed (Some c ∷ places) (suc i) a b e = ap suc (length_changed places i a b e)

-- an empty place behind the others
pub entries_push : {A : Type 0} (places : List (Option A)) → entries (places ++ None ∷ []) ≡ entries places
entries_push [] = refl
entries_push (None ∷ places) = entries_push places
entries_push {A} (Some a ∷ places) = ap (λ (xs : List A). a ∷ xs) (entries_push places)

pub free_push : {A : Type 0} (used : ℕ) (places : List (Option A)) → IsFree used places → IsFree used (places ++ None ∷ [])
free_push used [] free zero h = refl
free_push used [] free (suc k) h = refl
free_push used (o ∷ places) free zero h = free zero h
free_push used (o ∷ places) free (suc k) h = free_push (used - 1) places (λ n g. free (suc n) (omega (arith, g))) k (omega (arith, h))

-- those that have an entry
pub entries_filter : {A : Type 0} (places : List (Option A)) → entries (filter is_some places) ≡ entries places
entries_filter [] = refl
entries_filter (None ∷ places) = entries_filter places
entries_filter {A} (Some a ∷ places) = ap (λ (xs : List A). a ∷ xs) (entries_filter places)

pub length_filter : {A : Type 0} (places : List (Option A)) → length (filter is_some places) ≡ length (entries places)
length_filter [] = refl
length_filter (None ∷ places) = length_filter places
length_filter (Some a ∷ places) = ap suc (length_filter places)
