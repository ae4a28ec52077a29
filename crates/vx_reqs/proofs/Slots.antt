-- Requests in a slab and the places that have their keys, as one key changes.
use Rattle.std.proofs.Common.{◌≡◌, ◌≢◌, ℕ, zero, suc, ◌+◌, ◌<◌, ◌≤◌, List, [], ◌∷◌, ◌++◌, Bool, true, false, cond, Option, Some, None, IfSome, is_some, get_or, length, set, refl, ap, sym, subst, ◌∙◌, arith, option_map, option_to_list, length-append, ◌⊎◌, inl, inr}
use Rattle.std.specs.List.{AllByRecursion, filter}
use Rattle.std.proofs.lemmas.List.{set-get_or}
use Rattle.std.proofs.lemmas.List.Sums.{sum_by-set}
use Rattle.slab.specs.Slab.{Slab, ContainsKey, Updates, get, slab_len, with_value}
use Rattle.slab.proofs.SlabLemmas.{ContainsKey-within, Updates-with_value}
use Rattle.std.proofs.lemmas.Option.{same_Some}
use Rattle.vx_record.specs.Types.{Id, Request}
use Rattle.vx_base.specs.Roomy.{Roomy}
use Rattle.vx_record.proofs.Lists.{all_append, all_at, all_filter, all_set}
use Rattle.vx_reqs.specs.Places.{Place, changed, emptied, is_held, live}
use Rattle.vx_reqs.specs.Slots.{AreHeld, AreKeys, IsOther, has_key, place_of, places_of, request_under}
use Rattle.vx_reqs.specs.declared.slot.Slot.{Slot as SlotOf}
use Rattle.vx_reqs.proofs.Live.{live_kept, live_put}

-- if the head has the key, no other place has it
apart : (slab : Slab Request) (xs : List SlotOf) (o : Option ℕ) (key : ℕ) → o ≡ Some key → IfSome o (λ k. ContainsKey slab k × AllByRecursion (IsOther k) xs) → ContainsKey slab key × AllByRecursion (IsOther key) xs
apart slab xs o key is keys = subst (λ (p : Option ℕ). IfSome p (λ k. ContainsKey slab k × AllByRecursion (IsOther k) xs)) is keys

-- if a place behind has the key, the head has another
differs_from : (slab : Slab Request) (xs : List SlotOf) (o : Option ℕ) (key at : ℕ) (d : SlotOf) → IfSome o (λ k. ContainsKey slab k × AllByRecursion (IsOther k) xs) → at < length xs → (get_or xs at d).key ≡ Some key → o ≢ Some key
differs_from slab xs o key at d keys lt is = λ same. all_at (IsOther key) xs at d (apart slab xs o key same keys).1 lt is

module _ (old new : Slab Request) (key : ℕ) (v : Option Request) (updates : Updates old new key v) where
  stays : (i : Id) (o : Option ℕ) → o ≢ Some key → place_of new (record { id = i; key = o }) ≡ place_of old (record { id = i; key = o })
  stays i None differs = refl
  stays i (Some k) differs = ap (λ (r : Option Request). let p : Place = record { id = i; request = r } in p) (updates.others k (λ same. differs (ap Some same)))

  -- places with other keys stay
  others_stay : (xs : List SlotOf) → AllByRecursion (IsOther key) xs → places_of new xs ≡ places_of old xs
  others_stay [] others = refl
  others_stay (x ∷ xs) others = ap (λ (p : Place). p ∷ places_of new xs) (stays x.id x.key others.0) ∙ ap (λ ps. place_of old x ∷ ps) (others_stay xs others.1)

  key_stays : (P : ℕ → Type 0) (o : Option ℕ) → o ≢ Some key → IfSome o (λ k. ContainsKey old k × P k) → IfSome o (λ k. ContainsKey new k × P k)
  key_stays P None differs keys = tt
  key_stays P (Some k) differs keys = (ap is_some (updates.others k (λ same. differs (ap Some same))) ∙ keys.0, keys.1)

  keys_stay : (xs : List SlotOf) → AllByRecursion (IsOther key) xs → AreKeys old xs → AreKeys new xs
  keys_stay [] others keys = tt
  keys_stay (x ∷ xs) others keys = (key_stays (λ k. AllByRecursion (IsOther k) xs) x.key others.0 keys.0, keys_stay xs others.1 keys.1)

  -- the place that has the key changes, and no other
  pub set_places : (xs : List SlotOf) (at : ℕ) (d y : SlotOf) → AreKeys old xs → at < length xs → (get_or xs at d).key ≡ Some key → places_of new (set xs at y) ≡ set (places_of old xs) at (place_of new y)
  set_places [] at d y keys lt is = absurd (omega arith)
  set_places (x ∷ xs) zero d y keys lt is = ap (λ ps. place_of new y ∷ ps) (others_stay xs (apart old xs x.key key is keys.0).1)
  set_places (x ∷ xs) (suc at) d y keys lt is =
      ap (λ (p : Place). p ∷ places_of new (set xs at y)) (stays x.id x.key (differs_from old xs x.key key at d keys.0 (omega arith) is))
      ∙ ap (λ ps. place_of old x ∷ ps) (set_places xs at d y keys.1 (omega arith) is)

  other_at : (o p : Option ℕ) (k : ℕ) → o ≢ Some key → IfSome p (λ j. (j ≡ key) × ContainsKey new j) → o ≡ Some k → p ≢ Some k
  other_at o None k differs fits is = λ same. absurd (cc)
  other_at o (Some j) k differs fits is = λ same. differs (is ∙ sym same ∙ ap Some fits.0)

  first_key : (xs : List SlotOf) (o : Option ℕ) → AllByRecursion (IsOther key) xs → IfSome o (λ j. (j ≡ key) × ContainsKey new j) → IfSome o (λ k. ContainsKey new k × AllByRecursion (IsOther k) xs)
  first_key xs None others fits = tt
  first_key xs (Some j) others fits = (fits.1, subst (λ (k : ℕ). AllByRecursion (IsOther k) xs) (sym fits.0) others)

  later_key : (xs : List SlotOf) (at : ℕ) (y d : SlotOf) (o : Option ℕ) → o ≢ Some key → IfSome y.key (λ j. (j ≡ key) × ContainsKey new j) → IfSome o (λ k. ContainsKey old k × AllByRecursion (IsOther k) xs) → IfSome o (λ k. ContainsKey new k × AllByRecursion (IsOther k) (set xs at y))
  later_key xs at y d None differs fits keys = tt
  later_key xs at y d (Some k) differs fits keys = let still = key_stays (λ j. AllByRecursion (IsOther j) xs) (Some k) differs keys in (still.0, all_set (IsOther k) xs at y d (λ _. other_at (Some k) y.key k differs fits refl) still.1)

  pub set_keys : (xs : List SlotOf) (at : ℕ) (d y : SlotOf) → IfSome y.key (λ j. (j ≡ key) × ContainsKey new j) → AreKeys old xs → at < length xs → (get_or xs at d).key ≡ Some key → AreKeys new (set xs at y)
  set_keys [] at d y fits keys lt is = absurd (omega arith)
  set_keys (x ∷ xs) zero d y fits keys lt is =
      let others = (apart old xs x.key key is keys.0).1 in
      (first_key xs y.key others fits, keys_stay xs others keys.1)
  set_keys (x ∷ xs) (suc at) d y fits keys lt is =
      (later_key xs at y d x.key (differs_from old xs x.key key at d keys.0 (omega arith) is) fits keys.0, set_keys xs at d y fits keys.1 (omega arith) is)

  -- A key that was free.

  fresh_key : (o : Option ℕ) (P : ℕ → Type 0) → get old key ≡ None → IfSome o (λ k. ContainsKey old k × P k) → o ≢ Some key
  fresh_key None P free keys = λ same. absurd (cc)
  fresh_key (Some k) P free keys = λ same. let there : get old k ≡ None = ap (get old) (same_Some k key same) ∙ free in absurd (let h : is_some (get old k) ≡ false = ap is_some there in cc)

  all_fresh : (xs : List SlotOf) → get old key ≡ None → AreKeys old xs → AllByRecursion (IsOther key) xs
  all_fresh [] free keys = tt
  all_fresh (x ∷ xs) free keys = (fresh_key x.key (λ k. AllByRecursion (IsOther k) xs) free keys.0, all_fresh xs free keys.1)

  append_key : (xs : List SlotOf) (y : SlotOf) (o : Option ℕ) → o ≢ Some key → y.key ≡ Some key → IfSome o (λ k. ContainsKey new k × AllByRecursion (IsOther k) xs) → IfSome o (λ k. ContainsKey new k × AllByRecursion (IsOther k) (xs ++ y ∷ []))
  append_key xs y None differs is keys = tt
  append_key xs y (Some k) differs is keys = (keys.0, all_append (IsOther k) xs (y ∷ []) keys.1 (λ same. differs (sym same ∙ is), tt))

  append_keys : (xs : List SlotOf) (y : SlotOf) → y.key ≡ Some key → ContainsKey new key → AllByRecursion (IsOther key) xs → AreKeys new xs → AreKeys new (xs ++ y ∷ [])
  append_keys [] y is there others keys = (subst (λ (o : Option ℕ). IfSome o (λ k. ContainsKey new k × AllByRecursion (IsOther k) [])) (sym is) (there, tt), tt)
  append_keys (x ∷ xs) y is there others keys = (append_key xs y x.key others.0 is keys.0, append_keys xs y is there others.1 keys.1)

  map_append : (xs : List SlotOf) (y : SlotOf) → places_of new (xs ++ y ∷ []) ≡ places_of new xs ++ place_of new y ∷ []
  map_append [] y = refl
  map_append (x ∷ xs) y = ap (λ ps. place_of new x ∷ ps) (map_append xs y)

  module _ (xs : List SlotOf) (i : Id) (r : Request) (free : get old key ≡ None) (some : v ≡ Some r) (keys : AreKeys old xs) where
    pub push_places : places_of new (xs ++ record { id = i; key = Some key } ∷ []) ≡ places_of old xs ++ record { id = i; request = Some r } ∷ []
    push_places =
        map_append xs (record { id = i; key = Some key })
        ∙ ap (λ (ps : List Place). ps ++ record { id = i; request = get new key } ∷ []) (others_stay xs (all_fresh xs free keys))
        ∙ ap (λ (o : Option Request). places_of old xs ++ record { id = i; request = o } ∷ []) (updates.changed ∙ some)

    pub push_keys : AreKeys new (xs ++ record { id = i; key = Some key } ∷ [])
    push_keys =
        let others = all_fresh xs free keys in
        append_keys xs (record { id = i; key = Some key }) refl (ap is_some (updates.changed ∙ some)) others (keys_stay xs others keys)

-- The places that are held.

held_at : (slab : Slab Request) (i : Id) (o : Option ℕ) (xs : List SlotOf) → IfSome o (λ k. ContainsKey slab k × AllByRecursion (IsOther k) xs) → places_of slab (filter has_key xs) ≡ filter is_held (places_of slab xs) → places_of slab (filter has_key (record { id = i; key = o } ∷ xs)) ≡ filter is_held (places_of slab (record { id = i; key = o } ∷ xs))
held_at slab i None xs keys rest = rest
held_at slab i (Some k) xs keys rest =
    let p : Place = record { id = i; request = get slab k } in
    ap (λ ps. p ∷ ps) rest ∙ sym (ap (λ (b : Bool). cond b (p ∷ filter is_held (places_of slab xs)) (filter is_held (places_of slab xs))) keys.0)

pub held_places : (slab : Slab Request) (xs : List SlotOf) → AreKeys slab xs → places_of slab (filter has_key xs) ≡ filter is_held (places_of slab xs)
held_places slab [] keys = refl
held_places slab (x ∷ xs) keys = held_at slab x.id x.key xs keys.0 (held_places slab xs keys.1)

held_key : (slab : Slab Request) (o : Option ℕ) (xs : List SlotOf) → IfSome o (λ k. ContainsKey slab k × AllByRecursion (IsOther k) xs) → IfSome o (λ k. ContainsKey slab k × AllByRecursion (IsOther k) (filter has_key xs))
held_key slab None xs keys = tt
held_key slab (Some k) xs keys = (keys.0, all_filter (IsOther k) has_key xs keys.1)

pub held_keys : (slab : Slab Request) (xs : List SlotOf) → AreKeys slab xs → AreKeys slab (filter has_key xs)
held_keys slab [] keys = tt
held_keys slab (x ∷ xs) keys =
    let rest = held_keys slab xs keys.1 in
    elim (has_key x) as (λ b. AreKeys slab (cond b (x ∷ filter has_key xs) (filter has_key xs))) [
      | true ↦ (held_key slab x.key xs keys.0, rest)
      | false ↦ rest
    ]

-- How many requests there are.

-- the value under a key changed
pub len_with_value : (slab : Slab Request) (key : ℕ) (r : Request) → ContainsKey slab key → slab_len (with_value slab key r) ≡ slab_len slab
len_with_value slab key r there =
    let sums = sum_by-set (λ (o : Option Request). cond (is_some o) 1 0) slab.slots key (Some r) None (ContainsKey-within slab key there) in
    let count : Bool → ℕ = λ b. cond b 1 0 in
    let one : count (is_some (get slab key)) ≡ count true = ap count there in
    omega (arith, sums, one)

emptied_in : (i : Id) (o : Option Request) (ps : List Place) → is_some o ≡ true → length (live (emptied (record { id = i; request = o }) ∷ ps)) + 1 ≡ length (live (record { id = i; request = o } ∷ ps))
emptied_in i None ps some = absurd (cc)
emptied_in i (Some r) ps some = omega arith

longer : (o : Option Request) (ps qs : List Request) → length ps + 1 ≡ length qs → length (option_to_list o ++ ps) + 1 ≡ length (option_to_list o ++ qs)
longer None ps qs e = e
longer (Some r) ps qs e = omega (arith, e)

-- a place emptied
pub live_emptied : (ps : List Place) (at : ℕ) (d : Place) → at < length ps → is_held (get_or ps at d) ≡ true → length (live (set ps at (emptied (get_or ps at d)))) + 1 ≡ length (live ps)
live_emptied [] at d lt some = absurd (omega arith)
live_emptied (p ∷ ps) zero d lt some = emptied_in p.id p.request ps some
live_emptied (p ∷ ps) (suc at) d lt some = longer p.request (live (set ps at (emptied (get_or ps at d)))) (live ps) (live_emptied ps at d (omega arith) some)

changed_in : (f : Request → Request) (i : Id) (o : Option Request) (ps : List Place) → length (live (changed f (record { id = i; request = o }) ∷ ps)) ≡ length (live (record { id = i; request = o } ∷ ps))
changed_in f i None ps = refl
changed_in f i (Some r) ps = refl

as_long : (o : Option Request) (ps qs : List Request) → length ps ≡ length qs → length (option_to_list o ++ ps) ≡ length (option_to_list o ++ qs)
as_long None ps qs e = e
as_long (Some r) ps qs e = omega (arith, e)

-- a place changed
live_changed : (f : Request → Request) (ps : List Place) (at : ℕ) (d : Place) → at < length ps → length (live (set ps at (changed f (get_or ps at d)))) ≡ length (live ps)
live_changed f [] at d lt = absurd (omega arith)
live_changed f (p ∷ ps) zero d lt = changed_in f p.id p.request ps
live_changed f (p ∷ ps) (suc at) d lt = as_long p.request (live (set ps at (changed f (get_or ps at d)))) (live ps) (live_changed f ps at d (omega arith))

-- What a place is.

place_at : (slab : Slab Request) (xs : List SlotOf) (at : ℕ) (d : Place) (e : SlotOf) → at < length xs → get_or (places_of slab xs) at d ≡ place_of slab (get_or xs at e)
place_at slab [] at d e lt = absurd (omega arith)
place_at slab (x ∷ xs) zero d e lt = refl
place_at slab (x ∷ xs) (suc at) d e lt = place_at slab xs at d e (omega arith)

place_count : (slab : Slab Request) (xs : List SlotOf) → length (places_of slab xs) ≡ length xs
place_count slab [] = refl
place_count slab (x ∷ xs) = ap suc (place_count slab xs)

-- a key of a place has a request
pub key_at : (slab : Slab Request) (key : ℕ) (xs : List SlotOf) (at : ℕ) (d : SlotOf) → AreKeys slab xs → at < length xs → (get_or xs at d).key ≡ Some key → ContainsKey slab key
key_at slab key [] at d keys lt is = absurd (omega arith)
key_at slab key (x ∷ xs) zero d keys lt is = (apart slab xs x.key key is keys.0).0
key_at slab key (x ∷ xs) (suc at) d keys lt is = key_at slab key xs at d keys.1 (omega arith) is

request_at : (slab : Slab Request) (key : ℕ) (o : Option ℕ) → o ≡ Some key → request_under slab o ≡ get slab key
request_at slab key o is = ap (request_under slab) is

-- A slot that has a key.
module _ (slab : Slab Request) (slots : List SlotOf) (room space at key : ℕ) (x : SlotOf) (kept : AreHeld slots slab room space) (within : at < length slots) (here : x ≡ get_or slots at x) (is : x.key ≡ Some key) where
  there : (get_or slots at x).key ≡ Some key
  there = ap (λ (s : SlotOf). s.key) (sym here) ∙ is

  pub has_request : ContainsKey slab key
  has_request = key_at slab key slots at x kept.keys within there

  the_place : (d : Place) → get_or (places_of slab slots) at d ≡ place_of slab x
  the_place d = place_at slab slots at d x within ∙ ap (place_of slab) (sym here)

  -- its request is changed in the slab
  module _ (f : Request → Request) (r changed_r : Request) (found : get slab key ≡ Some r) (changes : changed_r ≡ f r) where
    abbrev after : Slab Request
    after = with_value slab key changed_r

    updates : Updates slab after key (Some changed_r)
    updates = Updates-with_value slab key changed_r has_request

    same_slots : set slots at x ≡ slots
    same_slots = ap (set slots at) here ∙ set-get_or slots at x

    now_there : place_of after x ≡ changed f (place_of slab x)
    now_there = ap (λ (o : Option Request). let p : Place = record { id = x.id; request = o } in p)
        (request_at after key x.key is ∙ updates.changed ∙ ap Some changes ∙ sym (ap (option_map f) (request_at slab key x.key is ∙ found)))

    pub change_places : (d : Place) → places_of after slots ≡ set (places_of slab slots) at (changed f (get_or (places_of slab slots) at d))
    change_places d =
        ap (places_of after) (sym same_slots)
        ∙ set_places slab after key (Some changed_r) updates slots at x x kept.keys within there
        ∙ ap (set (places_of slab slots) at) (now_there ∙ sym (ap (changed f) (the_place d)))

    pub change_held : AreHeld slots after room space
    change_held = record {
      keys = subst (λ (xs : List SlotOf). AreKeys after xs) same_slots (set_keys slab after key (Some changed_r) updates slots at x x (subst (λ (o : Option ℕ). IfSome o (λ j. (j ≡ key) × ContainsKey after j)) (sym is) (refl, ap is_some updates.changed)) kept.keys within there);
      count = len_with_value slab key changed_r has_request ∙ kept.count ∙ sym (ap (λ ps. length (live ps)) (change_places (place_of slab x)) ∙ live_changed f (places_of slab slots) at (place_of slab x) (subst (λ (n : ℕ). at < n) (sym (place_count slab slots)) within));
      within = kept.within;
      held = kept.held;
    }

  -- its request is taken out of the slab
  module _ (less : Slab Request) (updates : Updates slab less key None) (len : slab_len less + 1 ≡ slab_len slab) (capacity : less.capacity ≡ slab.capacity) where
    abbrev left : SlotOf
    left = record { id = x.id; key = None }

    pub take_places : (d : Place) → places_of less (set slots at (record { id = x.id; key = None })) ≡ set (places_of slab slots) at (emptied (get_or (places_of slab slots) at d))
    take_places d =
        set_places slab less key None updates slots at x left kept.keys within there
        ∙ ap (set (places_of slab slots) at) (sym (ap emptied (the_place d)))

    pub take_held : AreHeld (set slots at (record { id = x.id; key = None })) less room space
    take_held =
        let d = place_of slab x in
        let held : is_held (get_or (places_of slab slots) at d) ≡ true = ap is_held (the_place d) ∙ ap is_some (request_at slab key x.key is) ∙ has_request in
        let fewer = live_emptied (places_of slab slots) at d (subst (λ (n : ℕ). at < n) (sym (place_count slab slots)) within) held in
        let same : length (live (places_of less (set slots at left))) ≡ length (live (set (places_of slab slots) at (emptied (get_or (places_of slab slots) at d)))) = ap (λ ps. length (live ps)) (take_places d) in
        record {
          keys = set_keys slab less key None updates slots at x left tt kept.keys within there;
          count = omega (arith, len, kept.count, fewer, same);
          within = kept.within;
          held = subst (λ (n : ℕ). room ≤ n) (sym capacity) kept.held;
        }

-- a place that contracts see is one that stands there
pub is_within : (slab : Slab Request) (slots : List SlotOf) (at room : ℕ) (v : Roomy Place) → record { items = places_of slab slots; capacity = room } ≡ v → at < length v.items → at < length slots
is_within slab slots at room v is within = subst (λ (n : ℕ). at < n) (ap (λ (u : Roomy Place). length u.items) (sym is) ∙ place_count slab slots) within

-- How many places are held.

held_count : (slab : Slab Request) (i : Id) (o : Option ℕ) (xs : List SlotOf) → IfSome o (λ k. ContainsKey slab k × AllByRecursion (IsOther k) xs) → length (filter has_key xs) ≡ length (live (places_of slab xs)) → length (filter has_key (record { id = i; key = o } ∷ xs)) ≡ length (live (places_of slab (record { id = i; key = o } ∷ xs)))
held_count slab i None xs keys rest = rest
held_count slab i (Some k) xs keys rest = as_many (get slab k) keys.0
  where
    as_many : (o : Option Request) → is_some o ≡ true → suc (length (filter has_key xs)) ≡ length (option_to_list o ++ live (places_of slab xs))
    as_many None there = absurd (cc)
    as_many (Some r) there = ap suc rest

pub len_held : (slab : Slab Request) (xs : List SlotOf) → AreKeys slab xs → length (filter has_key xs) ≡ length (live (places_of slab xs))
len_held slab [] keys = refl
len_held slab (x ∷ xs) keys = held_count slab x.id x.key xs keys.0 (len_held slab xs keys.1)

-- What is kept with the empty places taken out.
module _ (slab : Slab Request) (slots : List SlotOf) (room space : ℕ) (kept : AreHeld slots slab room space) where
  module _ (others : List SlotOf) (other : Slab Request) (are : others ≡ filter has_key slots) (same : other ≡ record slab { capacity = other.capacity }) where
    pub kept_places : places_of other others ≡ filter is_held (places_of slab slots)
    kept_places = ap (places_of other) are ∙ ap (λ (s : Slab Request). places_of s (filter has_key slots)) same ∙ held_places slab slots kept.keys

    pub kept_held : (more spacious : ℕ) → more ≤ spacious → more ≤ other.capacity → AreHeld others other more spacious
    kept_held more spacious within held = record {
      keys = subst (λ (xs : List SlotOf). AreKeys other xs) (sym are) (subst (λ (s : Slab Request). AreKeys s (filter has_key slots)) (sym same) (held_keys slab slots kept.keys));
      count = ap slab_len same ∙ kept.count ∙ sym (ap (λ ps. length (live ps)) kept_places ∙ ap length (live_kept (places_of slab slots)));
      within = within;
      held = held;
    }

  -- A request more.
  module _ (new : Slab Request) (key : ℕ) (i : Id) (r : Request) (free : get slab key ≡ None) (updates : Updates slab new key (Some r)) (len : slab_len new ≡ slab_len slab + 1) where
    pub put_held : (more spacious : ℕ) → more ≤ spacious → more ≤ new.capacity → AreHeld (slots ++ record { id = i; key = Some key } ∷ []) new more spacious
    put_held more spacious within held =
        let put = push_places slab new key (Some r) updates slots i r free refl kept.keys in
        let longer_by : length (live (places_of slab slots ++ record { id = i; request = Some r } ∷ [])) ≡ length (live (places_of slab slots)) + 1 = ap length (live_put (places_of slab slots) i r) ∙ length-append (live (places_of slab slots)) (r ∷ []) in
        let all : length (live (places_of new (slots ++ record { id = i; key = Some key } ∷ []))) ≡ length (live (places_of slab slots ++ record { id = i; request = Some r } ∷ [])) = ap (λ ps. length (live ps)) put in
        record {
          keys = push_keys slab new key (Some r) updates slots i r free refl kept.keys;
          count = omega (arith, len, kept.count, all, longer_by);
          within = within;
          held = held;
        }

    pub put_places : places_of new (slots ++ record { id = i; key = Some key } ∷ []) ≡ places_of slab slots ++ record { id = i; request = Some r } ∷ []
    put_places = push_places slab new key (Some r) updates slots i r free refl kept.keys

-- the same if the empty places may have been taken out before
module _ (slab : Slab Request) (slots : List SlotOf) (room space : ℕ) (kept : AreHeld slots slab room space) (others : List SlotOf) (same : (others ≡ slots) ⊎ (others ≡ filter has_key slots)) where
  pub either_held : AreHeld others slab room space
  either_held = elim same [
    | inl is ↦ subst (λ (xs : List SlotOf). AreHeld xs slab room space) (sym is) kept
    | inr is ↦ subst (λ (xs : List SlotOf). AreHeld xs slab room space) (sym is) (kept_held slab slots room space kept (filter has_key slots) slab refl refl room space kept.within kept.held)
  ]

  pub either_places : (places_of slab others ≡ places_of slab slots) ⊎ (places_of slab others ≡ filter is_held (places_of slab slots))
  either_places = elim same [
    | inl is ↦ inl (ap (places_of slab) is)
    | inr is ↦ inr (ap (places_of slab) is ∙ held_places slab slots kept.keys)
  ]

-- the same requests with other room
module _ (slab : Slab Request) (slots : List SlotOf) (room space : ℕ) (kept : AreHeld slots slab room space) (other : Slab Request) (same : other ≡ record slab { capacity = other.capacity }) where
  pub as_places : places_of other slots ≡ places_of slab slots
  as_places = ap (λ (s : Slab Request). places_of s slots) same

  pub as_held : (spacious : ℕ) → room ≤ spacious → room ≤ other.capacity → AreHeld slots other room spacious
  as_held spacious within held = record {
    keys = subst (λ (s : Slab Request). AreKeys s slots) (sym same) kept.keys;
    count = ap slab_len same ∙ kept.count ∙ sym (ap (λ ps. length (live ps)) as_places);
    within = within;
    held = held;
  }
