-- Blocks of a list.
use Rattle.std.proofs.Common.{◌≡◌, ◌≢◌, ℕ, ◌+◌, ◌*◌, ◌/◌, ◌-◌, ◌^◌, min, ◌<◌, ◌≤◌, List, [], ◌∷◌, ◌++◌, length, map, take, drop, slice_index_or, slice_set, inl, inr, arith, sym, ap, ◌∙◌, length-append}
use Rattle.std.proofs.lemmas.Bool.{cases_lt}
use Rattle.std.proofs.lemmas.List.{drop-append-le, drop-drop, drop-map, drop-set-add, drop-set-lt, drop_all, get_or-drop, get_or-take, length-drop, length-take, take-append-drop, take-append-le, take-map, take-set-le, take_all, take_min}
use Rattle.std.proofs.Math.Nat.{div-eq_of_lt-le}
use Rattle.vx_procs.specs.Own.{block_of}

-- an item of another block stands before or behind
apart : (i b : ℕ) → b ≢ i / 32 → 32 * b ≤ i → 32 * b + 32 ≤ i
apart i b other above = elim (cases_lt i (32 * b + 32)) [
  | inl below ↦ absurd (other (sym (div-eq_of_lt-le 32 (omega (arith, above)) (omega (arith, below)))))
  | inr behind ↦ behind
]

-- a change of an item leaves each other block
pub block_set : {A : Type 0} (xs : List A) (i b : ℕ) (x : A) → b ≢ i / 32 → block_of b (slice_set xs i x) ≡ block_of b xs
block_set xs i b x other = elim (cases_lt i (32 * b)) [
  | inl below ↦ ap (take 32) (drop-set-lt (32 * b) xs i x below)
  | inr above ↦
      let there : 32 * b + 32 ≤ i = apart i b other above in
      let j = i - 32 * b in
      let e : 32 * b + j ≡ i = omega (arith, above) in
      ap (λ n. take 32 (drop (32 * b) (slice_set xs n x))) (sym e)
      ∙ (ap (take 32) (drop-set-add (32 * b) xs j x) ∙ take-set-le 32 (drop (32 * b) xs) j x (omega (arith, there)))
]

-- so does an item more
pub block_more : {A : Type 0} (xs : List A) (b : ℕ) (x : A) → b ≢ length xs / 32 → block_of b (xs ++ x ∷ []) ≡ block_of b xs
block_more xs b x other = elim (cases_lt (length xs) (32 * b)) [
  | inl below ↦
      ap (take 32) (drop_all (32 * b) (xs ++ x ∷ []) (omega (arith, below, length-append xs (x ∷ [])))
      ∙ sym (drop_all (32 * b) xs (omega (arith, below))))
  | inr above ↦
      let there : 32 * b + 32 ≤ length xs = apart (length xs) b other above in
      ap (take 32) (drop-append-le (32 * b) xs (x ∷ []) above)
      ∙ take-append-le 32 (drop (32 * b) xs) (x ∷ []) (omega (arith, there, length-drop (32 * b) xs))
]

pub block_map : {A B : Type 0} (f : A → B) (b : ℕ) (xs : List A) → block_of b (map f xs) ≡ map f (block_of b xs)
block_map f b xs = ap (take 32) (drop-map f (32 * b) xs) ∙ take-map f 32 (drop (32 * b) xs)

-- what stands from a block on is that block and what stands from the next one on
pub block_first : {A : Type 0} (b : ℕ) (xs : List A) → drop (32 * b) xs ≡ block_of b xs ++ drop (32 * (b + 1)) xs
block_first b xs = sym (take-append-drop 32 (drop (32 * b) xs)) ∙ ap (λ ys. block_of b xs ++ ys) (drop-drop 32 (32 * b) xs ∙ ap (λ n. drop n xs) (let e : 32 * b + 32 ≡ 32 * (b + 1) = omega arith in e))

-- cut off where the list ends
pub block_within : {A : Type 0} (b from : ℕ) (xs : List A) → from ≡ min (min (b * 32) (2 ^ 64 - 1)) (length xs) → length xs < 2 ^ 64 → drop from xs ≡ drop (32 * b) xs
block_within b from xs is fits = elim (cases_lt (length xs) (32 * b)) [
  | inl past ↦ drop_all from xs (omega (arith, is, past, fits)) ∙ sym (drop_all (32 * b) xs (omega (arith, past)))
  | inr within ↦ ap (λ n. drop n xs) (let e : from ≡ 32 * b = omega (arith, is, within, fits) in e)
]

-- a block as the code cuts it out
pub block_cut : {A : Type 0} (b from to : ℕ) (xs : List A) → from ≡ min (min (b * 32) (2 ^ 64 - 1)) (length xs) → length xs < 2 ^ 64 → to ≡ min 32 (length (take (length xs - from) (drop from xs))) → take to (take (length xs - from) (drop from xs)) ≡ block_of b xs
block_cut b from to xs is fits ends =
    let rest = take (length xs - from) (drop from xs) in
    let all : rest ≡ drop from xs = take_all (length xs - from) (drop from xs) (omega (arith, length-drop from xs)) in
    ap (λ n. take n rest) ends ∙ (take_min 32 rest ∙ ap (take 32) (all ∙ block_within b from xs is fits))

pub block_few : {A : Type 0} (b : ℕ) (xs : List A) → length (block_of b xs) ≤ 32
block_few b xs = omega (arith, length-take 32 (drop (32 * b) xs))

-- what stands at a place of a block
pub in_block : {A : Type 0} (b : ℕ) (xs : List A) (i : ℕ) (d : A) → i < 32 → slice_index_or (block_of b xs) i d ≡ slice_index_or xs (32 * b + i) d
in_block b xs i d near = get_or-take 32 (drop (32 * b) xs) i d near ∙ get_or-drop (32 * b) xs i d
