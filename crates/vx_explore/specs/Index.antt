-- The states of a level, and an index of their digests: for each place the last place below with the same digest, and for each digest
-- its last place.
use Rattle.std.specs.Prelude.{◌≡◌, ◌≢◌, ◌⊎◌, ℕ, zero, suc, ◌<◌, ◌==◌, All, Bool, Contains, IsTrue, List, Option, Some, None, if◌then◌else◌, length, map, AllPairs, slice_index, slice_index_or}
use Rattle.vx_explore.specs.declared.found.Found.{Found}

-- the last place below a bound that has this digest
abbrev pub last_of : ℕ → List ℕ → ℕ → Option ℕ
last_of d ds zero = None
last_of d ds (suc i) = if slice_index ds i == d then Some i else last_of d ds i

pub record IsIndex (ds : List ℕ) (older : List (Option ℕ)) (latest : ℕ → Option ℕ) : Type 0 where
  pub len : length older ≡ length ds
  pub behind : (i : ℕ) → i < length ds → slice_index_or older i None ≡ last_of (slice_index ds i) ds i
  pub last : (d : ℕ) → latest d ≡ last_of d ds (length ds)

-- the digest of the state at each place
abbrev pub digests : {S : Type 0} → (S → ℕ) → List (Found S) → List ℕ
digests digest_of xs = map (λ x. digest_of x.what) xs

-- the states alone
abbrev pub whats : {S : Type 0} → List (Found S) → List S
whats xs = map (λ x. x.what) xs

-- each of these has the origin of this state
abbrev pub StartAs : {S : Type 0} → (S → S) → S → List S → Type 0
StartAs origin o xs = All (λ t. origin t ≡ origin o) xs

-- each state stands once, and the index is right
pub record IsLevel {S : Type 0} (digest_of : S → ℕ) (xs : List (Found S))
    (older : List (Option ℕ)) (latest : ℕ → Option ℕ) : Type 0 where
  pub index : IsIndex (digests digest_of xs) older latest
  pub different : AllPairs (λ a b. a ≢ b) (whats xs)

-- the state stands at this place, or, if none is given, at no place
abbrev pub HaveSame : {S : Type 0} → List (Found S) → S → Option ℕ → Type 0
HaveSame {S} xs s None = (i : ℕ) (d : Found S) → i < length xs → (slice_index_or xs i d).what ≢ s
HaveSame {S} xs s (Some i) = (i < length xs) × ((d : Found S) → (slice_index_or xs i d).what ≡ s)

-- these are the old states and this one
pub record AreMore {S : Type 0} (old : List S) (s : S) (new : List S) : Type 0 where
  pub kept : (t : S) → Contains old t → Contains new t
  pub there : Contains new s
  pub only : (t : S) → Contains new t → Contains old t ⊎ (s ≡ t)

-- one step leads from a state to another
abbrev pub IsNext : {S : Type 0} → (S → ℕ) → (S → ℕ → S) → S → S → Type 0
IsNext enabled after s t = (i : ℕ) × (i < enabled s) × (after s i ≡ t)

-- these are the old states and successors of this one, and each successor is there if all were added
pub record Spreads {S : Type 0} (enabled : S → ℕ) (after : S → ℕ → S) (origin : S → S)
    (s : S) (all : Bool) (old new : List S) : Type 0 where
  pub kept : (t : S) → Contains old t → Contains new t
  pub there : IsTrue all → (i : ℕ) → i < enabled s → Contains new (after s i)
  pub only : (t : S) → Contains new t → Contains old t ⊎ IsNext enabled after s t
  pub alike : StartAs origin s new

-- these are the successors of all states of a level
pub record AreNext {S : Type 0} (enabled : S → ℕ) (after : S → ℕ → S) (origin : S → S)
    (now next : List S) : Type 0 where
  pub there : (s : S) (i : ℕ) → Contains now s → i < enabled s → Contains next (after s i)
  pub only : (t : S) → Contains next t → (s : S) × Contains now s × IsNext enabled after s t
  pub alike : (o : S) → StartAs origin o now → StartAs origin o next
