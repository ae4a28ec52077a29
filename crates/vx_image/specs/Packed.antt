-- Lists that stand as pieces in longer ones.
use Rattle.std.specs.Prelude.{◌≡◌, ℕ, ◌+◌, ◌≤◌, List, drop, length, map, take}
use Rattle.std.specs.List.{AllByRecursion}
use Rattle.vx_image.specs.declared.texts.Span.{Span}

-- so many items from a place on
abbrev pub piece : {A : Type 0} → ℕ → ℕ → List A → List A
piece start len items = take len (drop start items)

-- the list is long enough for the piece
abbrev pub IsWithin : {A : Type 0} → ℕ → ℕ → List A → Type 0
IsWithin start len items = start + len ≤ length items

-- the texts that stand in bytes
abbrev pub texts_in : List ℕ → List Span → List (List ℕ)
texts_in bytes spans = map (λ s. piece s.start s.len bytes) spans

abbrev pub AreWithin : List ℕ → List Span → Type 0
AreWithin bytes spans = AllByRecursion (λ s. IsWithin s.start s.len bytes) spans

-- a list is the start of another
abbrev pub Begins : {A : Type 0} → List A → List A → Type 0
Begins front items = take (length front) items ≡ front
