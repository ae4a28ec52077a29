-- A count of faults that never falls.
use Rattle.std.specs.Prelude.{◌≢◌, ℕ, ◌+◌, ◌-◌, ◌^◌, ◌<◌, ◌≤◌, min, Result, OnErr}

-- the last value of a count, 18446744073709551615, at which it stops
abbrev pub last_count : ℕ
last_count = 2 ^ 64 - 1

-- one more, up to the last value
abbrev pub counted : ℕ → ℕ
counted n = min (n + 1) last_count

-- the count rose, unless it stands at its last value
abbrev pub Rose : ℕ → ℕ → Type 0
Rose before now = now ≢ last_count → before < now

-- the count has not fallen, and an error comes only if it rose
pub record HasCause {T E : Type 0} (before now : ℕ) (result : Result T E) : Type 0 where
  pub later : before ≤ now
  pub failed : OnErr result (Rose before now)

-- a reader or a writer, and how many of its reads or writes have failed
pub record Counted (X : Type 0) : Type 0 where
  pub inner : X
  pub faults : ℕ
