-- What an event does: parts, one after another, each with its effects and the state after it.
use Rattle.std.specs.Prelude.{◌≡◌, ◌+◌, List, [], ◌∷◌, ◌++◌, Bool, if◌then◌else◌, Result, Ok, Err}
use Rattle.vx_base.specs.Clusters.{Change}
use Rattle.vx_base.specs.Log.{Log, logged}
use Rattle.vx_record.specs.Types.{Cond, Effect}
use Rattle.vx_record.specs.State.{State}

pub record Part : Type 0 where
  pub effects : List Effect
  pub after : State

-- a part with an answer
pub record Outcome (A : Type 0) : Type 0 where
  pub answer : A
  pub effects : List Effect
  pub after : State

abbrev pub nothing : State → Part
nothing s = record { effects = []; after = s }

-- one effect, with the state that it leaves
abbrev pub tells : Effect → State → Part
tells effect after = record { effects = effect ∷ []; after = after }

-- one part, and then another on the state that it leaves
abbrev pub and_then : Part → (State → Part) → Part
and_then a f = record { effects = a.effects ++ (f a.after).effects; after = (f a.after).after }

-- a part if a test holds
abbrev pub part_if : Bool → Part → State → Part
part_if test part s = if test then part else nothing s

-- a part for each of a list, one after another
abbrev pub each : {A : Type 0} → (State → A → Part) → List A → State → Part
each f [] s = nothing s
each f (x ∷ xs) s = and_then (f s x) (each f xs)

abbrev pub answered : {A : Type 0} → A → Part → Outcome A
answered a part = record { answer = a; effects = part.effects; after = part.after }

-- the answer alone: nothing is logged or changed
abbrev pub refused : State → Cond → Outcome Cond
refused s c = answered c (nothing s)

-- the same, of a call that gives a value
abbrev pub refused_value : {A : Type 0} → State → Cond → Outcome (Result A Cond)
refused_value s c = answered (Err c) (nothing s)

-- what is done with what a test found; if it refuses, its refusal alone
abbrev pub at_tested : {A : Type 0} → State → (A → Outcome Cond) → Result A Cond → Outcome Cond
at_tested s go (Err c) = refused s c
at_tested s go (Ok x) = go x

-- a part, and then an outcome on the state that it leaves
abbrev pub followed_by : {A : Type 0} → Part → (State → Outcome A) → Outcome A
followed_by a f = record { answer = (f a.after).answer; effects = a.effects ++ (f a.after).effects; after = (f a.after).after }

-- the effects and the state of an outcome
abbrev pub part_of : {A : Type 0} → Outcome A → Part
part_of o = record { effects = o.effects; after = o.after }

-- a change of the common clusters
abbrev pub commonly : State → Change → Part
commonly s c = record { effects = c.effects; after = record s { common = c.after } }

-- A call of the code answered, logged and left what an outcome says.
pub record Does {A : Type 0} (o : Outcome A) (answer : A) (log_before log_after : Log) (state_after : State) : Type 0 where
  pub answers : answer ≡ o.answer
  pub logs : log_after ≡ logged log_before o.effects
  pub leaves : state_after ≡ o.after

-- A call of the code logged and left what a part says.
pub record Acts (part : Part) (log_before log_after : Log) (state_after : State) : Type 0 where
  pub logs : log_after ≡ logged log_before part.effects
  pub leaves : state_after ≡ part.after
