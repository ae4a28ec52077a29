-- The rule: what holds between any two steps.
use Rattle.std.specs.Prelude.{◌≡◌, ℕ, ◌+◌, ◌-◌, ◌%◌, ◌^◌, ◌<◌, ◌≤◌, ◌==◌, List, [], ◌∷◌, ◌++◌, length, cond, Option, Some, None, slice_get, MatchBool, ltb}
use mathlib.Core.Option.{Option as Place, none, some}
use lib.ListN.{get_elem?}
use Rattle.atomic_table.specs.Table.{State, Me}
use Rattle.vx_turn.specs.declared.view.Stage.{Stage}
use Rattle.vx_turn.specs.declared.view.Stage.TheVariants.{Idle, Waiting, Inside}
use Rattle.vx_turn.specs.declared.view.View.{View}
use Rattle.vx_base.specs.Lists.{total}

-- the list goes on from `seen`
abbrev pub StartsWith : {E : Type 0} → List E → List E → Type 0
StartsWith {E} log seen = (rest : List E) × (log ≡ seen ++ rest)

abbrev pub once_below : ℕ → ℕ → ℕ
once_below k n = cond (ltb k n) 1 0

abbrev pub busy_stage : Stage → ℕ
busy_stage Idle = 0
busy_stage (Waiting t) = 1
busy_stage (Inside t) = 1

module _ {E : Type 0} where
  abbrev pub first_view : ℕ → View E
  first_view n = record { parts = n; stage = Idle; seen = []; own = []; gathered = [] }

  -- how often the place k stands in a list of own entries
  abbrev pub times : ℕ → List (ℕ × E) → ℕ
  times k ps = total (λ (p : ℕ × E). cond (p.0 == k) 1 0) ps

  abbrev pub owned : ℕ → View E → ℕ
  owned k v = times k v.own + total (times k) v.gathered

  -- the entries with their places, from m on
  abbrev pub numbered : ℕ → List E → List (ℕ × E)
  numbered m [] = []
  numbered m (e ∷ es) = (m, e) ∷ numbered (m + 1) es

  -- each place has its entry in the history
  abbrev pub Stands : List E → List (ℕ × E) → Type 0
  Stands log ps = (i : ℕ) (p : ℕ × E) → get_elem? ps i ≡ some p → slice_get log p.0 ≡ Some p.1

  abbrev pub StageFits : ℕ → List ℕ → List E → ℕ → View E → Stage → Type 0
  StageFits base queue log i v Idle = Unit {0}
  StageFits base queue log i v (Waiting t) = (0 < v.parts) × (k : ℕ) × (get_elem? queue k ≡ some i) × (t ≡ (base + k) % 2 ^ 64)
  StageFits base queue log i v (Inside t) = (0 < v.parts) × (get_elem? queue 0 ≡ some i) × (v.seen ≡ log)

  pub record Fits (base : ℕ) (queue : List ℕ) (log : List E) (i : ℕ) (v : View E) : Type 0 where
    pub seen : StartsWith log v.seen
    pub own : Stands log v.own
    pub gathered : (j : ℕ) (ps : List (ℕ × E)) → get_elem? v.gathered j ≡ some ps → Stands log ps
    pub stage : StageFits base queue log i v v.stage
    pub spent : v.parts ≡ 0 → (v.own ≡ []) × (v.gathered ≡ [])

module _ {T E : Type 0} (history : T → List E) where
  -- the value at home has the history; if it is out, the head of the queue is inside
  abbrev pub IsHome : List ℕ → List (View E) → List E → Place (Option T) → Type 0
  IsHome queue views log none = (i : ℕ) × (v : View E) × (t : ℕ) × (get_elem? queue 0 ≡ some i) × (get_elem? views i ≡ some v) × (v.stage ≡ Inside t)
  IsHome queue views log (some None) = ⊥
  IsHome queue views log (some (Some x)) = history x ≡ log

  pub record Rule (n : ℕ) (s : State (Option T) (View E)) : Type 0 where
    pub base : ℕ
    pub queue : List ℕ
    pub log : List E
    pub home : Place (Option T)
    pub words : s.words ≡ ((base + length queue) % 2 ^ 64) ∷ (base % 2 ^ 64) ∷ []
    pub homes : s.homes ≡ home ∷ []
    pub is_home : IsHome queue s.views log home
    pub each : (i : ℕ) (v : View E) → get_elem? s.views i ≡ some v → Fits base queue log i v
    pub busy : length queue ≡ total (λ (v : View E). busy_stage v.stage) s.views
    pub parts : total (λ (v : View E). v.parts) s.views ≡ n
    pub few : n ≤ 16
    pub places : (k : ℕ) → total (owned k) s.views ≡ once_below k (length log)

-- a ticket was drawn
module _ {T E : Type 0} where
  abbrev pub Drew : Me (Option T) (View E) → ℕ → Me (Option T) (View E) → Type 0
  Drew m r w = (w.0 ≡ record m.0 { stage = Waiting r }) × (w.1 ≡ m.1)

module _ {T E : Type 0} (history : T → List E) where
  -- the value is the seat's, and its history goes on from what was seen
  abbrev pub Entered : Me (Option T) (View E) → ℕ → Me (Option T) (View E) → Type 0
  Entered m t w = (x : T) × (w.1 ≡ (0, Some x) ∷ []) × (w.0 ≡ record m.0 { stage = Inside t; seen = history x }) × StartsWith (history x) m.0.seen

  abbrev pub Looked : Me (Option T) (View E) → ℕ → Me (Option T) (View E) → Type 0
  Looked m r w = (t : ℕ) → m.0.stage ≡ Waiting t → MatchBool (r == t) (Entered m t w) (w ≡ m)

  -- what was handed back goes on from what was seen, and the entries that it grew by are the seat's own
  abbrev pub Passed : Me (Option T) (View E) → Me (Option T) (View E) → Type 0
  Passed m w = (x : T) × (es : List E) × (m.1 ≡ (0, Some x) ∷ []) × (history x ≡ m.0.seen ++ es) × (w.1 ≡ [])
      × (w.0 ≡ record m.0 { stage = Idle; seen = history x; own = m.0.own ++ numbered (length m.0.seen) es })

-- a seat is cut off, with one part and what was seen
module _ {E : Type 0} where
  abbrev pub cut_left : View E → View E
  cut_left v = record v { parts = v.parts - 1 }

  abbrev pub cut_right : View E → View E
  cut_right v = record { parts = 1; stage = Idle; seen = v.seen; own = []; gathered = [] }

  -- a seat takes in another: its parts, and what it left
  abbrev pub glued : View E → View E → View E
  glued v w = record v { parts = v.parts + w.parts; gathered = v.gathered ++ (w.own ∷ w.gathered) }

  abbrev pub used_up : View E
  used_up = first_view 0

  -- each place of the history stands once in what the seats have left, with the entry that is there
  pub record Shared (log : List E) (v : View E) : Type 0 where
    pub once : (k : ℕ) → owned k v ≡ once_below k (length log)
    pub own : Stands log v.own
    pub gathered : (j : ℕ) (ps : List (ℕ × E)) → get_elem? v.gathered j ≡ some ps → Stands log ps
