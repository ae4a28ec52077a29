-- A lock and its seats, as its callers see them.
use Rattle.std.specs.Prelude.{◌≡◌, ◌⊎◌, ℕ, ◌<◌, List, [], ◌∷◌, ◌++◌, length, Option, None}
use Rattle.atomic_table.specs.Table.{Me}
use Rattle.vx_turn.specs.declared.view.Stage.TheVariants.{Idle, Inside}
use Rattle.vx_turn.specs.declared.view.View.{View}
use mathlib.Core.Option.{some}
use lib.ListN.{get_elem?}
use Rattle.atomic_table.specs.Seated.{TableId}
use Rattle.atomic_table.specs.declared.shared.Seat.{Seat}
use Rattle.vx_turn.specs.Rule.{numbered, owned, once_below, first_view, Stands}
use Rattle.vx_base.specs.Lists.{total}

-- The lock: by which table its seats know it, and how many seats it has.
pub record Lock : Type 0 where
  pub table : TableId
  pub seats : ℕ

-- the table has a word for tickets, a word for the one that is served, and a slot for the value
pub record IsTicketed (z : TableId) : Type 0 where
  pub words : z.words ≡ 2
  pub slots : z.slots ≡ 1

module _ {T E : Type 0} where
  -- the seat is not inside
  pub record IsOutside (m : Me (Option T) (View E)) : Type 0 where
    pub holds : m.1 ≡ []
    pub stage : m.0.stage ≡ Idle
    pub part : 0 < m.0.parts

  -- a seat of this table that is not inside
  pub record IsFree (z : TableId) (s : Seat (Option T) (View E)) : Type 0 where
    pub table : s.table_id ≡ z
    pub outside : IsOutside s.me

  -- a seat of this table that is inside: the value is out
  pub record IsInside (z : TableId) (s : Seat (Option T) (View E)) : Type 0 where
    pub table : s.table_id ≡ z
    pub holds : s.me.1 ≡ (0, None) ∷ []
    pub ticket : ℕ
    pub stage : s.me.0.stage ≡ Inside ticket
    pub part : 0 < s.me.0.parts

module _ {E : Type 0} where
  -- what a seat has left stays
  pub record Keeps (v w : View E) : Type 0 where
    pub parts : w.parts ≡ v.parts
    pub own : w.own ≡ v.own
    pub gathered : w.gathered ≡ v.gathered

  -- the entries by which the history grew are the seat's own
  pub record Adds (v w : View E) (log : List E) : Type 0 where
    pub more : List E
    pub log_is : log ≡ v.seen ++ more
    pub seen : w.seen ≡ log
    pub parts : w.parts ≡ v.parts
    pub own : w.own ≡ v.own ++ numbered (length v.seen) more
    pub gathered : w.gathered ≡ v.gathered

module _ {T E : Type 0} where
  -- it has seen nothing and left nothing
  abbrev pub IsNew : TableId → Seat (Option T) (View E) → Type 0
  IsNew z s = (s.table_id ≡ z) × (s.me ≡ (first_view 1, []))

  -- how often the place k stands in what these seats have left
  abbrev pub left_by : ℕ → List (Seat (Option T) (View E)) → ℕ
  left_by k seats = total (λ (s : Seat (Option T) (View E)). owned k s.me.0) seats

  abbrev pub parts_of : List (Seat (Option T) (View E)) → ℕ
  parts_of seats = total (λ (s : Seat (Option T) (View E)). s.me.0.parts) seats

  -- what the seats have left is the history: each place once, with the entry that is there
  pub record IsSharedBy (log : List E) (seats : List (Seat (Option T) (View E))) : Type 0 where
    pub once : (k : ℕ) → left_by k seats ≡ once_below k (length log)
    pub stand : (i : ℕ) (s : Seat (Option T) (View E)) → get_elem? seats i ≡ some s → Stands log s.me.0.own

module _ {T E : Type 0} where
  -- a free seat that has taken in no other
  pub record IsOne (z : TableId) (s : Seat (Option T) (View E)) : Type 0 where
    pub free : IsFree z s
    pub one : s.me.0.parts ≡ 1

module _ {E : Type 0} where
  -- the list is what this view left, or one that it took in
  abbrev pub IsTaken : List (ℕ × E) → View E → Type 0
  IsTaken ps v = (ps ≡ v.own) ⊎ ((j : ℕ) × (get_elem? v.gathered j ≡ some ps))
