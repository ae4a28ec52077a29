-- Which of the rooms for a transfer's bytes are there.
use Rattle.std.specs.Prelude.{Bool, IsTrue}

-- room for the bytes that a request keeps, that are told, that a mailbox stores, and that a read gets
pub record Room : Type 0 where
  pub kept : Bool
  pub told : Bool
  pub stored : Bool
  pub read : Bool

-- all four are there
pub record AreFull (r : Room) : Type 0 where
  pub kept : IsTrue r.kept
  pub told : IsTrue r.told
  pub stored : IsTrue r.stored
  pub read : IsTrue r.read
