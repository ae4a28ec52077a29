-- A copy of what the executive keeps beside its state: as much room or more, and the same accounts.
use Rattle.std.specs.Prelude.{◌≡◌, List, [], ◌∷◌, Option, ⊤}
use Rattle.vx_record.specs.Types.{Req}
use Rattle.vx_units.specs.Leases.{Stand}
use Rattle.vx_procs.specs.Held.{Books}
use Rattle.vx_procs.specs.Kernel.{IsWithinRoom}
use Rattle.vx_procs.specs.Units.{Kept, asked_of, stand_of}

pub record IsWider (a b : Books) : Type 0 where
  pub room : IsWithinRoom a.room b.room
  pub account : b.account ≡ a.account

-- so it is of each process
abbrev pub AreWider : List Books → List Books → Type 0
AreWider [] [] = ⊤
AreWider [] (b ∷ news) = ⊥
AreWider (a ∷ olds) [] = ⊥
AreWider (a ∷ olds) (b ∷ news) = IsWider a b × AreWider olds news

-- what a unit is asked, and where its contents are

abbrev pub asked_in : Kept → Option Req
asked_in k = asked_of k.ending

abbrev pub stand_in : Kept → Stand
stand_in k = stand_of k.ending
