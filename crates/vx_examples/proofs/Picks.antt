-- The picks of a seed.
use Rattle.std.specs.Prelude.{◌≡◌, ◌∷◌, [], List, refl}
use Rattle.vx_base.specs.declared.record.Event.TheVariants as event
use Rattle.vx_record.specs.Types.{Event}
use Rattle.vx_examples.specs.Script.{process}
use Rattle.vx_record.specs.Runs.{next_seed, pick, picked}

-- seed 0 stays 0, and picks the first of any number
pub seed-zero : next_seed 0 ≡ 0
seed-zero = refl

pub picked-zero : picked 0 5 ≡ 0
picked-zero = refl

-- seed 1: of two events the first pick is the first, of three the third
pub seed-one : next_seed 1 ≡ 7806831264735756412
seed-one = refl

pub shifted-one : picked 7806831264735756412 908834775 ≡ 908834774
shifted-one = refl

pub picked-two : picked (next_seed 1) 2 ≡ 0
picked-two = refl

pub picked-three : picked (next_seed 1) 3 ≡ 2
picked-three = refl

abbrev three_events : List Event
three_events = event.Run (process 2) ∷ event.Tick ∷ []

pub pick-three : pick 1 (event.Run (process 1)) three_events ≡ event.Tick
pick-three = refl

pub pick-first : pick 0 (event.Run (process 1)) three_events ≡ event.Run (process 1)
pick-first = refl

-- a seed that comes to 0 later stays there: this one does at its next pick
pub seed-becomes_zero : next_seed 11066951453180645397 ≡ 0
seed-becomes_zero = refl
