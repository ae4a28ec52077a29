-- The devices of channels, in a table.
use Rattle.std.specs.Prelude.{◌≡◌, ℕ, List}
use Rattle.std.specs.HashMap.{get}
use Rattle.vx_record.specs.Types.{Pid}
use Rattle.vx_laws.specs.Items.{Item}
use Rattle.vx_laws.specs.Lives.{device_name}
use Rattle.vx_judge.specs.Pairs.{pair_eq}
use Rattle.vx_judge.specs.declared.channels.Channels.{Channels}

-- each channel has the name that the past tells
abbrev pub AreNames : Channels → List Item → Type 0
AreNames t past = (p : Pid) (chan : ℕ) → get pair_eq t.map (p.0, chan) ≡ device_name past p chan
