-- The channels of a process: at place n - 1 of a list stands channel n, None if it is free.
use Rattle.std.specs.Prelude.{ℕ, ◌+◌, ◌-◌, List, [], ◌∷◌, Bool, false, ◌&&◌, ◌==◌, nat_lt, nat_le, if◌then◌else◌, Option, Some, None, slice_index_or}
use Rattle.std.specs.List.{find}
use Rattle.vx_base.specs.Modes.{reaches}
use Rattle.vx_base.specs.Pieces.{Channel}
use Rattle.vx_base.specs.declared.mode.Mode.{Mode}
use Rattle.vx_base.specs.declared.number.BoxNo.{BoxNo}
use Rattle.vx_base.specs.declared.request.Device.{Device}
use Rattle.vx_base.specs.declared.request.Device.TheVariants as device

-- channels are numbered from 1 to 64
abbrev pub is_channel_number : ℕ → Bool
is_channel_number n = nat_le 1 n && nat_le n 64

-- channel n, if it is assigned
abbrev pub channel_at : List (Option Channel) → ℕ → Option Channel
channel_at rows n = slice_index_or rows (n - 1) None

-- the least free number, of those from n on
abbrev pub free_from : ℕ → List (Option Channel) → Option ℕ
free_from n [] = None
free_from n (None ∷ rows) = Some n
free_from n (Some row ∷ rows) = free_from (n + 1) rows

abbrev pub least_free : List (Option Channel) → Option ℕ
least_free rows = free_from 1 rows

-- it is assigned, in this mode or an outer one
abbrev pub is_reached : Mode → Option Channel → Bool
is_reached m None = false
is_reached m (Some row) = reaches row.mode m

-- the numbers of the channels of this mode and outer ones, rising
abbrev pub reached_from : ℕ → Mode → List (Option Channel) → List ℕ
reached_from n m [] = []
reached_from n m (row ∷ rows) = if is_reached m row then n ∷ reached_from (n + 1) m rows else reached_from (n + 1) m rows

abbrev pub channels_of : Mode → List (Option Channel) → List ℕ
channels_of m rows = reached_from 1 m rows

-- the next of them after a number
abbrev pub next_of_mode : Mode → ℕ → List (Option Channel) → Option ℕ
next_of_mode m after rows = find (λ n. nat_lt after n) (channels_of m rows)

-- a channel to a mailbox

abbrev pub is_box : BoxNo → Device → Bool
is_box b (device.Unit u) = false
is_box b (device.Mailbox c) = b.0 == c.0

abbrev pub is_channel_to : BoxNo → Option Channel → Bool
is_channel_to b None = false
is_channel_to b (Some channel) = is_box b channel.device
