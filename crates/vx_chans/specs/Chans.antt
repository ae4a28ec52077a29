-- What the calls on the channels of a process answer and leave, in the words of `vx_base`.
use Rattle.std.specs.Prelude.{ℕ, ◌-◌, List, Option, Some, None, Result, Ok, Err, if◌then◌else◌, slice_set}
use Rattle.vx_base.specs.Channels.{is_channel_number, channel_at}
use Rattle.vx_base.specs.Modes.{is_inner}
use Rattle.vx_base.specs.Pieces.{Channel}
use Rattle.vx_base.specs.declared.mode.Mode.{Mode}
use Rattle.vx_base.specs.declared.request.Device.{Device}
use Rattle.vx_base.specs.declared.request.Device.TheVariants as device
use Rattle.vx_chans.specs.declared.chans.ChanFail.{ChanFail}
use Rattle.vx_chans.specs.declared.chans.ChanFail.TheVariants.{IvChan, NoPriv, NoIoChan}

-- assigning answers the least free number, and NOIOCHAN if there is none
abbrev pub number_or_none : Option ℕ → Result ℕ ChanFail
number_or_none None = Err NoIoChan
number_or_none (Some n) = Ok n

-- the channel of a number assigned
abbrev pub with_channel : List (Option Channel) → Option ℕ → Channel → List (Option Channel)
with_channel rows None channel = rows
with_channel rows (Some n) channel = slice_set rows (n - 1) (Some channel)

-- the channel of a number freed
abbrev pub without_channel : List (Option Channel) → ℕ → List (Option Channel)
without_channel rows n = slice_set rows (n - 1) None

-- NOPRIV if it is free or further in than the mode that asks
abbrev pub allowed : Mode → Option Channel → Result (Device × Mode) ChanFail
allowed current None = Err NoPriv
allowed current (Some channel) = if is_inner channel.mode current then Err NoPriv else Ok (channel.device, channel.mode)

-- IVCHAN if it is no number of a channel
abbrev pub found : List (Option Channel) → ℕ → Mode → Result (Device × Mode) ChanFail
found rows n current = if is_channel_number n then allowed current (channel_at rows n) else Err IvChan
