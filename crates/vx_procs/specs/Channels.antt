-- What the calls on the channels of a process answer and leave.
use Rattle.std.specs.Prelude.{ℕ, Option, Some, None, Result, Ok, Err}
use Rattle.vx_record.specs.Types.{Channel, Cond, Device, Mode}
use Rattle.vx_base.specs.declared.cond.Cond.TheVariants as cond
use Rattle.vx_record.specs.State.{Process}
use Rattle.vx_record.specs.Channels.{with_channel}
use Rattle.vx_chans.specs.declared.chans.ChanFail.{ChanFail}
use Rattle.vx_chans.specs.declared.chans.ChanFail.TheVariants.{IvChan, NoPriv, NoIoChan}

-- the condition of a refusal
abbrev pub cond_of : ChanFail → Cond
cond_of IvChan = cond.IvChan
cond_of NoPriv = cond.NoPriv
cond_of NoIoChan = cond.NoIoChan

abbrev pub or_cond : Result ℕ ChanFail → Result ℕ Cond
or_cond (Ok n) = Ok n
or_cond (Err fail) = Err (cond_of fail)

-- a channel that was found, or why none was
abbrev pub channel_of : Result (Device × Mode) Cond → Result Channel Cond
channel_of (Ok found) = Ok (record { device = found.0; mode = found.1 })
channel_of (Err c) = Err c

-- the process with a channel assigned, if there is a number for it
abbrev pub with_assigned : Device → Mode → Option ℕ → Process → Process
with_assigned dev mode None pr = pr
with_assigned dev mode (Some n) pr = with_channel n (Some (record { device = dev; mode = mode })) pr
