-- Channels and mailboxes: assigning, creating, freeing, marking.
use Rattle.std.specs.Prelude.{ℕ, ◌-◌, List, [], Bool, true, false, ◌&&◌, ◌||◌, ◌==◌, not, nat_lt, if◌then◌else◌, Option, Some, None, Result, Ok, Err, bytes_eq, is_some, is_none, position, slice_set}
use Rattle.std.specs.List.{list_any}
use Rattle.vx_base.specs.Channels.{is_channel_number, channel_at, least_free}
pub use Rattle.vx_base.specs.Channels.{is_channel_to}
use Rattle.vx_base.specs.Modes.{outer, is_inner}
use Rattle.vx_record.specs.Types.{BoxNo, Channel, Cond, Device, Mailbox, Mode, Pid, UnitDecl}
use Rattle.vx_base.specs.declared.cond.Cond.TheVariants.{Normal, IvChan, NoPriv, NoIoChan, NoSuchDev, BadParam, NoSlot, DevNotMbx}
use Rattle.vx_base.specs.declared.effects.Effect.TheVariants as effect
use Rattle.vx_base.specs.declared.request.Device.TheVariants as device
use Rattle.vx_record.specs.State.{Process, State, process_at, change, current, with_box}
use Rattle.vx_record.specs.Parts.{Part, Outcome, nothing, tells, and_then, part_if, answered, refused, refused_value, at_tested}
use Rattle.vx_record.specs.Mailboxes.{mailbox_at}

-- Channel test: IVCHAN for a number that is none, NOPRIV for a free channel or one of a mode inner than the caller's.

abbrev pub usable_in : Mode → Option Channel → Result Channel Cond
usable_in mode None = Err NoPriv
usable_in mode (Some ch) = if is_inner ch.mode mode then Err NoPriv else Ok ch

abbrev pub channel_test : State → Pid → ℕ → Result Channel Cond
channel_test s p n = if is_channel_number n then usable_in (current s p) (channel_at (process_at s p).channels n) else Err IvChan

abbrev pub at_channel : State → Pid → ℕ → (Channel → Outcome Cond) → Outcome Cond
at_channel s p n go = at_tested s go (channel_test s p n)

-- Devices by name.

abbrev pub is_unit_of : List ℕ → UnitDecl → Bool
is_unit_of name u = bytes_eq u.name name

abbrev pub is_box_of : List ℕ → Option Mailbox → Bool
is_box_of name None = false
is_box_of name (Some box) = bytes_eq box.name name

abbrev pub unit_number : ℕ → Device
unit_number n = device.Unit (record { 0 = n })

abbrev pub box_number : ℕ → BoxNo
box_number n = record { 0 = n }

abbrev pub unit_named : State → List ℕ → Option ℕ
unit_named s name = position (is_unit_of name) s.system.units

abbrev pub box_named : State → List ℕ → Option ℕ
box_named s name = position (is_box_of name) s.boxes

abbrev pub unit_or_box : Option ℕ → Option ℕ → Option Device
unit_or_box (Some u) b = Some (unit_number u)
unit_or_box None (Some b) = Some (device.Mailbox (box_number b))
unit_or_box None None = None

abbrev pub device_named : State → List ℕ → Option Device
device_named s name = unit_or_box (unit_named s name) (box_named s name)

-- Assigning: the least free number.

abbrev pub with_channel : ℕ → Option Channel → Process → Process
with_channel n ch pr = record pr { channels = slice_set pr.channels (n - 1) ch }

abbrev pub assigned : State → Pid → Device → Mode → ℕ → State
assigned s p dev mode n = change s p (with_channel n (Some (record { device = dev; mode = mode })))

abbrev pub free_channel_of : State → Pid → Option ℕ
free_channel_of s p = least_free (process_at s p).channels

abbrev pub assign_at : State → Pid → Device → Mode → Option ℕ → Outcome (Result ℕ Cond)
assign_at s p dev mode None = refused_value s NoIoChan
assign_at s p dev mode (Some n) = answered (Ok n) (nothing (assigned s p dev mode n))

abbrev pub assign_to : State → Pid → Mode → Option Device → Outcome (Result ℕ Cond)
assign_to s p mode None = refused_value s NoSuchDev
assign_to s p mode (Some dev) = assign_at s p dev mode (free_channel_of s p)

-- $ASSIGN: the number of the channel, which gets the outer one of the mode and the caller's
abbrev pub assign : State → Pid → List ℕ → Mode → Outcome (Result ℕ Cond)
assign s p name mode = assign_to s p (outer mode (current s p)) (device_named s name)

-- $CREMBX

abbrev pub is_bad_box : State → List ℕ → ℕ → ℕ → Bool
is_bad_box s name maxmsg bufquo =
    is_some (unit_named s name) || (nat_lt maxmsg 1 || (nat_lt 2048 maxmsg || (nat_lt bufquo maxmsg || nat_lt 65535 bufquo)))

abbrev pub new_box : List ℕ → ℕ → ℕ → ℕ → Mailbox
new_box name perm maxmsg bufquo = record { name = name; permanent = not (perm == 0); marked = false; maxmsg = maxmsg; bufquo = bufquo; messages = [] }

abbrev pub box_made : State → ℕ → Mailbox → Part
box_made s b box = tells (effect.Mbx box.name true) (with_box s (box_number b) (Some box))

-- a new mailbox and a channel to it
abbrev pub make_box : State → Pid → Mode → Mailbox → ℕ → Option ℕ → Outcome (Result ℕ Cond)
make_box s p mode box b None = refused_value s NoIoChan
make_box s p mode box b (Some n) = answered (Ok n) (and_then (box_made s b box) (λ a. nothing (assigned a p (device.Mailbox (box_number b)) mode n)))

abbrev pub make_box_in : State → Pid → Mode → Mailbox → Option ℕ → Outcome (Result ℕ Cond)
make_box_in s p mode box None = refused_value s NoSlot
make_box_in s p mode box (Some b) = make_box s p mode box b (free_channel_of s p)

abbrev pub create_box : State → Pid → Mode → Mailbox → Outcome (Result ℕ Cond)
create_box s p mode box =
    if box.permanent && not (process_at s p).privs.prmmbx then refused_value s NoPriv else
    make_box_in s p mode box (position is_none s.boxes)

-- a mailbox that is there is assigned as it is
abbrev pub find_or_create : State → Pid → Mode → Mailbox → Option ℕ → Outcome (Result ℕ Cond)
find_or_create s p mode box None = create_box s p mode box
find_or_create s p mode box (Some b) = assign_at s p (device.Mailbox (box_number b)) mode (free_channel_of s p)

abbrev pub crembx : State → Pid → List ℕ → ℕ → ℕ → ℕ → Mode → Outcome (Result ℕ Cond)
crembx s p name perm maxmsg bufquo mode =
    if is_bad_box s name maxmsg bufquo then refused_value s BadParam else
    find_or_create s p (outer mode (current s p)) (new_box name perm maxmsg bufquo) (box_named s name)

-- $DELMBX: a permanent mailbox is marked; a temporary one goes by itself

abbrev pub marked_box : State → BoxNo → Part
marked_box s b = nothing (with_box s b (Some (record (mailbox_at s b) { marked = true })))

abbrev pub delete_box : State → Pid → BoxNo → Outcome Cond
delete_box s p b =
    if (mailbox_at s b).permanent && not (process_at s p).privs.prmmbx then refused s NoPriv else
    answered Normal (part_if (mailbox_at s b).permanent (marked_box s b) s)

abbrev pub delmbx_on : State → Pid → Device → Outcome Cond
delmbx_on s p (device.Unit u) = refused s DevNotMbx
delmbx_on s p (device.Mailbox b) = delete_box s p b

abbrev pub delmbx_at : State → Pid → Channel → Outcome Cond
delmbx_at s p ch = delmbx_on s p ch.device

abbrev pub delmbx : State → Pid → ℕ → Outcome Cond
delmbx s p n = at_channel s p n (delmbx_at s p)

-- Freeing a channel: its mailbox goes with the last channel to it, if it is temporary or marked; its messages are lost.

abbrev pub has_channel_to : BoxNo → Process → Bool
has_channel_to b pr = list_any (is_channel_to b) pr.channels

abbrev pub is_assigned : State → BoxNo → Bool
is_assigned s b = list_any (has_channel_to b) s.procs

abbrev pub goes_unused : Mailbox → Bool
goes_unused box = box.marked || not box.permanent

abbrev pub box_gone : State → BoxNo → Part
box_gone s b = tells (effect.Mbx (mailbox_at s b).name false) (with_box s b None)

abbrev pub swept_device : State → Device → Part
swept_device s (device.Unit u) = nothing s
swept_device s (device.Mailbox b) = part_if (not (is_assigned s b) && goes_unused (mailbox_at s b)) (box_gone s b) s

abbrev pub swept_box : State → Option Channel → Part
swept_box s None = nothing s
swept_box s (Some ch) = swept_device s ch.device

abbrev pub free_channel : State → Pid → ℕ → Part
free_channel s p n = swept_box (change s p (with_channel n None)) (channel_at (process_at s p).channels n)
