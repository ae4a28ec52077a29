-- Mailboxes by number, and attention entries.
use Rattle.std.specs.Prelude.{ℕ, ◌+◌, ◌<◌, ◌≤◌, List, length, IsTrue, is_some, Option, None, slice_index_or, slice_set}
use Rattle.vx_record.specs.Types.{Attention, BoxNo, Mailbox, Msg}
use Rattle.vx_base.specs.Queues.{body_bytes}
use Rattle.vx_base.specs.Roomy.{Roomy}
use Rattle.vx_record.specs.Mailboxes.{or_no_box}

-- The mailboxes by number, from 0, None if there is none; and for how many messages there is room in each number's place.
pub record Boxes : Type 0 where
  pub boxes : List (Option Mailbox)
  pub rooms : List ℕ

-- the mailbox of a number, one with nothing in it if there is none
abbrev pub box_in : List (Option Mailbox) → BoxNo → Mailbox
box_in boxes b = or_no_box (slice_index_or boxes b.0 None)

-- there is a mailbox of this number
abbrev pub StandsIn : List (Option Mailbox) → BoxNo → Type 0
StandsIn boxes b = IsTrue (is_some (slice_index_or boxes b.0 None))

-- the mailbox of a number in its place
abbrev pub with_box_in : List (Option Mailbox) → BoxNo → Option Mailbox → List (Option Mailbox)
with_box_in boxes b box = slice_set boxes b.0 box

-- a mailbox with other messages
abbrev pub holding : Mailbox → List Msg → Mailbox
holding box messages = record box { messages = messages }

-- a message has no more bytes than one transfer
abbrev pub IsShort : Msg → Type 0
IsShort m = length (body_bytes m.body) ≤ 2048

-- there is room for a message more in each mailbox
abbrev pub HaveRoom : List (Option Mailbox) → List ℕ → Type 0
HaveRoom boxes rooms = (b : BoxNo) → b.0 < 64 → StandsIn boxes b → length (box_in boxes b).messages + 1 ≤ slice_index_or rooms b.0 0

-- The attention entries in id order, and how many there is room for in all.
abbrev pub Attentions : Type 0
Attentions = Roomy Attention
