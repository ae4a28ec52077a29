-- The places of mailboxes: one for each number.
use Rattle.std.specs.Prelude.{◌≡◌, ◌≢◌, ℕ, ◌+◌, ◌-◌, ◌<◌, ◌≤◌, List, drop, length, map, replicate, Option, None, IfSome, IsTrue, is_some, slice_index_or}
use Rattle.std.specs.List.{AllByRecursion}
use Rattle.vx_record.specs.Types.{Mailbox, Msg}
use Rattle.vx_base.specs.Queues.{stored_bytes}
use Rattle.vx_record.specs.Mailboxes.{or_no_box}
use Rattle.vx_mailbox.specs.Boxes.{Boxes, IsShort}

-- the mailbox that is there, if there is one, and for how many messages there is room in all
pub record Place : Type 0 where
  pub box : Option Mailbox
  pub room : ℕ

abbrev pub box_at : Place → Option Mailbox
box_at place = place.box

abbrev pub room_at : Place → ℕ
room_at place = place.room

abbrev pub no_place : Place
no_place = record { box = None; room = 0 }

-- another mailbox, or none, in the same room
abbrev pub with_box : Place → Option Mailbox → Place
with_box place box = record place { box = box }

-- there is room for a message more, if there is a mailbox
abbrev pub HasRoomFor : Place → Type 0
HasRoomFor place = IsTrue (is_some place.box) → length (or_no_box place.box).messages + 1 ≤ place.room

-- the table of the places
abbrev pub table_of : List Place → Boxes
table_of places = record { boxes = map box_at places; rooms = map room_at places }

-- there are 64 places, and each mailbox has room for a message more but the one that may be short; behind the used ones there is none
pub record IsTable (places : List Place) (short used : ℕ) : Type 0 where
  pub count : length places ≡ 64
  pub within : short < 64
  pub rooms : (k : ℕ) → k < 64 → k ≢ short → HasRoomFor (slice_index_or places k no_place)
  pub most : used ≤ 64
  pub behind : drop used (map box_at places) ≡ replicate (64 - used) None

-- each message is short, and their bytes are counted, if there is a count
pub record AreStored (messages : List Msg) (bytes : Option ℕ) : Type 0 where
  pub short : AllByRecursion IsShort messages
  pub counted : IfSome bytes (λ n. n ≡ stored_bytes messages)
