-- A mailbox apart from its messages.
use Rattle.std.specs.Prelude.{◌≡◌, ⊤, List, [], Option, Some, None}
use Rattle.vx_record.specs.Types.{Mailbox, Msg}
use Rattle.vx_mailbox.specs.declared.place.Head.{Head}

-- the mailbox with this head and these messages
abbrev pub mailbox_of : Head → List Msg → Mailbox
mailbox_of head messages = record { name = head.name; permanent = head.permanent; marked = head.marked; maxmsg = head.maxmsg; bufquo = head.bufquo; messages = messages }

-- the mailbox with this head, if there is one, and these messages
abbrev pub box_of : Option Head → List Msg → Option Mailbox
box_of None messages = None
box_of (Some head) messages = Some (mailbox_of head messages)

-- if there is no mailbox, no message is stored
abbrev pub HeldBy : Option Head → List Msg → Type 0
HeldBy None messages = messages ≡ []
HeldBy (Some head) messages = ⊤
