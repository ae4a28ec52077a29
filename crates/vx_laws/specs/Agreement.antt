-- The agreement as one statement: what the state holds is what the records leave.
use Rattle.std.specs.Prelude.{◌≡◌, ℕ, ◌+◌, ◌≤◌, List, [], true, Some, is_some, IsTrue, map, option_map}
use Rattle.std.specs.List.{AllByRecursion, find, list_any}
use Rattle.vx_base.specs.Channels.{channel_at}
use Rattle.vx_base.specs.Clusters.{is_association, stands}
use Rattle.vx_base.specs.Pieces.{is_enabled_in}
use Rattle.vx_record.specs.Types.{BoxNo, Cell, Id, Mode, Pid}
use Rattle.vx_image.specs.Storage.{status_at}
use Rattle.vx_record.specs.Charges.{charge}
use Rattle.vx_record.specs.Channels.{is_box_of}
use Rattle.vx_record.specs.Control.{is_deleted}
use Rattle.vx_record.specs.Finish.{this_request}
use Rattle.vx_record.specs.Flags.{flags_of}
use Rattle.vx_record.specs.Mailboxes.{mailbox_at, this_attention, waits_at}
use Rattle.vx_record.specs.Rundown.{this_handler}
use Rattle.vx_record.specs.State.{State, IsProcess, box_at, decl_of, process_at}
use Rattle.vx_record.specs.Timers.{this_timer}
use Rattle.vx_laws.specs.Agrees.{AreEntries, AsCalled, IsOwned, OfChannelCall, as_stored, as_waiting, box_stands, cluster_of, cluster_stands, device_title, entered_frames, has_kind, is_attending, is_handler_of, is_timed, waited}
use Rattle.vx_laws.specs.Boxes.{stored}
use Rattle.vx_laws.specs.Charges.{charge_by}
use Rattle.vx_laws.specs.Frames.{awaited, enabled_by, entered, waiting}
use Rattle.vx_laws.specs.Items.{Item}
use Rattle.vx_laws.specs.Lives.{is_outstanding, life, opens}
use Rattle.vx_laws.specs.QuotaSum.{decl_by}
use Rattle.vx_laws.specs.RundownLaw.{is_gone}
use Rattle.vx_laws.specs.Values.{cluster_by, flags_by, status_by}
use Rattle.vx_base.specs.Lists.{is_some_and}

-- What is open: the next id, the requests, the timers and wakes, the attention entries, the exit handlers of a process. A request
-- is as its call says, on the device that its channel was on.
pub record OpenAgrees (s : State) (past : List Item) : Type 0 where
  pub next : s.next ≡ opens past + 1
  pub requests : (id : Id) → list_any (this_request id) s.requests ≡ is_some_and is_outstanding (life past id)
  pub timers : (id : Id) → list_any (this_timer id) s.timers ≡ is_some_and (has_kind is_timed) (life past id)
  pub attention : (id : Id) → list_any (this_attention id) s.attention ≡ is_some_and (has_kind is_attending) (life past id)
  pub handlers : (p : Pid) (id : Id) → 1 ≤ p.0 → list_any (this_handler id) (process_at s p).handlers ≡ is_some_and (is_handler_of p) (life past id)
  pub called : AllByRecursion (λ r. AsCalled past r.req) s.requests
  pub devices : AllByRecursion (λ r. option_map (λ l. l.device) (life past r.req.id) ≡ Some (Some (device_title s r.req.device))) s.requests

-- A process: its declaration, its AST enables and queued ASTs, its frames and what each waits for, its channels, what it is
-- charged, and whether it is gone.
pub record ProcessAgrees (s : State) (past : List Item) (p : Pid) : Type 0 where
  pub declaration : decl_by s.system past p ≡ Some (decl_of s p)
  pub enables : (m : Mode) → is_enabled_in (process_at s p).enables m ≡ enabled_by past p m
  pub asts : map as_waiting (process_at s p).asts ≡ waiting past p
  pub frames : AreEntries (entered_frames (process_at s p).frames) (entered past p)
  pub waits : map (λ f. f.wait) (process_at s p).frames ≡ map waited (awaited past p)
  pub channels : (n : ℕ) → 1 ≤ n → OfChannelCall s past p n (channel_at (process_at s p).channels n)
  pub charges : charge s p ≡ charge_by past p
  pub gone : is_deleted (process_at s p) ≡ is_gone past p

-- Values: event flags, status blocks, and the common clusters with who has them.
pub record ValuesAgree (s : State) (past : List Item) : Type 0 where
  pub flags : (c : Cell) → IsOwned c → flags_of s c ≡ flags_by past c
  pub statuses : (p : Pid) (i : ℕ) → 1 ≤ p.0 → 1 ≤ i → i ≤ 32 → status_at (process_at s p).store i ≡ status_by past p i
  pub associations : (p : Pid) (k : ℕ) → cluster_of (find (is_association p k) s.common.associations) ≡ cluster_by past p k
  pub clusters : (group : ℕ) (name : List ℕ) → stands s.common group name ≡ cluster_stands past group name

-- A mailbox that stands: its messages and who wrote them; and while a read waits it has none.
pub record BoxAgrees (s : State) (past : List Item) (b : BoxNo) : Type 0 where
  pub messages : map as_stored (mailbox_at s b).messages ≡ stored past (mailbox_at s b).name
  pub writers : AllByRecursion (λ m. option_map (λ l. l.p) (life past m.id) ≡ Some m.writer) (mailbox_at s b).messages
  pub reads : list_any (waits_at b) s.requests ≡ true → (mailbox_at s b).messages ≡ []

-- All of it. Mailboxes stand as the records say.
pub record StateAgrees (s : State) (past : List Item) : Type 0 where
  pub opened : OpenAgrees s past
  pub procs : (p : Pid) → IsProcess s p → ProcessAgrees s past p
  pub values : ValuesAgree s past
  pub stands : (name : List ℕ) → list_any (is_box_of name) s.boxes ≡ box_stands past name
  pub boxes : (b : BoxNo) → IsTrue (is_some (box_at s b)) → BoxAgrees s past b
