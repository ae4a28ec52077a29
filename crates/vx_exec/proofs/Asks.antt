-- The services on channels, mailboxes and requests: how much they tell, and that they open one id at most.
use Rattle.std.proofs.Common.{◌≡◌, ℕ, ◌+◌, false, length, length-set, Option, Some, Result, Ok, ◌*◌, arith}
use Rattle.vx_record.specs.Types.{Cell, Channel, Cond, Device, Entry, Pid, Wait}
use Rattle.vx_base.specs.Pieces.{cleared}
use Rattle.vx_base.specs.declared.cond.Cond.TheVariants.{Normal}
use Rattle.vx_base.specs.declared.frame.Wait.TheVariants as wait
use Rattle.vx_base.specs.declared.request.Device.TheVariants as device
use Rattle.vx_record.specs.State.{Process, State}
use Rattle.vx_record.specs.Parts.{Part, answered, at_tested, part_of, and_then}
use Rattle.vx_record.specs.Charges.{is_attention}
use Rattle.vx_record.specs.Flags.{awaited_at, cell, flag_part, wait_condition}
use Rattle.vx_record.specs.Finish.{iosb_part}
use Rattle.vx_record.specs.Requests.{Asked, accepted, attention_on, attention_opened, cleared_part, done_at_once, new_attention, new_request, qio, qio_tested, qiow, qiow_tested, request_test, transfer, opened_request}
use Rattle.vx_record.specs.Cancel.{cancel_channel, cancel, dassgn}
use Rattle.vx_record.specs.Channels.{channel_test, free_channel}
use Rattle.vx_record.proofs.Lists.{either}
use Rattle.vx_exec.proofs.Goes.{Goes, GoesBy, goes_more, run_most}
use Rattle.vx_exec.proofs.Ends.{Ends, ends_before, ends_behind, ends_goes, ends_more, ends_then, flag_falls, iosb_falls}
use Rattle.vx_exec.proofs.Cancels.{channel_ends, free_falls}
use Rattle.vx_exec.proofs.Boxed.{attend_ends, begun_ends}

-- $QIO: a flag and a status block are cleared, and a request is opened.

cleared_ends : (s : State) (p : Pid) (q : Asked) (c : Cell) → Ends 2 s (cleared_part s p q c)
cleared_ends s p q c = let clear : Ends 1 s (flag_part s c false) = grind (arith, length-set {A = Process}) in ends_then 1 1 clear (iosb_falls p p _ q.iosb cleared).ends

-- a request is queued at a unit, or does its part at a mailbox
transfer_goes : (s : State) (p : Pid) (q : Asked) (ch : Channel) → Goes (13 + 2 * length s.attention) s (transfer s p q ch).after (transfer s p q ch).effects
transfer_goes s p q ch =
    let a = opened_request s p q ch in
    let opens : Goes 1 s a.after a.effects = grind arith in
    let same : length a.after.attention ≡ length s.attention = grind arith in
    let rest = begun_ends a.after (new_request s p q ch) ch.device in
    goes_more (1 + (12 + 2 * length s.attention)) _ (omega arith) (ends_behind 1 (12 + 2 * length s.attention) opens (ends_more _ _ (omega (arith, same)) rest))

-- an attention entry is opened, and may fire at once
attention_goes : (s : State) (p : Pid) (q : Asked) (d : Device) (o : Option Entry) → Goes 5 s (attention_on s p q d o).after (attention_on s p q d o).effects
attention_goes s p q (device.Mailbox b) (Some tag) =
    let a = new_attention s p q b tag in
    let x = attention_opened s p q a in
    let opens : Goes 1 s x.after x.effects = grind arith in
    let status = (iosb_falls p p x.after q.iosb done_at_once).ends in
    let t = (iosb_part x.after p q.iosb done_at_once).after in
    let flag = (flag_falls p t (cell t p q.efn)).ends in
    let last = ends_then 1 2 flag (attend_ends _ a) in
    ends_behind 2 3 (ends_behind 1 1 opens status) last
attention_goes s p q d o = grind arith

accepted_goes : (s : State) (p : Pid) (q : Asked) (c : Cell) (ch : Channel) → Goes (15 + 2 * length s.attention) s (accepted s p q c ch).after (accepted s p q c ch).effects
accepted_goes s p q c ch =
    let clear = cleared_ends s p q c in
    let t = (cleared_part s p q c).after in
    let n = 13 + 2 * length t.attention in
    let rest = either (λ (x : Part). Goes n t x.after x.effects) (is_attention q.func) _ _ (goes_more 5 n (omega arith) (attention_goes t p q ch.device q.ast)) (transfer_goes t p q ch) in
    goes_more (2 + n) _ (omega (arith, clear.attention)) (ends_before 2 n clear rest)

pub qio_goes : (s : State) (p : Pid) (q : Asked) → GoesBy p s (qio s p q)
qio_goes s p q = by (request_test s p q)
  where
    by : (r : Result (Cell × Channel) Cond) → GoesBy p s (qio_tested s p q r)
    by (Ok to) = goes_more _ (run_most s p) (omega arith) (accepted_goes s p q to.0 to.1)
    by r = grind arith

-- $QIOW waits in the top frame
pub qiow_goes : (s : State) (p : Pid) (q : Asked) → GoesBy p s (qiow s p q)
qiow_goes s p q = by (request_test s p q)
  where
    awaited : (t : State) (w : Wait) (o : Option Cond) → Ends 0 t (part_of (awaited_at t p w o))
    awaited t w o = grind (arith, length-set {A = Process})

    by : (r : Result (Cell × Channel) Cond) → GoesBy p s (qiow_tested s p q r)
    by (Ok to) =
        let n = 15 + 2 * length s.attention in
        let t = (accepted s p q to.0 to.1).after in
        let w = wait.Synch q.efn q.iosb in
        goes_more (n + 0) (run_most s p) (omega arith) (ends_behind n 0 (accepted_goes s p q to.0 to.1) (awaited t w (wait_condition t p w)))
    by r = grind arith

-- $CANCEL and $DASSGN.

at_channel_goes : (s : State) (p : Pid) (go : Channel → Part) (r : Result Channel Cond) → ((ch : Channel) → Ends (6 * length s.requests + length s.attention + 1) s (go ch)) → GoesBy p s (at_tested s (λ ch. answered Normal (go ch)) r)
at_channel_goes s p go (Ok ch) g = ends_goes _ (run_most s p) (omega arith) (g ch)
at_channel_goes s p go r g = grind arith

pub cancel_goes : (s : State) (p : Pid) (chan : ℕ) → GoesBy p s (cancel s p chan)
cancel_goes s p chan = at_channel_goes s p (λ ch. cancel_channel s p chan) (channel_test s p chan) (λ ch. ends_more _ _ (omega arith) (channel_ends s p chan))

pub dassgn_goes : (s : State) (p : Pid) (chan : ℕ) → GoesBy p s (dassgn s p chan)
dassgn_goes s p chan = at_channel_goes s p (λ ch. and_then (cancel_channel s p chan) (λ t. free_channel t p chan)) (channel_test s p chan) (λ ch. ends_then _ 1 (channel_ends s p chan) (free_falls p _ chan).ends)
