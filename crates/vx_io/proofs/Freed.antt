-- A channel is cancelled, and freed behind that.
use Rattle.std.proofs.Common.{◌≡◌, ℕ, List, [], ◌∷◌, IsSome, IsTrue, Option, Some, None, Ok, refl, ap, sym, subst, ◌∙◌}
use Rattle.std.specs.List.{AllByRecursion, filter}
use Rattle.vx_base.specs.Channels.{channel_at, is_channel_number}
use Rattle.vx_record.specs.Types.{Attention, Channel, Cond, Pid}
use Rattle.vx_base.specs.declared.cond.Cond.TheVariants.{Normal}
use Rattle.vx_record.specs.Cancel.{cancel_channel, dassgn, dassgn_at, drop_attention, drop_attentions, is_attention_on, is_request_on}
use Rattle.vx_record.specs.Channels.{channel_test, free_channel}
use Rattle.vx_record.specs.Parts.{Outcome, and_then, answered, at_tested, each}
use Rattle.vx_record.specs.Sound.{AreOrdered, ChannelStands, DeviceStands, RequestStands, attention_id, ground}
use Rattle.vx_record.specs.State.{State, IsProcess, process_at}
use Rattle.vx_record.proofs.Lists.{all_weaker}
use Rattle.vx_record.proofs.SoundRequests.{tested_channel}
use Rattle.vx_procs.specs.Kernel.{Acts, Does, Fits, Kernel, told, with_state}
use Rattle.vx_procs.proofs.Rest.{acts_both, room_first, room_second}
use Rattle.vx_io.specs.Cancelling.{AreCancellable, cancel_requests}
use Rattle.vx_io.specs.Finishing.{AreRequests}
use Rattle.vx_io.proofs.Asked.{channel_stands}
use Rattle.vx_io.proofs.Kept.{made_kept, requests_kept, row_kept}
use Rattle.vx_io.proofs.Steady.{steady_of}

-- What cancelling a channel keeps.

-- the processes with their channels, and that devices are there
pub record AreThere (s t : State) : Type 0 where
  pub made : (p : Pid) → IsProcess s p → IsProcess t p
  pub channels : (q : Pid) → (process_at t q).channels ≡ (process_at s q).channels
  pub rows : (o : Option Channel) → ChannelStands (ground s) o → ChannelStands (ground t) o

dropped_kept : (xs : List Attention) (s : State) → AreThere s (each drop_attention xs s).after
dropped_kept [] s = record { made = λ p h. h; channels = λ q. refl; rows = λ o h. h }
dropped_kept (a ∷ xs) s =
    let t = (drop_attention s a).after in
    let rest = dropped_kept xs t in
    record { made = λ p h. rest.made p (record { above = h.above; within = h.within }); channels = λ q. rest.channels q; rows = λ o h. rest.rows o (same_row o h) }
  where
    same_row : (o : Option Channel) → ChannelStands (ground s) o → ChannelStands (ground (drop_attention s a).after) o
    same_row None h = tt
    same_row (Some ch) h = h

pub channel_kept : (s : State) (p : Pid) (chan : ℕ) → AreThere s (cancel_channel s p chan).after
channel_kept s p chan =
    let t = (cancel_requests p chan s).after in
    let first = requests_kept s (filter (is_request_on p chan) s.requests) in
    let rest = dropped_kept (filter (is_attention_on p chan) t.attention) t in
    record {
      made = λ q h. rest.made q (made_kept s t q first h);
      channels = λ q. rest.channels q ∙ first.channels q;
      rows = λ o h. rest.rows o (row_kept s t o first h);
    }

-- Cancelling relies on.

pub cancellable : (s : State) → AreRequests s → AreOrdered attention_id 0 s.next s.attention → AreCancellable s
cancellable s h entries = record {
  devices = all_weaker (RequestStands (ground s)) (λ r. DeviceStands (ground s) r.req.device) (λ r k. k.stands) s.requests h.stand;
  steady = steady_of s h entries;
}

pub entries_after : (k l : Kernel) (p : Pid) (chan : ℕ) → AreOrdered attention_id 0 k.state.next k.state.attention → Acts (cancel_requests p chan k.state) k l → AreOrdered attention_id 0 l.state.next l.state.attention
entries_after k l p chan order did =
    let s = k.state in
    let t = (cancel_requests p chan s).after in
    let kept = requests_kept s (filter (is_request_on p chan) s.requests) in
    subst (λ (y : Kernel). AreOrdered attention_id 0 y.state.next y.state.attention) (sym did)
    (subst (λ n. AreOrdered attention_id 0 n t.attention) (sym kept.next) (subst (AreOrdered attention_id 0 s.next) (sym kept.attention) order))

pub requests_room : (k : Kernel) (p : Pid) (chan : ℕ) → Fits k (cancel_channel k.state p chan).effects → Fits k (cancel_requests p chan k.state).effects
requests_room k p chan room = room_first k (cancel_requests p chan k.state) (λ a. drop_attentions a p chan) room

pub entries_room : (k l : Kernel) (p : Pid) (chan : ℕ) → Acts (cancel_requests p chan k.state) k l → Fits k (cancel_channel k.state p chan).effects → Fits l (drop_attentions l.state p chan).effects
entries_room k l p chan did room = room_second k l (cancel_requests p chan k.state) (λ a. drop_attentions a p chan) did room

pub channel_cancelled : (k l n : Kernel) (p : Pid) (chan : ℕ) → Acts (cancel_requests p chan k.state) k l → Acts (drop_attentions l.state p chan) l n → Acts (cancel_channel k.state p chan) k n
channel_cancelled k l n p chan did then = acts_both k l n (cancel_requests p chan k.state) (λ a. drop_attentions a p chan) did then

-- $DASSGN

tested : (s : State) (p : Pid) (chan : ℕ) (ch : Channel) → channel_test s p chan ≡ Ok ch → dassgn s p chan ≡ answered Normal (and_then (cancel_channel s p chan) (λ t. free_channel t p chan))
tested s p chan ch test = ap (at_tested s (dassgn_at s p chan)) test

-- a channel of the process was found, and what is done on it was cancelled
pub record IsClearing (k l : Kernel) (p : Pid) (chan : ℕ) (ch : Channel) : Type 0 where
  pub test : channel_test k.state p chan ≡ Ok ch
  pub did : Acts (cancel_channel k.state p chan) k l

pub clear_made : (k l : Kernel) (p : Pid) (chan : ℕ) (ch : Channel) → IsClearing k l p chan ch → IsProcess k.state p → IsProcess l.state p
clear_made k l p chan ch h made = subst (λ (x : Kernel). IsProcess x.state p) (sym h.did) ((channel_kept k.state p chan).made p made)

pub clear_number : (k l : Kernel) (p : Pid) (chan : ℕ) (ch : Channel) → IsClearing k l p chan ch → IsTrue (is_channel_number chan)
clear_number k l p chan ch h = (tested_channel k.state p chan ch h.test).0

row_after : (k l : Kernel) (p : Pid) (chan : ℕ) (ch : Channel) → IsClearing k l p chan ch → channel_at (process_at l.state p).channels chan ≡ Some ch
row_after k l p chan ch h =
    ap (λ (x : Kernel). channel_at (process_at x.state p).channels chan) h.did
    ∙ (ap (λ rows. channel_at rows chan) ((channel_kept k.state p chan).channels p) ∙ (tested_channel k.state p chan ch h.test).1)

is_there : (o : Option Channel) (ch : Channel) → o ≡ Some ch → IsSome o
is_there None ch e = absurd (cc)
is_there (Some x) ch e = refl

pub clear_there : (k l : Kernel) (p : Pid) (chan : ℕ) (ch : Channel) → IsClearing k l p chan ch → IsSome (channel_at (process_at l.state p).channels chan)
clear_there k l p chan ch h = is_there (channel_at (process_at l.state p).channels chan) ch (row_after k l p chan ch h)

pub clear_stands : (k l : Kernel) (p : Pid) (chan : ℕ) (ch : Channel) → IsClearing k l p chan ch → AllByRecursion (ChannelStands (ground k.state)) (process_at k.state p).channels → ChannelStands (ground l.state) (channel_at (process_at l.state p).channels chan)
clear_stands k l p chan ch h stand =
    subst (ChannelStands (ground l.state)) (sym (row_after k l p chan ch h))
    (subst (λ (x : Kernel). ChannelStands (ground x.state) (Some ch)) (sym h.did) ((channel_kept k.state p chan).rows (Some ch) (channel_stands k.state p chan ch stand h.test)))

whole_room : (k : Kernel) (p : Pid) (chan : ℕ) (ch : Channel) → channel_test k.state p chan ≡ Ok ch → Fits k (dassgn k.state p chan).effects → Fits k (and_then (cancel_channel k.state p chan) (λ t. free_channel t p chan)).effects
whole_room k p chan ch test room = subst (λ (o : Outcome Cond). Fits k o.effects) (tested k.state p chan ch test) room

pub cancel_first : (k : Kernel) (p : Pid) (chan : ℕ) (ch : Channel) → channel_test k.state p chan ≡ Ok ch → Fits k (dassgn k.state p chan).effects → Fits k (cancel_channel k.state p chan).effects
cancel_first k p chan ch test room = room_first k (cancel_channel k.state p chan) (λ t. free_channel t p chan) (whole_room k p chan ch test room)

pub free_next : (k l : Kernel) (p : Pid) (chan : ℕ) (ch : Channel) → IsClearing k l p chan ch → Fits k (dassgn k.state p chan).effects → Fits l (free_channel l.state p chan).effects
free_next k l p chan ch h room = room_second k l (cancel_channel k.state p chan) (λ t. free_channel t p chan) h.did (whole_room k p chan ch h.test room)

pub cleared_as : (k l n : Kernel) (p : Pid) (chan : ℕ) (ch : Channel) → IsClearing k l p chan ch → Acts (free_channel l.state p chan) l n → Does (dassgn k.state p chan) Normal k n
cleared_as k l n p chan ch h then =
    let whole = tested k.state p chan ch h.test in
    record {
      answers = ap (λ (o : Outcome Cond). o.answer) (sym whole);
      leaves = acts_both k l n (cancel_channel k.state p chan) (λ t. free_channel t p chan) h.did then ∙ ap (λ (o : Outcome Cond). told (with_state k o.after) o.effects) (sym whole);
    }
