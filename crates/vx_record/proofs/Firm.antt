-- That references stand, without that ids are of one thing each: what moves keep of each theme by itself.
use Rattle.std.proofs.Common.{◌≡◌, length}
use Rattle.std.specs.List.{AllByRecursion}
use Rattle.vx_record.specs.State.{State}
use Rattle.vx_record.specs.Sound.{ground, ProcessStands, AssociationStands, RequestStands, TimerStands, AttentionStands, AreOrdered, request_id, timer_id, attention_id, HaveOwnIds, IsSound}

pub record IsFirm (s : State) : Type 0 where
  pub units : length s.units ≡ length s.system.units
  pub procs : AllByRecursion (ProcessStands (ground s)) s.procs
  pub associations : AllByRecursion (AssociationStands (length s.procs) s.common) s.common.associations
  pub requests : AllByRecursion (RequestStands (ground s)) s.requests
  pub timers : AllByRecursion (TimerStands (ground s)) s.timers
  pub attention : AllByRecursion (AttentionStands (ground s)) s.attention
  pub request_ids : AreOrdered request_id 0 s.next s.requests
  pub timer_ids : AreOrdered timer_id 0 s.next s.timers
  pub attention_ids : AreOrdered attention_id 0 s.next s.attention

pub firm : (s : State) → IsSound s → IsFirm s
firm s h = search

pub sound_of : (s : State) → IsFirm s → HaveOwnIds s → IsSound s
sound_of s h own = search
