-- References stand if one thing is added, changed or taken.
use Rattle.std.proofs.Common.{◌≡◌, ℕ, [], ◌∷◌, ◌++◌, refl, List, Option, Some, None, IsTrue, is_some, arith, zero, suc, ◌<◌, length, replicate, get_or}
use Rattle.vx_base.specs.Lists.{less}
use Rattle.vx_record.specs.Types.{BoxNo, Handler, Id, Mailbox, Mode, Pid, Privs, Queued, Request, Timer}
use Rattle.vx_record.specs.State.{State, next_id, past_id, with_box, Process}
use Rattle.vx_record.specs.Timers.{this_timer, with_timer, after_wake}
use Rattle.vx_record.specs.Sound.{BoxStands, ground, TimerStands, RequestStands, ProcessStands, ChannelStands}
use Rattle.vx_record.proofs.Firm.{IsFirm}
use Rattle.vx_record.proofs.Lists.{either, all_append, all_less, all_amend, ordered_less, ordered_amend, ordered_more, all_weaker}
use Rattle.vx_record.proofs.Ground.{Still, still_then, timers_still, past_id_still, Keeps, process_moves, moved, requests_still, attention_still, at_set, still}
use Rattle.vx_record.specs.Finish.{this_request}
use Rattle.vx_record.specs.Mailboxes.{this_attention}
use Rattle.vx_record.specs.Cancel.{with_abort, mark_part}
use Rattle.std.proofs.lemmas.List.{length-append, get_or_append_left}
use Rattle.std.specs.List.{AllByRecursion}
use Rattle.vx_record.specs.Parts.{each}
use Rattle.vx_record.specs.Control.{new_process}
use Rattle.vx_record.specs.Rundown.{drop_handler, drop_ast}
use Rattle.vx_record.proofs.Changes.{without_handler_still, without_ast_still}

-- Timers.

pub with_timer_still : (s : State) (t : Timer) → t.id ≡ next_id s → TimerStands (ground s) t → IsFirm s → Still s (with_timer (past_id s) t)
with_timer_still s t e k h = grind (arith, still_then, past_id_still, timers_still, all_append, ordered_more)

pub less_timer_still : (s : State) (id : Id) → IsFirm s → Still s (record s { timers = less (this_timer id) s.timers })
less_timer_still s id h = grind (arith, timers_still, all_less, ordered_less)

-- Time.

pub after_wake_still : (s : State) (t : Timer) (repeat : ℕ) → IsFirm s → Still s (after_wake s t repeat)
after_wake_still s t repeat h = grind (arith, either, less_timer_still, timers_still, all_amend, ordered_amend)

-- Finish.

pub less_request_still : (s : State) (id : Id) → IsFirm s → Still s (record s { requests = less (this_request id) s.requests })
less_request_still s id h = grind (arith, requests_still, all_less, ordered_less)

-- Mailboxes.

box_keeps : (s : State) (b : BoxNo) (box : Mailbox) → Keeps (ground s) (ground (with_box s b (Some box)))
box_keeps s b box =
    let stays = λ (c : BoxNo) (e : BoxStands (ground s) c). at_set (λ (x y : Option Mailbox). IsTrue (is_some x) → IsTrue (is_some y)) (λ x k. k) s.boxes b.0 c.0 (Some box) None (λ k. refl) e in
    search (arith, stays)

pub box_still : (s : State) (b : BoxNo) (box : Mailbox) → IsFirm s → Still s (with_box s b (Some box))
box_still s b box h =
    let k = box_keeps s b box in
    record { keeps = k; sound = moved s s.procs (with_box s b (Some box)).boxes s.units refl k (all_weaker _ _ (process_moves (ground s) _ refl refl k.box) s.procs h.procs) h }

-- Attention.

pub less_attention_still : (s : State) (id : Id) → IsFirm s → Still s (record s { attention = less (this_attention id) s.attention })
less_attention_still s id h = grind (arith, attention_still, all_less, ordered_less)

-- One request.

with_abort_stands : (s : State) (x : Request) → RequestStands (ground s) x → RequestStands (ground s) (with_abort x)
with_abort_stands s x k = search

pub mark_still : (s : State) (r : Request) → IsFirm s → Still s (mark_part s r).after
mark_still s r h = grind (arith, requests_still, all_amend, with_abort_stands, ordered_amend)

-- Creation.

pub all_free : (s : State) (n : ℕ) → AllByRecursion (ChannelStands (ground s)) (replicate n None)
all_free s zero = tt
all_free s (suc n) = (tt, all_free s n)

pub more_keeps : (s : State) (pr : Process) → Keeps (ground s) (ground (record s { procs = s.procs ++ pr ∷ [] }))
more_keeps s pr = grind (arith, get_or, get_or_append_left, length-append)

pub born_stands : (s : State) (place group member : ℕ) (privs : Privs) (mode : Mode) → place < length s.system.decls → ProcessStands (ground s) (new_process place group member privs mode)
born_stands s place group member privs mode k = search (all_free s 64)

-- Exit handlers.

pub each_drop_handler_still : (p : Pid) (ds : List Handler) (s : State) → IsFirm s → Still s (each (drop_handler p) ds s).after
each_drop_handler_still p [] s h = still s h
each_drop_handler_still p (d ∷ ds) s h = let one = without_handler_still s p d.id h in still_then one (each_drop_handler_still p ds (drop_handler p s d).after one.sound)

-- The channels of a mode that is drained are freed: nothing hangs on them.

pub each_drop_ast_still : (p : Pid) (s : State) (qs : List Queued) → IsFirm s → Still s (each (drop_ast p) qs s).after
each_drop_ast_still p s [] h = still s h
each_drop_ast_still p s (q ∷ qs) h = let one = without_ast_still s p q.id h in still_then one (each_drop_ast_still p (drop_ast p s q).after qs one.sound)
