-- What the state alone owes to the moves: ids rise in the lists of requests, timers and attention entries, below the next id,
-- and what stands there is of processes that are there. Each move keeps it.
use Rattle.std.proofs.Common.{◌≡◌, ℕ, ◌+◌, ◌-◌, ◌≤◌, List, [], ◌∷◌, ◌++◌, Bool, ◌==◌, length, Option, refl, arith, length-append}
use Rattle.std.proofs.Math.ListN.{length-set}
use Rattle.std.specs.List.{AllByRecursion, filter}
use Rattle.vx_base.specs.Lists.{less, amend}
use Rattle.vx_record.specs.Types.{Alarm, Attention, Cell, Effect, Mode, Pid, Request, Timer}
use Rattle.vx_base.specs.Pieces.{OfTimer, OfWake}
use Rattle.vx_base.specs.declared.effects.Cell.TheVariants.{Local, Common as Shared}
use Rattle.vx_record.specs.State.{Process, State, IsProcess, process_at, change, past_id}
use Rattle.vx_record.specs.Flags.{with_local_flag, with_cell}
use Rattle.vx_record.specs.Parts.{Part, each}
use Rattle.vx_record.specs.Rundown.{drop_ast, is_ast_reached, drop_handler, without_ast, with_handler, new_handler, without_handler}
use Rattle.vx_record.specs.Timers.{this_timer, due_again, after_wake, with_timer}
use Rattle.vx_record.specs.Cancel.{with_abort}
use Rattle.vx_record.specs.Finish.{this_request}
use Rattle.vx_record.specs.Mailboxes.{this_attention}
use Rattle.vx_record.specs.Requests.{with_request, with_attention}
use Rattle.vx_record.specs.Sound.{AreOrdered, request_id, timer_id, attention_id}
use Rattle.vx_record.proofs.Lists.{either, all_weaker, all_append, all_less, all_amend, ordered_below, ordered_less, ordered_amend, ordered_more}
use Rattle.vx_record.proofs.Moves.{Loose, IsAlarmMade, IsNew, IsNewAttention, IsNewTimer, MovesBy, both, flag, open_ast, open_force, end_asts, open_handler, end_handlers, open_request, fin, mark, open_attention, attention_fires, end_attention, open_timer, open_wake, timer_fires, wake_fires, end_timer}

pub record Base (s : State) : Type 0 where
  pub requests : AreOrdered request_id 0 s.next s.requests
  pub timers : AreOrdered timer_id 0 s.next s.timers
  pub attention : AreOrdered attention_id 0 s.next s.attention
  pub request_owners : AllByRecursion (λ r. IsProcess s r.req.p) s.requests
  pub timer_owners : AllByRecursion (λ t. IsProcess s t.p × IsAlarmMade s t.what) s.timers
  pub attention_owners : AllByRecursion (λ a. IsProcess s a.p) s.attention

-- a state with the same lists and as many processes or more
pub record Kept (s t : State) : Type 0 where
  pub base : Base t
  pub more : length s.procs ≤ length t.procs

pub made_more : (s t : State) (p : Pid) → length s.procs ≤ length t.procs → IsProcess s p → IsProcess t p
made_more s t p h m = record { above = m.above; within = omega (arith, h, m.within) }

alarm_more : (s t : State) (a : Alarm) → length s.procs ≤ length t.procs → IsAlarmMade s a → IsAlarmMade t a
alarm_more s t (OfTimer efn reqid mode tag) h m = tt
alarm_more s t (OfWake target repeat) h m = made_more s t target h m

-- lists in order, whose owners were there in a state with as many processes or fewer
based : (s t : State) → length s.procs ≤ length t.procs → AreOrdered request_id 0 t.next t.requests → AreOrdered timer_id 0 t.next t.timers → AreOrdered attention_id 0 t.next t.attention → AllByRecursion (λ r. IsProcess s r.req.p) t.requests → AllByRecursion (λ x. IsProcess s x.p × IsAlarmMade s x.what) t.timers → AllByRecursion (λ a. IsProcess s a.p) t.attention → Kept s t
based s t more r ti a rs ts ats = grind (arith, all_weaker, made_more, alarm_more)

base_of : (s t : State) → length s.procs ≤ length t.procs → t.next ≡ s.next → t.requests ≡ s.requests → t.timers ≡ s.timers → t.attention ≡ s.attention → Base s → Kept s t
base_of s t more next r ti a h = based s t more (rw (next, r) h.requests) (rw (next, ti) h.timers) (rw (next, a) h.attention) (rw r h.request_owners) (rw ti h.timer_owners) (rw a h.attention_owners)

all_procs : (s : State) → length s.procs ≤ length s.procs
all_procs s = omega arith

-- the lists as they are
same_of : (s t : State) → t.procs ≡ s.procs → t.next ≡ s.next → t.requests ≡ s.requests → t.timers ≡ s.timers → t.attention ≡ s.attention → Base s → Kept s t
same_of s t procs next r ti a h = base_of s t (rw procs (omega arith)) next r ti a h

pub change_of : (s : State) (p : Pid) (f : Process → Process) → Base s → Kept s (change s p f)
change_of s p f h = base_of s (change s p f) (let e = length-set s.procs (p.0 - 1) (f (process_at s p)) in omega (arith, e)) refl refl refl refl h

kept_then : (s t u : State) → Kept s t → Kept t u → Kept s u
kept_then s t u a b = record { base = b.base; more = omega (arith, a.more, b.more) }

-- one more id
past_keeps : (s : State) → Base s → Kept s (past_id s)
past_keeps s h = based s (past_id s) (all_procs s) (ordered_below request_id 0 s.next (s.next + 1) s.requests (omega arith) h.requests) (ordered_below timer_id 0 s.next (s.next + 1) s.timers (omega arith) h.timers) (ordered_below attention_id 0 s.next (s.next + 1) s.attention (omega arith) h.attention) h.request_owners h.timer_owners h.attention_owners

with_cell_of : (s : State) (c : Cell) (on : Bool) → Base s → Kept s (with_cell s c on)
with_cell_of s (Local p n) on h = change_of s p (with_local_flag n on) h
with_cell_of s (Shared g a n) on h = same_of s (with_cell s (Shared g a n) on) refl refl refl refl refl h

-- timers, changed
timers_of : (s : State) (ts : List Timer) → AreOrdered timer_id 0 s.next ts → AllByRecursion (λ t. IsProcess s t.p × IsAlarmMade s t.what) ts → Base s → Base (record s { timers = ts })
timers_of s ts o k h = (based s (record s { timers = ts }) (all_procs s) h.requests o h.attention h.request_owners k h.attention_owners).base

timers_less : (s : State) (p : Timer → Bool) → Base s → Base (record s { timers = less p s.timers })
timers_less s p h = timers_of s (less p s.timers) (ordered_less timer_id p 0 s.next s.timers h.timers) (all_less (λ (t : Timer). IsProcess s t.p × IsAlarmMade s t.what) p s.timers h.timer_owners) h

timers_amend : (s : State) (p : Timer → Bool) (n : ℕ) → Base s → Base (record s { timers = amend p (due_again n) s.timers })
timers_amend s p n h = grind (arith, timers_of, ordered_amend, all_amend)

wake_of : (s : State) (t : Timer) (n : ℕ) → Base s → Kept s (after_wake s t n)
wake_of s t n h = either (Kept s) (n == 0) _ _ (record { base = timers_less s (this_timer t.id) h; more = omega arith }) (record { base = timers_amend s (this_timer t.id) n h; more = omega arith })

attention_less : (s : State) (p : Attention → Bool) → Base s → Base (record s { attention = less p s.attention })
attention_less s p h = (based s (record s { attention = less p s.attention }) (all_procs s) h.requests h.timers (ordered_less attention_id p 0 s.next s.attention h.attention) h.request_owners h.timer_owners (all_less (λ (a : Attention). IsProcess s a.p) p s.attention h.attention_owners)).base

requests_of : (s : State) (rs : List Request) → AreOrdered request_id 0 s.next rs → AllByRecursion (λ r. IsProcess s r.req.p) rs → Base s → Base (record s { requests = rs })
requests_of s rs o k h = (based s (record s { requests = rs }) (all_procs s) o h.timers h.attention k h.timer_owners h.attention_owners).base

pub amended_base : (s : State) (p : Request → Bool) (f : Request → Request) → ((r : Request) → (f r).req ≡ r.req) → Base s → Base (record s { requests = amend p f s.requests })
amended_base s p f same h = grind (arith, requests_of, ordered_amend, all_amend)

more_request : (s : State) (p : Pid) (mode : Option Mode) (r : Request) → IsNew s p mode r → Base s → Base (with_request (past_id s) r)
more_request s p mode r n h =
    requests_of (past_id s) (s.requests ++ r ∷ []) (ordered_more request_id 0 s.next s.requests r (rw n.id refl) h.requests)
    (all_append (λ (x : Request). IsProcess s x.req.p) s.requests (r ∷ []) h.request_owners (rw n.owner n.made, tt)) (past_keeps s h).base

more_timer : (s : State) (p : Pid) (t : Timer) → IsNewTimer s p t → Base s → Base (with_timer (past_id s) t)
more_timer s p t n h =
    let g = (past_keeps s h).base in
    timers_of (past_id s) (s.timers ++ t ∷ []) (ordered_more timer_id 0 s.next s.timers t (rw n.id refl) h.timers)
    (all_append (λ (x : Timer). IsProcess (past_id s) x.p × IsAlarmMade (past_id s) x.what) s.timers (t ∷ []) g.timer_owners ((rw n.owner n.made, alarm_more s (past_id s) t.what (all_procs s) n.alarm), tt)) g

more_attention : (s : State) (p : Pid) (a : Attention) → IsNewAttention s p a → Base s → Base (with_attention (past_id s) a)
more_attention s p a n h =
    let g = (past_keeps s h).base in
    (based (past_id s) (with_attention (past_id s) a) (all_procs s) g.requests g.timers (ordered_more attention_id 0 s.next s.attention a (rw n.id refl) h.attention) g.request_owners g.timer_owners
    (all_append (λ (x : Attention). IsProcess s x.p) s.attention (a ∷ []) h.attention_owners (rw n.owner n.made, tt))).base

each_of : {A : Type 0} (f : State → A → Part) → ((t : State) (x : A) → Base t → Kept t (f t x).after) → (xs : List A) (s : State) → Base s → Kept s (each f xs s).after
each_of f k [] s h = record { base = h; more = omega arith }
each_of f k (x ∷ xs) s h = let a = k s x h in kept_then s (f s x).after (each f xs (f s x).after).after a (each_of f k xs (f s x).after a.base)

pub moves_keep : {refs : Bool} (s : State) (l : Option Loose) (es : List Effect) (t : State) (m : Option Loose) → MovesBy refs s l es t m → Base s → Kept s t
moves_keep s l es t m (both x y z a b c fs gs i j) h =
    let k = moves_keep x a fs y b i h in
    kept_then x y z k (moves_keep y b gs z c j k.base)
moves_keep s l es t m (flag x a c on made at set_on) h = with_cell_of x c on h
moves_keep s l es t m (open_ast x p mode tag made ok) h = past_keeps x h
moves_keep s l es t m (open_force x p code made) h = past_keeps x h
moves_keep s l es t m (end_asts x p mode made) h = each_of (drop_ast p) (λ y q k. change_of y p (without_ast q.id) k) (filter (is_ast_reached mode) (process_at x p).asts) x h
moves_keep s l es t m (open_handler x p tag made ok) h = kept_then x (past_id x) _ (past_keeps x h) (change_of (past_id x) p (with_handler (new_handler x p tag)) (past_keeps x h).base)
moves_keep s l es t m (end_handlers x p test made) h = each_of (drop_handler p) (λ y d k. change_of y p (without_handler d.id) k) (filter test (process_at x p).handlers) x h
moves_keep s l es t m (open_request x k p mode n r is new ok) h = record { base = more_request x p mode r new h; more = omega arith }
moves_keep s l es t m (fin x r c has) h = record { base = requests_of x (less (this_request r.req.id) x.requests) (ordered_less request_id (this_request r.req.id) 0 x.next x.requests h.requests) (all_less (λ (r : Request). IsProcess x r.req.p) (this_request r.req.id) x.requests h.request_owners) h; more = omega arith }
moves_keep s l es t m (mark x r has free) h = record { base = amended_base x (this_request r.req.id) with_abort (λ y. refl) h; more = omega arith }
moves_keep s l es t m (open_attention x p mode a new at ok) h = record { base = more_attention x p a new h; more = omega arith }
moves_keep s l es t m (attention_fires x a has) h = record { base = attention_less x (this_attention a.id) h; more = omega arith }
moves_keep s l es t m (end_attention x a has) h = record { base = attention_less x (this_attention a.id) h; more = omega arith }
moves_keep s l es t m (open_timer x p mode a efn reqid n tag new is at ok) h = record { base = more_timer x p a new h; more = omega arith }
moves_keep s l es t m (open_wake x p n a target new is) h = record { base = more_timer x p a new h; more = omega arith }
moves_keep s l es t m (timer_fires x a has is) h = record { base = timers_less x (this_timer a.id) h; more = omega arith }
moves_keep s l es t m (wake_fires x a target n has is) h = wake_of x a n h
moves_keep s l es t m (end_timer x a has) h = record { base = timers_less x (this_timer a.id) h; more = omega arith }
moves_keep s l es t m k h = base_of s t (grind (arith, length-set, length-append)) refl refl refl refl h
