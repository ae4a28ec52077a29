-- What mailboxes, cancelling and rundown owe: each of their parts keeps what completions are told from, and writes no status block
-- and no flag but behind a FIN of its own.
use Rattle.std.proofs.Common.{Bool, List, None, Option, Some, [], false, map, not, refl, true, ℕ, ◌&&◌, ◌∷◌, ◌≡◌}
use Rattle.std.specs.List.{filter, find, list_any}
use Rattle.vx_base.specs.Channels.{channel_at, channels_of}
use Rattle.vx_base.specs.Clusters.{dissociated}
use Rattle.vx_record.specs.Types.{Attention, BoxNo, Channel, Device, Effect, Func, Id, Mode, Msg, Pid, Request, Timer}
use Rattle.vx_base.specs.declared.cond.Cond.TheVariants.{Cancel as Cancelled, EndOfFile}
use Rattle.vx_base.specs.declared.effects.Effect.TheVariants as effect
use Rattle.vx_base.specs.declared.frame.Phase.TheVariants as phase
use Rattle.vx_base.specs.declared.request.Device.TheVariants as device
use Rattle.vx_base.specs.declared.request.Func.TheVariants.{ReadAttn, WrtAttn}
use Rattle.vx_record.proofs.Apart.{dissociated_only}
use Rattle.vx_record.proofs.Base.{Base, moves_keep}
use Rattle.vx_laws.proofs.Calls.{Called, moves_called}
use Rattle.vx_laws.proofs.Completed.{Aloof, Ends, Leads, Ready, aloof_ends, each_aloof, ends_both, ends_then, finish_ends, finish_leads, is_aloof, join_aloof, lead_none, lead_one, leads_then, lone, no_effect, of_two_aloof}
use Rattle.vx_laws.proofs.Drains.{IsDrain}
use Rattle.vx_laws.proofs.Holds.{Holds, moves_hold}
use Rattle.vx_record.proofs.Moves.{is_clusters}
use Rattle.vx_laws.proofs.Tells.{cell_held}
use Rattle.vx_laws.specs.Agrees.{AsCalled}
use Rattle.vx_laws.specs.Items.{Did, Item, later}
use Rattle.vx_record.proofs.Lists.{all_amend, all_filter, all_find, all_weaker, either}
use Rattle.vx_record.specs.Cancel.{cancel_channel, cancel_request, cancelled_request, drop_attention, is_attention_on, is_request_on, mark_part, with_abort, withdraw}
use Rattle.vx_record.specs.Channels.{box_gone, free_channel, goes_unused, is_assigned, swept_box, swept_device, with_channel}
use Rattle.vx_record.specs.Finish.{Ending, ending, finish, finish_found, is_read, this_request}
use Rattle.vx_record.specs.Mailboxes.{attend, call_attention, fire_attention, hand_over, is_answered_now, is_attention_at, is_waiting_func, mailbox_at, mcut_part, message_of, mget_part, mput_part, read_box, read_ending, received, store_message, take_message, this_message, waits_at, write_box, write_done, write_ending}
use Rattle.vx_record.specs.Parts.{Part, and_then, each, nothing, part_if}
use Rattle.vx_record.specs.Requests.{begun_on}
use Rattle.vx_record.specs.Rundown.{any_handler, cancel_modes, cancel_one, cancelled_in, drop_ast, drop_asts, drop_handler, drop_handlers, free_one, in_phase, is_ast_reached, is_timer_in, is_wake_by, part_with, release, run_down}
use Rattle.vx_record.specs.State.{State, change, process_at}
use Rattle.vx_record.specs.Timers.{drop_timer, drop_timers, is_wake_for}

none_ends : (past : List Item) → Ends past []
none_ends past = aloof_ends past [] no_effect

-- Requests that finish.

found_ends : (s : State) (test : Request → Bool) (o : Option Request) (e : Ending) (past : List Item) → find test s.requests ≡ o → Ready s past → Ends past (finish_found s o e).effects
found_ends s test None e past is h = none_ends past
found_ends s test (Some r) e past is h = finish_ends s r e past h (all_find (λ (y : Request). AsCalled past y.req) test s.requests r h.called is)

write_done_ends : (s : State) (m : Msg) (past : List Item) → Ready s past → Ends past (write_done s m).effects
write_done_ends s m past h = found_ends s (this_request m.id) (find (this_request m.id) s.requests) (write_ending m) past refl h

ends_if : (past : List Item) (b : Bool) (x : Part) (s : State) → Ends past x.effects → Ends past (part_if b x s).effects
ends_if past true x s h = h
ends_if past false x s h = none_ends past

leads_if : (past : List Item) (b : Bool) (x : Part) (s : State) → Leads past x.effects x.after → Ready s past → Leads past (part_if b x s).effects (part_if b x s).after
leads_if past true x s h k = h
leads_if past false x s h k = lead_none s s past refl (λ j. j) k

-- Attention.

fire_aloof : (s : State) (a : Attention) → Aloof (fire_attention s a).effects
fire_aloof s a = join_aloof (lone (effect.Fire a.id) refl) (lone (effect.Que a.id) refl)

call_aloof : (s : State) (b : BoxNo) (func : Func) → Aloof (call_attention s b func).effects
call_aloof s b func = each_aloof fire_attention fire_aloof (filter (is_attention_at b func) s.attention) s

pub attend_aloof : (s : State) (a : Attention) → Aloof (attend s a).effects
attend_aloof s a = of_two_aloof (is_answered_now s a) (fire_attention s a) (nothing s) (fire_aloof s a) no_effect

-- Mailboxes.

get_leads : (s : State) (b : BoxNo) (m : Msg) (id : Id) (past : List Item) → Ready s past → Leads past (mget_part s b m id).effects (mget_part s b m id).after
get_leads s b m id past h = lead_one s (mget_part s b m id).after past (effect.MGet (mailbox_at s b).name m.id id) refl refl (λ k. k) h

received_ends : (s : State) (b : BoxNo) (m : Msg) (r : Request) (past : List Item) → Ready s past → AsCalled past r.req → Ends past (received s b m r).effects
received_ends s b m r past h k =
    let a = mget_part s b m r.req.id in
    let l = get_leads s b m r.req.id past h in
    ends_then past a (λ x. finish x r (read_ending r.req m m.body)) (aloof_ends past a.effects (lone (effect.MGet (mailbox_at s b).name m.id r.req.id) refl)) (finish_ends a.after r (read_ending r.req m m.body) (later past (map Did a.effects)) l.ready (l.keeps r.req k))

received_leads : (s : State) (b : BoxNo) (m : Msg) (r : Request) (past : List Item) → Ready s past → Leads past (received s b m r).effects (received s b m r).after
received_leads s b m r past h =
    let a = mget_part s b m r.req.id in
    let l = get_leads s b m r.req.id past h in
    leads_then past a (λ x. finish x r (read_ending r.req m m.body)) l (finish_leads a.after r (read_ending r.req m m.body) (later past (map Did a.effects)) l.ready)

store_ends : (s : State) (b : BoxNo) (m : Msg) (past : List Item) → Ready s past → Ends past (store_message s b m).effects
store_ends s b m past h =
    let a = part_if (not m.held) (write_done s m) s in
    let c = call_attention a.after b WrtAttn in
    ends_then past a (λ x. call_attention x b WrtAttn) (ends_if past (not m.held) (write_done s m) s (write_done_ends s m past h)) (aloof_ends (later past (map Did a.effects)) c.effects (call_aloof a.after b WrtAttn))

hand_ends : (s : State) (b : BoxNo) (m : Msg) (o : Option Request) (past : List Item) → find (waits_at b) s.requests ≡ o → Ready s past → Ends past (hand_over s b m o).effects
hand_ends s b m None past is h = store_ends s b m past h
hand_ends s b m (Some r) past is h =
    let a = received s b m r in
    let k = all_find (λ (y : Request). AsCalled past y.req) (waits_at b) s.requests r h.called is in
    ends_then past a (λ x. write_done x m) (received_ends s b m r past h k) (write_done_ends a.after m (later past (map Did a.effects)) (received_leads s b m r past h).ready)

write_ends : (s : State) (b : BoxNo) (m : Msg) (past : List Item) → Ready s past → Ends past (write_box s b m).effects
write_ends s b m past h =
    let a = mput_part s b m in
    let x = effect.MPut (mailbox_at s b).name m.id m.body in
    let l : Leads past a.effects a.after = lead_one s a.after past x refl refl (λ k. k) h in
    ends_then past a (λ y. hand_over y b m (find (waits_at b) y.requests)) (aloof_ends past a.effects (lone x refl)) (hand_ends a.after b m (find (waits_at b) a.after.requests) (later past (map Did a.effects)) refl l.ready)

take_ends : (s : State) (b : BoxNo) (r : Request) (ms : List Msg) (past : List Item) → Ready s past → AsCalled past r.req → Ends past (take_message s b r ms).effects
take_ends s b r [] past h k =
    let e = ending EndOfFile 0 0 [] in
    let a = part_if (not (is_waiting_func r.req.func)) (finish s r e) s in
    let c = call_attention a.after b ReadAttn in
    ends_then past a (λ x. call_attention x b ReadAttn) (ends_if past (not (is_waiting_func r.req.func)) (finish s r e) s (finish_ends s r e past h k)) (aloof_ends (later past (map Did a.effects)) c.effects (call_aloof a.after b ReadAttn))
take_ends s b r (m ∷ ms) past h k =
    let a = received s b m r in
    let now = later past (map Did a.effects) in
    ends_then past a (λ x. part_if m.held (write_done x m) x) (received_ends s b m r past h k) (ends_if now m.held (write_done a.after m) a.after (write_done_ends a.after m now (received_leads s b m r past h).ready))

pub begun_ends : (s : State) (r : Request) (d : Device) (past : List Item) → Ready s past → AsCalled past r.req → Ends past (begun_on s r d).effects
begun_ends s r (device.Unit u) past h k = none_ends past
begun_ends s r (device.Mailbox b) past h k =
    either (λ (x : Part). Ends past x.effects) (is_read r.req.func) (read_box s b r) (write_box s b (message_of r.req)) (take_ends s b r (mailbox_at s b).messages past h k) (write_ends s b (message_of r.req) past h)

-- Cancelling.

withdraw_aloof : (s : State) (r : Request) (d : Device) → Aloof (withdraw s r d).effects
withdraw_aloof s r (device.Unit u) = no_effect
withdraw_aloof s r (device.Mailbox b) = of_two_aloof (list_any (this_message r.req.id) (mailbox_at s b).messages) (mcut_part s b r.req.id) (nothing s) (lone (effect.MCut (mailbox_at s b).name r.req.id) refl) no_effect

withdraw_leads : (s : State) (r : Request) (d : Device) (past : List Item) → Ready s past → Leads past (withdraw s r d).effects (withdraw s r d).after
withdraw_leads s r (device.Unit u) past h = lead_none s s past refl (λ k. k) h
withdraw_leads s r (device.Mailbox b) past h = leads_if past (list_any (this_message r.req.id) (mailbox_at s b).messages) (mcut_part s b r.req.id) s (lead_one s (mcut_part s b r.req.id).after past (effect.MCut (mailbox_at s b).name r.req.id) refl refl (λ k. k) h) h

mark_leads : (s : State) (r : Request) (past : List Item) → Ready s past → Leads past (mark_part s r).effects (mark_part s r).after
mark_leads s r past h = lead_one s (mark_part s r).after past (effect.Mark r.req.id) refl refl (λ k. all_amend (λ (y : Request). AsCalled past y.req) (this_request r.req.id) with_abort (λ x j. j) s.requests k) h

cancel_ends : (s : State) (r : Request) (past : List Item) → Ready s past → AsCalled past r.req → Ends past (cancel_request s r).effects
cancel_ends s r past h k =
    let w = withdraw s r r.req.device in
    let e = ending Cancelled 0 0 [] in
    let l = withdraw_leads s r r.req.device past h in
    either (λ (x : Part). Ends past x.effects) r.served (part_if (not r.marked) (mark_part s r) s) (cancelled_request s r)
    (ends_if past (not r.marked) (mark_part s r) s (aloof_ends past (mark_part s r).effects (lone (effect.Mark r.req.id) refl)))
    (ends_then past w (λ a. finish a r e) (aloof_ends past w.effects (withdraw_aloof s r r.req.device)) (finish_ends w.after r e (later past (map Did w.effects)) l.ready (l.keeps r.req k)))

cancel_leads : (s : State) (r : Request) (past : List Item) → Ready s past → Leads past (cancel_request s r).effects (cancel_request s r).after
cancel_leads s r past h =
    let w = withdraw s r r.req.device in
    let e = ending Cancelled 0 0 [] in
    let l = withdraw_leads s r r.req.device past h in
    either (λ (x : Part). Leads past x.effects x.after) r.served (part_if (not r.marked) (mark_part s r) s) (cancelled_request s r)
    (leads_if past (not r.marked) (mark_part s r) s (mark_leads s r past h) h)
    (leads_then past w (λ a. finish a r e) l (finish_leads w.after r e (later past (map Did w.effects)) l.ready))

-- both, of what goes on
record Passes (past : List Item) (es : List Effect) (t : State) : Type 0 where
  ends : Ends past es
  leads : Leads past es t

pass_none : (s : State) (past : List Item) → Ready s past → Passes past [] s
pass_none s past h = record { ends = none_ends past; leads = lead_none s s past refl (λ k. k) h }

pass_then : (past : List Item) (a : Part) (f : State → Part) → Passes past a.effects a.after → Passes (later past (map Did a.effects)) (f a.after).effects (f a.after).after → Passes past (and_then a f).effects (and_then a f).after
pass_then past a f h k = record { ends = ends_then past a f h.ends k.ends; leads = leads_then past a f h.leads k.leads }

cancels_pass : (xs : List Request) (s : State) (past : List Item) → Ready s past → Called past xs → Passes past (each cancel_request xs s).effects (each cancel_request xs s).after
cancels_pass [] s past h k = pass_none s past h
cancels_pass (x ∷ xs) s past h k =
    let a = cancel_request s x in
    let now = later past (map Did a.effects) in
    let l = cancel_leads s x past h in
    pass_then past a (each cancel_request xs) (record { ends = cancel_ends s x past h k.0; leads = l }) (cancels_pass xs a.after now l.ready (all_weaker (λ (y : Request). AsCalled past y.req) (λ (y : Request). AsCalled now y.req) (λ y j. l.keeps y.req j) xs k.1))

drop_pass : (xs : List Attention) (s : State) (past : List Item) → Ready s past → Passes past (each drop_attention xs s).effects (each drop_attention xs s).after
drop_pass [] s past h = pass_none s past h
drop_pass (x ∷ xs) s past h =
    let a = drop_attention s x in
    let l : Leads past a.effects a.after = lead_one s a.after past (effect.Drop x.id) refl refl (λ k. k) h in
    pass_then past a (each drop_attention xs) (record { ends = aloof_ends past a.effects (lone (effect.Drop x.id) refl); leads = l }) (drop_pass xs a.after (later past (map Did a.effects)) l.ready)

channel_pass : (s : State) (p : Pid) (n : ℕ) (past : List Item) → Ready s past → Passes past (cancel_channel s p n).effects (cancel_channel s p n).after
channel_pass s p n past h =
    let a = each cancel_request (filter (is_request_on p n) s.requests) s in
    let l = cancels_pass (filter (is_request_on p n) s.requests) s past h (all_filter (λ (y : Request). AsCalled past y.req) (is_request_on p n) s.requests h.called) in
    pass_then past a (λ x. each drop_attention (filter (is_attention_on p n) x.attention) x) l (drop_pass (filter (is_attention_on p n) a.after.attention) a.after (later past (map Did a.effects)) l.leads.ready)

channels_pass : (p : Pid) (ns : List ℕ) (s : State) (past : List Item) → Ready s past → Passes past (each (cancel_one p) ns s).effects (each (cancel_one p) ns s).after
channels_pass p [] s past h = pass_none s past h
channels_pass p (n ∷ ns) s past h =
    let a = cancel_channel s p n in
    let l = channel_pass s p n past h in
    pass_then past a (each (cancel_one p) ns) l (channels_pass p ns a.after (later past (map Did a.effects)) l.leads.ready)

pub channel_ends : (s : State) (p : Pid) (n : ℕ) (past : List Item) → Ready s past → Ends past (cancel_channel s p n).effects
channel_ends s p n past h = (channel_pass s p n past h).ends

-- What has no FIN.

swept_device_aloof : (s : State) (d : Device) → Aloof (swept_device s d).effects
swept_device_aloof s (device.Unit u) = no_effect
swept_device_aloof s (device.Mailbox b) = of_two_aloof (not (is_assigned s b) && goes_unused (mailbox_at s b)) (box_gone s b) (nothing s) (lone (effect.Mbx (mailbox_at s b).name false) refl) no_effect

swept_aloof : (s : State) (o : Option Channel) → Aloof (swept_box s o).effects
swept_aloof s None = no_effect
swept_aloof s (Some ch) = swept_device_aloof s ch.device

pub free_aloof : (s : State) (p : Pid) (n : ℕ) → Aloof (free_channel s p n).effects
free_aloof s p n = swept_aloof (change s p (with_channel n None)) (channel_at (process_at s p).channels n)

timers_aloof : (s : State) (passes : Timer → Bool) → Aloof (drop_timers passes s).effects
timers_aloof s passes = each_aloof drop_timer (λ t x. lone (effect.Drop x.id) refl) (filter passes s.timers) s

cluster_aloof : (x : Effect) → is_clusters x ≡ true → is_aloof x ≡ true
cluster_aloof (effect.Cef g a on) e = refl
cluster_aloof (effect.Clu q k c) e = refl
cluster_aloof x e = absurd (let never : false ≡ true = e in cc)

part_aloof : (p : Pid) (k : ℕ) (s : State) → Aloof (part_with p k s).effects
part_aloof p k s = record { all = all_weaker (λ (x : Effect). is_clusters x ≡ true) (λ (x : Effect). is_aloof x ≡ true) cluster_aloof (dissociated s.common p k).effects (dissociated_only s.common p k) }

release_aloof : (s : State) (p : Pid) (m : Mode) → Aloof (release s p m).effects
release_aloof s p m =
    let ns = channels_of m (process_at s p).channels in
    let a = (each (free_one p) ns s).after in
    let b = (drop_asts p m a).after in
    let c = (part_with p 2 b).after in
    join_aloof (join_aloof (join_aloof (each_aloof (free_one p) (λ t n. free_aloof t p n) ns s) (each_aloof (drop_ast p) (λ t q. lone (effect.Drop q.id) refl) (filter (is_ast_reached m) (process_at a p).asts) a)) (part_aloof p 2 b)) (part_aloof p 3 c)

gone_aloof : (s : State) (p : Pid) → Aloof (run_down p [] s).effects
gone_aloof s p =
    let a = (drop_handlers s p any_handler).after in
    join_aloof (join_aloof (each_aloof (drop_handler p) (λ t d. lone (effect.Drop d.id) refl) (filter any_handler (process_at s p).handlers) s) (timers_aloof a (is_wake_for p))) (lone (effect.Gone p) refl)

-- Rundown.

cancel_modes_ends : (s : State) (p : Pid) (m : Mode) (past : List Item) → Ready s past → Ends past (cancel_modes s p m).effects
cancel_modes_ends s p m past h =
    let ns = channels_of m (process_at s p).channels in
    let a = each (cancel_one p) ns s in
    let b = and_then a (drop_timers (is_timer_in p m)) in
    ends_then past b (drop_timers (is_wake_by p))
    (ends_then past a (drop_timers (is_timer_in p m)) (channels_pass p ns s past h).ends (aloof_ends (later past (map Did a.effects)) (drop_timers (is_timer_in p m) a.after).effects (timers_aloof a.after (is_timer_in p m))))
    (aloof_ends (later past (map Did b.effects)) (drop_timers (is_wake_by p) b.after).effects (timers_aloof b.after (is_wake_by p)))

cancelled_ends : (s : State) (p : Pid) (m : Mode) (past : List Item) → Ready s past → Ends past (cancelled_in s p m).effects
cancelled_ends s p m past h = let a = cancel_modes s p m in ends_then past a (λ x. nothing (change x p (in_phase (phase.Draining m)))) (cancel_modes_ends s p m past h) (none_ends (later past (map Did a.effects)))

pub ready_of : (s : State) (past : List Item) → Holds s past → Called past s.requests → Ready s past
ready_of s past h k = record { cells = λ p efn. cell_held s past p efn h; called = k }

-- what rundown owes, wherever flags and calls agree
pub record Tells (s : State) (es : List Effect) (t : State) : Type 0 where
  pub ends : (past : List Item) → Base s → Holds s past → Called past s.requests → Ends past es

pub tells_drain : IsDrain Tells
tells_drain = record {
  start = λ s g. record { ends = λ past b h k. none_ends past };
  join = λ s t u es fs m x y.
      record {
        ends = λ past b h k.
            let first = x.ends past b h k in
            ends_both past es fs first (y.ends (later past (map Did es)) (moves_keep s None es t None m b).base (moves_hold s None es t None past m h) (moves_called s None es t None past m first.unasked b k));
      };
  phases = λ s p ph h g. record { ends = λ past b h k. none_ends past };
  releases = λ s p m h g. record { ends = λ past b h k. aloof_ends past (release s p m).effects (release_aloof s p m) };
  cancels = λ s p m h g. record { ends = λ past b h k. cancelled_ends s p m past (ready_of s past h k) };
  goes = λ s p h g. record { ends = λ past b h k. aloof_ends past (run_down p [] s).effects (gone_aloof s p) };
}
