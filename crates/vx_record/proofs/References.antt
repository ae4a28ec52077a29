-- References stand after each move.
use Rattle.std.proofs.Common.{◌≡◌, ℕ, ◌-◌, ◌+◌, ◌<◌, ◌≤◌, List, [], ◌∷◌, ◌++◌, ◌≢◌, ◌==◌, Bool, true, false, Option, Some, None, IfSome, refl, sym, ap, ◌∙◌, subst, length, arith, inl, inr, get_or-set_other, set, zero, suc, nat_le, get_or}
use Rattle.std.proofs.lemmas.Bool.{cases_eq, and_parts, and_from, eq-eqb, or_left, or_right, leb-true, false_from_ne_true, both_ways}
use Rattle.std.specs.List.{list_any}
use Rattle.vx_base.specs.Channels.{channels_of, channel_at, is_reached, reached_from}
use Rattle.vx_record.specs.Types.{Alarm, Attention, BoxNo, Channel, Device, Effect, Frame, Mode, Pid, Promised, Request, Timer}
use Rattle.vx_base.specs.Pieces.{OfTimer}
use Rattle.vx_base.specs.declared.frame.Phase.TheVariants as phase
use Rattle.vx_record.specs.State.{Process, State, IsProcess, process_at, change, nobody}
use Rattle.vx_record.specs.Cancel.{is_attention_on}
use Rattle.vx_record.specs.Channels.{with_channel}
use Rattle.vx_record.specs.Control.{created}
use Rattle.vx_record.specs.Finish.{this_request}
use Rattle.vx_record.specs.Mailboxes.{this_attention}
use Rattle.vx_record.specs.Rundown.{in_phase, draining, new_handler}
use Rattle.vx_record.specs.Timers.{this_timer}
use Rattle.vx_record.specs.Sound.{Ground, ground, IsMade, IsRoutineOf, RequestStands, TimerStands, AlarmStands, AttentionStands, ProcessStands, is_drained, IsIdle as Idles, HasChannel, IsRooted}
use Rattle.vx_record.proofs.Firm.{IsFirm}
use Rattle.vx_record.proofs.Lists.{all_weaker, all_both, all_append, all_set, all_find, either}
use Rattle.vx_record.proofs.Ground.{Base, attention_moves, rebuilt, made_base, routine_of_moves, request_moves, process_moves, Still, moved as with_procs, common_still, later_still, past_id_still, at_set, change_sound, change_base}
use Rattle.vx_record.proofs.Changes.{Quiet, quiet_still, with_queued_still, with_handler_still, without_handler_still, entering_sound, in_phase_still, moved_to_quiet, with_delivery_quiet, with_stored_bytes_quiet, with_stored_status_quiet, with_variable_quiet}
use Rattle.vx_record.proofs.Moves.{Loose, passed, loosed, loosed_timer, IsAlarmMade, IsTame, calm, drains, IsSilent, IsRow, AreUnattended, MovesBy, both, quiet, channel, newly, clusters, open_ast, open_force, open_handler, enter, open_request, fin, box_ends, open_attention, attention_fires, open_timer, open_wake, timer_fires}
use Rattle.vx_record.proofs.SoundLists.{with_timer_still, less_timer_still, after_wake_still, less_request_still, less_attention_still, box_still, mark_still, more_keeps, born_stands, each_drop_handler_still, each_drop_ast_still}
use Rattle.vx_record.proofs.SoundChannels.{assigned_still, freed_sound, gone_sound}
use Rattle.vx_record.proofs.SoundFlags.{flag_part_still}
use Rattle.vx_record.proofs.SoundRequests.{with_request_still, with_unit_still, with_attention_still}
use Rattle.vx_base.specs.Modes.{reaches}
use Rattle.vx_base.specs.declared.request.Device.TheVariants as device
use Rattle.vx_record.specs.Charges.{is_same}

-- what is promised is of a process that is there, whose routine it is
abbrev pub IsLooseOf : Ground → Option Loose → Type 0
IsLooseOf g None = Unit {0}
IsLooseOf g (Some x) = IsMade g x.p × IsRoutineOf g x.p x.ast.tag

pub record Stands (s : State) (l : Option Loose) : Type 0 where
  pub sound : IsFirm s
  pub loose : IsLooseOf (ground s) l

loose_on : (g h : Ground) (l : Option Loose) → Base g h → IsLooseOf g l → IsLooseOf h l
loose_on g h None b k = tt
loose_on g h (Some x) b k = (made_base g h b x.p k.0, routine_of_moves g h b x.p x.ast.tag k.0 k.1)

still_stands : (s t : State) (l : Option Loose) → Stands s l → Still s t → Stands t l
still_stands s t l h k = record { sound = k.sound; loose = loose_on (ground s) (ground t) l k.keeps.base h.loose }

passes : (s : State) (k : ℕ) (l : Option Loose) → Stands s l → Stands s (passed k l)
passes s k l h = record { sound = h.sound; loose = (elim l as (λ (o : Option Loose). IsLooseOf (ground s) o → IsLooseOf (ground s) (passed k o)) [ None ↦ λ e. e | Some x ↦ λ e. e ]) h.loose }

nothing_loose : (s : State) → IsFirm s → Stands s None
nothing_loose s h = record { sound = h; loose = tt }

nothing_left : (s t : State) → IsFirm s → Still s t → Stands t None
nothing_left s t h k = record { sound = k.sound; loose = tt }

put_still : (s : State) (p : Pid) (pr : Process) → Quiet (process_at s p) pr → IsFirm s → Still s (record s { procs = set s.procs (p.0 - 1) pr })
put_still s p pr q h = quiet_still s p (λ x. pr) q h

-- A process changed.

-- A mode is drained.

reached_there : (k n : ℕ) (m : Mode) (rows : List (Option Channel)) → k ≤ n → is_reached m (get_or rows (n - k) None) ≡ true → list_any (λ j. n == j) (reached_from k m rows) ≡ true
reached_there k n m [] h e = cc
reached_there k n m (row ∷ rows) h e =
    elim (cases_eq n k) [
      | inl here ↦
          let place : n - k ≡ zero = omega arith in
          let first : is_reached m row ≡ true = rw place at e in
          rw first (or_left (n == k) _ (eq-eqb n k here))
      | inr past ↦
          let above : k + 1 ≤ n = omega arith in
          let place : n - k ≡ suc (n - (k + 1)) = omega arith in
          let rest = reached_there (k + 1) n m rows above (rw place at e) in
          either (λ (ns : List ℕ). list_any (λ j. n == j) ns ≡ true) (is_reached m row) (k ∷ reached_from (k + 1) m rows) (reached_from (k + 1) m rows) (or_right (n == k) _ rest) rest
    ]

any_weaker : {A : Type 0} (f g : A → Bool) → ((x : A) → f x ≡ true → g x ≡ true) → (xs : List A) → list_any f xs ≡ true → list_any g xs ≡ true
any_weaker f g k [] h = cc
any_weaker f g k (x ∷ xs) h = let rest = any_weaker f g k xs in let one = k x in grind arith

-- what is not attended on the channels of a mode is of no mode that is drained
still_going : (s : State) (p : Pid) (m : Mode) (a : Attention) → IsProcess s p → (k : AttentionStands (ground s) a) → a.p.0 ≡ p.0 → (list_any (λ n. is_attention_on p n a) (channels_of m (process_at s p).channels) ≡ false) → reaches k.channel_mode m ≡ false
still_going s p m a made k same away =
    false_from_ne_true (reaches k.channel_mode m)
    (λ e.
    let ch : Channel = record { device = device.Mailbox a.box; mode = k.channel_mode } in
    let rows = (process_at s p).channels in
    let row : channel_at rows a.chan ≡ Some ch = ap (λ (i : ℕ). channel_at (get_or s.procs (i - 1) nobody).channels a.chan) (sym same) ∙ k.channel.row in
    let reached = subst (λ (o : Option Channel). is_reached m o ≡ true) (sym row) e in
    let above = leb-true 1 a.chan (and_parts (nat_le 1 a.chan) (nat_le a.chan 64) k.channel.number).0 in
    let there = reached_there 1 a.chan m rows above reached in
    let on = any_weaker (λ j. a.chan == j) (λ n. is_attention_on p n a) (λ j f. and_from (is_same a.p p) (a.chan == j) (eq-eqb a.p.0 p.0 same) f) (channels_of m rows) there in
    both_ways _ away on)

draining_rooted : (s : State) (p q : Pid) (m : Mode) (n : ℕ) (b : BoxNo) (mode : Mode) → HasChannel (ground s) q n b mode → HasChannel (ground (draining p m s)) q n b mode
draining_rooted s p q m n b mode c = record { number = c.number; row = at_set (λ (x y : Process). channel_at x.channels n ≡ Some (record { device = device.Mailbox b; mode = mode }) → channel_at y.channels n ≡ Some (record { device = device.Mailbox b; mode = mode })) (λ x e. e) s.procs (p.0 - 1) (q.0 - 1) (in_phase (phase.Draining m) (process_at s p)) nobody (λ e. e) c.row }

draining_root : (s : State) (p q : Pid) (m : Mode) (n : ℕ) (mode : Mode) (d : Device) → IsRooted (ground s) q n mode d → IsRooted (ground (draining p m s)) q n mode d
draining_root s p q m n mode (device.Unit u) c = tt
draining_root s p q m n mode (device.Mailbox b) c = draining_rooted s p q m n b mode c

draining_sound : (s : State) (p : Pid) (m : Mode) → IsProcess s p → (process_at s p).frames ≡ [] → AreUnattended s p (channels_of m (process_at s p).channels) → IsFirm s → IsFirm (draining p m s)
draining_sound s p m made bare left h =
    let f = in_phase (phase.Draining m) in
    let t = draining p m s in
    let g = ground s in
    let to = ground t in
    let base : Base g to = change_base s p f refl in
    let idle : Idles (phase.Draining m) (process_at s p).frames = subst (λ (fs : List Frame). Idles (phase.Draining m) fs) (sym bare) tt in
    rebuilt s t.procs s.boxes s.units refl base
    (all_weaker (ProcessStands g) (ProcessStands to) (process_moves g to refl refl (λ b e. e)) t.procs (all_set (ProcessStands g) s.procs (p.0 - 1) (f (process_at s p)) nobody (λ e. search) h.procs))
    (all_weaker (RequestStands g) (RequestStands to) (λ r e. request_moves g to base r (λ d. d) (draining_root s p r.req.p m r.req.chan r.req.chan_mode r.req.device) e) s.requests h.requests)
    (all_weaker (λ x. AttentionStands g x × (list_any (λ n. is_attention_on p n x) (channels_of m (process_at s p).channels) ≡ false)) (AttentionStands to)
    (λ x e. attention_moves g to base x e.0 e.0.stands (draining_rooted s p x.p m x.chan x.box e.0.channel_mode e.0.channel) (going x e.0 e.1)) s.attention
    (all_both (AttentionStands g) (λ x. list_any (λ n. is_attention_on p n x) (channels_of m (process_at s p).channels) ≡ false) s.attention h.attention left)) h
  where
    going : (x : Attention) (e : AttentionStands (ground s) x) → list_any (λ n. is_attention_on p n x) (channels_of m (process_at s p).channels) ≡ false → is_drained (process_at (draining p m s) x.p).phase e.channel_mode ≡ false
    going x e away =
        let f = in_phase (phase.Draining m) in
        elim (cases_eq x.p.0 p.0) [
          | inl same ↦
              at_set (λ (y z : Process). is_drained y.phase e.channel_mode ≡ false → is_drained z.phase e.channel_mode ≡ false) (λ y r. r) s.procs (p.0 - 1) (x.p.0 - 1) (f (process_at s p)) nobody
              (λ r. still_going s p m x made e same away) e.going
          | inr other ↦
              let apart : x.p.0 - 1 ≢ p.0 - 1 = λ i. other (omega (arith, made.above, e.made.above, i)) in
              rw (get_or-set_other s.procs (p.0 - 1) (x.p.0 - 1) (f (process_at s p)) nobody apart) e.going
        ]

tame_sound : (s : State) (p : Pid) (f : Process → Process) → IsSilent true s p f → IsTame s p f → IsFirm s → IsFirm (change s p f)
tame_sound s p f q (calm g c) h =
    change_sound s p f (record { decl = q.decl; channel = λ n ch e. rw q.channels e; going = c.going })
    (λ k. search (q.decl, q.channels, q.asts, q.handlers, c.idle, c.waits)) h
tame_sound s p f q (drains m made bare left) h = draining_sound s p m made bare left h

row_stands : (s : State) (p : Pid) (n : ℕ) (ch : Option Channel) → IsRow s p n ch → IsFirm s → IsFirm (change s p (with_channel n ch))
row_stands s p n None k h = freed_sound s p n k.0 k.1.0 k.1.1 h
row_stands s p n (Some ch) k h = (assigned_still s p ch.device ch.mode n k.0 k.1 h).sound

created_still : (s : State) (p : Pid) (place : ℕ) → place < length s.system.decls → IsFirm s → Still s (record s { procs = s.procs ++ created s p place ∷ [] })
created_still s p place k h =
    let pr = created s p place in
    let to = ground (record s { procs = s.procs ++ pr ∷ [] }) in
    let procs = all_append (ProcessStands (ground s)) s.procs (pr ∷ []) h.procs (born_stands s place pr.group pr.member pr.privs _ k, tt) in
    record { keeps = more_keeps s pr; sound = with_procs s (s.procs ++ pr ∷ []) s.boxes s.units refl (more_keeps s pr) (all_weaker (ProcessStands (ground s)) (ProcessStands to) (process_moves (ground s) to refl refl (λ b e. e)) (s.procs ++ pr ∷ []) procs) h }

-- What is promised.

request_loose : (g : Ground) (r : Request) → RequestStands g r → IsLooseOf g (loosed r)
request_loose g r k = (elim r.ast as (λ (o : Option Promised). IfSome o (λ ast. IsRoutineOf g r.req.p ast.tag) → IsLooseOf g (loosed (record r { ast = o }))) [ None ↦ λ e. tt | Some ast ↦ λ e. (k.made, e) ]) k.routine

timer_loose : (g : Ground) (t : Timer) (a : Alarm) → IsMade g t.p → AlarmStands g t.p a → IsLooseOf g (loosed_timer t a)
timer_loose g t (OfTimer efn reqid mode (Some tag)) m k = (m, k)
timer_loose g t a m k = tt

-- what moves of no premise come to
ruleset standing = (still_stands, nothing_left, passes, put_still, moved_to_quiet, with_variable_quiet, with_stored_bytes_quiet, with_stored_status_quiet, with_delivery_quiet, in_phase_still, flag_part_still, with_unit_still, later_still, box_still, each_drop_ast_still, without_handler_still, each_drop_handler_still, mark_still, less_attention_still, less_timer_still, after_wake_still, with_queued_still)

pub moves_stand : (s : State) (l : Option Loose) (es : List Effect) (t : State) (m : Option Loose) → MovesBy true s l es t m → Stands s l → Stands t m
moves_stand s l es t m (both x y z a b c fs gs i j) h = moves_stand y b gs z c j (moves_stand x a fs y b i h)
moves_stand s l es t m (quiet x a p f q) h = record { sound = tame_sound x p f q (q.tame refl h.sound) h.sound; loose = loose_on (ground x) (ground (change x p f)) a (change_base x p f q.decl) h.loose }
moves_stand s l es t m (channel x a p n ch ok) h = record { sound = row_stands x p n ch (ok refl h.sound) h.sound; loose = loose_on (ground x) (ground (change x p (with_channel n ch))) a (change_base x p (with_channel n ch) refl) h.loose }
moves_stand s l es t m (newly x a p place idle ok) h = still_stands x _ a h (created_still x p place (ok refl h.sound) h.sound)
moves_stand s l es t m (clusters x a c k idle told ok) h = still_stands x _ a h (common_still x c.after (ok refl h.sound) h.sound)
moves_stand s l es t m (open_ast x p mode tag made ok) h = record { sound = (past_id_still x h.sound).sound; loose = (made.made, ok refl h.sound) }
moves_stand s l es t m (open_force x p code made) h = record { sound = (past_id_still x h.sound).sound; loose = (made, tt) }
moves_stand s l es t m (open_handler x p tag made ok) h = let k = past_id_still x h.sound in nothing_loose _ (with_handler_still _ p (new_handler x p tag) (ok refl h.sound) k.sound).sound
moves_stand s l es t m (enter x p f test d made is ok) h = nothing_loose _ (let k = ok refl h.sound in entering_sound x p f d.id k.0 k.1 h.sound)
moves_stand s l es t m (open_request x k p mode n r is new ok) h = nothing_loose _ (with_request_still x r new.id (ok refl h.sound) h.sound).sound
moves_stand s l es t m (fin x r c has) h = record { sound = (less_request_still x r.req.id h.sound).sound; loose = request_loose (ground x) r (all_find (RequestStands (ground x)) (this_request r.req.id) x.requests r h.sound.requests has) }
moves_stand s l es t m (box_ends x b ok) h = nothing_loose _ (gone_sound x b (ok refl h.sound) h.sound)
moves_stand s l es t m (open_attention x p mode a new at ok) h = nothing_loose _ (with_attention_still x a new.id (ok refl h.sound) h.sound).sound
moves_stand s l es t m (attention_fires x a has) h = let k = all_find (AttentionStands (ground x)) (this_attention a.id) x.attention a h.sound.attention has in record { sound = (less_attention_still x a.id h.sound).sound; loose = (k.made, k.routine) }
moves_stand s l es t m (open_timer x p mode a efn reqid n tag new is at ok) h = nothing_loose _ (with_timer_still x a new.id (ok refl h.sound) h.sound).sound
moves_stand s l es t m (open_wake x p n a to new is) h =
    let alarm : IsProcess x to = subst (λ (w : Alarm). IsAlarmMade x w) is new.alarm in
    nothing_loose _ (with_timer_still x a new.id (record { made = rw new.owner new.made; alarm = subst (λ (w : Alarm). AlarmStands (ground x) a.p w) (sym is) alarm }) h.sound).sound
moves_stand s l es t m (timer_fires x a has is) h = let k = all_find (TimerStands (ground x)) (this_timer a.id) x.timers a h.sound.timers has.0 in record { sound = (less_timer_still x a.id h.sound).sound; loose = timer_loose (ground x) a a.what k.made k.alarm }
moves_stand s l es t m k h = search standing
