-- What most services and events do lies aside of mailboxes: no channel, no mailbox and no request is other than before.
use Rattle.std.proofs.Common.{◌≡◌, ℕ, ◌%◌, ◌^◌, List, [], ◌∷◌, ◌++◌, Bool, true, false, cond, not, ◌||◌, ◌==◌, nat_lt, nat_le, length, Option, Some, None, Result, Ok, Err, refl, ◌∙◌, ap, zero, suc, get_or, arith, ◌≤◌, ◌-◌}
use Rattle.std.specs.List.{AllByRecursion, filter, find}
use Rattle.std.specs.Prelude.{⊤, is_some}
use Rattle.vx_base.proofs.Lists.{alike_at}
use Rattle.vx_base.specs.Channels.{channel_at}
use Rattle.vx_base.specs.Clusters.{Change, cluster_number, associated, dissociated, marked, is_cluster}
use Rattle.vx_base.specs.Modes.{inner, is_kernel}
use Rattle.vx_record.specs.Types.{Alarm, Args, Attention, BoxNo, Cell, Channel, Cond, Device, Effect, Entry, Frame, FrameKind, Func, Handler, Mode, Pid, Queued, Service, Status, Target, Timer, Wait}
use Rattle.vx_base.specs.Pieces.{OfTimer, OfWake, cleared}
use Rattle.vx_base.specs.declared.cond.Cond.TheVariants.{BadParam}
use Rattle.vx_base.specs.declared.effects.Cell.TheVariants.{Local, Common as Shared}
use Rattle.vx_base.specs.declared.effects.Effect.TheVariants as effect
use Rattle.vx_base.specs.declared.effects.Opened.TheVariants as opened
use Rattle.vx_base.specs.declared.frame.FrameKind.TheVariants as kind
use Rattle.vx_base.specs.declared.frame.Wait.TheVariants as wait
use Rattle.vx_base.specs.declared.mode.Mode.TheVariants.{Exec, Kernel}
use Rattle.vx_base.specs.declared.request.Device.TheVariants as device
use Rattle.vx_base.specs.declared.routine.Entry.TheVariants as entry
use Rattle.vx_base.specs.declared.service.Service.TheVariants.{SetEf, ClrEf, ReadEf, WaitFr, WflOr, WflAnd, AscEfc, DacEfc, DlcEfc, DclAst, SetAst, CmExec, CmKrnl, SetImr, CanTim, SchdWk, CanWak, Hiber, Wake, Suspnd, Resume, ForceX, CrePrc, DelPrc, Exit, DclExh, CanExh, Assign, Dassgn, CreMbx, DelMbx, Qio, QioW, Synch, Cancel, GetTim}
use Rattle.vx_record.proofs.Lists.{all_append, all_weaker, either}
use Rattle.vx_record.specs.Asts.{is_inside, que_part, charged_ast, with_queued, with_delivery, with_frame, new_frame}
use Rattle.vx_record.specs.Cancel.{drop_attention}
use Rattle.vx_record.specs.Charges.{exceeds, ast_need, timer_need}
use Rattle.vx_record.specs.Control.{process_test, changed_process, with_wake, with_suspension, forced, creprc, created, new_part}
use Rattle.vx_record.specs.Events.{returned, returned_from, started, r0_of, put_back, below_top}
use Rattle.vx_record.specs.Finish.{iosb_part, put_status, with_stored_status}
use Rattle.vx_record.specs.Flags.{cell, flag_where_named, at_named, at_flag, put_flag_at, readef_at, readef, refused_wait, wait_condition, awaited_at, waits_on, is_common, wants_prmceb, flag_part, with_local_flag, with_wait}
use Rattle.vx_record.specs.Mailboxes.{is_attention_at, fire_attention, call_attention, is_answered_now, attend}
use Rattle.vx_record.specs.Parts.{Part, Outcome, nothing, each, refused, refused_value, at_tested, part_of, commonly, and_then}
use Rattle.vx_record.specs.Requests.{Asked, new_attention, attention_set, attention_opened, attention_on, done_at_once, cleared_part}
use Rattle.vx_record.specs.Rundown.{leave_kind, leave_frame, leave_all, exited, is_handler_of, drop_handler, drop_handlers, any_handler, cancel_found, cancel_handlers, named_for_deletion, deleted_by, drop_ast, drop_asts, is_ast_reached, part_with, new_handler, with_handler, without_frames, without_handler, without_ast}
use Rattle.vx_record.specs.Services.{number, place, text, routine_or_none, decl_place, valued_at, numbered_at, service_of, var_part, with_variable, routine}
use Rattle.vx_record.specs.State.{State, process_at, change, current, next_id, past_id, Process, nobody}
use Rattle.vx_record.specs.Timers.{drop_timer, drop_timers, setimr_at, scheduled, is_wake_for, unscheduled, que_timer, fired, fire, is_due, at_time, next_time, tick, gettim, open_timer, fire_timer, after_wake}
use Rattle.vx_record.proofs.Apart.{associated_only, dissociated_only, marked_at_only}
use Rattle.vx_record.proofs.Fits.{field_same}
use Rattle.vx_record.proofs.Moves.{is_clusters}
use Rattle.vx_laws.specs.Lives.{is_request}
use Rattle.vx_base.specs.Handlers.{is_handler_with}

-- channel n of a process
abbrev pub row : State → Pid → ℕ → Option Channel
row s p n = channel_at (process_at s p).channels n

-- an effect that tells of none of them; what is opened has the number n or a later one
abbrev pub IsAside : ℕ → Effect → Type 0
IsAside n (effect.Open id k p mode m) = (is_request k ≡ false) × (n ≤ id.0)
IsAside n (effect.Fin id c) = ⊥
IsAside n (effect.MPut name id b) = ⊥
IsAside n (effect.MGet name w r) = ⊥
IsAside n (effect.MCut name w) = ⊥
IsAside n (effect.Mbx name on) = ⊥
IsAside n x = ⊤

pub record Aside (s : State) (es : List Effect) (t : State) : Type 0 where
  pub system : t.system ≡ s.system
  pub boxes : t.boxes ≡ s.boxes
  pub requests : t.requests ≡ s.requests
  pub rows : (p : Pid) (n : ℕ) → row t p n ≡ row s p n
  pub next : s.next ≤ t.next
  pub effects : AllByRecursion (IsAside s.next) es

abbrev pub PartAside : State → Part → Type 0
PartAside s a = Aside s a.effects a.after

abbrev pub OutAside : {A : Type 0} → State → Outcome A → Type 0
OutAside s o = Aside s o.effects o.after

pub idle : (s : State) → Aside s [] s
idle s = record { system = refl; boxes = refl; requests = refl; rows = λ p n. refl; next = omega arith; effects = tt }

-- nothing changes but lists that are no concern here
with_opened : (s t : State) (es : List Effect) → t.system ≡ s.system → t.boxes ≡ s.boxes → t.requests ≡ s.requests → t.procs ≡ s.procs → s.next ≤ t.next → AllByRecursion (IsAside s.next) es → Aside s es t
with_opened s t es a b c d e k = record { system = a; boxes = b; requests = c; rows = λ p n. ap (λ (l : List Process). channel_at (get_or l (p.0 - 1) nobody).channels n) d; next = e; effects = k }

pub same : (s t : State) (es : List Effect) → t.system ≡ s.system → t.boxes ≡ s.boxes → t.requests ≡ s.requests → t.procs ≡ s.procs → t.next ≡ s.next → AllByRecursion (IsAside s.next) es → Aside s es t
same s t es a b c d e k = with_opened s t es a b c d (omega (arith, e)) k

pub changed : (s : State) (p : Pid) (f : Process → Process) (es : List Effect) → (f (process_at s p)).channels ≡ (process_at s p).channels → AllByRecursion (IsAside s.next) es → Aside s es (change s p f)
changed s p f es c k = record {
  system = refl;
  boxes = refl;
  requests = refl;
  rows = λ q n. ap (λ (l : List (Option Channel)). channel_at l n) (field_same (λ (pr : Process). pr.channels) f s p q c);
  next = omega arith;
  effects = k;
}

lower : (n m : ℕ) → n ≤ m → (x : Effect) → IsAside m x → IsAside n x
lower n m h (effect.Open id k p mode j) e = (e.0, omega (arith, h, e.1))
lower n m h x e = e

pub then : (s t u : State) (es fs : List Effect) → Aside s es t → Aside t fs u → Aside s (es ++ fs) u
then s t u es fs h k = record {
  system = k.system ∙ h.system;
  boxes = k.boxes ∙ h.boxes;
  requests = k.requests ∙ h.requests;
  rows = λ p n. k.rows p n ∙ h.rows p n;
  next = omega (arith, h.next, k.next);
  effects = all_append (IsAside s.next) es fs h.effects (all_weaker (IsAside t.next) (IsAside s.next) (lower s.next t.next h.next) fs k.effects);
}

pub parts : (s : State) (a : Part) (f : State → Part) → PartAside s a → PartAside a.after (f a.after) → PartAside s (and_then a f)
parts s a f h k = then s a.after (f a.after).after a.effects (f a.after).effects h k

of_two : (s : State) (b : Bool) (x y : Part) → PartAside s x → PartAside s y → PartAside s (cond b x y)
of_two s b x y h k = either (PartAside s) b x y h k

of_outcomes : {A : Type 0} (s : State) (b : Bool) (x y : Outcome A) → OutAside s x → OutAside s y → OutAside s (cond b x y)
of_outcomes s true x y h k = h
of_outcomes s false x y h k = k

each_aside : {A : Type 0} (f : State → A → Part) → ((t : State) (x : A) → PartAside t (f t x)) → (xs : List A) (s : State) → PartAside s (each f xs s)
each_aside f k [] s = idle s
each_aside f k (x ∷ xs) s = parts s (f s x) (each f xs) (k s x) (each_aside f k xs (f s x).after)

-- Flags and clusters.

flag_aside : (s : State) (c : Cell) (on : Bool) → PartAside s (flag_part s c on)
flag_aside s (Local p n) on = changed s p (with_local_flag n on) (effect.Flag (Local p n) on ∷ []) (either (λ (x : Process). x.channels ≡ (process_at s p).channels) (nat_lt n 32) _ _ refl refl) (tt, tt)
flag_aside s (Shared g a n) on = same s _ _ refl refl refl refl refl (tt, tt)

pub named_flag_aside : (s : State) (o : Option Cell) (on : Bool) → PartAside s (flag_where_named s o on)
named_flag_aside s None on = idle s
named_flag_aside s (Some c) on = flag_aside s c on

named_aside : {A : Type 0} (s : State) (refuse : Cond → Outcome A) (go : Cell → Outcome A) (o : Option Cell) → ((c : Cond) → OutAside s (refuse c)) → ((c : Cell) → OutAside s (go c)) → OutAside s (at_named refuse go o)
named_aside s refuse go None f g = f _
named_aside s refuse go (Some c) f g = g c

at_flag_aside : {A : Type 0} (s : State) (p : Pid) (efn : ℕ) (refuse : Cond → Outcome A) (go : Cell → Outcome A) → ((c : Cond) → OutAside s (refuse c)) → ((c : Cell) → OutAside s (go c)) → OutAside s (at_flag s p efn refuse go)
at_flag_aside s p efn refuse go f g = of_outcomes s (nat_lt 127 efn) _ _ (f _) (named_aside s refuse go (cell s p efn) f g)

pub awaited_aside : (s : State) (p : Pid) (w : Wait) (o : Option Cond) → OutAside s (awaited_at s p w o)
awaited_aside s p w None = changed s p (with_wait (Some w)) [] refl tt
awaited_aside s p w (Some c) = idle s

waits_aside : (s : State) (p : Pid) (efn : ℕ) (w : Wait) → OutAside s (at_flag s p efn (refused_wait s) (waits_on s p w))
waits_aside s p efn w = at_flag_aside s p efn (refused_wait s) (waits_on s p w) (λ c. idle s) (λ c. awaited_aside s p w (wait_condition s p w))

cluster_aside : (n : ℕ) (x : Effect) → is_clusters x ≡ true → IsAside n x
cluster_aside n (effect.Cef g a on) e = tt
cluster_aside n (effect.Clu q k c) e = tt
cluster_aside n x e = absurd (let never : false ≡ true = e in cc)

only_aside : (s : State) (c : Change) → AllByRecursion (λ x. is_clusters x ≡ true) c.effects → PartAside s (commonly s c)
only_aside s c k = same s _ c.effects refl refl refl refl refl (all_weaker (λ (x : Effect). is_clusters x ≡ true) (IsAside s.next) (cluster_aside s.next) c.effects k)

-- Status blocks, ASTs and attention entries.

pub status_aside : (s : State) (p : Pid) (i : ℕ) (st : Status) → PartAside s (iosb_part s p i st)
status_aside s p i st = of_two s (not (i == 0)) (put_status s p i st) (nothing s) (changed s p (with_stored_status i st) _ refl (tt, tt)) (idle s)

pub que_aside : (s : State) (p : Pid) (q : Queued) → PartAside s (que_part s p q)
que_aside s p q = changed s p (with_queued q) _ refl (tt, tt)

pub fire_aside : (s : State) (a : Attention) → PartAside s (fire_attention s a)
fire_aside s a = parts s _ (λ b. que_part b a.p (charged_ast a.id a.mode a.tag)) (same s _ (effect.Fire a.id ∷ []) refl refl refl refl refl (tt, tt)) (que_aside _ a.p (charged_ast a.id a.mode a.tag))

pub call_aside : (s : State) (b : BoxNo) (func : Func) → PartAside s (call_attention s b func)
call_aside s b func = each_aside fire_attention fire_aside (filter (is_attention_at b func) s.attention) s

pub drop_attentions_aside : (s : State) (xs : List Attention) → PartAside s (each drop_attention xs s)
drop_attentions_aside s xs = each_aside drop_attention (λ t x. same t _ (effect.Drop x.id ∷ []) refl refl refl refl refl (tt, tt)) xs s

attend_aside : (s : State) (a : Attention) → PartAside s (attend s a)
attend_aside s a = of_two s (is_answered_now s a) (fire_attention s a) (nothing s) (fire_aside s a) (idle s)

attention_set_aside : (s : State) (p : Pid) (q : Asked) (a : Attention) → PartAside s (attention_set s p q a)
attention_set_aside s p q a =
    let i = λ (x : State). iosb_part x p q.iosb done_at_once in
    let f = λ (x : State). flag_where_named x (cell x p q.efn) true in
    let one = attention_opened s p q a in
    let two = and_then one i in
    let t = two.after in
    parts s two (λ c. and_then (f c) (λ d. attend d a)) (parts s one i (with_opened s _ _ refl refl refl refl (omega arith) ((refl, omega arith), tt)) (status_aside one.after p q.iosb done_at_once))
    (parts t (f t) (λ d. attend d a) (named_flag_aside t (cell t p q.efn) true) (attend_aside (f t).after a))

pub attention_on_aside : (s : State) (p : Pid) (q : Asked) (d : Device) (o : Option Entry) → PartAside s (attention_on s p q d o)
attention_on_aside s p q (device.Unit u) o = idle s
attention_on_aside s p q (device.Mailbox b) None = idle s
attention_on_aside s p q (device.Mailbox b) (Some tag) = attention_set_aside s p q (new_attention s p q b tag)

pub cleared_aside : (s : State) (p : Pid) (q : Asked) (c : Cell) → PartAside s (cleared_part s p q c)
cleared_aside s p q c = parts s (flag_part s c false) (λ a. iosb_part a p q.iosb cleared) (flag_aside s c false) (status_aside (flag_part s c false).after p q.iosb cleared)

tested_aside : {A : Type 0} (s : State) (go : A → Outcome Cond) (r : Result A Cond) → ((x : A) → OutAside s (go x)) → OutAside s (at_tested s go r)
tested_aside s go (Err c) f = idle s
tested_aside s go (Ok x) f = f x

-- Timers.

pub timers_aside : (s : State) (passes : Timer → Bool) → PartAside s (drop_timers passes s)
timers_aside s passes = each_aside drop_timer (λ t x. same t _ (effect.Drop x.id ∷ []) refl refl refl refl refl (tt, tt)) (filter passes s.timers) s

que_timer_aside : (s : State) (t : Timer) (mode : Mode) (o : Option Entry) → PartAside s (que_timer s t mode o)
que_timer_aside s t mode None = idle s
que_timer_aside s t mode (Some tag) = que_aside s t.p (charged_ast t.id mode tag)

wake_aside : (s : State) (t : Timer) (n : ℕ) → Aside s [] (after_wake s t n)
wake_aside s t n = either (λ (x : State). Aside s [] x) (n == 0) _ _ (same s _ [] refl refl refl refl refl tt) (same s _ [] refl refl refl refl refl tt)

fired_aside : (s : State) (t : Timer) (a : Alarm) → PartAside s (fired s t a)
fired_aside s t (OfTimer efn reqid mode tag) =
    let f = λ (x : State). flag_where_named x (cell x t.p efn) true in
    let a = fire_timer s t in
    let two = and_then a f in
    parts s two (λ b. que_timer b t mode tag) (parts s a f (same s _ _ refl refl refl refl refl (tt, tt)) (named_flag_aside a.after (cell a.after t.p efn) true)) (que_timer_aside two.after t mode tag)
fired_aside s t (OfWake target repeat) = then s (after_wake s t repeat) _ [] (effect.Fire t.id ∷ []) (wake_aside s t repeat) (changed (after_wake s t repeat) target (with_wake true) (effect.Fire t.id ∷ []) refl (tt, tt))

pub tick_aside : (s : State) → PartAside s (tick s)
tick_aside s = then s (at_time s (next_time s)) _ [] _ (same s _ [] refl refl refl refl refl tt) (each_aside fire (λ t x. fired_aside t x x.what) (filter (is_due (next_time s)) s.timers) (at_time s (next_time s)))

-- Leaving.

leave_aside : (s : State) (k : FrameKind) → PartAside s (leave_kind s k)
leave_aside s (kind.Ast id) = same s s _ refl refl refl refl refl (tt, tt)
leave_aside s kind.Main = idle s
leave_aside s kind.Change = idle s
leave_aside s kind.Handler = idle s

leave_all_aside : (frames : List Frame) (s : State) → PartAside s (leave_all frames s)
leave_all_aside frames s = each_aside leave_frame (λ t f. leave_aside t f.kind) frames s

pub handlers_aside : (s : State) (p : Pid) (test : Handler → Bool) → PartAside s (drop_handlers s p test)
handlers_aside s p test = each_aside (drop_handler p) (λ t x. changed t p (without_handler x.id) _ refl (tt, tt)) (filter test (process_at s p).handlers) s

pub exited_aside : (s : State) (p : Pid) (code : ℕ) → PartAside s (exited s p code)
exited_aside s p code = let a = change s p (without_frames code) in then s a _ [] _ (changed s p (without_frames code) [] refl tt) (leave_all_aside (process_at s p).frames a)

found_handler_aside : (s : State) (p : Pid) (o : Option Handler) → OutAside s (cancel_found s p o)
found_handler_aside s p None = idle s
found_handler_aside s p (Some x) = changed s p (without_handler x.id) _ refl (tt, tt)

cancel_handlers_aside : (s : State) (p : Pid) (o : Option Entry) → OutAside s (cancel_handlers s p o)
cancel_handlers_aside s p None = handlers_aside s p (is_handler_of (current s p))
cancel_handlers_aside s p (Some tag) = found_handler_aside s p (find (is_handler_with (current s p) tag) (process_at s p).handlers)

deleted_aside : (s : State) (q : Pid) → OutAside s (deleted_by s q)
deleted_aside s q =
    let a = change s q named_for_deletion in
    let b = leave_all (process_at s q).frames a in
    then s a _ [] _ (changed s q named_for_deletion [] refl tt) (then a b.after _ b.effects _ (leave_all_aside (process_at s q).frames a) (handlers_aside b.after q any_handler))

pub part_with_aside : (p : Pid) (k : ℕ) (s : State) → PartAside s (part_with p k s)
part_with_aside p k s = only_aside s (dissociated s.common p k) (dissociated_only s.common p k)

pub asts_aside : (s : State) (p : Pid) (m : Mode) → PartAside s (drop_asts p m s)
asts_aside s p m = each_aside (drop_ast p) (λ t q. changed t p (without_ast q.id) _ refl (tt, tt)) (filter (is_ast_reached m) (process_at s p).asts) s

-- Records but those of services.

pub returned_aside : (s : State) (p : Pid) (frames : List Frame) → OutAside s (returned s p frames)
returned_aside s p [] = idle s
returned_aside s p (f ∷ fs) = by_kind f.kind
  where
    by_kind : (k : FrameKind) → OutAside s (returned_from s p f k)
    by_kind kind.Main = exited_aside s p (r0_of s p)
    by_kind (kind.Ast id) = changed s p (put_back f.saved_r0) _ refl (tt, tt)
    by_kind kind.Change = changed s p below_top _ refl tt
    by_kind kind.Handler = changed s p below_top _ refl tt

pub started_aside : (s : State) (p : Pid) (q : Queued) (e : Entry) → PartAside s (started s p q e)
started_aside s p q (entry.Exit code) = parts s _ (λ a. exited a p code) (same s s (effect.Leave q.id ∷ []) refl refl refl refl refl (tt, tt)) (exited_aside s p code)
started_aside s p q (entry.Label k prm) = changed s p (with_frame (new_frame s p (kind.Ast q.id) q.mode (entry.Label k prm) (r0_of s p))) [] refl tt
started_aside s p q (entry.Host prm) = changed s p (with_frame (new_frame s p (kind.Ast q.id) q.mode (entry.Host prm) (r0_of s p))) [] refl tt

-- a new process has no channel

made_rows : (x : Process) (n : ℕ) → ((m : ℕ) → channel_at x.channels m ≡ None) → (l : List Process) (i : ℕ) → channel_at (get_or (l ++ x ∷ []) i nobody).channels n ≡ channel_at (get_or l i nobody).channels n
made_rows x n free [] zero = free n
made_rows x n free [] (suc i) = refl
made_rows x n free (y ∷ l) zero = refl
made_rows x n free (y ∷ l) (suc i) = made_rows x n free l i

new_aside : (s : State) (p : Pid) (place : ℕ) → PartAside s (new_part s p place)
new_aside s p place = record { system = refl; boxes = refl; requests = refl; rows = λ q n. made_rows (created s p place) n (λ m. alike_at {A = Option Channel} None 64 (m - 1)) s.procs (q.0 - 1); next = omega arith; effects = (tt, tt) }

-- Services.

pub valued_aside : (s : State) (p : Pid) (t : Target) (part : Part) (r : Result (Cond × ℕ) Cond) → PartAside s part → OutAside s (valued_at p t part r)
valued_aside s p t part (Ok read) k = parts s part (λ a. var_part a p t read.1) k (changed part.after p (with_variable t read.1) _ refl (tt, tt))
valued_aside s p t part (Err c) k = k

numbered_aside : (s : State) (p : Pid) (t : Target) (part : Part) (r : Result ℕ Cond) → PartAside s part → OutAside s (numbered_at p t part r)
numbered_aside s p t part (Ok n) k = parts s part (λ a. var_part a p t n) k (changed part.after p (with_variable t n) _ refl (tt, tt))
numbered_aside s p t part (Err c) k = k

-- the services on channels, mailboxes and requests
abbrev pub is_near : Service → Bool
is_near Assign = true
is_near Dassgn = true
is_near CreMbx = true
is_near DelMbx = true
is_near Qio = true
is_near QioW = true
is_near Cancel = true
is_near v = false

pub service_aside : (s : State) (p : Pid) (a : Args) (v : Service) → is_near v ≡ false → OutAside s (service_of s p a v)
service_aside s p a SetEf e = at_flag_aside s p (number a.a0) (refused s) (put_flag_at s true) (λ c. idle s) (λ c. flag_aside s c true)
service_aside s p a ClrEf e = at_flag_aside s p (number a.a0) (refused s) (put_flag_at s false) (λ c. idle s) (λ c. flag_aside s c false)
service_aside s p a ReadEf e = let o = readef s p (number a.a0) in valued_aside s p (place a.a1) (part_of o) o.answer (at_flag_aside s p (number a.a0) (refused_value s) (readef_at s) (λ c. idle s) (λ c. idle s))
service_aside s p a WaitFr e = waits_aside s p (number a.a0) (wait.Flags (number a.a0) (2 ^ (number a.a0 % 32)) false)
service_aside s p a WflOr e = waits_aside s p (number a.a0) (wait.Flags (number a.a0) (number a.a1) false)
service_aside s p a WflAnd e = waits_aside s p (number a.a0) (wait.Flags (number a.a0) (number a.a1) true)
service_aside s p a AscEfc e =
    let c = associated s.common p (cluster_number (number a.a0)) (process_at s p).group (text a.a1) (not (number a.a2 == 0)) in
    of_outcomes s (not (is_common (number a.a0))) _ _ (idle s) (of_outcomes s (wants_prmceb s (process_at s p) (text a.a1) (number a.a2)) _ _ (idle s) (only_aside s c (associated_only s.common p (cluster_number (number a.a0)) (process_at s p).group (text a.a1) (not (number a.a2 == 0)))))
service_aside s p a DacEfc e = of_outcomes s (not (is_common (number a.a0))) _ _ (idle s) (only_aside s (dissociated s.common p (cluster_number (number a.a0))) (dissociated_only s.common p (cluster_number (number a.a0))))
service_aside s p a DlcEfc e = of_outcomes s (not (process_at s p).privs.prmceb) _ _ (idle s) (only_aside s (marked s.common (process_at s p).group (text a.a0)) (marked_at_only s.common (find (is_cluster (process_at s p).group (text a.a0)) s.common.clusters)))
service_aside s p a DclAst e = of_outcomes s (exceeds s p (ast_need true)) _ _ (idle s) (then s (past_id s) _ (effect.Open (next_id s) opened.Ast p _ 0 ∷ []) _ (with_opened s _ _ refl refl refl refl (omega arith) ((refl, omega arith), tt)) (que_aside _ p _))
service_aside s p a SetAst e = changed s p (with_delivery (current s p) (not (number a.a0 == 0))) _ refl (tt, tt)
service_aside s p a CmExec e = of_outcomes s (is_inside (current s p) || ((process_at s p).privs.cmexec || (process_at s p).privs.cmkrnl)) _ _ (changed s p (with_frame (new_frame s p kind.Change (inner (current s p) Exec) (routine s p a.a0 (number a.a1)) 0)) [] refl tt) (idle s)
service_aside s p a CmKrnl e = of_outcomes s (is_inside (current s p) || (process_at s p).privs.cmkrnl) _ _ (changed s p (with_frame (new_frame s p kind.Change Kernel (routine s p a.a0 (number a.a1)) 0)) [] refl tt) (idle s)
service_aside s p a SetImr e =
    let tag = routine_or_none s p a.a2 (number a.a3) in
    at_flag_aside s p (number a.a0) (refused s) (setimr_at s p (number a.a0) (number a.a1) tag (number a.a3)) (λ c. idle s)
    (λ c. of_outcomes s (exceeds s p (timer_need (is_some tag))) _ _ (idle s) (parts s (flag_part s c false) (λ x. open_timer x p (number a.a0) (number a.a1) tag (number a.a3)) (flag_aside s c false) (with_opened (flag_part s c false).after _ _ refl refl refl refl (omega arith) ((refl, omega arith), tt))))
service_aside s p a CanTim e = timers_aside s _
service_aside s p a SchdWk e = tested_aside s (scheduled s p (number a.a1) (number a.a2)) (process_test s p (number a.a0)) (λ q. of_outcomes s (exceeds s p (ast_need true)) _ _ (idle s) (with_opened s _ _ refl refl refl refl (omega arith) ((refl, omega arith), tt)))
service_aside s p a CanWak e = tested_aside s (unscheduled s) (process_test s p (number a.a0)) (λ q. timers_aside s (is_wake_for q))
service_aside s p a Hiber e = of_outcomes s (process_at s p).wake_pending _ _ (changed s p (with_wake false) [] refl tt) (changed s p (with_wait (Some wait.Hiber)) [] refl tt)
service_aside s p a Wake e = tested_aside s (changed_process s (with_wake true)) (process_test s p (number a.a0)) (λ q. changed s q (with_wake true) [] refl tt)
service_aside s p a Suspnd e = tested_aside s (changed_process s (with_suspension true)) (process_test s p (number a.a0)) (λ q. changed s q (with_suspension true) [] refl tt)
service_aside s p a Resume e = tested_aside s (changed_process s (with_suspension false)) (process_test s p (number a.a0)) (λ q. changed s q (with_suspension false) [] refl tt)
service_aside s p a ForceX e = tested_aside s (forced s (number a.a1)) (process_test s p (number a.a0)) (λ q. then s (past_id s) _ (effect.Open (next_id s) opened.Force q _ 0 ∷ []) _ (with_opened s _ _ refl refl refl refl (omega arith) ((refl, omega arith), tt)) (que_aside _ q _))
service_aside s p a CrePrc e = let o = creprc s p (decl_place s (text a.a1)) in numbered_aside s p (place a.a0) (part_of o) o.answer (of_outcomes s (nat_le 1000 (length s.procs)) _ _ (idle s) (new_aside s p (decl_place s (text a.a1))))
service_aside s p a DelPrc e = tested_aside s (deleted_by s) (process_test s p (number a.a0)) (λ q. deleted_aside s q)
service_aside s p a Exit e = exited_aside s p (number a.a0)
service_aside s p a DclExh e =
    let new = new_handler s p (routine s p a.a0 0) in
    of_outcomes s (is_kernel (current s p)) _ _ (idle s)
    (then s (past_id s) _ (effect.Open new.id opened.Exh p _ 0 ∷ []) [] (with_opened s _ _ refl refl refl refl (omega arith) ((refl, omega arith), tt)) (changed (past_id s) p (with_handler new) [] refl tt))
service_aside s p a CanExh e = of_outcomes s (is_kernel (current s p)) _ _ (idle s) (cancel_handlers_aside s p (routine_or_none s p a.a0 0))
service_aside s p a Synch e =
    let w = wait.Synch (number a.a0) (number a.a1) in
    of_outcomes s (nat_lt 32 (number a.a1)) (refused_wait s BadParam) (at_flag s p (number a.a0) (refused_wait s) (waits_on s p w)) (idle s) (waits_aside s p (number a.a0) w)
service_aside s p a GetTim e = changed s p (with_variable (place a.a0) (gettim s)) _ refl (tt, tt)
service_aside s p a v e = absurd (let never : true ≡ false = e in cc)
