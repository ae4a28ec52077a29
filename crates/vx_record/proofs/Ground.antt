-- From one state to another: what was referred to is still there, so the facts on references still hold.
use Rattle.std.proofs.Common.{◌≡◌, ℕ, zero, suc, ◌+◌, ◌-◌, ◌≤◌, List, [], ◌∷◌, false, length, Option, Some, None, IfSome, get_or, set, refl, arith}
use Rattle.std.proofs.Math.ListN.{length-set}
use Rattle.std.specs.List.{AllByRecursion}
use Rattle.vx_base.specs.Channels.{channel_at}
use Rattle.vx_base.specs.Clusters.{Common}
use Rattle.vx_record.specs.Types.{Alarm, Association, Attention, BoxNo, Channel, Device, DeviceUnit, Entry, Mailbox, Mode, Pid, Request, System, Timer}
use Rattle.vx_base.specs.Pieces.{OfTimer, OfWake}
use Rattle.vx_base.specs.declared.request.Device.TheVariants as device
use Rattle.vx_base.specs.declared.routine.Entry.TheVariants as entry
use Rattle.vx_record.specs.State.{Process, State, nobody, process_at, change, past_id}
use Rattle.vx_record.specs.Sound.{Ground, ground, IsMade, process_of, IsRoutine, IsRoutineOf, BoxStands, DeviceStands, ChannelStands, HasChannel, IsRooted, RequestStands, AlarmStands, TimerStands, is_drained, AttentionStands, ProcessStands, AssociationStands, AreOrdered, request_id, timer_id, attention_id}
use Rattle.vx_record.proofs.Firm.{IsFirm}
use Rattle.vx_record.proofs.Lists.{all_weaker, all_set, ordered_below}

-- the processes are there, with their declarations, and the units
pub record Base (g h : Ground) : Type 0 where
  pub system : h.system ≡ g.system
  pub more : length g.procs ≤ length h.procs
  pub decl : (p : Pid) → IsMade g p → (process_of h p).decl ≡ (process_of g p).decl
  pub units : h.units ≡ g.units

-- and so are channels and mailboxes; and no other mode is drained
pub record Keeps (g h : Ground) : Type 0 where
  pub base : Base g h
  pub channel : (p : Pid) (n : ℕ) (ch : Channel) → IsMade g p → channel_at (process_of g p).channels n ≡ Some ch → channel_at (process_of h p).channels n ≡ Some ch
  pub box : (b : BoxNo) → BoxStands g b → BoxStands h b
  pub going : (p : Pid) (m : Mode) → IsMade g p → is_drained (process_of g p).phase m ≡ false → is_drained (process_of h p).phase m ≡ false

pub made_base : (g h : Ground) → Base g h → (p : Pid) → IsMade g p → IsMade h p
made_base g h k p m = record { above = m.above; within = omega (arith, m.within, k.more) }

pub made_keeps : (g h : Ground) → Keeps g h → (p : Pid) → IsMade g p → IsMade h p
made_keeps g h k p m = made_base g h k.base p m

pub keeps_all : (g : Ground) → Keeps g g
keeps_all g = search arith

pub keeps_more : (g h i : Ground) → Keeps g h → Keeps h i → Keeps g i
keeps_more g h i a b = grind arith

-- Facts.

pub routine_moves : (sys to : System) (place there : ℕ) (tag : Entry) → to ≡ sys → there ≡ place → IsRoutine sys place tag → IsRoutine to there tag
routine_moves sys to place there (entry.Label k prm) e f h = rw (e, f) h
routine_moves sys to place there (entry.Exit code) e f h = tt
routine_moves sys to place there (entry.Host prm) e f h = tt

pub routine_of_moves : (g h : Ground) → Base g h → (p : Pid) (tag : Entry) → IsMade g p → IsRoutineOf g p tag → IsRoutineOf h p tag
routine_of_moves g h k p tag m r = routine_moves g.system h.system (process_of g p).decl (process_of h p).decl tag k.system (k.decl p m) r

pub some_weaker : {A : Type 0} (P Q : A → Type 0) → ((x : A) → P x → Q x) → (o : Option A) → IfSome o P → IfSome o Q
some_weaker P Q f None h = tt
some_weaker P Q f (Some x) h = f x h

pub device_moves : (g h : Ground) → h.units ≡ g.units → ((b : BoxNo) → BoxStands g b → BoxStands h b) → (d : Device) → DeviceStands g d → DeviceStands h d
device_moves g h e k (device.Unit u) d = rw e d
device_moves g h e k (device.Mailbox b) d = k b d

pub row_moves : (g h : Ground) → h.units ≡ g.units → ((b : BoxNo) → BoxStands g b → BoxStands h b) → (c : Option Channel) → ChannelStands g c → ChannelStands h c
row_moves g h e k None c = tt
row_moves g h e k (Some ch) c = device_moves g h e k ch.device c

pub has_channel_keeps : (g h : Ground) → Keeps g h → (p : Pid) (n : ℕ) (b : BoxNo) (mode : Mode) → IsMade g p → HasChannel g p n b mode → HasChannel h p n b mode
has_channel_keeps g h k p n b mode m c = record { number = c.number; row = k.channel p n _ m c.row }

pub request_moves : (g h : Ground) → Base g h → (r : Request) → (DeviceStands g r.req.device → DeviceStands h r.req.device) → (IsRooted g r.req.p r.req.chan r.req.chan_mode r.req.device → IsRooted h r.req.p r.req.chan r.req.chan_mode r.req.device) → RequestStands g r → RequestStands h r
request_moves g h k r d c f = grind arith

pub request_keeps : (g h : Ground) → Keeps g h → (r : Request) → RequestStands g r → RequestStands h r
request_keeps g h k r f = grind arith

pub alarm_moves : (g h : Ground) → Base g h → (p : Pid) (a : Alarm) → IsMade g p → AlarmStands g p a → AlarmStands h p a
alarm_moves g h k p (OfTimer efn reqid mode tag) m f = some_weaker (IsRoutineOf g p) (IsRoutineOf h p) (λ t e. routine_of_moves g h k p t m e) tag f
alarm_moves g h k p (OfWake target repeat) m f = made_base g h k target f

pub timer_moves : (g h : Ground) → Base g h → (t : Timer) → TimerStands g t → TimerStands h t
timer_moves g h k t f = record { made = made_base g h k t.p f.made; alarm = alarm_moves g h k t.p t.what f.made f.alarm }

pub attention_moves : (g h : Ground) → Base g h → (a : Attention) (f : AttentionStands g a) → BoxStands h a.box → HasChannel h a.p a.chan a.box f.channel_mode → is_drained (process_of h a.p).phase f.channel_mode ≡ false → AttentionStands h a
attention_moves g h k a f b c d = search (made_base, routine_of_moves)

pub attention_keeps : (g h : Ground) → Keeps g h → (a : Attention) → AttentionStands g a → AttentionStands h a
attention_keeps g h k a f = attention_moves g h k.base a f (k.box a.box f.stands) (has_channel_keeps g h k a.p a.chan a.box f.channel_mode f.made f.channel) (k.going a.p f.channel_mode f.made f.going)

pub process_moves : (g h : Ground) → h.system ≡ g.system → h.units ≡ g.units → ((b : BoxNo) → BoxStands g b → BoxStands h b) → (pr : Process) → ProcessStands g pr → ProcessStands h pr
process_moves g h e u k pr f = grind (arith, all_weaker, row_moves, routine_moves)

pub association_moves : (n m : ℕ) (c : Common) → n ≤ m → (a : Association) → AssociationStands n c a → AssociationStands m c a
association_moves n m c k a f = record { made = record { above = f.made.above; within = omega (arith, f.made.within) }; stands = f.stands }

-- States.

pub record Still (s t : State) : Type 0 where
  pub sound : IsFirm t
  pub keeps : Keeps (ground s) (ground t)

pub still : (s : State) → IsFirm s → Still s s
still s h = record { sound = h; keeps = keeps_all (ground s) }

pub still_then : {s t u : State} → Still s t → Still t u → Still s u
still_then {s} {t} {u} a b = record { sound = b.sound; keeps = keeps_more (ground s) (ground t) (ground u) a.keeps b.keeps }

-- other processes, mailboxes and units
-- if what requests and attention entries refer to is shown of each
pub rebuilt : (s : State) (procs : List Process) (boxes : List (Option Mailbox)) (units : List DeviceUnit) → length units ≡ length s.units → Base (ground s) (ground (record s { procs = procs; boxes = boxes; units = units })) → AllByRecursion (ProcessStands (ground (record s { procs = procs; boxes = boxes; units = units }))) procs → AllByRecursion (RequestStands (ground (record s { procs = procs; boxes = boxes; units = units }))) s.requests → AllByRecursion (AttentionStands (ground (record s { procs = procs; boxes = boxes; units = units }))) s.attention → IsFirm s → IsFirm (record s { procs = procs; boxes = boxes; units = units })
rebuilt s procs boxes units e b f r a h = grind (arith, all_weaker, association_moves, timer_moves)

pub moved : (s : State) (procs : List Process) (boxes : List (Option Mailbox)) (units : List DeviceUnit) → length units ≡ length s.units → Keeps (ground s) (ground (record s { procs = procs; boxes = boxes; units = units })) → AllByRecursion (ProcessStands (ground (record s { procs = procs; boxes = boxes; units = units }))) procs → IsFirm s → IsFirm (record s { procs = procs; boxes = boxes; units = units })
moved s procs boxes units e k f h = rebuilt s procs boxes units e k.base f (all_weaker _ _ (request_keeps _ _ k) s.requests h.requests) (all_weaker _ _ (attention_keeps _ _ k) s.attention h.attention) h

-- other requests, timers, attention entries, associations, another time and next id

pub requests_still : (s : State) (xs : List Request) → AllByRecursion (RequestStands (ground s)) xs → AreOrdered request_id 0 s.next xs → IsFirm s → Still s (record s { requests = xs })
requests_still s xs f o h = search keeps_all

pub timers_still : (s : State) (xs : List Timer) → AllByRecursion (TimerStands (ground s)) xs → AreOrdered timer_id 0 s.next xs → IsFirm s → Still s (record s { timers = xs })
timers_still s xs f o h = search keeps_all

pub attention_still : (s : State) (xs : List Attention) → AllByRecursion (AttentionStands (ground s)) xs → AreOrdered attention_id 0 s.next xs → IsFirm s → Still s (record s { attention = xs })
attention_still s xs f o h = search keeps_all

pub common_still : (s : State) (c : Common) → AllByRecursion (AssociationStands (length s.procs) c) c.associations → IsFirm s → Still s (record s { common = c })
common_still s c f h = search keeps_all

pub later_still : (s : State) (time next : ℕ) → s.next ≤ next → IsFirm s → Still s (record s { time = time; next = next })
later_still s time next k h = search (keeps_all, ordered_below)

pub past_id_still : (s : State) → IsFirm s → Still s (past_id s)
past_id_still s h = later_still s s.time (s.next + 1) (omega arith) h

-- One process changed.

-- what others refer to is kept from one process to another
pub record Seat (x y : Process) : Type 0 where
  pub decl : y.decl ≡ x.decl
  pub channel : (n : ℕ) (ch : Channel) → channel_at x.channels n ≡ Some ch → channel_at y.channels n ≡ Some ch
  pub going : (m : Mode) → is_drained x.phase m ≡ false → is_drained y.phase m ≡ false

same_seat : (x : Process) → Seat x x
same_seat x = record { decl = refl; channel = λ n ch e. e; going = λ m e. e }

pub at_set : {A : Type 0} (R : A → A → Type 0) → ((x : A) → R x x) → (xs : List A) (i j : ℕ) (y d : A) → R (get_or xs i d) y → R (get_or xs j d) (get_or (set xs i y) j d)
at_set R k [] i j y d h = k d
at_set R k (x ∷ xs) zero zero y d h = h
at_set R k (x ∷ xs) zero (suc j) y d h = k (get_or xs j d)
at_set R k (x ∷ xs) (suc i) zero y d h = k x
at_set R k (x ∷ xs) (suc i) (suc j) y d h = at_set R k xs i j y d h

pub change_base : (s : State) (p : Pid) (f : Process → Process) → (f (process_at s p)).decl ≡ (process_at s p).decl → Base (ground s) (ground (change s p f))
change_base s p f e = record { system = refl; more = omega (arith, length-set s.procs (p.0 - 1) (f (process_at s p))); decl = λ q m. at_set (λ (x y : Process). y.decl ≡ x.decl) (λ x. refl) s.procs (p.0 - 1) (q.0 - 1) (f (process_at s p)) nobody e; units = refl }

pub change_keeps : (s : State) (p : Pid) (f : Process → Process) → Seat (process_at s p) (f (process_at s p)) → Keeps (ground s) (ground (change s p f))
change_keeps s p f k =
    let seat : (q : Pid) → Seat (process_at s q) (process_at (change s p f) q) = λ q. at_set Seat same_seat s.procs (p.0 - 1) (q.0 - 1) (f (process_at s p)) nobody k in
    record { base = change_base s p f k.decl; channel = λ q n ch m e. (seat q).channel n ch e; box = λ b e. e; going = λ q m made e. (seat q).going m e }

pub change_sound : (s : State) (p : Pid) (f : Process → Process) → Seat (process_at s p) (f (process_at s p)) → (ProcessStands (ground s) (process_at s p) → ProcessStands (ground s) (f (process_at s p))) → IsFirm s → IsFirm (change s p f)
change_sound s p f k stands h =
    let to = ground (change s p f) in
    moved s (change s p f).procs s.boxes s.units refl (change_keeps s p f k)
    (all_weaker (ProcessStands (ground s)) (ProcessStands to) (process_moves (ground s) to refl refl (λ b e. e)) (change s p f).procs
    (all_set (ProcessStands (ground s)) s.procs (p.0 - 1) (f (process_at s p)) nobody stands h.procs)) h

pub change_still : (s : State) (p : Pid) (f : Process → Process) → Seat (process_at s p) (f (process_at s p)) → (ProcessStands (ground s) (process_at s p) → ProcessStands (ground s) (f (process_at s p))) → IsFirm s → Still s (change s p f)
change_still s p f k stands h = record { sound = change_sound s p f k stands h; keeps = change_keeps s p f k }
