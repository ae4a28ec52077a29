-- What the machine does, taken apart: each event is a sequence of moves, each with at most one effect. A law over runs is then
-- one clause for each move, and says nothing of services.
use Rattle.std.proofs.Common.{◌<◌, ◌≤◌, ◌≡◌, ℕ, List, [], ◌∷◌, ◌++◌, Bool, true, false, ◌==◌, Option, Some, None}
use Rattle.std.specs.Prelude.{IfSome, option_map, is_some, bytes_eq, length, if◌then◌else◌, ⊤, IsTrue}
use Rattle.std.specs.List.{AllByRecursion, find, list_any}
use Rattle.vx_base.specs.Clusters.{Change, Common, is_used, associated, dissociated, marked}
use Rattle.vx_record.specs.Types.{Alarm, Attention, BoxNo, Cell, Channel, Cond, DeviceUnit, Effect, Entry, Frame, Handler, Id, Mailbox, Mode, Msg, Need, Opened, Pid, Promised, Queued, Request, Status, Target, Timer, UnitNo}
use Rattle.vx_base.specs.Pieces.{OfTimer, OfWake}
use Rattle.vx_base.specs.declared.effects.Cell.TheVariants.{Local, Common as Shared}
use Rattle.vx_base.specs.declared.effects.Effect.TheVariants as effect
use Rattle.vx_base.specs.declared.effects.Opened.TheVariants as opened
use Rattle.vx_base.specs.declared.mode.Mode.TheVariants.{User}
use Rattle.vx_base.specs.Channels.{is_channel_number, channel_at, channels_of}
use Rattle.vx_base.specs.declared.frame.Phase.TheVariants as phase
use Rattle.vx_record.specs.Cancel.{is_attention_on, mark_part, drop_attention}
use Rattle.vx_record.specs.Channels.{is_assigned, with_channel, box_made, box_gone}
use Rattle.vx_record.specs.Rundown.{in_phase, drop_handler, drop_handlers, drop_asts, handler_declared, entering, gone_part}
use Rattle.vx_record.specs.Sound.{ground, DeviceStands, IsRoutineOf, RequestStands, TimerStands, AttentionStands, AssociationStands, is_drained, IsIdle as Idles, WaitStands, WaitsStand}
use Rattle.vx_record.proofs.Firm.{IsFirm}
use Rattle.vx_record.proofs.SoundChannels.{IsClear}
use Rattle.vx_record.specs.State.{Process, State, IsProcess, process_at, change, current, next_id, past_id, with_box}
use Rattle.vx_record.specs.Parts.{Part, Outcome, commonly}
use Rattle.vx_record.specs.Charges.{is_direct, moved_bytes, is_attention, exceeds, request_need, ast_need, timer_need}
use Rattle.vx_record.specs.Flags.{flag_part}
use Rattle.vx_record.specs.Asts.{que_part, charged_ast, enb_part}
use Rattle.vx_record.specs.Finish.{this_request, fin_part, with_stored_bytes, put_status}
use Rattle.vx_record.specs.Mailboxes.{mput_part, mget_part, mcut_part, this_attention}
use Rattle.vx_record.specs.Control.{exit_ast, new_part, decl_at}
use Rattle.vx_record.specs.Requests.{with_request, with_attention, with_unit}
use Rattle.vx_image.specs.Storage.{Storage}
use Rattle.vx_record.specs.Events.{moved_to}
use Rattle.vx_record.specs.Services.{var_part}
use Rattle.vx_record.specs.Timers.{this_timer, with_timer, drop_timer, fire_timer, after_wake, at_time}

-- An AST that is promised: its body ended in this record, and it is queued next.
pub record Loose : Type 0 where
  pub p : Pid
  pub ast : Queued
  pub stage : ℕ

abbrev pub promised_by : Request → Promised → Loose
promised_by r ast = record { p = r.req.p; ast = charged_ast r.req.id ast.mode ast.tag; stage = 0 }

abbrev pub loosed : Request → Option Loose
loosed r = option_map (promised_by r) r.ast

abbrev pub fired_by : Timer → Mode → Entry → Loose
fired_by t mode tag = record { p = t.p; ast = charged_ast t.id mode tag; stage = 2 }

abbrev pub loosed_timer : Timer → Alarm → Option Loose
loosed_timer t (OfTimer efn reqid mode tag) = option_map (fired_by t mode) tag
loosed_timer t (OfWake target repeat) = None

-- Where it stands: 0 behind FIN, 1 behind the place of BUF, 2 behind that of IOSB, and behind FIRE; 3 behind that of FLAG, and
-- behind OPEN.

abbrev pub at_stage : ℕ → Loose → Loose
at_stage k x = record x { stage = k }

abbrev pub passed : ℕ → Option Loose → Option Loose
passed k l = option_map (at_stage k) l

abbrev pub IsAt : ℕ → Option Loose → Type 0
IsAt k None = Unit {0}
IsAt k (Some x) = x.stage ≤ k

-- nothing is promised
abbrev pub IsIdle : Option Loose → Type 0
IsIdle None = Unit {0}
IsIdle (Some x) = ⊥

-- a flag that a completion touches is set
abbrev pub IsSetWhere : Option Loose → Bool → Type 0
IsSetWhere None on = Unit {0}
IsSetWhere (Some x) on = on ≡ true

-- the cell of a process is one of its 64, and the process is there; somebody has the cluster of any other associated
abbrev pub IsCellMade : State → Cell → Type 0
IsCellMade s (Local p n) = IsProcess s p × (n < 64)
IsCellMade s (Shared g a n) = is_used s.common g a ≡ true

-- a wake is for a process that is there
abbrev pub IsAlarmMade : State → Alarm → Type 0
IsAlarmMade s (OfTimer efn reqid mode tag) = ⊤
IsAlarmMade s (OfWake target repeat) = IsProcess s target

-- a timer, and no wake
abbrev pub IsOfTimer : Alarm → Type 0
IsOfTimer (OfTimer efn reqid mode tag) = ⊤
IsOfTimer (OfWake target repeat) = ⊥

-- What references ask of moves: if they are answered for, the premise holds in each state whose references stand.
abbrev pub Answers : Bool → State → Type 0 → Type 0
Answers refs s P = refs ≡ true → IsFirm s → P

-- a change of a process that references are not on: it drains no more than before, it has no frame if it drains, and its
-- frames wait for status blocks that it has
pub record IsCalm (x y : Process) : Type 0 where
  pub going : (m : Mode) → is_drained x.phase m ≡ false → is_drained y.phase m ≡ false
  pub idle : Idles x.phase x.frames → Idles y.phase y.frames
  pub waits : WaitsStand x.frames → WaitsStand y.frames

-- no attention entry is on a channel of these numbers
abbrev pub AreUnattended : State → Pid → List ℕ → Type 0
AreUnattended s p ns = AllByRecursion (λ a. list_any (λ n. is_attention_on p n a) ns ≡ false) s.attention

-- it is calm; or it drains a mode, of which nothing is attended
pub data IsTame (s : State) (p : Pid) : (Process → Process) → Type 0 where
  calm : (f : Process → Process) → IsCalm (process_at s p) (f (process_at s p)) → IsTame s p f
  drains : (m : Mode) → IsProcess s p → (process_at s p).frames ≡ [] → AreUnattended s p (channels_of m (process_at s p).channels) → IsTame s p (in_phase (phase.Draining m))

-- a change of a process that the laws see nothing of: of its store but for status blocks, its frames and phase, its pending
-- wake and its exit code
pub record IsSilent (refs : Bool) (s : State) (p : Pid) (f : Process → Process) : Type 0 where
  pub decl : (f (process_at s p)).decl ≡ (process_at s p).decl
  pub enables : (f (process_at s p)).enables ≡ (process_at s p).enables
  pub asts : (f (process_at s p)).asts ≡ (process_at s p).asts
  pub channels : (f (process_at s p)).channels ≡ (process_at s p).channels
  pub handlers : (f (process_at s p)).handlers ≡ (process_at s p).handlers
  pub cluster_0 : (f (process_at s p)).cluster_0 ≡ (process_at s p).cluster_0
  pub cluster_1 : (f (process_at s p)).cluster_1 ≡ (process_at s p).cluster_1
  pub statuses : (f (process_at s p)).store.statuses ≡ (process_at s p).store.statuses
  pub tame : Answers refs s (IsTame s p f)

-- a channel is assigned if none was, to a device that stands; nothing hangs on one that is freed
abbrev pub IsRow : State → Pid → ℕ → Option Channel → Type 0
IsRow s p n None = IsProcess s p × (IsTrue (is_channel_number n) × IsClear s p n)
IsRow s p n (Some ch) = (channel_at (process_at s p).channels n ≡ None) × DeviceStands (ground s) ch.device

-- clusters alone
abbrev pub is_clusters : Effect → Bool
is_clusters (effect.Cef group name on) = true
is_clusters (effect.Clu p k cluster) = true
is_clusters x = false

-- what services and rundown make of clusters
pub data IsClusterChange : Common → Change → Type 0 where
  associates : (c : Common) (p : Pid) (k group : ℕ) (name : List ℕ) (permanent : Bool) → IsClusterChange c (associated c p k group name permanent)
  dissociates : (c : Common) (p : Pid) (k : ℕ) → IsClusterChange c (dissociated c p k)
  marks : (c : Common) (group : ℕ) (name : List ℕ) → IsClusterChange c (marked c group name)

-- a request that is new, as its OPEN tells it
pub record IsNew (s : State) (p : Pid) (mode : Option Mode) (r : Request) : Type 0 where
  pub made : IsProcess s p
  pub id : r.req.id ≡ next_id s
  pub owner : r.req.p ≡ p
  pub ast : mode ≡ option_map (λ a. a.mode) r.ast
  pub served : r.served ≡ false
  pub marked : r.marked ≡ false
  pub plain : is_attention r.req.func ≡ false
  pub room : exceeds s p (request_need s r.req.device r.req.func (is_some r.ast) r.req.len) ≡ false

pub record IsNewAttention (s : State) (p : Pid) (a : Attention) : Type 0 where
  pub made : IsProcess s p
  pub id : a.id ≡ next_id s
  pub owner : a.p ≡ p
  pub room : exceeds s p (ast_need true) ≡ false

-- what an alarm needs
abbrev pub alarm_need : Alarm → Need
alarm_need (OfTimer efn reqid mode tag) = timer_need (is_some tag)
alarm_need (OfWake target repeat) = ast_need true

-- a process that has room for an AST
pub record HasAstRoom (s : State) (p : Pid) : Type 0 where
  pub made : IsProcess s p
  pub room : exceeds s p (ast_need true) ≡ false

-- the declaration at a place is the first of its name
pub record IsDeclared (s : State) (p : Pid) (place : ℕ) : Type 0 where
  pub made : IsProcess s p
  pub first : 1 ≤ length s.system.decls → find (λ d. bytes_eq d.name (decl_at s place).name) s.system.decls ≡ Some (decl_at s place)

pub record IsNewTimer (s : State) (p : Pid) (t : Timer) : Type 0 where
  pub made : IsProcess s p
  pub id : t.id ≡ next_id s
  pub owner : t.p ≡ p
  pub alarm : IsAlarmMade s t.what
  pub room : exceeds s p (alarm_need t.what) ≡ false

-- a request's body ends with FIN
abbrev pub is_request : Opened → Bool
is_request opened.Bio = true
is_request opened.Dio = true
is_request k = false

-- the kind and the bytes with which a request is opened: those of its device and its function
abbrev pub kind_of : State → Request → Opened
kind_of s r = if is_direct s r.req.device then opened.Dio else opened.Bio

abbrev pub bytes_of : State → Request → ℕ
bytes_of s r = if is_direct s r.req.device then 0 else moved_bytes r.req.func r.req.len

pub record IsOpenedAs (s : State) (kind : Opened) (n : ℕ) (r : Request) : Type 0 where
  pub is : is_request kind ≡ true
  pub kind_is : kind ≡ kind_of s r
  pub bytes_are : n ≡ bytes_of s r

abbrev pub HasRequest : State → Request → Type 0
HasRequest s r = find (this_request r.req.id) s.requests ≡ Some r

abbrev pub HasTimer : State → Timer → Type 0
HasTimer s t = find (this_timer t.id) s.timers ≡ Some t

-- it fires for the last time
abbrev pub is_last : Alarm → Bool
is_last (OfTimer efn reqid mode tag) = true
is_last (OfWake target repeat) = repeat == 0

abbrev pub IsFiring : State → Timer → Type 0
IsFiring s t = HasTimer s t × (is_last t.what ≡ true)

abbrev pub HasAttention : State → Attention → Type 0
HasAttention s a = find (this_attention a.id) s.attention ≡ Some a

-- From a state and what is promised there, by effects, to a state and what is promised then; refs, whether references are
-- answered for.
pub data MovesBy (refs : Bool) : State → Option Loose → List Effect → State → Option Loose → Type 0 where
  none : (s : State) (l : Option Loose) → MovesBy refs s l [] s l
  skip : (s : State) (l : Option Loose) (k : ℕ) → IsAt k l → MovesBy refs s l [] s (passed k l)
  both : (s t u : State) (l m n : Option Loose) (es fs : List Effect) → MovesBy refs s l es t m → MovesBy refs t m fs u n → MovesBy refs s l (es ++ fs) u n
  -- processes
  quiet : (s : State) (l : Option Loose) (p : Pid) (f : Process → Process) → IsSilent refs s p f → MovesBy refs s l [] (change s p f) l
  moved : (s : State) (l : Option Loose) (p : Pid) (store : Storage) (place : ℕ) → store.statuses ≡ (process_at s p).store.statuses → MovesBy refs s l [] (change s p (moved_to store place)) l
  bytes : (s : State) (l : Option Loose) (p : Pid) (b : ℕ) (more : List ℕ) → IsAt 0 l → MovesBy refs s l (effect.Buf p b more ∷ []) (change s p (with_stored_bytes b more)) (passed 1 l)
  var : (s : State) (l : Option Loose) (p : Pid) (t : Target) (n : ℕ) → IsIdle l → MovesBy refs s l (effect.Var p t n ∷ []) (var_part s p t n).after l
  status : (s : State) (l : Option Loose) (p : Pid) (i : ℕ) (st : Status) → IsProcess s p → IsAt 1 l → 1 ≤ i → MovesBy refs s l (effect.Iosb p i st.cond st.count st.info ∷ []) (put_status s p i st).after (passed 2 l)
  enb : (s : State) (l : Option Loose) (p : Pid) (m : Mode) (on : Bool) → IsProcess s p → IsIdle l → MovesBy refs s l (effect.Enb p m on ∷ []) (enb_part s p m on).after l
  channel : (s : State) (l : Option Loose) (p : Pid) (n : ℕ) (ch : Option Channel) → Answers refs s (IsRow s p n ch) → MovesBy refs s l [] (change s p (with_channel n ch)) l
  newly : (s : State) (l : Option Loose) (p : Pid) (place : ℕ) → IsIdle l × IsDeclared s p place → Answers refs s (place < length s.system.decls) → MovesBy refs s l (new_part s p place).effects (new_part s p place).after l
  gone : (s : State) (l : Option Loose) (p : Pid) → IsIdle l → MovesBy refs s l (effect.Gone p ∷ []) (gone_part p s).after l
  leave : (s : State) (l : Option Loose) (id : Id) → IsIdle l → MovesBy refs s l (effect.Leave id ∷ []) s l
  -- flags
  flag : (s : State) (l : Option Loose) (c : Cell) (on : Bool) → IsCellMade s c → IsAt 2 l → IsSetWhere l on → MovesBy refs s l (effect.Flag c on ∷ []) (flag_part s c on).after (passed 3 l)
  clusters : (s : State) (l : Option Loose) (c : Change) → AllByRecursion (λ x. is_clusters x ≡ true) c.effects → IsIdle l → IsClusterChange s.common c → Answers refs s (AllByRecursion (AssociationStands (length s.procs) c.after) c.after.associations) → MovesBy refs s l c.effects (commonly s c).after l
  -- ASTs
  open_ast : (s : State) (p : Pid) (mode : Mode) (tag : Entry) → HasAstRoom s p → Answers refs s (IsRoutineOf (ground s) p tag) → MovesBy refs s None (effect.Open (next_id s) opened.Ast p (Some mode) 0 ∷ []) (past_id s) (Some (record { p = p; ast = charged_ast (next_id s) mode tag; stage = 3 }))
  open_force : (s : State) (p : Pid) (code : ℕ) → IsProcess s p → MovesBy refs s None (effect.Open (next_id s) opened.Force p (Some User) 0 ∷ []) (past_id s) (Some (record { p = p; ast = exit_ast (next_id s) code; stage = 3 }))
  que : (s : State) (p : Pid) (q : Queued) (k : ℕ) → IsProcess s p → MovesBy refs s (Some (record { p = p; ast = q; stage = k })) (effect.Que q.id ∷ []) (que_part s p q).after None
  end_asts : (s : State) (p : Pid) (m : Mode) → IsProcess s p → MovesBy refs s None (drop_asts p m s).effects (drop_asts p m s).after None
  -- handlers
  open_handler : (s : State) (p : Pid) (tag : Entry) → IsProcess s p → Answers refs s (IsRoutineOf (ground s) p tag) → MovesBy refs s None (effect.Open (next_id s) opened.Exh p (Some (current s p)) 0 ∷ []) (handler_declared s p tag).after None
  end_handler : (s : State) (p : Pid) (test : Handler → Bool) (h : Handler) → IsProcess s p → find test (process_at s p).handlers ≡ Some h → MovesBy refs s None (effect.Drop h.id ∷ []) (drop_handler p s h).after None
  end_handlers : (s : State) (p : Pid) (test : Handler → Bool) → IsProcess s p → MovesBy refs s None (drop_handlers s p test).effects (drop_handlers s p test).after None
  enter : (s : State) (p : Pid) (f : Frame) (test : Handler → Bool) (h : Handler) → IsProcess s p → find test (process_at s p).handlers ≡ Some h → Answers refs s (Idles (process_at s p).phase (f ∷ (process_at s p).frames) × IfSome f.wait WaitStands) → MovesBy refs s None (effect.Enter h.id ∷ []) (change s p (entering f h.id)) None
  -- requests
  open_request : (s : State) (kind : Opened) (p : Pid) (mode : Option Mode) (n : ℕ) (r : Request) → IsOpenedAs s kind n r → IsNew s p mode r → Answers refs s (RequestStands (ground s) r) →
      MovesBy refs s None (effect.Open (next_id s) kind p mode n ∷ []) (with_request (past_id s) r) None
  fin : (s : State) (r : Request) (c : Cond) → HasRequest s r → MovesBy refs s None (effect.Fin r.req.id c ∷ []) (fin_part s r.req.id c).after (loosed r)
  mark : (s : State) (r : Request) → HasRequest s r → r.marked ≡ false → MovesBy refs s None (effect.Mark r.req.id ∷ []) (mark_part s r).after None
  unit : (s : State) (l : Option Loose) (u : UnitNo) (x : DeviceUnit) → MovesBy refs s l [] (with_unit s u x) l
  -- mailboxes
  mput : (s : State) (b : BoxNo) (m : Msg) → MovesBy refs s None (mput_part s b m).effects (mput_part s b m).after None
  mget : (s : State) (b : BoxNo) (m : Msg) (r : Id) → MovesBy refs s None (mget_part s b m r).effects (mget_part s b m r).after None
  mcut : (s : State) (b : BoxNo) (w : Id) → MovesBy refs s None (mcut_part s b w).effects (mcut_part s b w).after None
  box_opens : (s : State) (b : ℕ) (box : Mailbox) → MovesBy refs s None (effect.Mbx box.name true ∷ []) (box_made s b box).after None
  box_ends : (s : State) (b : BoxNo) → Answers refs s (is_assigned s b ≡ false) → MovesBy refs s None (box_gone s b).effects (box_gone s b).after None
  box_marked : (s : State) (b : BoxNo) (box : Mailbox) → MovesBy refs s None [] (with_box s b (Some box)) None
  -- attention entries
  open_attention : (s : State) (p : Pid) (mode : Mode) (a : Attention) → IsNewAttention s p a → mode ≡ a.mode → Answers refs s (AttentionStands (ground s) a) → MovesBy refs s None (effect.Open (next_id s) opened.Attn p (Some mode) 0 ∷ []) (with_attention (past_id s) a) None
  attention_fires : (s : State) (a : Attention) → HasAttention s a → MovesBy refs s None (effect.Fire a.id ∷ []) (drop_attention s a).after (Some (record { p = a.p; ast = charged_ast a.id a.mode a.tag; stage = 2 }))
  end_attention : (s : State) (a : Attention) → HasAttention s a → MovesBy refs s None (effect.Drop a.id ∷ []) (drop_attention s a).after None
  -- timers and wakes
  open_timer : (s : State) (p : Pid) (mode : Option Mode) (t : Timer) (efn reqid : ℕ) (m : Mode) (tag : Option Entry) → IsNewTimer s p t → t.what ≡ OfTimer efn reqid m tag → mode ≡ option_map (λ t. m) tag → Answers refs s (TimerStands (ground s) t) → MovesBy refs s None (effect.Open (next_id s) opened.Timer p mode 0 ∷ []) (with_timer (past_id s) t) None
  open_wake : (s : State) (p : Pid) (repeat : ℕ) (t : Timer) (target : Pid) → IsNewTimer s p t → t.what ≡ OfWake target repeat → MovesBy refs s None (effect.Open (next_id s) opened.Wake p None repeat ∷ []) (with_timer (past_id s) t) None
  timer_fires : (s : State) (t : Timer) → IsFiring s t → IsOfTimer t.what → MovesBy refs s None (effect.Fire t.id ∷ []) (fire_timer s t).after (loosed_timer t t.what)
  wake_fires : (s : State) (t : Timer) (target : Pid) (repeat : ℕ) → HasTimer s t → t.what ≡ OfWake target repeat → MovesBy refs s None (effect.Fire t.id ∷ []) (after_wake s t repeat) None
  end_timer : (s : State) (t : Timer) → HasTimer s t → MovesBy refs s None (effect.Drop t.id ∷ []) (drop_timer s t).after None
  time : (s : State) (l : Option Loose) (now : ℕ) → MovesBy refs s l [] (at_time s now) l

-- a part, and an outcome, as moves
abbrev pub PartBy : Bool → State → Part → Type 0
PartBy refs s a = MovesBy refs s None a.effects a.after None

abbrev pub OutcomeBy : {A : Type 0} → Bool → State → Outcome A → Type 0
OutcomeBy refs s o = MovesBy refs s None o.effects o.after None

-- references left aside
abbrev pub Moves : State → Option Loose → List Effect → State → Option Loose → Type 0
Moves s l es t m = MovesBy false s l es t m

abbrev pub PartMoves : State → Part → Type 0
PartMoves s a = PartBy false s a

abbrev pub OutcomeMoves : {A : Type 0} → State → Outcome A → Type 0
OutcomeMoves s o = OutcomeBy false s o
