-- What the parts of an event leave and tell: timers, exit handlers and frames end, and a request finishes; and TICK, BEG and DON.
use Rattle.std.proofs.Common.{◌≡◌, ℕ, ◌++◌, ◌+◌, ◌-◌, ◌≤◌, List, ◌∷◌, Bool, true, length, length-set, length-append, Option, Some, None, ap, ◌*◌, arith, nat_lt, slice_index_or, [], ◌&&◌, ◌==◌, not}
use Rattle.std.specs.List.{filter}
use Rattle.std.proofs.Math.Nat.{mul-suc}
use Rattle.vx_record.specs.Types.{Alarm, Cell, DeviceUnit, Effect, Frame, Handler, Pid, Promised, Queued, Req, Request, Status, Timer, UnitNo}
use Rattle.vx_base.specs.declared.effects.Cell.TheVariants.{Local}
use Rattle.vx_base.specs.Lists.{tally}
use Rattle.vx_base.specs.Serving.{serve, settled}
use Rattle.vx_record.specs.State.{Process, State, process_at, change, no_unit, unit_at, nobody}
use Rattle.vx_record.specs.Parts.{Part, nothing, each, and_then}
use Rattle.vx_record.specs.Asts.{charged_ast, with_queued}
use Rattle.vx_record.specs.Flags.{with_local_flag, flag_where_named}
use Rattle.vx_record.specs.Rundown.{drop_handler, drop_handlers, without_handler, leave_all, leave_frame}
use Rattle.vx_record.specs.Timers.{drop_timer, drop_timers, at_time, fire, fired, is_due, next_time, tick}
use Rattle.vx_record.specs.Events.{beg, don}
use Rattle.vx_record.specs.Finish.{Ending, buf_part, done_ast_part, fin_part, finish, iosb_part, is_read, status_of, with_stored_bytes, with_stored_status}
use Rattle.vx_record.specs.Requests.{unit_ending, with_unit}
use Rattle.vx_record.specs.Cancel.{is_attention_on, is_request_on}
use Rattle.vx_record.proofs.Lists.{either}
use Rattle.vx_record.proofs.Ground.{at_set}
use Rattle.vx_procs.proofs.Firsts.{less_few}
use Rattle.vx_exec.proofs.Goes.{Goes, Stays, filter_few, goes_stays, stays_goes}
use Rattle.vx_record.proofs.OwnIds.{tally_less}

-- a part stays, leaves no more attention entries, and tells so many effects at most
pub record Ends (bound : ℕ) (s : State) (part : Part) : Type 0 where
  pub stays : Stays s part.after
  pub attention : length part.after.attention ≤ length s.attention
  pub few : length part.effects ≤ bound

pub ends_then : {s : State} {x y : Part} (m n : ℕ) → Ends m s x → Ends n x.after y → Ends (m + n) s (and_then x (λ t. y))
ends_then m n a b = grind (arith, length-append {A = Effect})

pub ends_more : {s : State} {part : Part} (m n : ℕ) → m ≤ n → Ends m s part → Ends n s part
ends_more m n more h = grind arith

pub each_ends : {A : Type 0} (n : ℕ) (f : State → A → Part) → ((s : State) (x : A) → Ends n s (f s x)) → (xs : List A) (s : State) → Ends (n * length xs) s (each f xs s)
each_ends n f one [] s = grind arith
each_ends n f one (x ∷ xs) s = ends_more (n + n * length xs) _ (omega (arith, mul-suc n (length xs))) (ends_then n (n * length xs) (one s x) (each_ends n f one xs _))

-- so many ASTs more are queued for a process, and no more handlers and channels are there
pub record IsAlike (n : ℕ) (x y : Process) : Type 0 where
  pub asts : length y.asts ≤ length x.asts + n
  pub handlers : length y.handlers ≤ length x.handlers
  pub channels : length y.channels ≡ length x.channels

-- a part ends, and of a process so many ASTs more are queued; nor are there more timers, or requests and attention entries, of the process
-- on any channel
pub record Falls (p : Pid) (queued bound : ℕ) (s : State) (part : Part) : Type 0 where
  pub ends : Ends bound s part
  pub alike : IsAlike queued (process_at s p) (process_at part.after p)
  pub timers : length part.after.timers ≤ length s.timers
  pub requests : length part.after.requests ≤ length s.requests
  pub on : (chan : ℕ) → tally (is_request_on p chan) part.after.requests ≤ tally (is_request_on p chan) s.requests
  pub waiting : (chan : ℕ) → tally (is_attention_on p chan) part.after.attention ≤ tally (is_attention_on p chan) s.attention

pub still_falls : (p : Pid) (i n : ℕ) (s : State) → Falls p i n s (nothing s)
still_falls p i n s = grind arith

pub falls_then : {p : Pid} {s : State} {x y : Part} (i j m n : ℕ) → Falls p i m s x → Falls p j n x.after y → Falls p (i + j) (m + n) s (and_then x (λ t. y))
falls_then i j m n a b = grind (arith, length-append {A = Effect})

pub falls_more : {p : Pid} {s : State} {part : Part} (i j m n : ℕ) → i ≤ j → m ≤ n → Falls p i m s part → Falls p j n s part
falls_more i j m n few more h = grind arith

pub each_falls : {A : Type 0} (p : Pid) (i n : ℕ) (f : State → A → Part) → ((s : State) (x : A) → Falls p i n s (f s x)) → (xs : List A) (s : State) {j m : ℕ} → i * length xs ≤ j → n * length xs ≤ m → Falls p j m s (each f xs s)
each_falls p i n f one [] s few more = still_falls p _ _ s
each_falls p i n f one (x ∷ xs) s few more =
    let rest : Falls p (i * length xs) (n * length xs) (f s x).after (each f xs (f s x).after) = each_falls p i n f one xs _ (omega arith) (omega arith) in
    falls_more (i + i * length xs) _ (n + n * length xs) _ (omega (arith, mul-suc i (length xs), few)) (omega (arith, mul-suc n (length xs), more)) (falls_then i (i * length xs) n (n * length xs) (one s x) rest)

-- a process is changed
pub changed_falls : (p q : Pid) (i : ℕ) (s : State) (f : Process → Process) (told : List Effect) → IsAlike i (process_at s q) (f (process_at s q)) → Falls p i (length told) s (record { effects = told; after = change s q f })
changed_falls p q i s f told h =
    let alike = at_set (IsAlike i) (λ x. grind arith) s.procs (q.0 - 1) (p.0 - 1) (f (process_at s q)) nobody h in
    grind (arith, length-set {A = Process})

pub ends_goes : {s : State} {part : Part} (n bound : ℕ) → n ≤ bound → Ends n s part → Goes bound s part.after part.effects
ends_goes {s} {part} n bound few h = goes_stays bound s part.after part.effects h.stays (omega (arith, few, h.few))

-- a part before, and a part behind
pub ends_before : {s : State} {x y : Part} (m n : ℕ) → Ends m s x → Goes n x.after y.after y.effects → Goes (m + n) s y.after (x.effects ++ y.effects)
ends_before m n a b = let h = stays_goes n n a.stays (omega arith) b in grind (arith, length-append {A = Effect})

pub ends_behind : {s : State} {x y : Part} (m n : ℕ) → Goes m s x.after x.effects → Ends n x.after y → Goes (m + n) s y.after (x.effects ++ y.effects)
ends_behind {s} {x} {y} m n a b = grind (arith, length-append)

-- timers and handlers end
pub timers_fall : (p : Pid) (test : Timer → Bool) (s : State) → Falls p 0 (length s.timers) s (drop_timers test s)
timers_fall p test s = each_falls p 0 1 drop_timer drop_falls (filter test s.timers) s (omega arith) (omega (arith, filter_few test s.timers))
  where
    drop_falls : (s : State) (t : Timer) → Falls p 0 1 s (drop_timer s t)
    drop_falls s t = grind (arith, less_few {A = Timer})

pub handlers_fall : (p : Pid) (test : Handler → Bool) (s : State) → Falls p 0 (length (process_at s p).handlers) s (drop_handlers s p test)
handlers_fall p test s = each_falls p 0 1 (drop_handler p) drop_falls (filter test (process_at s p).handlers) s (omega arith) (omega (arith, filter_few test (process_at s p).handlers))
  where
    drop_falls : (s : State) (h : Handler) → Falls p 0 1 s (drop_handler p s h)
    drop_falls s h = changed_falls p p 0 s (without_handler h.id) _ (grind (arith, less_few {A = Handler}))

-- a process is changed, and leaves its frames
pub frames_fall : (p : Pid) (s : State) (f : Process → Process) → IsAlike 0 (process_at s p) (f (process_at s p)) → Falls p 0 (length (process_at s p).frames) s (leave_all (process_at s p).frames (change s p f))
frames_fall p s f h =
    let n = length (process_at s p).frames in
    let rest : Falls p 0 n (change s p f) (leave_all (process_at s p).frames (change s p f)) = each_falls p 0 1 leave_frame leave_falls (process_at s p).frames (change s p f) (omega arith) (omega arith) in
    falls_more 0 0 (0 + n) _ (omega arith) (omega arith) (falls_then 0 0 0 n (changed_falls p p 0 s f [] h) rest)
  where
    leave_falls : (s : State) (f : Frame) → Falls p 0 1 s (leave_frame s f)
    leave_falls s f = grind arith

-- A request finishes.

fin_falls : (p : Pid) (s : State) (r : Request) (e : Ending) → Falls p 0 1 s (fin_part s r.req.id e.0.cond)
fin_falls p s r e = grind (arith, less_few {A = Request}, tally_less {A = Request})

buf_falls : (p : Pid) (s : State) (r : Req) (e : Ending) → Falls p 0 1 s (buf_part s r e)
buf_falls p s r e = either (Falls p 0 1 s) (is_read r.func && nat_lt 0 e.0.count) _ _ (changed_falls p r.p 0 s (with_stored_bytes r.buf e.0.bytes) _ (grind arith)) (still_falls p 0 1 s)

pub iosb_falls : (p q : Pid) (s : State) (i : ℕ) (status : Status) → Falls p 0 1 s (iosb_part s q i status)
iosb_falls p q s i status = either (Falls p 0 1 s) (not (i == 0)) _ _ (changed_falls p q 0 s (with_stored_status i status) _ (grind arith)) (still_falls p 0 1 s)

pub flag_falls : (p : Pid) (s : State) (o : Option Cell) → Falls p 0 1 s (flag_where_named s o true)
flag_falls p s (Some (Local q n)) = changed_falls p q 0 s (with_local_flag n true) _ (grind arith)
flag_falls p s o = grind arith

ast_falls : (p : Pid) (s : State) (r : Req) (o : Option Promised) → Falls p 1 1 s (done_ast_part s r o)
ast_falls p s r None = still_falls p 1 1 s
ast_falls p s r (Some ast) = changed_falls p r.p 1 s (with_queued (charged_ast r.id ast.mode ast.tag)) _ (grind (arith, length-append {A = Queued}))

pub finish_falls : (p : Pid) (s : State) (r : Request) (e : Ending) → Falls p 1 5 s (finish s r e)
finish_falls p s r e =
    let a = falls_then 0 0 1 1 (fin_falls p s r e) (buf_falls p _ r.req e) in
    let b = falls_then 0 0 2 1 a (iosb_falls p r.req.p _ r.req.iosb (status_of e)) in
    falls_then 0 1 4 1 (falls_then 0 0 3 1 b (flag_falls p _ _)) (ast_falls p _ r.req r.ast)

pub finish_ends : (s : State) (r : Request) (e : Ending) → Ends 5 s (finish s r e)
finish_ends s r e = (finish_falls r.req.p s r e).ends

-- TICK.

fired_ends : (s : State) (t : Timer) (a : Alarm) → Ends 3 s (fired s t a)
fired_ends s t a = grind (arith, length-set {A = Process})

pub tick_goes : (s : State) → Goes (3 * length s.timers) s (tick s).after (tick s).effects
tick_goes s =
    let all = each_ends 3 fire (λ u x. fired_ends u x x.what) (filter (is_due (next_time s)) s.timers) (at_time s (next_time s)) in
    let fewer = filter_few (is_due (next_time s)) s.timers in
    goes_stays (3 * length s.timers) s (tick s).after (tick s).effects (grind arith) (omega (arith, all.few, fewer))

-- BEG opens nothing, and tells nothing.
pub beg_goes : (s : State) (o : Option Request) → Goes 0 s (beg s o).after (beg s o).effects
beg_goes s o = grind arith

-- DON makes one service of its unit.
pub don_goes : (s : State) (u : UnitNo) (o : Option Request) → Goes 5 s (don s u o).after (don s u o).effects
don_goes s u None = goes_stays 5 s s [] (grind arith) (omega arith)
don_goes s u (Some r) =
    let unit = settled (unit_at s u) r.req in
    let t = with_unit s u unit in
    let e = unit_ending r (serve (unit_at s u) r.req).reply in
    let ends = finish_ends t r e in
    let more : (v : UnitNo) → (unit_at t v).services ≤ (unit_at s v).services + 1 = λ v. at_set (λ (x y : DeviceUnit). y.services ≤ x.services + 1) (λ x. omega arith) s.units u.0 v.0 unit no_unit (omega arith) in
    let goes = goes_stays 5 t (finish t r e).after (finish t r e).effects ends.stays ends.few in
    let services : (v : UnitNo) → (unit_at (finish t r e).after v).services ≤ (unit_at s v).services + 1 = λ v. omega (arith, ap (λ (us : List DeviceUnit). (slice_index_or us v.0 no_unit).services) ends.stays.units, more v) in
    search
