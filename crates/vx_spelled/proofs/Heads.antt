-- What an event comes to has a spelling, if the event is enabled.
use Rattle.std.proofs.Common.{◌≡◌, ℕ, ◌+◌, ◌<◌, true, cond, List, [], ◌∷◌, ◌++◌, length, Option, Some, None, refl, subst, arith}
use Rattle.std.specs.Prelude.{⊤, Contains}
use Rattle.std.specs.List.{AllByRecursion}
use Rattle.vx_record.specs.Types.{Answer, Call, DeviceUnit, Entry, Event, Frame, FrameKind, Handler, Image, Mode, Phase, Pid, Queued, Request, Stop, Timer, UnitNo, Wait}
use Rattle.vx_base.specs.Queues.{front, in_service}
use Rattle.vx_base.specs.Services.{is_call}
use Rattle.vx_base.specs.declared.effects.Effect.TheVariants as effect
use Rattle.vx_base.specs.declared.frame.FrameKind.TheVariants as kind
use Rattle.vx_base.specs.declared.frame.Phase.TheVariants as phase
use Rattle.vx_base.specs.declared.record.Answer.TheVariants as answer
use Rattle.vx_base.specs.declared.record.Event.TheVariants as event
use Rattle.vx_base.specs.declared.routine.Entry.TheVariants as entry
use Rattle.vx_image.specs.Local.{advanced}
use Rattle.vx_image.specs.WellFormed.{IsWellFormed, decl_names}
use Rattle.vx_image.specs.declared.stop.Stop.TheVariants as stop
use Rattle.vx_lines.specs.ReadHead.{is_plain_call}
use Rattle.vx_record.proofs.Lists.{all_append, all_at, either}
use Rattle.vx_record.proofs.SoundCalls.{StopFits, advanced_fits}
use Rattle.vx_record.specs.Asts.{deliverable_ast}
use Rattle.vx_record.specs.Events.{ast_or_run, beg, beg_event, don, can_run, can_run_down, delivered, don_or_beg, enabled, moved_behind, moved_to, process_events, processes_from, r0_of, reader, returned, returned_from, run, run_events, run_frame, run_on, served_call, started, step, tick_events, unit_events, units_from}
use Rattle.vx_record.specs.Parts.{Outcome, tells}
use Rattle.vx_record.specs.Rundown.{cancelled_in, drain, exited, handling, inner_modes, is_busy, release, run_down, run_handlers, rundown_from, without_ast}
use Rattle.vx_record.specs.Services.{service}
use Rattle.vx_record.specs.State.{Process, State, change, image_of, pid, process_at}
use Rattle.vx_record.specs.declared.served.Served.{Served}
use Rattle.vx_record.specs.declared.served.Served.TheVariants.{Answered, Waits}
use Rattle.vx_spelled.proofs.Calls.{IsPlainStop, advanced_plain, service_fine}
use Rattle.vx_spelled.proofs.Fine.{AreFine, OutFine, done_fine, exited_fine, rundown_fine, then_fine, tick_fine}
use Rattle.vx_record.proofs.Called.{image_formed}

-- An answer that its event may have; of a call, one of the table with numbers for its values.

abbrev IsGoodCall : Call → Type 0
IsGoodCall c = (is_call c ≡ true) × (is_plain_call c ≡ true)

abbrev pub IsAnswerOf : Event → Answer → Type 0
IsAnswerOf (event.Run p) (answer.Service c cond) = IsGoodCall c
IsAnswerOf (event.Run p) (answer.Wait c) = IsGoodCall c
IsAnswerOf (event.Run p) (answer.Resume cond) = ⊤
IsAnswerOf (event.Run p) answer.Return = ⊤
IsAnswerOf (event.Run p) answer.End = ⊤
IsAnswerOf (event.Run p) answer.Local = ⊤
IsAnswerOf (event.Ast p) (answer.Ast id) = ⊤
IsAnswerOf (event.Rdn p) answer.Handler = ⊤
IsAnswerOf (event.Rdn p) answer.Busy = ⊤
IsAnswerOf (event.Rdn p) answer.Gone = ⊤
IsAnswerOf (event.Beg u) (answer.Unit id) = ⊤
IsAnswerOf (event.Don u) (answer.Unit id) = ⊤
IsAnswerOf event.Tick (answer.Time t) = ⊤
IsAnswerOf _ _ = ⊥

-- an outcome of an event: its answer is one of the event's, and its effects are fine
abbrev IsGood : Event → Outcome Answer → Type 0
IsGood e o = IsAnswerOf e o.answer × OutFine o

-- RUN

called_good : (p : Pid) (c : Call) (o : Outcome Served) (v : Served) → IsGoodCall c → OutFine o → IsGood (event.Run p) (served_call p c o v)
called_good p c o (Answered cond) h k = (h, k)
called_good p c o Waits h k = (h, k)

returned_from_good : (s : State) (p : Pid) (f : Frame) (k : FrameKind) → IsGood (event.Run p) (returned_from s p f k)
returned_from_good s p f kind.Main = (tt, exited_fine s p (r0_of s p))
returned_from_good s p f (kind.Ast id) = (tt, (tt, tt))
returned_from_good s p f kind.Change = (tt, tt)
returned_from_good s p f kind.Handler = (tt, tt)

returned_good : (s : State) (p : Pid) (fs : List Frame) → IsGood (event.Run p) (returned s p fs)
returned_good s p [] = (tt, tt)
returned_good s p (f ∷ fs) = returned_from_good s p f f.kind

run_on_good : (image : Image) (s : State) (p : Pid) (place : ℕ) (x : Stop) → StopFits image x → IsPlainStop x → IsGood (event.Run p) (run_on s p place x)
run_on_good image s p place (stop.Call c) fits plain =
    let t = change s p (moved_behind place) in
    called_good p c (service t p c) (service t p c).answer (fits.args, plain) (service_fine t p c.args c.service fits.args)
run_on_good image s p place stop.Return fits plain = returned_good s p (process_at s p).frames
run_on_good image s p place stop.End fits plain = returned_good s p (process_at s p).frames
run_on_good image s p place stop.Local fits plain = (tt, tt)

run_frame_good : (s : State) (p : Pid) (f : Frame) (w : Option Wait) → IsWellFormed s.system → IsGood (event.Run p) (run_frame s p f w)
run_frame_good s p f None formed =
    let image = image_of s p in
    let a = advanced image (reader p f) (process_at s p).store f.pc in
    run_on_good image (change s p (moved_to a.store a.place)) p a.place a.stop (advanced_fits (decl_names s.system) image (reader p f) (process_at s p).store f.pc (image_formed s p formed)) (advanced_plain image (reader p f) (process_at s p).store f.pc)
run_frame_good s p f (Some w) formed = (tt, tt)

run_good : (s : State) (p : Pid) (fs : List Frame) → IsWellFormed s.system → IsGood (event.Run p) (run s p fs)
run_good s p [] formed = (tt, tt)
run_good s p (f ∷ fs) formed = run_frame_good s p f f.wait formed

-- AST

started_fine : (s : State) (p : Pid) (q : Queued) (tag : Entry) → AreFine (started s p q tag).effects
started_fine s p q (entry.Exit code) = then_fine (tells (effect.Leave q.id) s) (λ a. exited a p code) (tt, tt) (λ a. exited_fine a p code)
started_fine s p q (entry.Label k prm) = tt
started_fine s p q (entry.Host prm) = tt

delivered_good : (s : State) (p : Pid) (q : Queued) (o : Option Queued) → o ≡ Some q → IsGood (event.Ast p) (delivered s p o)
delivered_good s p q None e = absurd (cc)
delivered_good s p q (Some r) e = (tt, started_fine (change s p (without_ast r.id)) p r r.tag)

-- RDN

down_drain : (p q : Pid) (m : Mode) (next : State → Outcome Answer) → ((s : State) → IsAnswerOf (event.Rdn p) (next s).answer) → (s : State) → IsAnswerOf (event.Rdn p) (drain q m next s).answer
down_drain p q m next k s = either (λ (o : Outcome Answer). IsAnswerOf (event.Rdn p) o.answer) (is_busy s q m) _ _ tt (k (release s q m).after)

down_handlers : (s : State) (p q : Pid) (m : Mode) (next : State → Outcome Answer) (o : Option Handler) → ((s : State) → IsAnswerOf (event.Rdn p) (next s).answer) → IsAnswerOf (event.Rdn p) (run_handlers s q m next o).answer
down_handlers s p q m next None k = down_drain p q m next k (cancelled_in s q m).after
down_handlers s p q m next (Some h) k = tt

down_modes : (p q : Pid) (ms : List Mode) (s : State) → IsAnswerOf (event.Rdn p) (run_down q ms s).answer
down_modes p q [] s = tt
down_modes p q (m ∷ ms) s = down_handlers (handling q m s) p q m (run_down q ms) _ (down_modes p q ms)

down_from : (p q : Pid) (ph : Phase) (s : State) → IsAnswerOf (event.Rdn p) (rundown_from q ph s).answer
down_from p q (phase.Handlers m) s = down_modes p q (m ∷ inner_modes m) s
down_from p q (phase.Draining m) s = down_drain p q m (run_down q (inner_modes m)) (down_modes p q (inner_modes m)) s
down_from p q phase.Alive s = tt
down_from p q phase.Deleted s = tt

-- BEG and DON

beg_good : (s : State) (u : UnitNo) (r : Request) (o : Option Request) → o ≡ Some r → IsGood (event.Beg u) (beg s o)
beg_good s u r None e = absurd (cc)
beg_good s u r (Some q) e = (tt, tt)

don_good : (s : State) (u : UnitNo) (r : Request) (o : Option Request) → o ≡ Some r → IsGood (event.Don u) (don s u o)
don_good s u r None e = absurd (cc)
don_good s u r (Some q) e = (tt, done_fine s u q)

-- What is enabled: an AST that may start; a unit of the system with a request.

abbrev pub IsDue : State → Event → Type 0
IsDue s (event.Ast p) = (q : Queued) × (deliverable_ast s p ≡ Some q)
IsDue s (event.Beg u) = (u.0 < length s.units) × ((r : Request) × (front u s.requests ≡ Some r))
IsDue s (event.Don u) = (u.0 < length s.units) × ((r : Request) × (in_service u s.requests ≡ Some r))
IsDue s _ = ⊤

abbrev AllDue : State → List Event → Type 0
AllDue s es = AllByRecursion (IsDue s) es

run_due : (s : State) (p : Pid) → AllDue s (run_events s p)
run_due s p = either (AllDue s) (can_run s p (process_at s p).frames) _ _ (tt, tt) (either (AllDue s) (can_run_down s p (process_at s p).frames) _ _ (tt, tt) tt)

ast_due : (s : State) (p : Pid) (o : Option Queued) → deliverable_ast s p ≡ o → AllDue s (ast_or_run s p o)
ast_due s p None e = run_due s p
ast_due s p (Some q) e = ((q, e), tt)

process_due : (s : State) (p : Pid) → AllDue s (process_events s p)
process_due s p = either (AllDue s) (process_at s p).suspended _ _ tt (ast_due s p (deliverable_ast s p) refl)

processes_due : (s : State) (n : ℕ) (prs : List Process) → AllDue s (processes_from s n prs)
processes_due s n [] = tt
processes_due s n (pr ∷ prs) = all_append (IsDue s) (process_events s (pid n)) (processes_from s (n + 1) prs) (process_due s (pid n)) (processes_due s (n + 1) prs)

beg_due : (s : State) (u : UnitNo) (o : Option Request) → u.0 < length s.units → front u s.requests ≡ o → AllDue s (beg_event u o)
beg_due s u None h e = tt
beg_due s u (Some r) h e = ((h, (r, e)), tt)

don_due : (s : State) (u : UnitNo) (o : Option Request) → u.0 < length s.units → in_service u s.requests ≡ o → AllDue s (don_or_beg s u o)
don_due s u None h e = beg_due s u (front u s.requests) h refl
don_due s u (Some r) h e = ((h, (r, e)), tt)

units_due : (s : State) (n : ℕ) (us : List DeviceUnit) → n + length us ≡ length s.units → AllDue s (units_from s n us)
units_due s n [] h = tt
units_due s n (x ∷ us) h =
    let u : UnitNo = record { 0 = n } in
    all_append (IsDue s) (unit_events s u) (units_from s (n + 1) us) (don_due s u (in_service u s.requests) (omega (arith, h)) refl) (units_due s (n + 1) us (omega (arith, h)))

ticks_due : (s : State) (ts : List Timer) → AllDue s (tick_events ts)
ticks_due s [] = tt
ticks_due s (t ∷ ts) = (tt, tt)

pub enabled_due : (s : State) (e : Event) → Contains (enabled s) e → IsDue s e
enabled_due s e c =
    let all = all_append (IsDue s) (processes_from s 1 s.procs) (units_from s 0 s.units ++ tick_events s.timers) (processes_due s 1 s.procs) (all_append (IsDue s) (units_from s 0 s.units) (tick_events s.timers) (units_due s 0 s.units (omega arith)) (ticks_due s s.timers)) in
    subst (IsDue s) c.2 (all_at (IsDue s) (enabled s) c.0 e all c.1)

pub step_good : (s : State) (e : Event) → IsWellFormed s.system → IsDue s e → IsGood e (step s e)
step_good s (event.Run p) formed due = run_good s p (process_at s p).frames formed
step_good s (event.Ast p) formed due = delivered_good s p due.0 (deliverable_ast s p) due.1
step_good s (event.Rdn p) formed due = (down_from p p (process_at s p).phase s, rundown_fine s p)
step_good s (event.Beg u) formed due = beg_good s u due.1.0 (front u s.requests) due.1.1
step_good s (event.Don u) formed due = don_good s u due.1.0 (in_service u s.requests) due.1.1
step_good s event.Tick formed due = (tt, tick_fine s)
