-- Who has no frame gets none from events of others.
use Rattle.std.proofs.Common.{◌≡◌, ◌∙◌, ◌-◌, List, [], ◌∷◌, true, false, cond, Option, Some, None, refl, sym, ap, subst, get_or-set_other}
use Rattle.vx_record.specs.Types.{Answer, Args, Cond, Entry, Event, Frame, Pid, Queued, Request, Service, UnitNo, Wait}
use Rattle.vx_base.specs.Queues.{front, in_service}
use Rattle.vx_base.specs.Serving.{serve, settled}
use Rattle.vx_base.specs.declared.cond.Cond.TheVariants.{Normal}
use Rattle.vx_base.specs.declared.frame.FrameKind.TheVariants as kind
use Rattle.vx_base.specs.declared.record.Answer.TheVariants as answer
use Rattle.vx_base.specs.declared.record.Event.TheVariants as event
use Rattle.vx_base.specs.declared.routine.Entry.TheVariants as entry
use Rattle.vx_base.specs.declared.service.Service.TheVariants.{DelPrc}
use Rattle.vx_record.specs.Asts.{deliverable_ast, with_frame, new_frame}
use Rattle.vx_record.specs.Charges.{is_same}
use Rattle.vx_record.specs.Events.{started, delivered, beg, don, step, r0_of}
use Rattle.vx_record.specs.Finish.{finish}
use Rattle.vx_record.specs.Requests.{unit_ending, with_unit}
use Rattle.vx_record.specs.Rundown.{without_ast, without_frames}
use Rattle.vx_record.specs.State.{Process, State, IsProcess, process_at, change, unit_at, nobody}
use Rattle.vx_record.proofs.Base.{Base}
use Rattle.vx_record.proofs.Steps.{IsThere, left_after}
use Rattle.vx_laws.specs.Frames.{turned, turned_by, turn}
use Rattle.vx_laws.specs.Items.{Item}
use Rattle.vx_laws.proofs.Awaited.{frame_waits}
use Rattle.vx_laws.proofs.Untouched.{Keeps, waits_of, keep_waits, finish_keeps, tick_keeps}
use Rattle.vx_laws.proofs.CalmServices.{call_turn}
use Rattle.vx_laws.proofs.Courses.{acts_apart, place_apart}
use Rattle.vx_laws.proofs.Pauses.{shifted, heard, made_waits, run_waits}
use Rattle.vx_laws.proofs.Rests.{IsAwake, is_rundown}
use Rattle.vx_base.proofs.Bools.{either_same}

nil_frames : (fs : List Frame) → waits_of fs ≡ [] → fs ≡ []
nil_frames [] e = refl
nil_frames (f ∷ fs) e = absurd (let never : f.wait ∷ waits_of fs ≡ [] = e in cc)

abbrev Nil : List (Option Wait)
Nil = []

call_nil : (p : Pid) (a : Args) (v : Service) (x : Cond) (q : Pid) → is_same p q ≡ false → cond (is_same (turned_by p a v) q) (shifted (call_turn v x) []) [] ≡ Nil
call_nil p a DelPrc Normal q n = either_same (is_same (turned_by p a DelPrc) q) Nil
call_nil p a DelPrc x q n = either_same (is_same (turned_by p a DelPrc) q) Nil
call_nil p a v x q n = rw n refl

turn_nil : (past : List Item) (p : Pid) (a : Answer) (q : Pid) → is_same p q ≡ false → cond (is_same (turned (event.Run p) a) q) (heard a (shifted (turn past (event.Run p) a) [])) [] ≡ Nil
turn_nil past p (answer.Service c x) q n = call_nil p c.args c.service x q n
turn_nil past p a q n = rw n refl

frames_by : (s t : State) (q : Pid) → IsProcess s q → IsProcess t q → (process_at s q).frames ≡ [] → (frame_waits s q ≡ [] → frame_waits t q ≡ []) → (process_at t q).frames ≡ []
frames_by s t q made there e k = nil_frames (process_at t q).frames (sym (made_waits t q there) ∙ k (made_waits s q made ∙ ap waits_of e))

frames_kept : (s t : State) (q : Pid) → IsProcess s q → IsProcess t q → (process_at s q).frames ≡ [] → Keeps s t → (process_at t q).frames ≡ []
frames_kept s t q made there e k = frames_by s t q made there e (λ n. keep_waits k (q.0 - 1) ∙ n)

pub frames_apart : (s : State) (p q : Pid) (f : Process → Process) → (p.0 - 1 ≡ q.0 - 1 → ⊥) → (process_at s q).frames ≡ [] → (process_at (change s p f) q).frames ≡ []
frames_apart s p q f off e = ap (λ (x : Process). x.frames) (get_or-set_other s.procs (p.0 - 1) (q.0 - 1) (f (process_at s p)) nobody (λ same. off (sym same))) ∙ e

started_idle : (s : State) (p : Pid) (x : Queued) (tag : Entry) (q : Pid) → (p.0 - 1 ≡ q.0 - 1 → ⊥) → (process_at s q).frames ≡ [] → (process_at (started s p x tag).after q).frames ≡ []
started_idle s p x (entry.Exit code) q off e = subst (λ (t : State). (process_at t q).frames ≡ []) (sym (left_after (process_at s p).frames (change s p (without_frames code)))) (frames_apart s p q (without_frames code) off e)
started_idle s p x (entry.Label k prm) q off e = frames_apart s p q (with_frame (new_frame s p (kind.Ast x.id) x.mode (entry.Label k prm) (r0_of s p))) off e
started_idle s p x (entry.Host prm) q off e = frames_apart s p q (with_frame (new_frame s p (kind.Ast x.id) x.mode (entry.Host prm) (r0_of s p))) off e

delivered_idle : (s : State) (p : Pid) (o : Option Queued) (q : Pid) → (p.0 - 1 ≡ q.0 - 1 → ⊥) → (process_at s q).frames ≡ [] → (process_at (delivered s p o).after q).frames ≡ []
delivered_idle s p None q off e = e
delivered_idle s p (Some x) q off e = started_idle (change s p (without_ast x.id)) p x x.tag q off (frames_apart s p q (without_ast x.id) off e)

beg_idle : (s : State) (o : Option Request) (q : Pid) → (process_at s q).frames ≡ [] → (process_at (beg s o).after q).frames ≡ []
beg_idle s None q e = e
beg_idle s (Some r) q e = e

don_idle : (s : State) (u : UnitNo) (o : Option Request) (q : Pid) → IsProcess s q → IsProcess (don s u o).after q → (process_at s q).frames ≡ [] → (process_at (don s u o).after q).frames ≡ []
don_idle s u None q made there e = e
don_idle s u (Some r) q made there e =
    let t = with_unit s u (settled (unit_at s u) r.req) in
    let x = unit_ending r (serve (unit_at s u) r.req).reply in
    frames_by s (finish t r x).after q made there e (λ n. keep_waits (finish_keeps t r x) (q.0 - 1) ∙ n)

-- of all events but rundown
pub step_idle : (s : State) (past : List Item) (e : Event) (q : Pid) → is_rundown e ≡ false → IsThere s e → IsAwake s e → Base s → IsProcess s q → IsProcess (step s e).after q → (process_at s q).frames ≡ [] → (process_at (step s e).after q).frames ≡ []
step_idle s past (event.Run p) q other made awake b here there e =
    let apart = acts_apart s p q awake e in
    let w = run_waits past s p (process_at s p).frames refl (record { base = b; made = made }) in
    let o = step s (event.Run p) in
    frames_by s o.after q here there e (λ n. w.waits q here.above ∙ (rw n refl ∙ turn_nil past p o.answer q apart))
step_idle s past (event.Ast p) q other made awake b here there e = delivered_idle s p (deliverable_ast s p) q (place_apart p q made.above here.above (acts_apart s p q awake e)) e
step_idle s past (event.Rdn p) q other made awake b here there e = absurd (let never : true ≡ false = other in cc)
step_idle s past (event.Beg u) q other made awake b here there e = beg_idle s (front u s.requests) q e
step_idle s past (event.Don u) q other made awake b here there e = don_idle s u (in_service u s.requests) q here there e
step_idle s past event.Tick q other made awake b here there e = frames_kept s (step s event.Tick).after q here there e (tick_keeps s)
