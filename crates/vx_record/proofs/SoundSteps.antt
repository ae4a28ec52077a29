-- References stand at first, and after each step.
use Rattle.std.proofs.Common.{◌≡◌, ℕ, ◌+◌, List, [], ◌∷◌, true, length, Option, Some, None, Contains, refl, sym, ◌∙◌, arith, subst}
use Rattle.std.proofs.lemmas.List.{length-map}
use Rattle.std.specs.List.{AllByRecursion}
use Rattle.vx_record.specs.Types.{Answer, Call, Event, Frame, Pid, ProcDecl, Queued, Rec, Request, System, UnitNo}
use Rattle.vx_base.specs.Queues.{front}
use Rattle.vx_base.specs.declared.record.Event.TheVariants as event
use Rattle.vx_image.specs.WellFormed.{IsWellFormed}
use Rattle.vx_image.specs.Units.{first_unit}
use Rattle.vx_record.specs.Parts.{Outcome}
use Rattle.vx_record.specs.Rundown.{without_ast}
use Rattle.vx_record.specs.Sound.{ground, ProcessStands, IsSound, FitsImage}
use Rattle.vx_record.proofs.Steps.{service_moves, started_moves, step_moves}
use Rattle.vx_record.proofs.Base.{Base}
use Rattle.vx_record.proofs.Called.{called}
use Rattle.vx_record.proofs.Fits.{field_same}
use Rattle.vx_record.proofs.Moves.{OutcomeBy}
use Rattle.vx_record.specs.Requests.{begun}
use Rattle.vx_record.proofs.Firm.{firm, sound_of}
use Rattle.vx_record.proofs.OwnIds.{moves_own, own_of, owned, started_own, begun_own, first_own}
use Rattle.vx_record.proofs.References.{moves_stand}
use Rattle.vx_record.proofs.Lists.{all_weaker, either}
use Rattle.vx_record.specs.State.{Process, State, IsProcess, HasFrame, process_at, change, image_of}
use Rattle.vx_record.specs.Asts.{deliverable_at, deliverable_ast}
use Rattle.vx_record.specs.Services.{service}
use Rattle.vx_record.specs.Events.{enabled, run, delivered, beg, step}
use Rattle.vx_record.specs.Runs.{born_of, born_from, first, AreSteps, IsRun, after_from, after}
use Rattle.vx_record.proofs.Changes.{without_ast_still}
use Rattle.vx_record.proofs.SoundLists.{born_stands}
use Rattle.vx_record.proofs.SoundRequests.{begun_sound}
use Rattle.vx_record.proofs.Allowed.{Allowed, enabled_allowed}
use Rattle.vx_record.proofs.Fixed.{step_keeps_system}

-- By moves.

-- ids rise, and owners are there, if references stand
sound_base : (s : State) → IsSound s → Base s
sound_base s h = grind (arith, all_weaker)

moved_sound : {A : Type 0} (s : State) (o : Outcome A) → OutcomeBy true s o → IsSound s → IsSound o.after
moved_sound s o k h = grind (arith, sound_of, moves_stand, firm, owned, moves_own, own_of)

pub service_sound : (s : State) (p : Pid) (c : Call) → FitsImage (image_of s p) c → IsProcess s p → HasFrame s p → IsSound s → IsSound (service s p c).after
service_sound s p c k m f h = moved_sound s (service s p c) (service_moves s p c (record { base = sound_base s h; made = m }) (λ e. called s p c k f)) h

framed_at : (s : State) (p : Pid) (frames : List Frame) (q : Queued) → (process_at s p).frames ≡ frames → deliverable_at (process_at s p) frames ≡ Some q → HasFrame s p
framed_at s p [] q e d = cc
framed_at s p (f ∷ fs) q e d = rw e (omega arith)

deliverable_framed : (s : State) (p : Pid) (q : Queued) → deliverable_ast s p ≡ Some q → HasFrame s p
deliverable_framed s p q = either (λ (o : Option Queued). o ≡ Some q → HasFrame s p) (process_at s p).suspended _ _ (λ e. cc) (λ e. framed_at s p (process_at s p).frames q refl e)

delivered_sound : (s : State) (p : Pid) (o : Option Queued) → deliverable_ast s p ≡ o → IsSound s → IsSound (delivered s p o).after
delivered_sound s p None e h = h
delivered_sound s p (Some q) e h =
    let t = change s p (without_ast q.id) in
    let has : HasFrame t p = rw (field_same (λ (pr : Process). pr.frames) (without_ast q.id) s p p refl) (deliverable_framed s p q e) in
    let o : Outcome Answer = delivered s p (Some q) in
    moved_sound t o (started_moves t p q q.tag (λ y. has)) (sound_of t (without_ast_still s p q.id (firm s h)).sound (started_own s p q.id h.own_ids))

beg_sound : (s : State) (u : UnitNo) (o : Option Request) → front u s.requests ≡ o → IsSound s → IsSound (beg s o).after
beg_sound s u None e h = h
beg_sound s u (Some r) e h = sound_of (begun s r) (begun_sound s u r (grind arith) (firm s h)) (begun_own s r h.own_ids)

allowed_sound : (s : State) (e : Event) → Allowed s e → IsWellFormed s.system → IsSound s → IsSound (step s e).after
allowed_sound s (event.Run p) m w h = moved_sound s (step s (event.Run p)) (step_moves s (event.Run p) refl m (sound_base s h) (λ y. w)) h
allowed_sound s (event.Ast p) m w h = delivered_sound s p (deliverable_ast s p) refl h
allowed_sound s (event.Rdn p) m w h = moved_sound s (step s (event.Rdn p)) (step_moves s (event.Rdn p) refl m.0 (sound_base s h) (λ y. m.1)) h
allowed_sound s (event.Beg u) m w h = beg_sound s u (front u s.requests) refl h
allowed_sound s e m w h = moved_sound s (step s e) (step_moves s e refl m (sound_base s h) (λ y. tt)) h

pub step_sound : (s : State) (e : Event) → IsWellFormed s.system → IsSound s → Contains (enabled s) e → IsSound (step s e).after
step_sound s e w h c = allowed_sound s e (enabled_allowed s e c) w h

-- At first.

born_stand : (s : State) (place : ℕ) (ds : List ProcDecl) → place + length ds ≡ length s.system.decls → AllByRecursion (ProcessStands (ground s)) (born_from place ds)
born_stand s place [] e = tt
born_stand s place (d ∷ ds) e =
    let rest = born_stand s (place + 1) ds (omega arith) in
    either (AllByRecursion (ProcessStands (ground s))) d.start (born_of place d ∷ born_from (place + 1) ds) (born_from (place + 1) ds) (born_stands s place d.group d.member d.privs d.mode (omega arith), rest) rest

pub first_sound : (system : System) → IsSound (first system)
first_sound system = let procs = born_stand (first system) 0 system.decls (omega arith) in search (arith, length-map system.units first_unit, first_own)

-- Along a run.

pub run_sound : (s : State) (recs : List Rec) → IsWellFormed s.system → IsSound s → AreSteps s recs → IsSound (after_from s recs)
run_sound s [] w h steps = h
run_sound s (r ∷ rs) w h steps =
    let t = (step s r.event).after in
    run_sound t rs (subst IsWellFormed (sym (step_keeps_system s r.event)) w) (step_sound s r.event w h steps.0.enabled) steps.1

pub every_run_sound : (system : System) (recs : List Rec) → IsWellFormed system → IsRun system recs → IsSound (after system recs)
every_run_sound system recs w run = run_sound (first system) recs w (first_sound system) run.steps

pub run_keeps_system : (s : State) (recs : List Rec) → (after_from s recs).system ≡ s.system
run_keeps_system s [] = refl
run_keeps_system s (r ∷ rs) = run_keeps_system (step s r.event).after rs ∙ step_keeps_system s r.event
