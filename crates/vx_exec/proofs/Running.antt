-- What the parts of an event come to, in the machine's words.
use Rattle.std.proofs.Common.{◌≡◌, ℕ, ◌-◌, ◌≤◌, List, [], ◌∷◌, cond, length, length-set, slice_index_or, IsTrue, Option, Some, None, refl, sym, ap, subst, ◌∙◌, arith}
use Rattle.std.proofs.lemmas.Bool.{and_parts, eqb-true}
use Rattle.vx_base.specs.Modes.{reaches}
use Rattle.vx_record.specs.Types.{Args, Call, Cond, Enables, Entry, Frame, Handler, Image, Mode, Pid, Queued, Stop, System}
use Rattle.vx_base.specs.Queues.{deliverable, first_of_mode}
use Rattle.vx_base.specs.declared.mode.Mode.TheVariants.{Kernel as KernelMode, Exec, Super, User}
use Rattle.vx_image.specs.Storage.{Storage}
use Rattle.vx_image.specs.WellFormed.{IsImage}
use Rattle.vx_image.specs.declared.stop.Stop.TheVariants as stop
use Rattle.vx_record.specs.State.{Process, State, IsProcess, change, current, image_of, process_at, no_decl, no_image, nobody, top_mode}
use Rattle.vx_record.specs.Parts.{Outcome}
use Rattle.vx_record.specs.Asts.{deliverable_ast, deliverable_at}
use Rattle.vx_record.specs.Events.{called, moved_to, reader, run, run_advanced}
use Rattle.vx_record.specs.Requests.{Asked, qio}
use Rattle.vx_record.specs.Services.{asked, at_once, number, routine_or_none, service, service_of}
use Rattle.vx_record.specs.Timers.{setimr}
use Rattle.vx_record.specs.declared.served.Served.{Served}
use Rattle.vx_record.specs.declared.served.Served.TheVariants.{Answered}
use Rattle.vx_record.proofs.Lists.{either_by}
use Rattle.vx_record.proofs.SoundCalls.{StopFits, advanced_fits}
use Rattle.vx_record.proofs.Ground.{at_set}
use Rattle.vx_procs.specs.Kernel.{Does, DoesQuietly, Fits, Kernel, changed, told, with_state}
use Rattle.vx_procs.specs.Words.{advanced_at, advanced_from, handlers_have_own_ids, without_started}
use Rattle.vx_procs.specs.Ready.{HasSpares}
use Rattle.vx_io.proofs.Changed.{made_still, process_there}
use Rattle.vx_base.specs.declared.service.Service.TheVariants.{Qio}
use Rattle.vx_io.specs.Asking.{asked as given}
use Rattle.vx_io.specs.declared.asking.Asking.{Asking}
use Rattle.vx_exec.specs.Asked.{asking_of}
use Rattle.vx_exec.specs.Ready.{IsCallAt, IsSet}
use Rattle.vx_exec.proofs.Calls.{IsStopAt, advanced_stands}
use Rattle.vx_procs.proofs.Firsts.{less_few}
use Rattle.vx_exec.proofs.Called.{call_goes}
use Rattle.vx_exec.proofs.Open.{open_changed}
use Rattle.vx_base.proofs.First.{found_passes}
use Rattle.vx_procs.proofs.Ops.{started_decl}
use Rattle.vx_procs.proofs.Quiet.{top_few}
pub use Rattle.vx_procs.proofs.Rest.{told_none}
use Rattle.std.specs.Option.{option_or}
use Rattle.vx_base.specs.Lists.{first}

pub quietly : {A : Type 0} (o : Outcome A) (a : A) (k l : Kernel) → DoesQuietly o a k l → Does o a k l
quietly o a k l h = record { answers = h.answers; leaves = h.leaves ∙ (told_none (with_state k o.after) ∙ ap (λ es. told (with_state k o.after) es) (sym h.quiet)) }

pub once : (o : Outcome Cond) (c : Cond) (k l : Kernel) → Does o c k l → Does (at_once o) (Answered c) k l
once o c k l h = record { answers = ap Answered h.answers; leaves = h.leaves }

pub timer_call : (k l : Kernel) (p : Pid) (efn efn' delta delta' : ℕ) (tag tag' : Option Entry) (reqid reqid' : ℕ) (cond : Cond) → efn ≡ efn' → delta ≡ delta' → tag ≡ tag' → reqid ≡ reqid' → Does (setimr k.state p efn delta tag reqid) cond k l → Does (at_once (setimr k.state p efn' delta' tag' reqid')) (Answered cond) k l
timer_call k l p efn efn' delta delta' tag tag' reqid reqid' cond a b c d h = rw (← a, ← b, ← c, ← d) (once (setimr k.state p efn delta tag reqid) cond k l h)

-- What a call of $QIO or $QIOW asks is what its arguments say.

pub asked_same : (s : State) (p : Pid) (a : Args) (q : Asking) (tag : Option Entry) → q ≡ asking_of a → tag ≡ routine_or_none s p a.a4 (number a.a5) → given q tag ≡ asked s p a
asked_same s p a q tag what routine = ap (λ (x : Asking). given x tag) what ∙ ap (λ (o : Option Entry). given (asking_of a) o) routine

pub asked_once : (k l : Kernel) (p : Pid) (a : Args) (q : Asked) (cond : Cond) → q ≡ asked k.state p a → Does (qio k.state p q) cond k l → Does (service_of k.state p a Qio) (Answered cond) k l
asked_once k l p a q cond same h = subst (λ (x : Asked). Does (at_once (qio k.state p x)) (Answered cond) k l) same (once (qio k.state p q) cond k l h)

-- A call.

pub called_room : (p : Pid) (c : Call) (o : Outcome Served) (k : Kernel) → Fits k (called p c o).effects → Fits k o.effects
called_room p c o k room = let same : (called p c o).effects ≡ o.effects = grind arith in omega (arith, ap length same, room)

-- Local statements, and what they stop at.

few_stmts : (image : Image) → IsImage image → length image.stmts ≤ 10000
few_stmts image is = grind arith

stands_from : (s : State) (p : Pid) (fs : List Frame) → IsStopAt (image_of s p) (advanced_from (image_of s p) p (process_at s p).store fs).place (advanced_from (image_of s p) p (process_at s p).store fs).stop
stands_from s p fs = grind (arith, advanced_stands)

-- and its arguments are of their kinds

fits_from : (s : State) (p : Pid) (fs : List Frame) → IsImage (image_of s p) → StopFits (image_of s p) (advanced_from (image_of s p) p (process_at s p).store fs).stop
fits_from s p [] formed = tt
fits_from s p (f ∷ fs) formed = advanced_fits formed.0 (image_of s p) (reader p f) (process_at s p).store f.pc formed.1

call_stands : (image : Image) (n : ℕ) (x : Stop) → length image.stmts ≤ 10000 → IsStopAt image n x → StopFits image x → IsCallAt n x
call_stands image n (stop.Call c) few h fits = (omega (arith, few, h), fits.args)
call_stands image n x few h fits = tt

pub advanced_call : (k : Kernel) (p : Pid) (n : ℕ) (x : Stop) → IsSet k p → n ≡ (advanced_at k.state p).place → x ≡ (advanced_at k.state p).stop → IsCallAt n x
advanced_call k p n x set place stops = grind (arith, call_stands, few_stmts, stands_from, fits_from)

-- What an event relies on, as its process changes.

-- the image of the declaration at a place
abbrev image_at : System → ℕ → Image
image_at system n = slice_index_or system.images (slice_index_or system.decls n no_decl).image no_image

pub record IsFewer (x y : Process) : Type 0 where
  pub frames : length y.frames ≤ length x.frames
  pub asts : length y.asts ≤ length x.asts

pub set_changed : (k l : Kernel) (p : Pid) (f : Process → Process) → IsSet k p → l ≡ changed k p f → (f (process_at k.state p)).handlers ≡ (process_at k.state p).handlers → (f (process_at k.state p)).decl ≡ (process_at k.state p).decl → (f (process_at k.state p)).channels ≡ (process_at k.state p).channels → IsFewer (process_at k.state p) (f (process_at k.state p)) → IsSet l p
set_changed k l p f set there handlers decl channels fewer =
    let s = k.state in
    let t = change s p f in
    let ready = set.ready in
    let at : process_at t p ≡ f (process_at s p) = process_there s p f ready.made in
    let its : (process_at t p).decl ≡ (process_at s p).decl = ap (λ (x : Process). x.decl) at ∙ decl in
    let image : image_of t p ≡ image_of s p = ap (image_at s.system) its in
    let declared : (process_at t p).handlers ≡ (process_at s p).handlers = ap (λ (x : Process). x.handlers) at ∙ handlers in
    let same = length-set s.procs (p.0 - 1) (f (process_at s p)) in
    let made = made_still s p p f ready.made in
    let formed : IsImage (image_of t p) = subst IsImage (sym image) ready.formed in
    let was : (q : Pid) → IsProcess t q → IsProcess s q = λ q m. record { above = m.above; within = omega (arith, m.within, same) } in
    let spares : HasSpares (changed k p f) = λ q m.
    let has = ready.spares q (was q m) in
    let few = at_set IsFewer (λ x. record { frames = omega arith; asts = omega arith }) s.procs (p.0 - 1) (q.0 - 1) (f (process_at s p)) nobody fewer in
    record { frame = omega (arith, has.frame, few.frames); ast = omega (arith, has.ast, few.asts) } in
    let opened = open_changed s p f decl channels set.opened in
    let all_handler_ids : (q : Pid) → IsProcess t q → IsTrue (handlers_have_own_ids (process_at t q).handlers) = λ q m.
    let still = at_set (λ (x y : Process). y.handlers ≡ x.handlers) (λ x. refl) s.procs (p.0 - 1) (q.0 - 1) (f (process_at s p)) nobody handlers in
    subst (λ (hs : List Handler). IsTrue (handlers_have_own_ids hs)) (sym still) (set.all_handler_ids q (was q m)) in
    let handler_ids = all_handler_ids p made in
    let here : IsSet (changed k p f) p = grind arith in
    subst (λ (x : Kernel). IsSet x p) (sym there) here

pub set_moved : (k l : Kernel) (p : Pid) (store : Storage) (place : ℕ) → IsSet k p → l ≡ changed k p (moved_to store place) → IsSet l p
set_moved k l p store place set there =
    set_changed k l p (moved_to store place) set there refl refl refl (record { frames = top_few _ (process_at k.state p).frames; asts = omega arith })

pub call_made : (k l : Kernel) (p : Pid) (c : Call) (s : Served) → IsSet k p → Does (service k.state p c) s k l → IsProcess l.state p
call_made k l p c s set did = grind (arith, call_goes)

-- The top frame goes on, if it waits for nothing.

goes_from : (s : State) (p : Pid) (fs : List Frame) (f : Frame) → Some f ≡ first fs → None ≡ f.wait → run s p fs ≡ run_advanced s p (advanced_from (image_of s p) p (process_at s p).store fs)
goes_from s p fs f top none = grind arith

pub goes_at : (s : State) (p : Pid) (f : Frame) → Some f ≡ first (process_at s p).frames → None ≡ f.wait → run s p (process_at s p).frames ≡ run_advanced s p (advanced_at s p)
goes_at s p f top none = goes_from s p (process_at s p).frames f top none

-- An AST that starts.

same_frames : (o : Option Queued) (pr : Process) → (without_started o pr).frames ≡ pr.frames
same_frames o pr = grind arith

fewer_asts : (o : Option Queued) (pr : Process) → length (without_started o pr).asts ≤ length pr.asts
fewer_asts o pr = grind (arith, less_few {A = Queued})

same_channels : (o : Option Queued) (pr : Process) → (without_started o pr).channels ≡ pr.channels
same_channels o pr = grind arith

same_handlers : (o : Option Queued) (pr : Process) → (without_started o pr).handlers ≡ pr.handlers
same_handlers o pr = grind arith

pub set_taken : (k l : Kernel) (p : Pid) → IsSet k p → l ≡ changed k p (without_started (deliverable_ast k.state p)) → IsSet l p
set_taken k l p set there =
    let o = deliverable_ast k.state p in
    let pr = process_at k.state p in
    set_changed k l p (without_started o) set there (same_handlers o pr) (started_decl o pr) (same_channels o pr) (record { frames = omega (arith, ap length (same_frames o pr)); asts = fewer_asts o pr })

-- it is in a mode that is not further out than that of the process

of_mode : (enables : Enables) (now : Mode) (active : Option Mode) (asts : List Queued) (m : Mode) (q : Queued) → first_of_mode enables now active asts m ≡ Some q → IsTrue (reaches now q.mode)
of_mode enables now active asts m q = grind (arith, either_by, and_parts, eqb-true, found_passes)

reached_by : (enables : Enables) (now : Mode) (active : Option Mode) (asts : List Queued) (q : Queued) → deliverable enables now active asts ≡ Some q → IsTrue (reaches now q.mode)
reached_by enables now active asts q e = either_of _ _ (of KernelMode) (either_of _ _ (of Exec) (either_of _ _ (of Super) (of User))) e
  where
    of : (m : Mode) → first_of_mode enables now active asts m ≡ Some q → IsTrue (reaches now q.mode)
    of m = of_mode enables now active asts m q

    either_of : (a b : Option Queued) → (a ≡ Some q → IsTrue (reaches now q.mode)) → (b ≡ Some q → IsTrue (reaches now q.mode)) → option_or a b ≡ Some q → IsTrue (reaches now q.mode)
    either_of None b f g is = g is
    either_of a b f g is = f is

reached_at : (pr : Process) (fs : List Frame) (q : Queued) → deliverable_at pr fs ≡ Some q → IsTrue (reaches (top_mode fs) q.mode)
reached_at pr fs q e = grind (arith, reached_by)

inward_of : (s : State) (p : Pid) (q : Queued) → deliverable_ast s p ≡ Some q → IsTrue (reaches (current s p) q.mode)
inward_of s p q e = let at = reached_at (process_at s p) (process_at s p).frames q in grind arith

pub inward_taken : (k l : Kernel) (p : Pid) (q : Queued) → IsProcess k.state p → Some q ≡ deliverable_ast k.state p → l ≡ changed k p (without_started (deliverable_ast k.state p)) → IsTrue (reaches (current l.state p) q.mode)
inward_taken k l p q made is there = grind (arith, process_there, same_frames, inward_of)
