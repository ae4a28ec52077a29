-- What services leave as it was, one after another: most turn no frames, and a few do.
use Rattle.std.proofs.Common.{length-append, ◌<◌, ◌≢◌, ◌≡◌, ℕ, ◌^◌, ◌%◌, List, [], ◌∷◌, Bool, true, false, cond, not, ◌==◌, ◌||◌, nat_lt, nat_le, length, Option, Some, None, Result, Ok, Err, refl, ◌-◌, ◌≤◌, ◌++◌, ap, arith, subst, zero, suc, get_or}
use Rattle.std.proofs.lemmas.List.{get_or_append_left}
use Rattle.std.specs.List.{find}
use Rattle.vx_base.specs.Modes.{outer, is_kernel, rank, inner}
use Rattle.vx_record.specs.Types.{Arg, Args, Cond, Effect, Entry, Frame, FrameKind, Mode, Pid, Service, Target}
use Rattle.vx_base.specs.declared.frame.FrameKind.TheVariants as kind
use Rattle.vx_base.specs.declared.frame.Wait.TheVariants as wait
use Rattle.vx_base.specs.declared.service.Service.TheVariants.{SetEf, ClrEf, ReadEf, WaitFr, WflOr, WflAnd, AscEfc, DacEfc, DlcEfc, DclAst, SetAst, CmExec, CmKrnl, SetImr, CanTim, SchdWk, CanWak, Hiber, Wake, Suspnd, Resume, ForceX, CrePrc, DelPrc, Exit, DclExh, CanExh, Assign, Dassgn, CreMbx, DelMbx, Qio, QioW, Synch, Cancel, GetTim}
use Rattle.vx_record.specs.State.{State, process_at, change, current, image_of, nobody, Process, IsProcess, next_id, past_id, top_mode, pid}
use Rattle.vx_record.specs.Parts.{Part, Outcome, nothing, refused, refused_value, at_tested, part_of}
use Rattle.vx_record.specs.Charges.{exceeds, ast_need, is_same}
use Rattle.vx_record.specs.Flags.{put_flag_at, readef_at, readef, is_common, wants_prmceb}
use Rattle.vx_record.specs.Asts.{is_inside, declared_ast, charged_ast, with_frame, que_part, open_part, with_delivery, new_frame}
use Rattle.vx_record.specs.Channels.{channel_test, device_named, assign, crembx, delmbx_at, free_channel}
use Rattle.vx_record.specs.Cancel.{cancel_channel, cancel_at, dassgn_at}
use Rattle.vx_record.specs.Requests.{request_test}
use Rattle.vx_record.specs.Control.{process_test, changed_process, with_wake, with_suspension, forced, creprc, exists_for_control, may_control, named_process, exit_ast, created, new_part}
use Rattle.vx_record.specs.Timers.{is_cancelled_timer, scheduled, is_wake_for, unscheduled, gettim}
use Rattle.vx_record.specs.Rundown.{leave_kind, leave_all, exited, without_frames, drop_handlers, any_handler, named_for_deletion, deleted_by}
use Rattle.vx_record.specs.Services.{number, place, access_mode, text, routine_or_none, decl_place, asked, valued_at, numbered_at, service_of, var_part, valued, routine, with_variable, at_once, routine_at, label}
use Rattle.vx_record.specs.declared.served.Served.{Served}
use Rattle.vx_record.specs.declared.served.Served.TheVariants.{Answered, Waits}
use Rattle.vx_record.proofs.Lists.{either, all_append}
use Rattle.std.proofs.lemmas.Bool.{eqb-true}
use Rattle.std.specs.Prelude.{option_map}
use Rattle.vx_base.specs.Clusters.{dissociated, associated, marked, is_cluster, cluster_number}
use Rattle.vx_base.specs.declared.effects.Opened.TheVariants as opened
use Rattle.vx_base.specs.declared.cond.Cond.TheVariants.{Normal, NonExpr, NoPriv}
use Rattle.vx_base.specs.declared.mode.Mode.TheVariants.{User, Kernel, Exec, Super}
use Rattle.vx_laws.specs.Agrees.{is_exit, IsEntry, is_main, entered_frames, AreEntries}
use Rattle.vx_laws.specs.Frames.{Entry as Entered, Turn, Enters, Clears, Stays, after_turn, service_turn, turned_by}
use Rattle.vx_laws.proofs.Stands.{field_at}
use Rattle.vx_record.proofs.Apart.{associated_only, dissociated_only, marked_at_only}
use Rattle.vx_record.proofs.Steps.{test_made, left_after}
use Rattle.vx_laws.proofs.Calm.{AreFrames, AreTagged, Calmed, Fine, IsBare, OutcomeCalm, PartCalm, Tags, Turned, assign_to_calm, at_flag_calm, at_tested_calm, by_turn, calm_none, calm_or, calm_then, cancel_channel_calm, cancel_handlers_calm, change_calm, change_tags, clusters_calm, crembx_calm, delmbx_calm, drop_handlers_calm, drop_timers_calm, flag_calm, free_channel_calm, handler_calm, held_at, is_exit_entry, is_fine, lists_calm, plain_calm, qio_calm, qiow_calm, que_calm, same, scheduled_calm, setimr_calm, still_made, waited_calm, waits_calm}
use Rattle.vx_base.proofs.Bools.{either_same}
use Rattle.vx_base.specs.Lists.{rest}

-- Services that neither enter nor leave.

pub var_calm : (b : Bool) (s : State) (p : Pid) (t : Target) (n : ℕ) → PartCalm b s (var_part s p t n)
var_calm b s p t n = change_calm b s p (with_variable t n) _ (refl, tt) ((λ l j. j), (λ e. e), (λ e. e)) (λ j. j)

valued_calm : (b : Bool) (s : State) (p : Pid) (t : Target) (part : Part) (c : Cond) (n : ℕ) → PartCalm b s part → OutcomeCalm b s (valued p t part c n)
valued_calm b s p t part c n k = calm_then b s part (λ a. var_part a p t n) k (var_calm b part.after p t n)

valued_at_calm : (b : Bool) (s : State) (p : Pid) (t : Target) (part : Part) (r : Result (Cond × ℕ) Cond) → PartCalm b s part → OutcomeCalm b s (valued_at p t part r)
valued_at_calm b s p t part (Ok read) k = valued_calm b s p t part read.0 read.1 k
valued_at_calm b s p t part (Err c) k = k

numbered_at_calm : (b : Bool) (s : State) (p : Pid) (t : Target) (part : Part) (r : Result ℕ Cond) → PartCalm b s part → OutcomeCalm b s (numbered_at p t part r)
numbered_at_calm b s p t part (Ok n) k = valued_calm b s p t part Normal n k
numbered_at_calm b s p t part (Err c) k = k

declared_calm : (b : Bool) (s : State) (p : Pid) (mode : Mode) (tag : Entry) → is_exit tag ≡ false → PartCalm b s (declared_ast s p mode tag)
declared_calm b s p mode tag k = calm_then b s (open_part s opened.Ast p (Some mode) 0 (past_id s)) (λ a. que_part a p (charged_ast (next_id s) mode tag)) (lists_calm b s (past_id s) _ (refl, tt) refl refl refl refl) (que_calm b (past_id s) p (charged_ast (next_id s) mode tag) (rw k refl))

forced_calm : (b : Bool) (s : State) (code : ℕ) (p : Pid) → OutcomeCalm b s (forced s code p)
forced_calm b s code p = calm_then b s (open_part s opened.Force p (Some User) 0 (past_id s)) (λ a. que_part a p (exit_ast (next_id s) code)) (lists_calm b s (past_id s) _ (refl, tt) refl refl refl refl) (que_calm b (past_id s) p (exit_ast (next_id s) code) refl)

pub appended_held : (P : Process → Type 0) (xs : List Process) (y d : Process) (i : ℕ) → (P d → P y) → P (get_or xs i d) → P (get_or (xs ++ y ∷ []) i d)
appended_held P [] y d zero k h = k h
appended_held P [] y d (suc i) k h = h
appended_held P (x ∷ xs) y d zero k h = h
appended_held P (x ∷ xs) y d (suc i) k h = appended_held P xs y d i k h

kept_before : (P : Process → Type 0) (xs : List Process) (y d : Process) (i : ℕ) → i < length xs → P (get_or xs i d) → P (get_or (xs ++ y ∷ []) i d)
kept_before P xs y d i k h = rw (get_or_append_left xs (y ∷ []) d i k) h

newly_calm : (s : State) (p : Pid) (place : ℕ) → PartCalm false s (new_part s p place)
newly_calm s p place h = record {
  effects = (refl, tt);
  tags = record { requests = h.requests; timers = h.timers; attention = h.attention; asts = λ q. appended_held AreTagged s.procs (created s p place) nobody (q.0 - 1) (λ j. j) (h.asts q) };
  frames = λ q l above k. appended_held (λ (pr : Process). AreFrames pr.frames l) s.procs (created s p place) nobody (q.0 - 1) (λ j. j) k;
  empties = λ t q e. absurd (let never : false ≡ true = t in cc);
  bares = λ q e. (record { above = e.0.above; within = (let n = length-append s.procs (created s p place ∷ []) in omega (arith, n, e.0.within)) }, kept_before IsBare s.procs (created s p place) nobody (q.0 - 1) (omega (arith, e.0.above, e.0.within)) e.1);
}

quiet_calm : (b : Bool) (s : State) (q : Pid) (f : Process → Process) → (f (process_at s q)).frames ≡ (process_at s q).frames → (f (process_at s q)).asts ≡ (process_at s q).asts → (f (process_at s q)).handlers ≡ (process_at s q).handlers → OutcomeCalm b s (changed_process s f q)
quiet_calm b s q f fr qs hs = plain_calm b s q f [] tt fr qs hs

labelled : (f : List ℕ → Entry) (o : Option (List ℕ)) → ((name : List ℕ) → is_exit (f name) ≡ false) → is_exit_entry (option_map f o) ≡ false
labelled f None k = refl
labelled f (Some name) k = k name

routine_tag : (s : State) (p : Pid) (a : Arg) (prm : ℕ) → is_exit_entry (routine_or_none s p a prm) ≡ false
routine_tag s p a prm = labelled (routine_at (image_of s p) prm) (label a) (λ name. refl)

-- services in whose records requests finish
abbrev pub finishes : Service → Bool
finishes Qio = true
finishes QioW = true
finishes Cancel = true
finishes Dassgn = true
finishes v = false

-- services that turn frames
abbrev pub turns : Service → Bool
turns CmExec = true
turns CmKrnl = true
turns Exit = true
turns DelPrc = true
turns v = false

service_of_calm : (s : State) (p : Pid) (a : Args) (v : Service) → turns v ≡ false → (process_at s p).frames ≢ [] → OutcomeCalm (finishes v) s (service_of s p a v)
service_of_calm s p a SetEf n some = at_flag_calm false s p (number a.a0) (refused s) (put_flag_at s true) (λ c. calm_none false s) (λ c. flag_calm false s c true)
service_of_calm s p a ClrEf n some = at_flag_calm false s p (number a.a0) (refused s) (put_flag_at s false) (λ c. calm_none false s) (λ c. flag_calm false s c false)
service_of_calm s p a ReadEf n some =
    let o = readef s p (number a.a0) in
    valued_at_calm false s p (place a.a1) (part_of o) o.answer (at_flag_calm false s p (number a.a0) (refused_value s) (readef_at s) (λ c. calm_none false s) (λ c. calm_none false s))
service_of_calm s p a WaitFr n some = waits_calm false s p (number a.a0) (wait.Flags (number a.a0) (2 ^ (number a.a0 % 32)) false)
service_of_calm s p a WflOr n some = waits_calm false s p (number a.a0) (wait.Flags (number a.a0) (number a.a1) false)
service_of_calm s p a WflAnd n some = waits_calm false s p (number a.a0) (wait.Flags (number a.a0) (number a.a1) true)
service_of_calm s p a AscEfc n some =
    calm_or false s (not (is_common (number a.a0))) _ _ (calm_none false s) (calm_or false s (wants_prmceb s (process_at s p) (text a.a1) (number a.a2)) _ _ (calm_none false s)
    (clusters_calm false s (associated s.common p (cluster_number (number a.a0)) (process_at s p).group (text a.a1) (not (number a.a2 == 0))) (associated_only s.common p (cluster_number (number a.a0)) (process_at s p).group (text a.a1) (not (number a.a2 == 0)))))
service_of_calm s p a DacEfc n some = calm_or false s (not (is_common (number a.a0))) _ _ (calm_none false s) (clusters_calm false s (dissociated s.common p (cluster_number (number a.a0))) (dissociated_only s.common p (cluster_number (number a.a0))))
service_of_calm s p a DlcEfc n some = calm_or false s (not (process_at s p).privs.prmceb) _ _ (calm_none false s) (clusters_calm false s (marked s.common (process_at s p).group (text a.a0)) (marked_at_only s.common (find (is_cluster (process_at s p).group (text a.a0)) s.common.clusters)))
service_of_calm s p a DclAst n some = calm_or false s (exceeds s p (ast_need true)) _ _ (calm_none false s) (declared_calm false s p (outer (access_mode a.a2) (current s p)) (routine s p a.a0 (number a.a1)) refl)
service_of_calm s p a SetAst n some = change_calm false s p (with_delivery (current s p) (not (number a.a0 == 0))) _ (refl, tt) ((λ l j. j), (λ e. e), (λ e. e)) (λ j. j)
service_of_calm s p a CmExec n some = absurd (let yes : true ≡ false = n in cc)
service_of_calm s p a CmKrnl n some = absurd (let yes : true ≡ false = n in cc)
service_of_calm s p a SetImr n some = setimr_calm false s p (number a.a0) (number a.a1) (routine_or_none s p a.a2 (number a.a3)) (number a.a3) (routine_tag s p a.a2 (number a.a3))
service_of_calm s p a CanTim n some = drop_timers_calm false s (is_cancelled_timer p (number a.a0) (outer (access_mode a.a1) (current s p)))
service_of_calm s p a SchdWk n some = at_tested_calm false s (scheduled s p (number a.a1) (number a.a2)) (process_test s p (number a.a0)) (λ q. scheduled_calm false s p (number a.a1) (number a.a2) q)
service_of_calm s p a CanWak n some = at_tested_calm false s (unscheduled s) (process_test s p (number a.a0)) (λ q. drop_timers_calm false s (is_wake_for q))
service_of_calm s p a Hiber n some = calm_or false s (process_at s p).wake_pending _ _ (plain_calm false s p (with_wake false) [] tt refl refl refl) (waited_calm false s p (Some wait.Hiber))
service_of_calm s p a Wake n some = at_tested_calm false s (changed_process s (with_wake true)) (process_test s p (number a.a0)) (λ q. quiet_calm false s q (with_wake true) refl refl refl)
service_of_calm s p a Suspnd n some = at_tested_calm false s (changed_process s (with_suspension true)) (process_test s p (number a.a0)) (λ q. quiet_calm false s q (with_suspension true) refl refl refl)
service_of_calm s p a Resume n some = at_tested_calm false s (changed_process s (with_suspension false)) (process_test s p (number a.a0)) (λ q. quiet_calm false s q (with_suspension false) refl refl refl)
service_of_calm s p a ForceX n some = at_tested_calm false s (forced s (number a.a1)) (process_test s p (number a.a0)) (λ q. forced_calm false s (number a.a1) q)
service_of_calm s p a CrePrc n some =
    let o = creprc s p (decl_place s (text a.a1)) in
    numbered_at_calm false s p (place a.a0) (part_of o) o.answer (calm_or false s (nat_le 1000 (length s.procs)) _ _ (calm_none false s) (newly_calm s p (decl_place s (text a.a1))))
service_of_calm s p a DelPrc n some = absurd (let yes : true ≡ false = n in cc)
service_of_calm s p a Exit n some = absurd (let yes : true ≡ false = n in cc)
service_of_calm s p a DclExh n some = calm_or false s (is_kernel (current s p)) _ _ (calm_none false s) (handler_calm false s p (routine s p a.a0 0) some)
service_of_calm s p a CanExh n some = calm_or false s (is_kernel (current s p)) _ _ (calm_none false s) (cancel_handlers_calm false s p (routine_or_none s p a.a0 0))
service_of_calm s p a Assign n some =
    let o = assign s p (text a.a1) (access_mode a.a2) in
    numbered_at_calm false s p (place a.a0) (part_of o) o.answer (assign_to_calm false s p (outer (access_mode a.a2) (current s p)) (device_named s (text a.a1)))
service_of_calm s p a Dassgn n some =
    at_tested_calm true s (dassgn_at s p (number a.a0)) (channel_test s p (number a.a0))
    (λ ch. calm_then true s (cancel_channel s p (number a.a0)) (λ b. free_channel b p (number a.a0)) (cancel_channel_calm s p (number a.a0)) (free_channel_calm true (cancel_channel s p (number a.a0)).after p (number a.a0)))
service_of_calm s p a CreMbx n some =
    let o = crembx s p (text a.a1) (number a.a2) (number a.a3) (number a.a4) (access_mode a.a5) in
    numbered_at_calm false s p (place a.a0) (part_of o) o.answer (crembx_calm false s p (text a.a1) (number a.a2) (number a.a3) (number a.a4) (access_mode a.a5))
service_of_calm s p a DelMbx n some = at_tested_calm false s (delmbx_at s p) (channel_test s p (number a.a0)) (λ ch. delmbx_calm false s p ch.device)
service_of_calm s p a Qio n some = qio_calm s p (asked s p a) (request_test s p (asked s p a)) (routine_tag s p a.a4 (number a.a5))
service_of_calm s p a QioW n some = qiow_calm s p (asked s p a) (request_test s p (asked s p a)) (routine_tag s p a.a4 (number a.a5))
service_of_calm s p a Synch n some = calm_or false s (nat_lt 32 (number a.a1)) _ _ (calm_none false s) (waits_calm false s p (number a.a0) (wait.Synch (number a.a0) (number a.a1)))
service_of_calm s p a Cancel n some = at_tested_calm true s (cancel_at s p (number a.a0)) (channel_test s p (number a.a0)) (λ ch. cancel_channel_calm s p (number a.a0))
service_of_calm s p a GetTim n some = valued_calm false s p (place a.a0) (nothing s) Normal (gettim s) (calm_none false s)

-- Services that turn frames.

abbrev pub call_turn : Service → Cond → Turn
call_turn v Normal = service_turn v
call_turn v c = Stays

abbrev pub turning : Pid → Args → Service → Served → Turned
turning p a v (Answered c) = by_turn (turned_by p a v) (call_turn v c)
turning p a v Waits = by_turn p Stays

pub stays_calm : (b : Bool) (r : Pid) (s : State) (es : List Effect) (t : State) → Calmed b same s es t → Calmed b (by_turn r Stays) s es t
stays_calm b r s es t h = record { effects = h.effects; tags = h.tags; frames = λ q l above k. rw (either_same (is_same r q) l) (h.frames q l above k); empties = h.empties; bares = h.bares }

no_service_turn : (v : Service) → turns v ≡ false → service_turn v ≡ Stays
no_service_turn CmExec n = absurd (let yes : true ≡ false = n in cc)
no_service_turn CmKrnl n = absurd (let yes : true ≡ false = n in cc)
no_service_turn Exit n = absurd (let yes : true ≡ false = n in cc)
no_service_turn DelPrc n = absurd (let yes : true ≡ false = n in cc)
no_service_turn v n = refl

pub no_turn : (v : Service) (c : Cond) → turns v ≡ false → call_turn v c ≡ Stays
no_turn v Normal n = no_service_turn v n
no_turn v c n = refl

plain_turning : (b : Bool) (p : Pid) (a : Args) (v : Service) (answer : Served) (s : State) (es : List Effect) (t : State) → turns v ≡ false → Calmed b same s es t → Calmed b (turning p a v answer) s es t
plain_turning b p a v (Answered c) s es t n h = rw (no_turn v c n) (stays_calm b (turned_by p a v) s es t h)
plain_turning b p a v Waits s es t n h = stays_calm b p s es t h

choose : {A B : Type 0} (P : A → B → Type 0) (b : Bool) (x y : A) (u v : B) → (b ≡ true → P x u) → (b ≡ false → P y v) → P (cond b x y) (cond b u v)
choose P true x y u v h k = h refl
choose P false x y u v h k = k refl

pub turned_at : (s : State) (p : Pid) (f : Process → Process) (tu : Turn) → IsProcess s p → ((l : List Entered) → AreFrames (process_at s p).frames l → AreFrames (f (process_at s p)).frames (after_turn tu l)) → (q : Pid) (l : List Entered) → 1 ≤ q.0 → AreFrames (process_at s q).frames l → AreFrames (process_at (change s p f) q).frames (by_turn p tu q l)
turned_at s p f tu made k q l above h =
    rw (field_at (λ (pr : Process). pr.frames) f s p q made above)
    (choose AreFrames (p.0 == q.0) (f (process_at s q)).frames (process_at s q).frames (after_turn tu l) l
    (λ t. let is : p ≡ q = ap (λ (n : ℕ). pid n) (eqb-true p.0 q.0 t) in subst (λ (r : Pid). AreFrames (process_at s r).frames l → AreFrames (f (process_at s r)).frames (after_turn tu l)) is (k l) h)
    (λ n. h))

pub turn_calm : (s : State) (p : Pid) (f : Process → Process) (tu : Turn) (es : List Effect) → Fine false es → IsProcess s p → ((l : List Entered) → AreFrames (process_at s p).frames l → AreFrames (f (process_at s p)).frames (after_turn tu l)) → (AreTagged (process_at s p) → AreTagged (f (process_at s p))) → (IsBare (process_at s p) → IsBare (f (process_at s p))) → Tags s → Calmed false (by_turn p tu) s es (change s p f)
turn_calm s p f tu es fine made fr tg br h = record { effects = fine; tags = change_tags s p f tg h; frames = turned_at s p f tu made fr; empties = λ t q e. absurd (let never : false ≡ true = t in cc); bares = λ q e. (still_made s p f q e.0, held_at IsBare f s p q br e.1) }

pub pushed_frames : (fs : List Frame) (l : List Entered) (f : Frame) (e : Entered) → is_main f.kind ≡ false → IsEntry f.mode f.kind e → rank f.mode ≤ rank (top_mode fs) → AreFrames fs l → AreFrames (f ∷ fs) (e ∷ l)
pushed_frames [] l f e n k m h = (rw n (k, h.0), tt)
pushed_frames (g ∷ gs) l f e n k m h = (rw n (k, h.0), (m, h.1))

below_entries : (f : Frame) (fs : List Frame) (l : List Entered) → AreEntries (f ∷ fs) l → AreEntries fs (rest l)
below_entries f fs [] h = absurd h
below_entries f fs (e ∷ l) h = h.1

pub popped_frames : (xs : List Frame) (f : Frame) (fs : List Frame) (l : List Entered) → xs ≡ f ∷ fs → is_main f.kind ≡ false → AreFrames xs l → AreFrames (rest xs) (rest l)
popped_frames [] f fs l is n h = absurd (let never : [] ≡ f ∷ fs = is in cc)
popped_frames (x ∷ []) f fs l is n h =
    let top : x ≡ f = (let yes : x ∷ [] ≡ f ∷ fs = is in cc) in
    let main : is_main x.kind ≡ false = rw top n in
    (below_entries x [] l (rw main at h.0), tt)
popped_frames (x ∷ (y ∷ ys)) f fs l is n h =
    let top : x ≡ f = (let yes : x ∷ (y ∷ ys) ≡ f ∷ fs = is in cc) in
    let main : is_main x.kind ≡ false = rw top n in
    (below_entries x (entered_frames (y ∷ ys)) l (rw main at h.0), h.1.1)

inner_below : (a : Mode) → rank (inner a Exec) ≤ rank a
inner_below Kernel = omega arith
inner_below Exec = omega arith
inner_below Super = omega arith
inner_below User = omega arith

inner_exec : (a : Mode) → rank (inner a Exec) ≤ 1
inner_exec Kernel = omega arith
inner_exec Exec = omega arith
inner_exec Super = omega arith
inner_exec User = omega arith

-- leaving

leave_fine : (s : State) (k : FrameKind) → Fine false (leave_kind s k).effects
leave_fine s (kind.Ast id) = (refl, tt)
leave_fine s kind.Main = tt
leave_fine s kind.Change = tt
leave_fine s kind.Handler = tt

pub leave_all_fine : (fs : List Frame) (s : State) → Fine false (leave_all fs s).effects
leave_all_fine [] s = tt
leave_all_fine (f ∷ fs) s = all_append (λ x. is_fine false x ≡ true) (leave_kind s f.kind).effects (leave_all fs (leave_kind s f.kind).after).effects (leave_fine s f.kind) (leave_all_fine fs (leave_kind s f.kind).after)

pub exited_calm : (s : State) (p : Pid) (code : ℕ) → IsProcess s p → Tags s → Calmed false (by_turn p Clears) s (exited s p code).effects (exited s p code).after
exited_calm s p code made h =
    let a = change s p (without_frames code) in
    let fs = (process_at s p).frames in
    rw (left_after fs a) (turn_calm s p (without_frames code) Clears (leave_all fs a).effects (leave_all_fine fs a) made (λ l k. (tt, tt)) (λ k. k) (λ e. (refl, e.1)) h)

deleted_calm : (s : State) (q : Pid) → IsProcess s q → Tags s → Calmed false (by_turn q Clears) s (deleted_by s q).effects (deleted_by s q).after
deleted_calm s q made h =
    let a = change s q named_for_deletion in
    let fs = (process_at s q).frames in
    let b = leave_all fs a in
    let first : Calmed false (by_turn q Clears) s b.effects b.after = rw (left_after fs a) (turn_calm s q named_for_deletion Clears b.effects (leave_all_fine fs a) made (λ l k. (tt, tt)) (λ k. k) (λ e. (refl, e.1)) h) in
    let c = drop_handlers b.after q any_handler in
    let second = drop_handlers_calm false b.after q any_handler first.tags in
    record {
      effects = all_append (λ x. is_fine false x ≡ true) b.effects c.effects first.effects second.effects;
      tags = second.tags;
      frames = λ r l above k. second.frames r (by_turn q Clears r l) above (first.frames r l above k);
      empties = λ t r e. absurd (let never : false ≡ true = t in cc);
      bares = λ r e. second.bares r (first.bares r e);
    }

-- the process that a test finds is the one that is named
pub test_is : (s : State) (p : Pid) (n : ℕ) (q : Pid) → process_test s p n ≡ Ok q → named_process p n ≡ q
test_is s p n q =
    either (λ (r : Result Pid Cond). r ≡ Ok q → named_process p n ≡ q) (not (exists_for_control s (named_process p n).0)) _ _ (λ e. cc)
    (either (λ (r : Result Pid Cond). r ≡ Ok q → named_process p n ≡ q) (may_control s p (named_process p n)) _ _ (λ e. cc) (λ e. cc))

refused_turn : (v : Service) (p r : Pid) (s : State) → Tags s → Calmed false (by_turn r Stays) s [] s
refused_turn v p r s h = stays_calm false r s [] s (calm_none false s h)

abbrev pub ServiceCalm : State → Pid → Args → Service → Outcome Served → Type 0
ServiceCalm s p a v o = Calmed (finishes v) (turning p a v o.answer) s o.effects o.after

pub refusal_turn : (s : State) (p : Pid) (n : ℕ) (c : Cond) → process_test s p n ≡ Err c → call_turn DelPrc c ≡ Stays
refusal_turn s p n c =
    let P = λ (r : Result Pid Cond). r ≡ Err c → call_turn DelPrc c ≡ Stays in
    either P (not (exists_for_control s (named_process p n).0)) _ _ (λ e. let is : NonExpr ≡ c = cc in rw (← is) refl)
    (either P (may_control s p (named_process p n)) _ _ (λ e. cc) (λ e. let is : NoPriv ≡ c = cc in rw (← is) refl))

process_test_cases : (s : State) (p : Pid) (a : Args) (r : Result Pid Cond) → process_test s p (number a.a0) ≡ r → Tags s → ServiceCalm s p a DelPrc (at_once (at_tested s (deleted_by s) r))
process_test_cases s p a (Err c) is h = rw (refusal_turn s p (number a.a0) c is) (refused_turn DelPrc p (named_process p (number a.a0)) s h)
process_test_cases s p a (Ok q) is h = rw (test_is s p (number a.a0) q is) (deleted_calm s q (test_made s p (number a.a0) q is) h)

pub service_calm : (s : State) (p : Pid) (a : Args) (v : Service) → IsProcess s p → (process_at s p).frames ≢ [] → Tags s → ServiceCalm s p a v (service_of s p a v)
service_calm s p a CmExec made some h =
    either (λ (o : Outcome Cond). Calmed false (turning p a CmExec (Answered o.answer)) s o.effects o.after) (is_inside (current s p) || ((process_at s p).privs.cmexec || (process_at s p).privs.cmkrnl)) _ _
    (turn_calm s p (with_frame (new_frame s p kind.Change (inner (current s p) Exec) (routine s p a.a0 (number a.a1)) 0)) (Enters (record { ast = None; mode = Exec })) [] tt made
    (λ l k. pushed_frames (process_at s p).frames l (new_frame s p kind.Change (inner (current s p) Exec) (routine s p a.a0 (number a.a1)) 0) (record { ast = None; mode = Exec }) refl (refl, inner_exec (current s p)) (inner_below (current s p)) k) (λ k. k) (λ e. absurd (some e.0)) h)
    (refused_turn CmExec p p s h)
service_calm s p a CmKrnl made some h =
    either (λ (o : Outcome Cond). Calmed false (turning p a CmKrnl (Answered o.answer)) s o.effects o.after) (is_inside (current s p) || (process_at s p).privs.cmkrnl) _ _
    (turn_calm s p (with_frame (new_frame s p kind.Change Kernel (routine s p a.a0 (number a.a1)) 0)) (Enters (record { ast = None; mode = Kernel })) [] tt made
    (λ l k. pushed_frames (process_at s p).frames l (new_frame s p kind.Change Kernel (routine s p a.a0 (number a.a1)) 0) (record { ast = None; mode = Kernel }) refl (refl, omega arith) (omega arith) k) (λ k. k) (λ e. absurd (some e.0)) h)
    (refused_turn CmKrnl p p s h)
service_calm s p a Exit made some h = exited_calm s p (number a.a0) made h
service_calm s p a DelPrc made some h = process_test_cases s p a (process_test s p (number a.a0)) refl h
service_calm s p a v made some h = plain_turning (finishes v) p a v (service_of s p a v).answer s (service_of s p a v).effects (service_of s p a v).after refl (service_of_calm s p a v refl some h)
