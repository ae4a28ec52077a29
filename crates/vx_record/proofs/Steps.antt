-- Each service and each event is a sequence of moves.
use Rattle.std.proofs.Common.{◌≡◌, ℕ, ◌^◌, ◌%◌, List, [], ◌∷◌, Bool, true, false, not, ◌==◌, ◌&&◌, ◌||◌, nat_lt, nat_le, length, Option, Some, None, Result, Ok, Err, position, refl, ◌∙◌, ◌+◌, ◌≤◌, IfSome, sym, ap, arith, subst, append-nil, zero, suc, get_or, ◌<◌}
use Rattle.std.specs.List.{filter, find, list_any, AllByRecursion}
use Rattle.vx_base.specs.Modes.{outer, is_kernel}
use Rattle.vx_record.specs.Types.{Answer, Args, Call, Cell, Channel, Cond, Entry, Event, Frame, FrameKind, Handler, Mode, Phase, Pid, ProcDecl, Promised, Queued, Req, Request, Service, Stop, Target, UnitNo, Wait}
use Rattle.vx_base.specs.Queues.{in_service, is_served_by}
use Rattle.vx_base.specs.Serving.{serve, settled}
use Rattle.vx_base.specs.declared.cond.Cond.TheVariants.{Cancel as Cancelled, Normal}
use Rattle.vx_base.specs.declared.effects.Cell.TheVariants.{Local, Common}
use Rattle.vx_base.specs.declared.frame.FrameKind.TheVariants as kind
use Rattle.vx_base.specs.declared.frame.Phase.TheVariants as phase
use Rattle.vx_base.specs.declared.frame.Wait.TheVariants as wait
use Rattle.vx_base.specs.declared.record.Event.TheVariants as event
use Rattle.vx_base.specs.declared.routine.Entry.TheVariants as entry
use Rattle.vx_base.specs.declared.service.Service.TheVariants.{SetEf, ClrEf, ReadEf, WaitFr, WflOr, WflAnd, AscEfc, DacEfc, DlcEfc, DclAst, SetAst, CmExec, CmKrnl, SetImr, CanTim, SchdWk, CanWak, Hiber, Wake, Suspnd, Resume, ForceX, CrePrc, DelPrc, Exit, DclExh, CanExh, Assign, Dassgn, CreMbx, DelMbx, Qio, QioW, Synch, Cancel, GetTim}
use Rattle.vx_image.specs.Local.{Advanced, advanced}
use Rattle.vx_image.specs.declared.stop.Stop.TheVariants as stop
use Rattle.vx_record.specs.State.{State, process_at, change, current, image_of, unit_at, Process, IsProcess, next_id, past_id, no_decl, HasFrame, top_mode}
use Rattle.vx_record.specs.Parts.{Part, Outcome, nothing, each, refused, part_of, and_then, followed_by}
use Rattle.vx_record.specs.Charges.{exceeds, ast_need}
use Rattle.vx_record.specs.Flags.{cell, flag_where_named, put_flag_at, wait_condition, is_common, wants_prmceb, with_wait, with_local_flag}
use Rattle.vx_record.specs.Asts.{is_inside, declared_ast, charged_ast, with_frame, with_queued}
use Rattle.vx_record.specs.Finish.{Ending, ending, is_read, fin_part, buf_part, status_of, iosb_part, done_flag_part, done_ast_part, finish, with_stored_status, with_stored_bytes}
use Rattle.vx_record.specs.Channels.{channel_test, crembx, delmbx_at, free_channel}
use Rattle.vx_record.specs.Cancel.{mark_part, withdraw, cancelled_request, cancel_request, is_request_on, is_attention_on, drop_attention, cancel_channel, cancel_at, dassgn_at}
use Rattle.vx_record.specs.Requests.{request_test, unit_ending, with_unit}
use Rattle.vx_record.specs.Control.{process_test, changed_process, with_wake, with_suspension, forced, creprc, exit_ast}
use Rattle.vx_record.specs.Timers.{drop_timer, drop_timers, is_cancelled_timer, scheduled, is_wake_for, unscheduled, gettim}
use Rattle.vx_record.specs.Rundown.{leave_kind, leave_frame, leave_all, exited, without_frames, is_handler_of, drop_handlers, any_handler, cancel_found, cancel_handlers, named_for_deletion, deleted_by, cancel_one, free_one, is_timer_in, is_wake_by, cancel_modes, release, drop_all_handlers, is_busy, drain, cancelled_in, run_handlers, handling, run_down, inner_modes, rundown_from, drop_asts, handler_frame, in_phase, gone_part, part_with, leaving, keeps_busy}
use Rattle.vx_record.specs.Services.{number, place, access_mode, text, routine_or_none, decl_place, asked, valued_at, numbered_at, service_of, service, var_part, valued, routine}
use Rattle.vx_record.specs.Events.{r0_of, returned_from, returned, served_call, moved_behind, moved_to, run_on, run_advanced, reader, run_frame, run, started, don, step, resumed_with, uses_wake, with_r0, put_back, below_top, or_normal}
use Rattle.vx_record.specs.declared.served.Served.{Served}
use Rattle.vx_record.specs.declared.served.Served.TheVariants.{Answered, Waits}
use Rattle.vx_base.specs.Channels.{channels_of}
use Rattle.vx_record.proofs.Lists.{either, either_by, all_weaker, all_both, some_found, none_passes}
use Rattle.std.proofs.lemmas.Bool.{ltb-false}
use Rattle.vx_base.specs.Clusters.{dissociated, associated, marked, is_cluster, cluster_number}
use Rattle.vx_base.specs.declared.effects.Effect.TheVariants as effect
use Rattle.vx_base.specs.declared.effects.Opened.TheVariants as opened
use Rattle.vx_base.specs.declared.mode.Mode.TheVariants.{User}
use Rattle.vx_base.specs.Cond.{number_of}
use Rattle.std.specs.Prelude.{bytes_eq, unwrap_or, ⊤}
use Rattle.std.proofs.lemmas.Slice.Eq.{bytes_eq-Decides}
use Rattle.std.proofs.lemmas.List.Quantifiers.{position-Some}
use Rattle.vx_record.proofs.Moves.{IsDeclared, IsSilent, associates, dissociates, marks, HasRequest, none, both, quiet, moved, var, enb, newly, leave, flag, clusters, open_ast, open_force, que, end_asts, open_handler, end_handler, end_handlers, enter, unit, MovesBy, PartBy, OutcomeBy, PartMoves, Answers, IsTame, calm, drains, AreUnattended}
use Rattle.vx_record.proofs.Locals.{advanced_statuses}
use Rattle.vx_base.specs.declared.call.Target.TheVariants as target
use Rattle.vx_image.specs.WellFormed.{IsWellFormed}
use Rattle.vx_record.specs.Sound.{ground, IsRoutineOf, IsIdle as Idles, WaitStands}
use Rattle.vx_record.proofs.Changes.{with_suspension_quiet, with_variable_quiet, put_back_quiet, below_top_quiet, woken_quiet, leaving_going, idle_none, idle_of, firm_at}
use Rattle.vx_record.proofs.Called.{IsCalled, declared_routine, handler_routine, third_routine, fifth_routine, IsStopped, stopped_call, moved_stopped, advanced_stopped}
use Rattle.vx_record.proofs.Fits.{field_same, tested_fits}
use Rattle.vx_record.proofs.Freeing.{IsFreeing, IsReleased, freeing_first, freeing_row, freed_on, released_frames, phase_at}
use Rattle.vx_record.proofs.SoundCalls.{placed}
use Rattle.vx_record.proofs.SoundChannels.{named_stands}
use Rattle.vx_record.proofs.SoundFlags.{associated_stands, dissociated_stands, marked_stands}
use Rattle.vx_record.proofs.SoundRequests.{tested_channel}
use Rattle.vx_record.proofs.Base.{Base, moves_keep}
use Rattle.vx_record.proofs.Apart.{Here, here_after, part_then, based_then, outcome_either, each_free, tamely, at_flag_moves, waited, waits_moves, dissociated_only, associated_only, marked_at_only, finish_moves, requests_found, tested_cell, qio_moves, qiow_moves}
use Rattle.vx_record.proofs.Cancelled.{at_tested_moves, assign_to_moves, crembx_moves, delmbx_moves, free_channel_moves, cancel_channel_moves, cancel_channel_all, cancel_channel_attention, cancel_channel_clears, each_keeps, drop_timers_moves, setimr_moves, scheduled_moves, woken, tick_moves}
use Rattle.vx_base.specs.Handlers.{is_handler_with}

-- Leaving.

leave_kind_moves : {refs : Bool} (s : State) (k : FrameKind) → PartBy refs s (leave_kind s k)
leave_kind_moves s (kind.Ast id) = leave s None id tt
leave_kind_moves s k = none s None

left_kind : (s : State) (k : FrameKind) → (leave_kind s k).after ≡ s
left_kind s (kind.Ast id) = refl
left_kind s k = refl

pub left_after : (fs : List Frame) (s : State) → (leave_all fs s).after ≡ s
left_after [] s = refl
left_after (f ∷ fs) s = rw (left_kind s f.kind) (left_after fs s)

exited_moves : {refs : Bool} (s : State) (p : Pid) (code : ℕ) → PartBy refs s (exited s p code)
exited_moves s p code =
    let a = change s p (without_frames code) in
    let b = leave_all (process_at s p).frames a in
    both s a b.after None None None [] b.effects
    (quiet s None p (without_frames code) (record { decl = refl; enables = refl; asts = refl; channels = refl; handlers = refl; cluster_0 = refl; cluster_1 = refl; statuses = refl; tame = λ e h. calm (without_frames code) (record { going = leaving_going (process_at s p).phase (top_mode (process_at s p).frames); idle = λ i. idle_none (leaving (process_at s p).phase (top_mode (process_at s p).frames)); waits = λ w. tt }) }))
    (each_free leave_frame (λ t f. leave_kind_moves t f.kind) (process_at s p).frames a)

cancel_found_moves : {refs : Bool} (s : State) (p : Pid) (test : Handler → Bool) (o : Option Handler) → find test (process_at s p).handlers ≡ o → IsProcess s p → OutcomeBy refs s (cancel_found s p o)
cancel_found_moves s p test None e m = none s None
cancel_found_moves s p test (Some x) e m = end_handler s p test x m e

cancel_handlers_moves : {refs : Bool} (s : State) (p : Pid) (o : Option Entry) → IsProcess s p → OutcomeBy refs s (cancel_handlers s p o)
cancel_handlers_moves s p None m = end_handlers s p (is_handler_of (current s p)) m
cancel_handlers_moves s p (Some tag) m = cancel_found_moves s p (is_handler_with (current s p) tag) (find (is_handler_with (current s p) tag) (process_at s p).handlers) refl m

deleted_by_moves : {refs : Bool} (s : State) (q : Pid) → Here s q → OutcomeBy refs s (deleted_by s q)
deleted_by_moves {refs} s q h =
    let a = change s q named_for_deletion in
    let b = leave_all (process_at s q).frames a in
    let c = drop_handlers b.after q any_handler in
    let first : MovesBy refs s None b.effects b.after None = both s a b.after None None None [] b.effects
    (quiet s None q named_for_deletion (record { decl = refl; enables = refl; asts = refl; channels = refl; handlers = refl; cluster_0 = refl; cluster_1 = refl; statuses = refl; tame = λ e h. calm named_for_deletion (record { going = leaving_going (process_at s q).phase User; idle = λ i. idle_none (leaving (process_at s q).phase User); waits = λ w. tt }) }))
    (each_free leave_frame (λ t f. leave_kind_moves t f.kind) (process_at s q).frames a) in
    both s b.after c.after None None None b.effects c.effects first (end_handlers b.after q any_handler (here_after s q None b.effects b.after None first h).made)

-- Services.

-- the process that a test finds is there
pub test_made : (s : State) (p : Pid) (n : ℕ) (q : Pid) → process_test s p n ≡ Ok q → IsProcess s q
test_made s p n q e = grind arith

quiet_suspension : {refs : Bool} (s : State) (q : Pid) (on : Bool) → OutcomeBy refs s (changed_process s (with_suspension on) q)
quiet_suspension s q on = quiet s None q (with_suspension on) (record { decl = refl; enables = refl; asts = refl; channels = refl; handlers = refl; cluster_0 = refl; cluster_1 = refl; statuses = refl; tame = tamely s q (with_suspension on) (with_suspension_quiet on (process_at s q)) })

declared_moves : {refs : Bool} (s : State) (p : Pid) (mode : Mode) (tag : Entry) → IsProcess s p → exceeds s p (ast_need true) ≡ false → Answers refs s (IsRoutineOf (ground s) p tag) → PartBy refs s (declared_ast s p mode tag)
declared_moves s p mode tag m room ok =
    let q = charged_ast (next_id s) mode tag in
    both s (past_id s) _ None (Some (record { p = p; ast = q; stage = 3 })) None (effect.Open (next_id s) opened.Ast p (Some mode) 0 ∷ []) (effect.Que q.id ∷ []) (open_ast s p mode tag (record { made = m; room = room }) ok) (que (past_id s) p q 3 m)

forced_moves : {refs : Bool} (s : State) (code : ℕ) (p : Pid) → IsProcess s p → OutcomeBy refs s (forced s code p)
forced_moves s code p m =
    let q = exit_ast (next_id s) code in
    both s (past_id s) _ None (Some (record { p = p; ast = q; stage = 3 })) None (effect.Open (next_id s) opened.Force p (Some User) 0 ∷ []) (effect.Que q.id ∷ []) (open_force s p code m) (que (past_id s) p q 3 m)

valued_moves : {refs : Bool} (s : State) (p : Pid) (t : Target) (part : Part) (c : Cond) (n : ℕ) → PartBy refs s part → OutcomeBy refs s (valued p t part c n)
valued_moves s p t part c n k = both s part.after (var_part part.after p t n).after None None None part.effects (effect.Var p t n ∷ []) k (var part.after None p t n tt)

valued_at_moves : {refs : Bool} (s : State) (p : Pid) (t : Target) (part : Part) (r : Result (Cond × ℕ) Cond) → PartBy refs s part → OutcomeBy refs s (valued_at p t part r)
valued_at_moves s p t part (Ok read) k = valued_moves s p t part read.0 read.1 k
valued_at_moves s p t part (Err c) k = k

numbered_at_moves : {refs : Bool} (s : State) (p : Pid) (t : Target) (part : Part) (r : Result ℕ Cond) → PartBy refs s part → OutcomeBy refs s (numbered_at p t part r)
numbered_at_moves s p t part (Ok n) k = valued_moves s p t part Normal n k
numbered_at_moves s p t part (Err c) k = k

frame_quiet : {refs : Bool} (s : State) (p : Pid) (f : Frame) → IfSome f.wait WaitStands → (refs ≡ true → HasFrame s p) → PartBy refs s (nothing (change s p (with_frame f)))
frame_quiet s p f k has =
    let pr = process_at s p in
    quiet s None p (with_frame f)
    (record { decl = refl; enables = refl; asts = refl; channels = refl; handlers = refl; cluster_0 = refl; cluster_1 = refl; statuses = refl; tame = λ e h. calm (with_frame f) (record { going = λ n r. r; idle = λ i. idle_of pr.phase pr.frames (f ∷ pr.frames) (has e) i; waits = λ w. (k, w) }) })

-- the declaration that a name has is the first of its name

find_first : {A : Type 0} (q : A → Bool) (xs : List A) (i : ℕ) (d : A) → i < length xs → q (get_or xs i d) ≡ true → ((k : ℕ) → k < i → q (get_or xs k d) ≡ false) → find q xs ≡ Some (get_or xs i d)
find_first q [] i d within at before = absurd (omega arith)
find_first q (x ∷ xs) zero d within at before = rw at refl
find_first q (x ∷ xs) (suc i) d within at before = rw (before 0 (omega arith)) (find_first q xs i d (omega arith) at (λ k l. before (suc k) (omega arith)))

first_named : (ds : List ProcDecl) (name : List ℕ) (o : Option ℕ) → position (λ d. bytes_eq d.name name) ds ≡ o → 1 ≤ length ds → find (λ d. bytes_eq d.name (get_or ds (unwrap_or o 0) no_decl).name) ds ≡ Some (get_or ds (unwrap_or o 0) no_decl)
first_named [] name o is some = absurd (omega arith)
first_named (x ∷ xs) name None is some = rw ((bytes_eq-Decides x.name x.name).1 refl) refl
first_named (x ∷ xs) name (Some i) is some =
    let ds = x ∷ xs in
    let at = position-Some (λ (d : ProcDecl). bytes_eq d.name name) ds i no_decl is in
    let same : (get_or ds i no_decl).name ≡ name = (bytes_eq-Decides (get_or ds i no_decl).name name).0 at.1 in
    find_first (λ (d : ProcDecl). bytes_eq d.name (get_or ds i no_decl).name) ds i no_decl at.0 (rw same ((bytes_eq-Decides name name).1 refl)) (λ k l. rw same (at.2 k l))

declared_place : (s : State) (p : Pid) (name : List ℕ) → IsProcess s p → IsDeclared s p (decl_place s name)
declared_place s p name m = record { made = m; first = first_named s.system.decls name (position (λ d. bytes_eq d.name name) s.system.decls) refl }

service_of_moves : {refs : Bool} (s : State) (p : Pid) (a : Args) (v : Service) → Here s p → (refs ≡ true → IsCalled s p a v) → OutcomeBy refs s (service_of s p a v)
service_of_moves s p a SetEf h fits = at_flag_moves s p (number a.a0) (refused s) (put_flag_at s true) h.made (λ c. none s None) (λ c k. flag s None c true k tt tt)
service_of_moves s p a ClrEf h fits = at_flag_moves s p (number a.a0) (refused s) (put_flag_at s false) h.made (λ c. none s None) (λ c k. flag s None c false k tt tt)
service_of_moves s p a ReadEf h fits = grind (arith, valued_at_moves, at_flag_moves, none)
service_of_moves s p a WaitFr h fits = waits_moves s p (number a.a0) (wait.Flags (number a.a0) (2 ^ (number a.a0 % 32)) false) h.made (λ e. tt)
service_of_moves s p a WflOr h fits = waits_moves s p (number a.a0) (wait.Flags (number a.a0) (number a.a1) false) h.made (λ e. tt)
service_of_moves s p a WflAnd h fits = waits_moves s p (number a.a0) (wait.Flags (number a.a0) (number a.a1) true) h.made (λ e. tt)
service_of_moves s p a AscEfc h fits =
    outcome_either s (not (is_common (number a.a0))) _ _ (none s None) (outcome_either s (wants_prmceb s (process_at s p) (text a.a1) (number a.a2)) _ _ (none s None)
    (clusters s None (associated s.common p (cluster_number (number a.a0)) (process_at s p).group (text a.a1) (not (number a.a2 == 0))) (associated_only s.common p (cluster_number (number a.a0)) (process_at s p).group (text a.a1) (not (number a.a2 == 0))) tt
    (associates s.common p (cluster_number (number a.a0)) (process_at s p).group (text a.a1) (not (number a.a2 == 0)))
    (λ e i. associated_stands (length s.procs) s.common p (cluster_number (number a.a0)) (process_at s p).group (text a.a1) (not (number a.a2 == 0)) h.made i.associations)))
service_of_moves s p a DacEfc h fits = outcome_either s (not (is_common (number a.a0))) _ _ (none s None) (clusters s None (dissociated s.common p (cluster_number (number a.a0))) (dissociated_only s.common p (cluster_number (number a.a0))) tt (dissociates s.common p (cluster_number (number a.a0))) (λ e i. dissociated_stands (length s.procs) s.common p (cluster_number (number a.a0)) i.associations))
service_of_moves s p a DlcEfc h fits = outcome_either s (not (process_at s p).privs.prmceb) _ _ (none s None) (clusters s None (marked s.common (process_at s p).group (text a.a0)) (marked_at_only s.common (find (is_cluster (process_at s p).group (text a.a0)) s.common.clusters)) tt (marks s.common (process_at s p).group (text a.a0)) (λ e i. marked_stands (length s.procs) s.common (process_at s p).group (text a.a0) i.associations))
service_of_moves {refs} s p a DclAst h fits = either_by (λ (o : Outcome Cond). OutcomeBy refs s o) (exceeds s p (ast_need true)) _ _ (λ t. none s None) (λ f. declared_moves s p (outer (access_mode a.a2) (current s p)) (routine s p a.a0 (number a.a1)) h.made f (λ e i. declared_routine s p a (number a.a1) (fits e)))
service_of_moves s p a SetAst h fits = enb s None p (current s p) (not (number a.a0 == 0)) h.made tt
service_of_moves s p a CmExec h fits = outcome_either s (is_inside (current s p) || ((process_at s p).privs.cmexec || (process_at s p).privs.cmkrnl)) _ _ (frame_quiet s p _ tt (λ e. (fits e).frame)) (none s None)
service_of_moves s p a CmKrnl h fits = outcome_either s (is_inside (current s p) || (process_at s p).privs.cmkrnl) _ _ (frame_quiet s p _ tt (λ e. (fits e).frame)) (none s None)
service_of_moves s p a SetImr h fits = setimr_moves s p (number a.a0) (number a.a1) (routine_or_none s p a.a2 (number a.a3)) (number a.a3) h.made (λ e. third_routine s p a (number a.a3) (fits e).labels)
service_of_moves s p a CanTim h fits = drop_timers_moves s (is_cancelled_timer p (number a.a0) (outer (access_mode a.a1) (current s p))) h.base
service_of_moves s p a SchdWk h fits =
    at_tested_moves s (scheduled s p (number a.a1) (number a.a2)) (process_test s p (number a.a0)) (λ q e. scheduled_moves s p (number a.a1) (number a.a2) q h.made (test_made s p (number a.a0) q e))
service_of_moves s p a CanWak h fits = at_tested_moves s (unscheduled s) (process_test s p (number a.a0)) (λ q e. drop_timers_moves s (is_wake_for q) h.base)
service_of_moves s p a Hiber h fits = outcome_either s (process_at s p).wake_pending _ _ (quiet s None p (with_wake false) (woken s p false)) (quiet s None p (with_wait (Some wait.Hiber)) (waited s p (Some wait.Hiber) (λ e. tt)))
service_of_moves s p a Wake h fits = at_tested_moves s (changed_process s (with_wake true)) (process_test s p (number a.a0)) (λ q e. quiet s None q (with_wake true) (woken s q true))
service_of_moves s p a Suspnd h fits = at_tested_moves s (changed_process s (with_suspension true)) (process_test s p (number a.a0)) (λ q e. quiet_suspension s q true)
service_of_moves s p a Resume h fits = at_tested_moves s (changed_process s (with_suspension false)) (process_test s p (number a.a0)) (λ q e. quiet_suspension s q false)
service_of_moves s p a ForceX h fits = at_tested_moves s (forced s (number a.a1)) (process_test s p (number a.a0)) (λ q e. forced_moves s (number a.a1) q (test_made s p (number a.a0) q e))
service_of_moves s p a CrePrc h fits =
    let o = creprc s p (decl_place s (text a.a1)) in
    numbered_at_moves s p (place a.a0) (part_of o) o.answer (outcome_either s (nat_le 1000 (length s.procs)) _ _ (none s None) (newly s None p (decl_place s (text a.a1)) (tt, declared_place s p (text a.a1) h.made) (λ e i. placed (λ (d : ProcDecl). bytes_eq d.name (text a.a1)) s.system.decls (omega (arith, (firm_at s p i h.made).decl)))))
service_of_moves s p a DelPrc h fits = at_tested_moves s (deleted_by s) (process_test s p (number a.a0)) (λ q e. deleted_by_moves s q (record { base = h.base; made = test_made s p (number a.a0) q e }))
service_of_moves s p a Exit h fits = exited_moves s p (number a.a0)
service_of_moves s p a DclExh h fits = outcome_either s (is_kernel (current s p)) _ _ (none s None) (open_handler s p (routine s p a.a0 0) h.made (λ e i. handler_routine s p a (fits e)))
service_of_moves s p a CanExh h fits = outcome_either s (is_kernel (current s p)) _ _ (none s None) (cancel_handlers_moves s p (routine_or_none s p a.a0 0) h.made)
service_of_moves s p a Assign h fits = grind (arith, numbered_at_moves, assign_to_moves, named_stands)
service_of_moves {refs} s p a Dassgn h fits =
    let n = number a.a0 in
    let one = cancel_channel s p n in
    let first : PartBy refs s one = cancel_channel_moves s p n h.base in
    at_tested_moves s (dassgn_at s p n) (channel_test s p n)
    (λ ch e. based_then s one (λ b. free_channel b p n) h.base first
    (λ k. free_channel_moves one.after p n (λ refers i. ((here_after s p None one.effects one.after None first h).made, ((tested_channel s p n ch e).0, cancel_channel_clears s p n h.base i)))))
service_of_moves s p a CreMbx h fits =
    let o = crembx s p (text a.a1) (number a.a2) (number a.a3) (number a.a4) (access_mode a.a5) in
    numbered_at_moves s p (place a.a0) (part_of o) o.answer (crembx_moves s p (text a.a1) (number a.a2) (number a.a3) (number a.a4) (access_mode a.a5))
service_of_moves s p a DelMbx h fits = at_tested_moves s (delmbx_at s p) (channel_test s p (number a.a0)) (λ ch e. delmbx_moves s p ch.device)
service_of_moves s p a Qio h fits = qio_moves s p (asked s p a) (request_test s p (asked s p a)) (tested_cell s p (asked s p a) h.made) (λ to e y. tested_fits s p (asked s p a) to e (fits y).frame (fifth_routine s p a (number a.a5) (fits y).labels)) h
service_of_moves s p a QioW h fits = qiow_moves s p (asked s p a) (request_test s p (asked s p a)) (tested_cell s p (asked s p a) h.made) (λ to e y. tested_fits s p (asked s p a) to e (fits y).frame (fifth_routine s p a (number a.a5) (fits y).labels)) h
service_of_moves {refs} s p a Synch h fits = either_by (λ (o : Outcome Served). OutcomeBy refs s o) (nat_lt 32 (number a.a1)) _ _ (λ f. none s None) (λ f. waits_moves s p (number a.a0) (wait.Synch (number a.a0) (number a.a1)) h.made (λ e. ltb-false 32 (number a.a1) f))
service_of_moves s p a Cancel h fits = at_tested_moves s (cancel_at s p (number a.a0)) (channel_test s p (number a.a0)) (λ ch e. cancel_channel_moves s p (number a.a0) h.base)
service_of_moves s p a GetTim h fits = valued_moves s p (place a.a0) (nothing s) Normal (gettim s) (none s None)

pub service_moves : {refs : Bool} (s : State) (p : Pid) (c : Call) → Here s p → (refs ≡ true → IsCalled s p c.args c.service) → OutcomeBy refs s (service s p c)
service_moves s p c h fits = service_of_moves s p c.args c.service h fits

-- The frames and the channels of processes stay while requests end.

abbrev kept_words : Process → List Frame × List (Option Channel)
kept_words pr = (pr.frames, pr.channels)

-- of each process
abbrev AreKept : State → State → Type 0
AreKept s t = (q : Pid) → kept_words (process_at t q) ≡ kept_words (process_at s q)

cell_kept : (s : State) (o : Option Cell) (on : Bool) → AreKept s (flag_where_named s o on).after
cell_kept s None on q = refl
cell_kept s (Some (Local p n)) on q = field_same kept_words (with_local_flag n on) s p q (either (λ (x : Process). kept_words x ≡ kept_words (process_at s p)) (nat_lt n 32) _ _ refl refl)
cell_kept s (Some (Common g n k)) on q = refl

ast_kept : (s : State) (r : Req) (o : Option Promised) → AreKept s (done_ast_part s r o).after
ast_kept s r None q = refl
ast_kept s r (Some ast) q = field_same kept_words (with_queued (charged_ast r.id ast.mode ast.tag)) s r.p q refl

finish_kept : (s : State) (r : Request) (e : Ending) → AreKept s (finish s r e).after
finish_kept s r e q =
    let a = (fin_part s r.req.id e.0.cond).after in
    let b = (buf_part a r.req e).after in
    let c = (iosb_part b r.req.p r.req.iosb (status_of e)).after in
    let d = (done_flag_part c r.req).after in
    let P = λ (y : State) (x : Part). kept_words (process_at x.after q) ≡ kept_words (process_at y q) in
    ast_kept d r.req r.ast q
    ∙ (cell_kept c (cell c r.req.p r.req.efn) true q
    ∙ (either (P b) (not (r.req.iosb == 0)) _ (nothing b) (field_same kept_words (with_stored_status r.req.iosb (status_of e)) b r.req.p q refl) refl
    ∙ either (P a) (is_read r.req.func && nat_lt 0 e.0.count) _ (nothing a) (field_same kept_words (with_stored_bytes r.req.buf e.0.bytes) a r.req.p q refl) refl))

cancel_request_kept : (s : State) (r : Request) → AreKept s (cancel_request s r).after
cancel_request_kept s r q =
    let P = λ (x : Part). kept_words (process_at x.after q) ≡ kept_words (process_at s q) in
    let w = (withdraw s r r.req.device).after in
    let same : w.procs ≡ s.procs = grind arith in
    either P r.served _ (cancelled_request s r) (either P (not r.marked) (mark_part s r) (nothing s) refl refl) (finish_kept w r (ending Cancelled 0 0 []) q ∙ procs_kept s w same q)
  where
    procs_kept : (s t : State) → t.procs ≡ s.procs → AreKept s t
    procs_kept s t e q = rw e refl

cancel_one_kept : (p : Pid) (s : State) (n : ℕ) → AreKept s (cancel_one p s n).after
cancel_one_kept p s n q =
    let K = λ (x : State). kept_words (process_at x q) ≡ kept_words (process_at s q) in
    let a = (each cancel_request (filter (is_request_on p n) s.requests) s).after in
    each_keeps K drop_attention (λ x y h. h) (filter (is_attention_on p n) a.attention) a (each_keeps K cancel_request (λ x y h. cancel_request_kept x y q ∙ h) (filter (is_request_on p n) s.requests) s refl)

cancel_modes_kept : (s : State) (p : Pid) (m : Mode) → AreKept s (cancel_modes s p m).after
cancel_modes_kept s p m q =
    let ns = channels_of m (process_at s p).channels in
    let a = (each (cancel_one p) ns s).after in
    let b = (drop_timers (is_timer_in p m) a).after in
    let K = λ (x : State). kept_words (process_at x q) ≡ kept_words (process_at s q) in
    each_keeps K drop_timer (λ x y h. h) (filter (is_wake_by p) b.timers) b (each_keeps K drop_timer (λ x y h. h) (filter (is_timer_in p m) a.timers) a (each_keeps K (cancel_one p) (λ x y h. cancel_one_kept p x y q ∙ h) ns s refl))

-- What is attended no more.

pub each_cancel_one_clear : (p : Pid) (s : State) (ns : List ℕ) → Base s → AreUnattended (each (cancel_one p) ns s).after p ns
each_cancel_one_clear p s [] h = all_weaker (λ a. IsProcess s a.p) (λ a. list_any (λ n. is_attention_on p n a) [] ≡ false) (λ a k. refl) s.attention h.attention_owners
each_cancel_one_clear p s (n ∷ ns) h =
    let a = (cancel_channel s p n).after in
    let one : PartMoves s (cancel_channel s p n) = cancel_channel_moves s p n h in
    let t = (each (cancel_one p) ns a).after in
    all_weaker (λ x. (is_attention_on p n x ≡ false) × (list_any (λ n. is_attention_on p n x) ns ≡ false)) (λ x. list_any (λ n. is_attention_on p n x) (n ∷ ns) ≡ false) (λ x e. rw (e.0, e.1) refl) t.attention
    (all_both (λ x. is_attention_on p n x ≡ false) (λ x. list_any (λ n. is_attention_on p n x) ns ≡ false) t.attention
    (each_keeps (λ x. AllByRecursion (λ y. is_attention_on p n y ≡ false) x.attention) (cancel_one p) (λ x i. cancel_channel_all (λ y. is_attention_on p n y ≡ false) x p i) ns a (cancel_channel_attention s p n h)) (each_cancel_one_clear p a ns (moves_keep s None _ a None one h).base))

cancel_modes_unattended : (s : State) (p : Pid) (m : Mode) → Base s → AreUnattended (cancel_modes s p m).after p (channels_of m (process_at (cancel_modes s p m).after p).channels)
cancel_modes_unattended s p m h =
    let ns = channels_of m (process_at s p).channels in
    let a = (each (cancel_one p) ns s).after in
    let b = (drop_timers (is_timer_in p m) a).after in
    let same : (process_at (cancel_modes s p m).after p).channels ≡ (process_at s p).channels = ap (λ (x : List Frame × List (Option Channel)). x.1) (cancel_modes_kept s p m p) in
    let K = λ (x : State). AreUnattended x p ns in
    rw same (each_keeps K drop_timer (λ x y k. k) (filter (is_wake_by p) b.timers) b (each_keeps K drop_timer (λ x y k. k) (filter (is_timer_in p m) a.timers) a (each_cancel_one_clear p s ns h)))

outcome_here : {refs : Bool} {A : Type 0} (s : State) (p : Pid) (a : Part) (f : State → Outcome A) → Here s p → PartBy refs s a → (Here a.after p → OutcomeBy refs a.after (f a.after)) → OutcomeBy refs s (followed_by a f)
outcome_here s p a f h k g = both s a.after (f a.after).after None None None a.effects (f a.after).effects k (g (here_after s p None a.effects a.after None k h))

pub phase_silent : {refs : Bool} (s : State) (p : Pid) (ph : Phase) → Answers refs s (IsTame s p (in_phase ph)) → IsSilent refs s p (in_phase ph)
phase_silent s p ph k = record { decl = refl; enables = refl; asts = refl; channels = refl; handlers = refl; cluster_0 = refl; cluster_1 = refl; statuses = refl; tame = k }

pub handling_silent : {refs : Bool} (s : State) (p : Pid) (m : Mode) → IsSilent refs s p (in_phase (phase.Handlers m))
handling_silent s p m = phase_silent s p (phase.Handlers m) (λ e h. calm (in_phase (phase.Handlers m)) (record { going = λ n r. refl; idle = λ i. tt; waits = λ w. w }))

-- The channels of a mode that is drained are freed: nothing hangs on them.

each_free_moves : {refs : Bool} (p : Pid) (m : Mode) (ns : List ℕ) (s : State) → (refs ≡ true → IsFreeing s p m ns) → PartBy refs s (each (free_one p) ns s)
each_free_moves p m [] s f = none s None
each_free_moves p m (n ∷ ns) s f =
    let a = free_channel s p n in
    both s a.after (each (free_one p) ns a.after).after None None None a.effects (each (free_one p) ns a.after).effects (free_channel_moves s p n (λ e h. freeing_row s p m n ns (f e) h)) (each_free_moves p m ns a.after (λ e. freed_on s p m n ns (f e)))

part_with_moves : {refs : Bool} (s : State) (p : Pid) (n : ℕ) → PartBy refs s (part_with p n s)
part_with_moves s p n = clusters s None (dissociated s.common p n) (dissociated_only s.common p n) tt (dissociates s.common p n) (λ e i. dissociated_stands (length s.procs) s.common p n i.associations)

pub release_moves : {refs : Bool} (s : State) (p : Pid) (m : Mode) → Here s p → (refs ≡ true → IsReleased s p m) → PartBy refs s (release s p m)
release_moves {refs} s p m h drained =
    let ns = channels_of m (process_at s p).channels in
    let one = each (free_one p) ns s in
    let two = and_then one (drop_asts p m) in
    let three = and_then two (part_with p 2) in
    let first : PartBy refs s one = each_free_moves p m ns s (λ e. freeing_first s p m h.made (drained e)) in
    let second : PartBy refs s two = part_then s p None None None one (drop_asts p m) h first (λ k. end_asts one.after p m k.made) in
    let third : PartBy refs s three = part_then s p None None None two (part_with p 2) h second (λ k. part_with_moves two.after p 2) in
    part_then s p None None None three (part_with p 3) h third (λ k. part_with_moves three.after p 3)

each_cancel_moves : {refs : Bool} (p : Pid) (ns : List ℕ) (s : State) → Base s → PartBy refs s (each (cancel_one p) ns s)
each_cancel_moves p [] s h = none s None
each_cancel_moves p (n ∷ ns) s h = based_then s (cancel_one p s n) (each (cancel_one p) ns) h (cancel_channel_moves s p n h) (λ k. each_cancel_moves p ns (cancel_one p s n).after k)

cancel_modes_moves : {refs : Bool} (s : State) (p : Pid) (m : Mode) → Base s → PartBy refs s (cancel_modes s p m)
cancel_modes_moves s p m h =
    let ns = channels_of m (process_at s p).channels in
    let one = each (cancel_one p) ns s in
    let two = and_then one (drop_timers (is_timer_in p m)) in
    based_then s two (drop_timers (is_wake_by p)) h
    (based_then s one (drop_timers (is_timer_in p m)) h (each_cancel_moves p ns s h) (λ k. drop_timers_moves one.after (is_timer_in p m) k))
    (λ k. drop_timers_moves two.after (is_wake_by p) k)

-- a process that is there has no frame
pub record IsDown (s : State) (p : Pid) : Type 0 where
  pub made : IsProcess s p
  pub none : (process_at s p).frames ≡ []

cancelled_down : (s : State) (p : Pid) (m : Mode) → Base s → IsDown s p → IsDown (cancel_modes s p m).after p
cancelled_down s p m h d =
    let one : PartMoves s (cancel_modes s p m) = cancel_modes_moves s p m h in
    record { made = (here_after s p None _ (cancel_modes s p m).after None one (record { base = h; made = d.made })).made; none = rw (ap (λ (x : List Frame × List (Option Channel)). x.0) (cancel_modes_kept s p m p)) d.none }

pub cancelled_in_moves : {refs : Bool} (s : State) (p : Pid) (m : Mode) → Base s → (refs ≡ true → IsDown s p) → PartBy refs s (cancelled_in s p m)
cancelled_in_moves s p m h d =
    let a = (cancel_modes s p m).after in
    based_then s (cancel_modes s p m) (λ a. nothing (change a p (in_phase (phase.Draining m)))) h (cancel_modes_moves s p m h)
    (λ k. quiet a None p (in_phase (phase.Draining m)) (phase_silent a p (phase.Draining m) (λ e i. let down : IsDown a p = cancelled_down s p m h (d e) in drains m down.made down.none (cancel_modes_unattended s p m h))))

drain_moves : {refs : Bool} (s : State) (p : Pid) (m : Mode) (next : State → Outcome Answer) → Here s p → (refs ≡ true → ((process_at s p).phase ≡ phase.Draining m) × ((process_at s p).frames ≡ [])) → ((t : State) → Here t p → (refs ≡ true → (process_at t p).frames ≡ []) → OutcomeBy refs t (next t)) → OutcomeBy refs s (drain p m next s)
drain_moves {refs} s p m next h d k =
    either_by (λ (o : Outcome Answer). OutcomeBy refs s o) (is_busy s p m) _ _ (λ busy. none s None)
    (λ free. outcome_here s p (release s p m) next h (release_moves s p m h (λ e. record { phase = (d e).0; idle = none_passes (keeps_busy p m) s.requests free }))
    (λ j. k (release s p m).after j (λ e. released_frames s p m (d e).1)))

run_handlers_moves : {refs : Bool} (s : State) (p : Pid) (m : Mode) (next : State → Outcome Answer) (test : Handler → Bool) (o : Option Handler) → find test (process_at s p).handlers ≡ o → Here s p → (process_at s p).phase ≡ phase.Handlers m → (refs ≡ true → (process_at s p).frames ≡ []) → ((t : State) → Here t p → (refs ≡ true → (process_at t p).frames ≡ []) → OutcomeBy refs t (next t)) → OutcomeBy refs s (run_handlers s p m next o)
run_handlers_moves s p m next test None e h at d k =
    let a = (cancel_modes s p m).after in
    outcome_here s p (cancelled_in s p m) (drain p m next) h (cancelled_in_moves s p m h.base (λ y. record { made = h.made; none = d y }))
    (λ j. drain_moves (cancelled_in s p m).after p m next j
    (λ y.
    let down : IsDown a p = cancelled_down s p m h.base (record { made = h.made; none = d y }) in
    (phase_at a p (phase.Draining m) down.made, field_same (λ (pr : Process). pr.frames) (in_phase (phase.Draining m)) a p p refl ∙ down.none)) k)
run_handlers_moves s p m next test (Some d) e h at down k =
    let frame = handler_frame s p d in
    enter s p frame test d h.made e (λ y i. (subst (λ (ph : Phase). Idles ph (frame ∷ (process_at s p).frames)) (sym at) tt, tt))

run_down_moves : {refs : Bool} (ms : List Mode) (p : Pid) (s : State) → Here s p → (refs ≡ true → (process_at s p).frames ≡ []) → OutcomeBy refs s (run_down p ms s)
run_down_moves [] p s h d =
    let one = drop_all_handlers p s in
    let two = and_then one (drop_timers (is_wake_for p)) in
    based_then s two (gone_part p) h.base
    (based_then s one (drop_timers (is_wake_for p)) h.base (end_handlers s p any_handler h.made) (λ k. drop_timers_moves one.after (is_wake_for p) k))
    (λ k. Rattle.vx_record.proofs.Moves.gone two.after None p tt)
run_down_moves {refs} (m ∷ ms) p s h d =
    let a = handling p m s in
    let f = in_phase (phase.Handlers m) in
    let o = find (is_handler_of m) (process_at s p).handlers in
    let same : find (is_handler_of m) (process_at a p).handlers ≡ o = ap (find (is_handler_of m)) (field_same (λ (pr : Process). pr.handlers) f s p p refl) in
    let first : MovesBy refs s None [] a None = quiet s None p f (handling_silent s p m) in
    let k = here_after s p None [] a None first h in
    let two = run_handlers a p m (run_down p ms) o in
    both s a two.after None None None [] two.effects first
    (run_handlers_moves a p m (run_down p ms) (is_handler_of m) o same k (phase_at s p (phase.Handlers m) h.made) (λ e. field_same (λ (pr : Process). pr.frames) f s p p refl ∙ d e) (λ t j n. run_down_moves ms p t j n))

rundown_moves : {refs : Bool} (s : State) (p : Pid) (ph : Phase) → (process_at s p).phase ≡ ph → Here s p → (refs ≡ true → (process_at s p).frames ≡ []) → OutcomeBy refs s (rundown_from p ph s)
rundown_moves s p (phase.Handlers m) at h d = run_down_moves (m ∷ inner_modes m) p s h d
rundown_moves s p (phase.Draining m) at h d = drain_moves s p m (run_down p (inner_modes m)) h (λ e. (at, d e)) (λ t k n. run_down_moves (inner_modes m) p t k n)
rundown_moves s p ph at h d = none s None

-- Steps.

served_call_moves : {refs : Bool} (s : State) (p : Pid) (c : Call) (o : Outcome Served) (answer : Served) → OutcomeBy refs s o → OutcomeBy refs s (served_call p c o answer)
served_call_moves s p c o (Answered x) k =
    rw (← append-nil o.effects)
    (both s o.after (change o.after p (with_r0 (number_of x))) None None None o.effects [] k
    (quiet o.after None p (with_r0 (number_of x)) (record { decl = refl; enables = refl; asts = refl; channels = refl; handlers = refl; cluster_0 = refl; cluster_1 = refl; statuses = refl; tame = tamely o.after p (with_r0 (number_of x)) (with_variable_quiet target.R0 (number_of x) (process_at o.after p)) })))
served_call_moves s p c o Waits k = k

returned_from_moves : {refs : Bool} (s : State) (p : Pid) (f : Frame) (k : FrameKind) → OutcomeBy refs s (returned_from s p f k)
returned_from_moves s p f kind.Main = exited_moves s p (r0_of s p)
returned_from_moves s p f (kind.Ast id) =
    let a = change s p (put_back f.saved_r0) in
    both s a a None None None [] (effect.Leave id ∷ []) (quiet s None p (put_back f.saved_r0) (record { decl = refl; enables = refl; asts = refl; channels = refl; handlers = refl; cluster_0 = refl; cluster_1 = refl; statuses = refl; tame = tamely s p (put_back f.saved_r0) (put_back_quiet f.saved_r0 (process_at s p)) })) (leave a None id tt)
returned_from_moves s p f k = quiet s None p below_top (record { decl = refl; enables = refl; asts = refl; channels = refl; handlers = refl; cluster_0 = refl; cluster_1 = refl; statuses = refl; tame = tamely s p below_top (below_top_quiet (process_at s p)) })

pub returned_moves : {refs : Bool} (s : State) (p : Pid) (frames : List Frame) → OutcomeBy refs s (returned s p frames)
returned_moves s p [] = none s None
returned_moves s p (f ∷ fs) = returned_from_moves s p f f.kind

run_on_moves : {refs : Bool} (s : State) (p : Pid) (place : ℕ) (x : Stop) → Here s p → (refs ≡ true → IsStopped s p x) → OutcomeBy refs s (run_on s p place x)
run_on_moves {refs} s p place (stop.Call c) h fits =
    let t = change s p (moved_behind place) in
    let o = service t p c in
    let first : MovesBy refs s None [] t None = moved s None p (process_at s p).store (place + 1) refl in
    let k = here_after s p None [] t None first h in
    let two = served_call p c o o.answer in
    both s t two.after None None None [] two.effects first (served_call_moves t p c o o.answer (service_moves t p c k (λ e. stopped_call s p place c (fits e))))
run_on_moves s p place stop.Local h fits = none s None
run_on_moves s p place x h fits = returned_moves s p (process_at s p).frames

run_advanced_moves : {refs : Bool} (s : State) (p : Pid) (a : Advanced) → a.store.statuses ≡ (process_at s p).store.statuses → Here s p → (refs ≡ true → IsStopped s p a.stop) → OutcomeBy refs s (run_advanced s p a)
run_advanced_moves {refs} s p a same h fits =
    let t = change s p (moved_to a.store a.place) in
    let first : MovesBy refs s None [] t None = moved s None p a.store a.place same in
    let two = run_on t p a.place a.stop in
    both s t two.after None None None [] two.effects first (run_on_moves t p a.place a.stop (here_after s p None [] t None first h) (λ e. moved_stopped s p a.store a.place a.stop (fits e)))

uses_silent : {refs : Bool} (w : Wait) (n : ℕ) (s : State) (p : Pid) → IsSilent refs s p (λ pr. with_r0 n (uses_wake w (with_wait None pr)))
uses_silent wait.Hiber n s p = record { decl = refl; enables = refl; asts = refl; channels = refl; handlers = refl; cluster_0 = refl; cluster_1 = refl; statuses = refl; tame = tamely s p _ (woken_quiet wait.Hiber n (process_at s p)) }
uses_silent w n s p = record { decl = refl; enables = refl; asts = refl; channels = refl; handlers = refl; cluster_0 = refl; cluster_1 = refl; statuses = refl; tame = tamely s p _ (woken_quiet w n (process_at s p)) }

run_frame_moves : {refs : Bool} (s : State) (p : Pid) (f : Frame) (o : Option Wait) → Here s p → (refs ≡ true → IsWellFormed s.system × HasFrame s p) → OutcomeBy refs s (run_frame s p f o)
run_frame_moves s p f None h fits = run_advanced_moves s p (advanced (image_of s p) (reader p f) (process_at s p).store f.pc) (advanced_statuses (image_of s p) (reader p f) (process_at s p).store f.pc) h (λ e. advanced_stopped s p f (fits e).0 (fits e).1)
run_frame_moves s p f (Some w) h fits = quiet s None p (resumed_with w (or_normal (wait_condition s p w))) (uses_silent w (number_of (or_normal (wait_condition s p w))) s p)

run_moves : {refs : Bool} (s : State) (p : Pid) (frames : List Frame) → (process_at s p).frames ≡ frames → Here s p → (refs ≡ true → IsWellFormed s.system) → OutcomeBy refs s (run s p frames)
run_moves s p [] at h formed = none s None
run_moves s p (f ∷ fs) at h formed = run_frame_moves s p f f.wait h (λ e. (formed e, rw at (omega arith)))

pub started_moves : {refs : Bool} (s : State) (p : Pid) (q : Queued) (tag : Entry) → (refs ≡ true → HasFrame s p) → PartBy refs s (started s p q tag)
started_moves s p q (entry.Exit code) has =
    let b = exited s p code in
    both s s b.after None None None (effect.Leave q.id ∷ []) b.effects (leave s None q.id tt) (exited_moves s p code)
started_moves s p q tag has = frame_quiet s p _ tt has

don_moves : {refs : Bool} (s : State) (u : UnitNo) (o : Option Request) → IfSome o (HasRequest s) → Base s → OutcomeBy refs s (don s u o)
don_moves s u None k h = none s None
don_moves {refs} s u (Some r) k h =
    let x = settled (unit_at s u) r.req in
    let a = with_unit s u x in
    let e = unit_ending r (serve (unit_at s u) r.req).reply in
    let first : MovesBy refs s None [] a None = unit s None u x in
    let b = finish a r e in
    both s a b.after None None None [] b.effects first (finish_moves a r e k (moves_keep s None [] a None first h).base)

-- An event whose head changes an id, and all others.
abbrev pub is_headed : Event → Bool
is_headed (event.Beg u) = true
is_headed (event.Ast p) = true
is_headed e = false

-- the process of an event is there
abbrev pub IsThere : State → Event → Type 0
IsThere s (event.Run p) = IsProcess s p
IsThere s (event.Ast p) = IsProcess s p
IsThere s (event.Rdn p) = IsProcess s p
IsThere s e = Unit {0}

-- what references ask of an event: it is of a well formed system; a process that is run down has no frame
abbrev pub IsReady : State → Event → Type 0
IsReady s (event.Run p) = IsWellFormed s.system
IsReady s (event.Rdn p) = (process_at s p).frames ≡ []
IsReady s e = ⊤

-- each other event is moves
pub step_moves : {refs : Bool} (s : State) (e : Event) → is_headed e ≡ false → IsThere s e → Base s → (refs ≡ true → IsReady s e) → OutcomeBy refs s (step s e)
step_moves s (event.Run p) other m h ready = run_moves s p (process_at s p).frames refl (record { base = h; made = m }) ready
step_moves s (event.Rdn p) other m h ready = rundown_moves s p (process_at s p).phase refl (record { base = h; made = m }) ready
step_moves s (event.Don u) other m h ready = don_moves s u (in_service u s.requests) (some_found (HasRequest s) (is_served_by u) s.requests (requests_found s h)) h
step_moves s event.Tick other m h ready = tick_moves s h
step_moves s e other m h ready = absurd (let yes : true ≡ false = other in cc)
