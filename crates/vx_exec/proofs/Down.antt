-- What a step of rundown does to the state: no id is opened; in each mode it cancels at most the requests there are, drops the timers,
-- wakes, attention entries and queued ASTs, frees the channels, and dissociates two clusters, which may go; a handler that is entered
-- ends it, or else at last the handlers and the wakes for the process are dropped.
use Rattle.std.proofs.Common.{◌≡◌, ℕ, ◌+◌, ◌≤◌, List, ◌∷◌, length, Option, Some, None, ◌*◌, arith, [], sym, subst, suc}
use Rattle.std.specs.List.{filter, find}
use Rattle.std.proofs.Math.Nat.{mul-le-mul_left, suc-mul}
use Rattle.vx_record.specs.Types.{Answer, Channel, Handler, Mode, Phase, Pid, Queued}
use Rattle.vx_base.specs.Channels.{channels_of, reached_from}
use Rattle.vx_base.specs.declared.frame.Phase.TheVariants as phase
use Rattle.vx_record.specs.State.{State, IsProcess, process_at}
use Rattle.vx_record.specs.Parts.{Outcome, part_of, each}
use Rattle.vx_record.specs.Rundown.{drop_handlers, is_handler_of, cancel_one, any_handler, without_ast, cancelled_in, drop_ast, drop_asts, entering, free_one, gone, handler_frame, handling, in_phase, inner_modes, is_ast_reached, is_busy, is_timer_in, release, rundown, rundown_from, run_down, is_wake_by}
use Rattle.vx_record.specs.Timers.{drop_timers, is_wake_for}
use Rattle.vx_record.proofs.Lists.{either}
use Rattle.vx_clusters.proofs.Few.{dissociate_few}
use Rattle.vx_procs.specs.Cells.{dissociation_part}
use Rattle.vx_procs.proofs.Firsts.{less_few}
use Rattle.vx_rundown.specs.Steps.{drained, passed, passed_by, then_by, then_on}
use Rattle.vx_rundown.proofs.Freed.{free_all}
use Rattle.vx_rundown.proofs.Modes.{drain_is, mode_is}
use Rattle.vx_exec.proofs.Goes.{Goes, Stays, filter_few}
use Rattle.vx_exec.proofs.Ends.{Ends, Falls, changed_falls, each_falls, ends_goes, ends_more, ends_then, falls_more, falls_then, handlers_fall, still_falls, timers_fall}
use Rattle.vx_exec.proofs.Cancels.{free_falls, mode_falls}

-- how much a mode tells at most: of the requests that are outstanding six for each as it is cancelled, and the AST that it queues then;
-- of the ASTs queued for a process, the timers and wakes, attention entries and channels there are; and two clusters
abbrev pub load : State → Pid → ℕ
load s p = length (process_at s p).asts + 7 * length s.requests + 2 * length s.timers + length s.attention + length (process_at s p).channels + 4

-- all of a mode

reached_few : (m : Mode) (j : ℕ) (rows : List (Option Channel)) → length (reached_from j m rows) ≤ length rows
reached_few m j [] = omega arith
reached_few m j (row ∷ rows) = let rest = reached_few m (j + 1) rows in grind arith

asts_fall : (p : Pid) (m : Mode) (s : State) → Falls p 0 (length (process_at s p).asts) s (drop_asts p m s)
asts_fall p m s = each_falls p 0 1 (drop_ast p) drop_falls (filter (is_ast_reached m) (process_at s p).asts) s (omega arith) (omega (arith, filter_few (is_ast_reached m) (process_at s p).asts))
  where
    drop_falls : (s : State) (q : Queued) → Falls p 0 1 s (drop_ast p s q)
    drop_falls s q = changed_falls p p 0 s (without_ast q.id) _ (grind (arith, less_few {A = Queued}))

-- a cluster is dissociated, and may go
parted_falls : (p : Pid) (efn : ℕ) (s : State) → Falls p 0 2 s (dissociation_part s p efn)
parted_falls p efn s = let few = dissociate_few s.common p efn in grind arith

released_fall : (p : Pid) (m : Mode) (s : State) → Falls p 0 (length (process_at s p).channels + length (process_at s p).asts + 4) s (release s p m)
released_fall p m s =
    let i = length (process_at s p).channels in
    let t = (free_all p m s).after in
    let one : Falls p 0 i s (free_all p m s) = each_falls p 0 1 (free_one p) (free_falls p) (channels_of m (process_at s p).channels) s (omega arith) (omega (arith, reached_few m 1 (process_at s p).channels)) in
    let n = length (process_at t p).asts in
    let two = falls_then 0 0 (i + n) 2 (falls_then 0 0 i n one (asts_fall p m t)) (parted_falls p 64 _) in
    falls_more 0 0 (i + n + 2 + 2) _ (omega arith) (omega (arith, one.alike.asts)) (falls_then 0 0 (i + n + 2) 2 two (parted_falls p 96 _))

-- the channels of a mode, and then its timers, and the wakes that the process scheduled
cancelled_falls : (p : Pid) (m : Mode) (s : State) → Falls p (length s.requests) (6 * length s.requests + length s.attention + 2 * length s.timers) s (cancelled_in s p m)
cancelled_falls p m s =
    let t = (each (cancel_one p) (channels_of m (process_at s p).channels) s).after in
    let one = mode_falls p m s in
    let two = timers_fall p (is_timer_in p m) t in
    let three = falls_then _ _ _ _ (falls_then _ _ _ _ one two) (timers_fall p (is_wake_by p) (drop_timers (is_timer_in p m) t).after) in
    falls_more _ _ _ _ (omega arith) (omega (arith, one.timers, two.timers)) (falls_then _ _ _ _ three (changed_falls p p 0 _ (in_phase (phase.Draining m)) [] (grind arith)))

drained_falls : (p : Pid) (m : Mode) (s : State) → Falls p 0 (length (process_at s p).channels + length (process_at s p).asts + 4) s (part_of (drained p m s))
drained_falls p m s =
    let n = length (process_at s p).channels + length (process_at s p).asts + 4 in
    either (λ (o : Outcome (Option Answer)). Falls p 0 n s (part_of o)) (is_busy s p m) _ _ (still_falls p 0 n s) (released_fall p m s)

-- a mode is passed
passed_falls : (p : Pid) (m : Mode) (s : State) → Falls p (length s.requests) (load s p) s (part_of (passed p m s))
passed_falls p m s = by (find (is_handler_of m) (process_at (handling p m s) p).handlers)
  where
    by : (o : Option Handler) → Falls p (length s.requests) (load s p) s (part_of (passed_by p m o (handling p m s)))
    by None =
        let t = handling p m s in
        let first = changed_falls p p 0 s (in_phase (phase.Handlers m)) [] (grind arith) in
        let two : Falls p (length s.requests) (6 * length s.requests + length s.attention + 2 * length s.timers) s (cancelled_in t p m) = falls_more _ _ _ _ (omega arith) (omega arith) (falls_then _ _ _ _ first (cancelled_falls p m t)) in
        falls_more _ _ _ _ (omega arith) (omega (arith, two.alike.asts, two.alike.channels)) (falls_then _ _ _ _ two (drained_falls p m (cancelled_in t p m).after))
    by (Some h) =
        let t = handling p m s in
        let first = changed_falls p p 0 s (in_phase (phase.Handlers m)) [] (grind arith) in
        falls_more (0 + 0) _ (0 + 1) _ (omega arith) (omega arith) (falls_then 0 0 0 1 first (changed_falls p p 0 t (entering (handler_frame t p h) h.id) _ (grind (arith, less_few {A = Handler}))))

-- the last: the handlers and the wakes for the process end
gone_falls : (p : Pid) (s : State) → Falls p 0 (length (process_at s p).handlers + length s.timers + 1) s (part_of (gone s p))
gone_falls p s =
    let one = handlers_fall p any_handler s in
    let two = falls_then _ _ _ _ one (timers_fall p (is_wake_for p) (drop_handlers s p any_handler).after) in
    falls_more _ _ _ _ (omega arith) (omega (arith, one.timers)) (falls_then _ _ _ 1 two (changed_falls p p 0 _ (in_phase phase.Deleted) _ (grind arith)))

-- mode after mode

-- so many modes queue the AST of each request once at most
abbrev heavy : State → Pid → ℕ → ℕ
heavy s p n = load s p + n * length s.requests

abbrev down_most : State → Pid → List Mode → ℕ
down_most s p ms = length ms * heavy s p (length ms) + length (process_at s p).handlers + length s.timers + 1

made_stays : (p : Pid) (s t : State) → Stays s t → IsProcess s p → IsProcess t p
made_stays p s t k made = record { above = made.above; within = omega (arith, made.within, k.procs) }

-- a mode, and those that follow if it gives no answer
then_ends : (p : Pid) (n : ℕ) (s : State) (ms : List Mode) (o : Outcome (Option Answer)) → n ≤ load s p → Falls p (length s.requests) n s (part_of o) → Ends (down_most o.after p ms) o.after (part_of (run_down p ms o.after)) → Ends (load s p + length ms * heavy s p (suc (length ms)) + length (process_at s p).handlers + length s.timers + 1) s (part_of (then_on o (run_down p ms)))
then_ends p n s ms o few one rest = by o.answer
  where
    by : (x : Option Answer) → Ends (load s p + length ms * heavy s p (suc (length ms)) + length (process_at s p).handlers + length s.timers + 1) s (part_of (then_by x (record { effects = o.effects; after = o.after }) (run_down p ms)))
    by None =
        let k = length ms in
        let lighter : heavy o.after p k ≤ heavy s p (suc k) = omega (arith, one.alike.asts, one.requests, one.timers, one.ends.attention, one.alike.channels, mul-le-mul_left k one.requests, suc-mul k (length s.requests)) in
        ends_more (n + down_most o.after p ms) _ (omega (arith, few, mul-le-mul_left k lighter, one.alike.handlers, one.timers)) (ends_then n (down_most o.after p ms) one.ends rest)
    by (Some x) = ends_more n _ (omega (arith, few)) one.ends

run_down_ends : (p : Pid) (ms : List Mode) (s : State) → IsProcess s p → Ends (down_most s p ms) s (part_of (run_down p ms s))
run_down_ends p [] s made = ends_more _ _ (omega arith) (gone_falls p s).ends
run_down_ends p (m ∷ ms) s made =
    let o = passed p m s in
    let k = length ms in
    let one = passed_falls p m s in
    let rest = run_down_ends p ms o.after (made_stays p s o.after one.ends.stays made) in
    let count : suc k * heavy s p (suc k) ≡ k * heavy s p (suc k) + heavy s p (suc k) = suc-mul k (heavy s p (suc k)) in
    subst (λ (r : Outcome Answer). Ends (down_most s p (m ∷ ms)) s (part_of r)) (sym (mode_is s p m ms made)) (ends_more _ _ (omega (arith, count)) (then_ends p (load s p) s ms o (omega arith) one rest))

-- of four modes at most
modes_few : (m : Mode) → suc (length (inner_modes m)) ≤ 4
modes_few m = grind arith

-- how much a step of rundown tells at most
abbrev pub rundown_most : State → Pid → ℕ
rundown_most s p = 4 * (length (process_at s p).asts + 11 * length s.requests + 2 * length s.timers + length s.attention + length (process_at s p).channels + 4) + length (process_at s p).handlers + length s.timers + 1

-- so many modes, of four at most
few_modes : (s : State) (p : Pid) (n : ℕ) → n ≤ 4 → n * heavy s p n ≤ 4 * (load s p + 4 * length s.requests)
few_modes s p n few = grind arith

rundown_from_goes : (p : Pid) (s : State) (ph : Phase) → IsProcess s p → (let o = rundown_from p ph s in Goes (rundown_most s p) s o.after o.effects)
rundown_from_goes p s (phase.Handlers m) made =
    let ms = m ∷ inner_modes m in
    ends_goes (down_most s p ms) (rundown_most s p) (omega (arith, few_modes s p (length ms) (modes_few m))) (run_down_ends p ms s made)
rundown_from_goes p s (phase.Draining m) made =
    let ms = inner_modes m in
    let k = length ms in
    let o = drained p m s in
    let one = drained_falls p m s in
    let rest = run_down_ends p ms o.after (made_stays p s o.after one.ends.stays made) in
    let all = then_ends p (length (process_at s p).channels + length (process_at s p).asts + 4) s ms o (omega arith) (falls_more _ (length s.requests) _ _ (omega arith) (omega arith) one) rest in
    let count : suc k * heavy s p (suc k) ≡ k * heavy s p (suc k) + heavy s p (suc k) = suc-mul k (heavy s p (suc k)) in
    subst (λ (r : Outcome Answer). Goes (rundown_most s p) s r.after r.effects) (sym (drain_is s p m (run_down p ms))) (ends_goes _ (rundown_most s p) (omega (arith, few_modes s p (suc k) (modes_few m), count)) all)
rundown_from_goes p s ph made = grind arith

pub rundown_goes : (p : Pid) (s : State) → IsProcess s p → Goes (rundown_most s p) s (rundown s p).after (rundown s p).effects
rundown_goes p s made = rundown_from_goes p s (process_at s p).phase made
