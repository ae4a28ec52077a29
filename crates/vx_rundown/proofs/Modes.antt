-- Rundown mode by mode.
use Rattle.std.proofs.Common.{◌≡◌, ◌≤◌, List, ◌∷◌, ◌++◌, true, length, length-append, Option, Some, None, ap, sym, subst, ◌∙◌, refl, arith}
use Rattle.std.specs.List.{find}
use Rattle.std.proofs.lemmas.List.{append_assoc}
use Rattle.vx_record.specs.Types.{Answer, Handler, Mode, Phase, Pid}
use Rattle.vx_base.specs.declared.frame.Phase.TheVariants as phase
use Rattle.vx_base.specs.declared.record.Answer.TheVariants as answer
use Rattle.vx_record.specs.Parts.{Outcome, Part, and_then, answered, followed_by, nothing, part_of}
use Rattle.vx_record.specs.Rundown.{cancel_modes, cancelled_in, drain, drop_asts, handling, in_phase, inner_modes, is_busy, is_handler_of, part_with, release, run_down, run_handlers, rundown, rundown_from}
use Rattle.vx_record.specs.State.{IsProcess, Process, State, process_at}
use Rattle.vx_record.proofs.Freeing.{phase_at}
use Rattle.vx_record.proofs.Lists.{either_by}
use Rattle.vx_record.proofs.Steps.{cancelled_in_moves}
use Rattle.vx_record.specs.Sound.{IsSound}
use Rattle.vx_procs.specs.Kernel.{Acts, Does, Fits, Kernel as KernelOf, changed, with_state}
use Rattle.vx_procs.proofs.Rest.{IsAnswering, acts_both, answering_begun, answering_end, answering_on, room_first, room_second}
use Rattle.vx_io.proofs.Changed.{process_there}
use Rattle.vx_rundown.specs.Leaving.{IsDrained, IsLeaving}
use Rattle.vx_rundown.specs.Steps.{drained, modes_from, next_inner, passed, passed_by, then_by, then_on}
use Rattle.vx_rundown.proofs.Cancelled.{cancel_all, cancels_follow}
use Rattle.vx_rundown.proofs.Freed.{free_all, leaving_channels}
use Rattle.vx_rundown.proofs.Left.{Follows, follows_then, leaving_acted, leaving_asts, leaving_by, leaving_handling, leaving_parted, made_then, phase_follows, timers_follow}
use Rattle.vx_rundown.proofs.Standing.{base_of}

-- Three parts, one after another: there is room for each, and together they are the whole.
pub three_parts : (k : KernelOf) (a : Part) (f g : State → Part) → Fits k (and_then (and_then a f) g).effects → Fits k a.effects × ((l : KernelOf) → Acts a k l → Fits l (f l.state).effects × ((n : KernelOf) → Acts (f l.state) l n → Fits n (g n.state).effects × ((o : KernelOf) → Acts (g n.state) n o → Acts (and_then (and_then a f) g) k o)))
three_parts k a f g room =
    let two = and_then a f in
    let first = room_first k two g room in
    (room_first k a f first, λ l did. (room_second k l a f did first, λ n then. (room_second k n two g (acts_both k l n a f did then) room, λ o last. acts_both k n o two g (acts_both k l n a f did then) last)))

-- Cancelling: the channels, the timers, the wakes.

cancel_follows : (p : Pid) (m : Mode) (s : State) → IsSound s → Follows true s (cancel_modes s p m).after
cancel_follows p m s sound = grind (arith, cancel_all, follows_then, cancels_follow, timers_follow)

pub cancel_made : (p : Pid) (m : Mode) (k : KernelOf) → IsLeaving k p → IsProcess (cancel_modes k.state p m).after p
cancel_made p m k h = made_then (cancel_follows p m k.state h.sound) h.made

-- Releasing: the channels, the queued ASTs, the common clusters.

abbrev pub until_third : Pid → Mode → State → Part
until_third p m s = and_then (and_then (free_all p m s) (drop_asts p m)) (part_with p 2)

pub leaving_release : (p : Pid) (m : Mode) (k : KernelOf) → IsDrained k.state p m → IsLeaving k p → IsLeaving (with_state k (release k.state p m).after) p
leaving_release p m k drained h =
    let f = with_state k (free_all p m k.state).after in
    let a = with_state f (drop_asts p m f.state).after in
    let b = with_state a (part_with p 2 a.state).after in
    leaving_parted p 3 b (leaving_parted p 2 a (leaving_asts p m f (leaving_channels p m k drained h)))

-- A mode is drained, and passed.

pub drain_is : (s : State) (p : Pid) (m : Mode) (next : State → Outcome Answer) → drain p m next s ≡ then_on (drained p m s) next
drain_is s p m next = grind arith

-- a part, and what a mode comes to behind it
after_part : (a : Part) (f : State → Outcome (Option Answer)) (next : State → Outcome Answer) → followed_by a (λ s. then_on (f s) next) ≡ then_on (followed_by a f) next
after_part a f next = grind (arith, append_assoc)

pub mode_is : (s : State) (p : Pid) (m : Mode) (ms : List Mode) → IsProcess s p → run_down p (m ∷ ms) s ≡ then_on (passed p m s) (run_down p ms)
mode_is s p m ms made =
    let t = handling p m s in
    by (find (is_handler_of m) (process_at s p).handlers) ∙ ap (λ (pr : Process). then_on (passed_by p m (find (is_handler_of m) pr.handlers) t) (run_down p ms)) (sym (process_there s p (in_phase (phase.Handlers m)) made))
  where
    by : (o : Option Handler) → run_handlers (handling p m s) p m (run_down p ms) o ≡ then_on (passed_by p m o (handling p m s)) (run_down p ms)
    by None =
        let a = cancelled_in (handling p m s) p m in
        ap (λ (o : Outcome Answer). let x : Outcome Answer = record { answer = o.answer; effects = a.effects ++ o.effects; after = o.after } in x) (drain_is a.after p m (run_down p ms)) ∙ after_part a (drained p m) (run_down p ms)
    by (Some h) = refl

-- what comes before the next mode is told first

pub then_few : (o : Outcome (Option Answer)) (next : State → Outcome Answer) → length o.effects ≤ length (then_on o next).effects
then_few o next = grind (arith, length-append)

-- if a mode answers, that is the answer
pub then_ends : (o : Outcome (Option Answer)) (next : State → Outcome Answer) (x : Answer) (k l : KernelOf) → Does o (Some x) k l → Does (then_on o next) x k l
then_ends o next x k l did = subst (λ (y : Option Answer). Does (then_by y (part_of o) next) x k l) did.answers (record { answers = refl; leaves = did.leaves })

pub then_goes : (o : Outcome (Option Answer)) (next : State → Outcome Answer) (k l : KernelOf) → Does o None k l → then_on o next ≡ followed_by (part_of o) next
then_goes o next k l did = ap (λ (y : Option Answer). then_by y (part_of o) next) (sym did.answers)

-- The state if a mode was passed.

drained_leaving : (p : Pid) (m : Mode) (k : KernelOf) → (process_at k.state p).phase ≡ phase.Draining m → IsLeaving k p → IsLeaving (with_state k (drained p m k.state).after) p
drained_leaving p m k draining h =
    either_by (λ (o : Outcome (Option Answer)). IsLeaving (with_state k o.after) p) (is_busy k.state p m) (answered (Some answer.Busy) (nothing k.state)) (answered None (release k.state p m)) (λ busy. h)
    (λ idle. leaving_release p m k (record { phase = draining; idle = idle }) h)

-- cancelled first, nothing is attended on the channels of a mode that is drained
pub cancelled_leaving : (p : Pid) (m : Mode) (k : KernelOf) → IsLeaving k p → IsLeaving (with_state k (cancelled_in k.state p m).after) p
cancelled_leaving p m k h =
    leaving_by (cancelled_in_moves k.state p m (base_of k.state h.sound) (λ e. record { made = h.made; none = h.idle })) (follows_then (cancel_follows p m k.state h.sound) (phase_follows (cancel_modes k.state p m).after p (phase.Draining m))) h

-- and it is then in that phase
pub cancelled_phase : (p : Pid) (m : Mode) (k : KernelOf) → IsLeaving k p → (process_at (cancelled_in k.state p m).after p).phase ≡ phase.Draining m
cancelled_phase p m k h = phase_at (cancel_modes k.state p m).after p (phase.Draining m) (cancel_made p m k h)

-- no handler of the mode was there
leaving_passed : (p : Pid) (m : Mode) (k l : KernelOf) → Does (passed p m k.state) None k l → IsLeaving k p → IsLeaving l p
leaving_passed p m k l did h = by (find (is_handler_of m) (process_at (handling p m k.state) p).handlers) did
  where
    by : (o : Option Handler) → Does (passed_by p m o (handling p m k.state)) None k l → IsLeaving l p
    by None did =
        let t = changed k p (in_phase (phase.Handlers m)) in
        let begun = leaving_handling k p m h in
        leaving_acted k (part_of (passed_by p m None t.state)) did.leaves (drained_leaving p m (with_state t (cancelled_in t.state p m).after) (cancelled_phase p m t begun) (cancelled_leaving p m t begun))
    by (Some x) did = absurd (cc (did.answers))

-- The loop: what is left of a rundown.

pub record IsRunning (p : Pid) (whole : Outcome Answer) (first : KernelOf) (ms : List Mode) (k : KernelOf) : Type 0 where
  pub leaving : IsLeaving k p
  pub rest : IsAnswering whole first (run_down p ms k.state) k

pub running_at : {p : Pid} {whole : Outcome Answer} {first k : KernelOf} (n : Option Mode) {m : Mode} → n ≡ Some m → IsRunning p whole first (modes_from n) k → IsRunning p whole first (m ∷ inner_modes m) k
running_at {p} {whole} {first} {k} n is h = subst (λ (x : Option Mode). IsRunning p whole first (modes_from x) k) is h

inner_next : (m : Mode) → modes_from (next_inner m) ≡ inner_modes m
inner_next m = grind arith

-- the answer, if it is known
pub does_as : {A : Type 0} {o : Outcome A} {x y : A} {k l : KernelOf} → x ≡ y → Does o x k l → Does o y k l
does_as is h = record { answers = sym is ∙ h.answers; leaves = h.leaves }

pub pass_room : {p : Pid} {m : Mode} {whole : Outcome Answer} {first k : KernelOf} → IsRunning p whole first (m ∷ inner_modes m) k → Fits k (passed p m k.state).effects
pass_room {p} {m} {whole} {first} {k} h = omega (arith, h.rest.doing.room, ap (λ (o : Outcome Answer). length o.effects) (mode_is k.state p m (inner_modes m) h.leaving.made), then_few (passed p m k.state) (run_down p (inner_modes m)))

pub pass_ends : {p : Pid} {m : Mode} {x : Answer} {whole : Outcome Answer} {first k l : KernelOf} → IsRunning p whole first (m ∷ inner_modes m) k → Does (passed p m k.state) (Some x) k l → Does whole x first l
pass_ends {p} {m} {x} {whole} {first} {k} {l} h did = grind (arith, answering_end, mode_is, then_ends)

-- a mode that goes on to the next
goes_on : (p : Pid) (m : Mode) (o : Outcome (Option Answer)) (whole rest : Outcome Answer) (first k l : KernelOf) → IsAnswering whole first rest k → rest ≡ then_on o (run_down p (inner_modes m)) → Does o None k l → IsLeaving l p → IsRunning p whole first (modes_from (next_inner m)) l
goes_on p m o whole rest first k l h is did leaving = record {
  leaving = leaving;
  rest = rw (inner_next m) (answering_on whole first k l rest (part_of o) (run_down p (inner_modes m)) (is ∙ then_goes o (run_down p (inner_modes m)) k l did) did.leaves h);
}

pub pass_more : {p : Pid} {m : Mode} {whole : Outcome Answer} {first k l : KernelOf} → IsRunning p whole first (m ∷ inner_modes m) k → Does (passed p m k.state) None k l → IsRunning p whole first (modes_from (next_inner m)) l
pass_more {p} {m} {whole} {first} {k} {l} h did =
    goes_on p m (passed p m k.state) whole (run_down p (m ∷ inner_modes m) k.state) first k l h.rest (mode_is k.state p m (inner_modes m) h.leaving.made) did (leaving_passed p m k l did h.leaving)

-- A rundown that goes on with a mode that is drained.

pub drain_more : (p : Pid) (m : Mode) (k l : KernelOf) → IsLeaving k p → phase.Draining m ≡ (process_at k.state p).phase → Fits k (rundown k.state p).effects → Does (drained p m k.state) None k l → IsRunning p (rundown k.state p) k (modes_from (next_inner m)) l
drain_more p m k l h is room did =
    let whole = rundown k.state p in
    goes_on p m (drained p m k.state) whole whole k k l (answering_begun whole k room) (ap (λ (ph : Phase). rundown_from p ph k.state) (sym is) ∙ drain_is k.state p m (run_down p (inner_modes m))) did (leaving_acted k (part_of (drained p m k.state)) did.leaves (drained_leaving p m k (sym is) h))
