-- What a process alone tells of its event is what the machine has of it.
use Rattle.std.proofs.Common.{◌≡◌, ℕ, zero, suc, ◌+◌, ◌*◌, ◌<◌, List, [], ◌∷◌, length, length-append, length-drop, drop, take, nat_lt, is_some, Option, Some, None, Bool, true, false, if◌then◌else◌, refl, sym, ap, subst, ◌∙◌, arith}
use Rattle.std.specs.List.{AllByRecursion}
use Rattle.std.proofs.lemmas.List.{nil_from_length}
use Rattle.vx_base.specs.Flags.{one}
use Rattle.vx_base.specs.Lists.{tally}
use Rattle.vx_record.specs.Types.{Cell, Frame, Pid, Wait}
use Rattle.vx_base.specs.declared.effects.Cell.TheVariants.{Local}
use Rattle.vx_base.specs.declared.record.Event.TheVariants as event
use Rattle.vx_record.specs.State.{Process, State, pid, process_at}
use Rattle.vx_record.specs.Events.{can_run, can_run_down, is_satisfied, process_events, processes_from}
use Rattle.vx_record.specs.Flags.{cell, wait_condition, where_named}
use Rattle.vx_procs.specs.Own.{AreOwn, block_of, has_own, is_own, own_event, own_run, own_wait, own_wait_if}
use Rattle.vx_exec.specs.Blocks.{events_in}
use Rattle.vx_exec.proofs.Enabled.{procs_step}

-- One process.

-- a wait on a number below 64 is on a flag of the process
flag_told : (s : State) (p : Pid) (efn : ℕ) (holds : Cell → Bool) (own b : Bool) → (own ≡ true → nat_lt efn 64 ≡ true) → (if own then Some (holds (Local p efn)) else None) ≡ Some b → is_some (where_named holds (cell s p efn)) ≡ b
flag_told s p efn holds own b local e = grind arith

wait_told : (s : State) (p : Pid) (w : Wait) (b : Bool) → own_wait (process_at s p) w ≡ Some b → is_some (wait_condition s p w) ≡ b
wait_told s p w b e = grind arith

satisfied_told : (s : State) (p : Pid) (o : Option Wait) (b : Bool) → own_wait_if (process_at s p) o ≡ Some b → is_satisfied s p o ≡ b
satisfied_told s p o b e = grind (arith, wait_told)

run_told : (s : State) (p : Pid) (fs : List Frame) (b : Bool) → own_run (process_at s p) fs ≡ Some b → length (if can_run s p fs then event.Run p ∷ [] else (if can_run_down s p fs then event.Rdn p ∷ [] else [])) ≡ one b
run_told s p [] b e = grind arith
run_told s p (f ∷ fs) b e = let same = satisfied_told s p f.wait b e in grind arith

pub own_told : (s : State) (p : Pid) (b : Bool) → own_event (process_at s p) ≡ Some b → length (process_events s p) ≡ one b
own_told s p b e = grind arith

-- known to have one
pub one_known : (s : State) (p : Pid) → own_event (process_at s p) ≡ Some true → 1 ≡ length (process_events s p)
one_known s p e = sym (own_told s p true e)

-- known to have none
pub none_known : (s : State) (p : Pid) → own_event (process_at s p) ≡ Some false → [] ≡ process_events s p
none_known s p e = sym (nil_from_length (process_events s p) (own_told s p false e))

-- Those of a block.

one_told : (s : State) (p : Pid) → is_own (process_at s p) ≡ true → length (process_events s p) ≡ one (has_own (process_at s p))
one_told s p own = let told = own_told s p (has_own (process_at s p)) in grind arith

from_told : (s : State) (n i : ℕ) (prs : List Process) → drop i s.procs ≡ prs → AllByRecursion (λ (pr : Process). is_own pr ≡ true) (take n prs) → length (processes_from s (i + 1) (take n prs)) ≡ tally has_own (take n prs)
from_told s zero i prs e own = refl
from_told s (suc n) i [] e own = refl
from_told s (suc n) i (pr ∷ prs) e own =
    let within : i < length s.procs = omega (arith, length-drop i s.procs, ap (λ (xs : List Process). length xs) e) in
    let both : process_at s (pid (i + 1)) ∷ drop (i + 1) s.procs ≡ pr ∷ prs = sym (procs_step s i within) ∙ e in
    let first : process_at s (pid (i + 1)) ≡ pr = cc in
    let behind : drop (i + 1) s.procs ≡ prs = cc in
    let here : length (process_events s (pid (i + 1))) ≡ one (has_own pr) = one_told s (pid (i + 1)) (subst (λ (q : Process). is_own q ≡ true) (sym first) own.0) ∙ ap (λ (q : Process). one (has_own q)) first in
    let later = from_told s n (i + 1) prs behind own.1 in
    omega (arith, length-append (process_events s (pid (i + 1))) (processes_from s (i + 1 + 1) (take n prs)), here, later)

-- so many as are remembered of a block are enabled of it
pub block_told : (s : State) (b n : ℕ) → AreOwn n (block_of b s.procs) → length (events_in s b) ≡ n
block_told s b n are = from_told s 32 (32 * b) (drop (32 * b) s.procs) refl are.own ∙ sym are.count
