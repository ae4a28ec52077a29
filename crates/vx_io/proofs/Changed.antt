-- A process that is changed, seen in the state after it.
use Rattle.std.proofs.Common.{◌≡◌, ◌-◌, List, slice_set, get_or-set_same, length-set, ap, ◌∙◌, arith}
use Rattle.std.proofs.lemmas.List.{set-set}
use Rattle.vx_record.specs.Types.{Pid}
use Rattle.vx_record.specs.State.{Process, State, IsProcess, process_at, change, nobody}

-- the process that was changed
pub process_there : (s : State) (p : Pid) (f : Process → Process) → IsProcess s p → process_at (change s p f) p ≡ f (process_at s p)
process_there s p f made = get_or-set_same s.procs (p.0 - 1) (f (process_at s p)) nobody (omega (arith, made.above, made.within))

-- two changes of one process
pub change_again : (s : State) (p : Pid) (f g : Process → Process) → IsProcess s p → change (change s p f) p g ≡ change s p (λ pr. g (f pr))
change_again s p f g made =
    ap (λ (pr : Process). let u : State = record s { procs = slice_set (slice_set s.procs (p.0 - 1) (f (process_at s p))) (p.0 - 1) (g pr) } in u) (process_there s p f made)
    ∙ ap (λ (ps : List Process). let u : State = record s { procs = ps } in u) (set-set s.procs (p.0 - 1) (f (process_at s p)) (g (f (process_at s p))))

-- all processes are there still
pub made_still : (s : State) (p q : Pid) (f : Process → Process) → IsProcess s q → IsProcess (change s p f) q
made_still s p q f made = record { above = made.above; within = omega (arith, made.within, length-set s.procs (p.0 - 1) (f (process_at s p))) }
