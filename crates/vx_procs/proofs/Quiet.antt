-- Changes of a process that queue no AST and enter no frame.
use Rattle.std.proofs.Common.{ℕ, ◌-◌, ◌≤◌, List, [], ◌∷◌, Bool, length, nat_lt, Option, None, refl, arith}
use Rattle.vx_base.specs.Flags.{with_flag}
use Rattle.vx_record.specs.Types.{Cond, Frame, Wait}
use Rattle.vx_base.specs.declared.frame.Wait.TheVariants as wait
use Rattle.vx_image.specs.Storage.{Storage}
use Rattle.vx_record.specs.State.{Process, with_top}
use Rattle.vx_record.specs.Events.{below_top, moved_to, put_back, resumed_with}
use Rattle.vx_record.specs.Flags.{with_local_flag, with_wait}
use Rattle.vx_record.proofs.Lists.{either}
use Rattle.vx_procs.proofs.Changed.{IsQuiet}
use Rattle.vx_base.specs.Lists.{rest}

pub top_few : (f : Frame → Frame) (fs : List Frame) → length (with_top f fs) ≤ length fs
top_few f [] = omega arith
top_few f (x ∷ xs) = omega arith

below_few : (fs : List Frame) → length (rest fs) ≤ length fs
below_few [] = omega arith
below_few (x ∷ xs) = omega arith

pub flag_quiet : (n : ℕ) (on : Bool) (pr : Process) → IsQuiet pr (with_local_flag n on pr)
flag_quiet n on pr =
    either (IsQuiet pr) (nat_lt n 32) (record pr { cluster_0 = with_flag pr.cluster_0 n on }) (record pr { cluster_1 = with_flag pr.cluster_1 (n - 32) on })
    (record { decl = refl; asts = refl; frames = omega arith }) (record { decl = refl; asts = refl; frames = omega arith })

pub below_quiet : (pr : Process) → IsQuiet pr (below_top pr)
below_quiet pr = record { decl = refl; asts = refl; frames = below_few pr.frames }

pub back_quiet : (r0 : ℕ) (pr : Process) → IsQuiet pr (put_back r0 pr)
back_quiet r0 pr = record { decl = refl; asts = refl; frames = below_few pr.frames }

pub wait_quiet : (w : Option Wait) (pr : Process) → IsQuiet pr (with_wait w pr)
wait_quiet w pr = record { decl = refl; asts = refl; frames = top_few (λ f. record f { wait = w }) pr.frames }

pub resumed_quiet : (w : Wait) (c : Cond) (pr : Process) → IsQuiet pr (resumed_with w c pr)
resumed_quiet wait.Hiber c pr = record { decl = refl; asts = refl; frames = top_few (λ f. record f { wait = None }) pr.frames }
resumed_quiet (wait.Flags efn mask all) c pr = record { decl = refl; asts = refl; frames = top_few (λ f. record f { wait = None }) pr.frames }
resumed_quiet (wait.Synch efn iosb) c pr = record { decl = refl; asts = refl; frames = top_few (λ f. record f { wait = None }) pr.frames }

pub moved_quiet : (store : Storage) (place : ℕ) (pr : Process) → IsQuiet pr (moved_to store place pr)
moved_quiet store place pr = record { decl = refl; asts = refl; frames = top_few (λ f. record f { pc = place }) pr.frames }
