-- Ids rise, and owners are there, along a run.
use Rattle.std.proofs.Common.{false, List, [], ◌∷◌, Option, Some, None, refl, arith}
use Rattle.vx_record.specs.Types.{Event, Pid, Queued, Rec, Request, System}
use Rattle.vx_base.specs.Queues.{front}
use Rattle.vx_base.specs.declared.record.Event.TheVariants as event
use Rattle.vx_record.specs.Asts.{deliverable_ast}
use Rattle.vx_record.specs.Events.{beg, delivered, started, step}
use Rattle.vx_record.specs.Finish.{this_request}
use Rattle.vx_record.specs.Requests.{taken_up}
use Rattle.vx_record.specs.Rundown.{without_ast}
use Rattle.vx_record.specs.Runs.{AreSteps, after_from, first}
use Rattle.vx_record.specs.State.{State, change}
use Rattle.vx_record.proofs.Allowed.{enabled_there}
use Rattle.vx_record.proofs.Base.{Base, amended_base, change_of, moves_keep}
use Rattle.vx_record.proofs.Steps.{IsThere}
use Rattle.vx_record.proofs.Told.{started_moves, step_moves}

pub first_base : (system : System) → Base (first system)
first_base system = record { requests = omega arith; timers = omega arith; attention = omega arith; request_owners = tt; timer_owners = tt; attention_owners = tt }

pub beg_base : (s : State) (o : Option Request) → Base s → Base (beg s o).after
beg_base s None h = h
beg_base s (Some r) h = amended_base s (this_request r.req.id) taken_up (λ x. refl) h

ast_base : (s : State) (p : Pid) (o : Option Queued) → Base s → Base (delivered s p o).after
ast_base s p None h = h
ast_base s p (Some q) h =
    let t = change s p (without_ast q.id) in
    (moves_keep {refs = false} t None (started t p q q.tag).effects (started t p q q.tag).after None (started_moves t p q q.tag) (change_of s p (without_ast q.id) h).base).base

pub step_base : (s : State) (e : Event) → IsThere s e → Base s → Base (step s e).after
step_base s (event.Ast p) m h = ast_base s p (deliverable_ast s p) h
step_base s (event.Beg u) m h = beg_base s (front u s.requests) h
step_base s e m h = (moves_keep {refs = false} s None (step s e).effects (step s e).after None (step_moves s e refl m h) h).base

pub run_base : (s : State) (rs : List Rec) → AreSteps s rs → Base s → Base (after_from s rs)
run_base s [] k h = h
run_base s (r ∷ rs) k h = run_base (step s r.event).after rs k.1 (step_base s r.event (enabled_there s r.event k.0.enabled) h)
