-- The same with references left aside.
use Rattle.std.proofs.Common.{◌≡◌, true, false, Option, Ok, is_some}
use Rattle.vx_record.specs.Types.{Call, Cell, Channel, Device, Entry, Event, Mode, Phase, Pid, Queued, Wait}
use Rattle.vx_record.specs.State.{State, IsProcess}
use Rattle.vx_record.specs.Charges.{exceeds, ast_need, is_attention}
use Rattle.vx_record.specs.Events.{started, step}
use Rattle.vx_record.specs.Flags.{awaited}
use Rattle.vx_record.specs.Requests.{Asked, request_test, opened_request, attention_on, accepted}
use Rattle.vx_record.specs.Rundown.{in_phase, release, cancelled_in}
use Rattle.vx_record.specs.Services.{service}
use Rattle.vx_record.proofs.Apart as apart
use Rattle.vx_record.proofs.Apart.{Here, HasRoom}
use Rattle.vx_record.proofs.Base.{Base}
use Rattle.vx_record.proofs.Moves.{IsSilent, PartMoves, OutcomeMoves}
use Rattle.vx_record.proofs.Steps as steps
use Rattle.vx_record.proofs.Steps.{IsThere, is_headed}

unasked : {P : Type 0} → false ≡ true → P
unasked e = absurd (cc)

pub opened_request_moves : (s : State) (p : Pid) (q : Asked) (ch : Channel) → IsProcess s p → is_attention q.func ≡ false → HasRoom s p q ch → PartMoves s (opened_request s p q ch)
opened_request_moves s p q ch m plain room = apart.opened_request_moves s p q ch m plain room (λ e h. unasked e)

pub attention_on_moves : (s : State) (p : Pid) (q : Asked) (d : Device) (o : Option Entry) → Here s p → exceeds s p (ast_need (is_some o)) ≡ false → PartMoves s (attention_on s p q d o)
attention_on_moves s p q d o h room = apart.attention_on_moves s p q d o h room (λ b tag on is e k. unasked e)

pub accepted_after : (s : State) (p : Pid) (q : Asked) (to : Cell × Channel) → request_test s p q ≡ Ok to → Here s p → PartMoves s (accepted s p q to.0 to.1)
accepted_after s p q to is h = apart.accepted_after s p q to is (λ e. unasked e) h

pub awaited_moves : (s : State) (p : Pid) (w : Wait) → OutcomeMoves s (awaited s p w)
awaited_moves s p w = apart.awaited_moves s p w (λ e. unasked e)

pub service_moves : (s : State) (p : Pid) (c : Call) → Here s p → OutcomeMoves s (service s p c)
service_moves s p c h = steps.service_moves s p c h (λ e. unasked e)

pub phase_silent : (s : State) (p : Pid) (ph : Phase) → IsSilent false s p (in_phase ph)
phase_silent s p ph = steps.phase_silent s p ph (λ e h. unasked e)

pub release_moves : (s : State) (p : Pid) (m : Mode) → Here s p → PartMoves s (release s p m)
release_moves s p m h = steps.release_moves s p m h (λ e. unasked e)

pub cancelled_in_moves : (s : State) (p : Pid) (m : Mode) → Base s → PartMoves s (cancelled_in s p m)
cancelled_in_moves s p m h = steps.cancelled_in_moves s p m h (λ e. unasked e)

pub started_moves : (s : State) (p : Pid) (q : Queued) (tag : Entry) → PartMoves s (started s p q tag)
started_moves s p q tag = steps.started_moves s p q tag (λ e. unasked e)

pub step_moves : (s : State) (e : Event) → is_headed e ≡ false → IsThere s e → Base s → OutcomeMoves s (step s e)
step_moves s e other m h = steps.step_moves s e other m h (λ y. unasked y)
