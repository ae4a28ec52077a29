-- What an executive stands for.
use Rattle.std.specs.Prelude.{◌≡◌, ℕ, ◌+◌, []}
use Rattle.vx_record.specs.Types.{Event, System}
use Rattle.vx_base.specs.declared.record.Event.TheVariants as event
use Rattle.vx_record.specs.Events.{step}
use Rattle.vx_record.specs.State.{State}

-- its state, how many records its runs may have, and how many its steps have made
pub record Executive : Type 0 where
  pub state : State
  pub limit : ℕ
  pub taken : ℕ

-- after a step: the machine's state after the event, and a record more
abbrev pub after_step : Executive → Event → Executive
after_step x e = record x { state = (step x.state e).after; taken = x.taken + 1 }

-- what no call changes: the system and the limit
pub record Plan : Type 0 where
  pub system : System
  pub limit : ℕ

abbrev pub plan : Executive → Plan
plan e = record { system = e.state.system; limit = e.limit }

-- its state is lost: there is no process any more, and the system, the limit and the number of records are as they were
pub record LosesState (before after : Executive) : Type 0 where
  pub empty : after.state.procs ≡ []
  pub planned : plan after ≡ plan before
  pub counted : after.taken ≡ before.taken
