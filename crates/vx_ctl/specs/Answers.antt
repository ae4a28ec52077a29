-- What calls of services answer.
use Rattle.std.specs.Prelude.{ℕ, Bool, Result, Ok, Err, nat_lt, ok_or, if◌then◌else◌}
use Rattle.vx_record.specs.Types.{Cell, Cond, Pid, Wait}
use Rattle.vx_base.specs.declared.cond.Cond.TheVariants.{Normal, IllEfc, NoPriv, UnasEfc}
use Rattle.vx_clusters.specs.declared.fail.AscFail.{AscFail}
use Rattle.vx_clusters.specs.declared.fail.AscFail.TheVariants as fail
use Rattle.vx_record.specs.State.{State}
use Rattle.vx_record.specs.Parts.{Outcome, refused}
use Rattle.vx_record.specs.Flags.{cell, at_flag, put_flag_at, refused_wait, waits_on}
use Rattle.vx_record.specs.declared.served.Served.{Served}
use Rattle.vx_ctl.specs.declared.refused.Refused.{Refused}

-- the condition that a service answers, refused or not
abbrev pub cond_of : {R : Type 0} → Result Cond (Refused R) → Cond
cond_of (Ok cond) = cond
cond_of (Err refused) = refused.cond

-- the condition of a call on common clusters, refused or not
abbrev pub cond_of_clusters : Result (Unit {0}) AscFail → Cond
cond_of_clusters (Ok _) = Normal
cond_of_clusters (Err fail.IllEfc) = IllEfc
cond_of_clusters (Err fail.NoPriv) = NoPriv

-- the event flag that a number names: ILLEFC above 127, UNASEFC if it names none
abbrev pub named_flag : State → Pid → ℕ → Result Cell Cond
named_flag s p efn = if nat_lt 127 efn then Err IllEfc else ok_or (cell s p efn) UnasEfc

-- $SETEF, or $CLREF if the flag is cleared
abbrev pub put_flag : State → Pid → ℕ → Bool → Outcome Cond
put_flag s p efn on = at_flag s p efn (refused s) (put_flag_at s on)

-- a service that waits, by an event flag's number
abbrev pub awaited_on_flag : State → Pid → ℕ → Wait → Outcome Served
awaited_on_flag s p efn w = at_flag s p efn (refused_wait s) (waits_on s p w)
