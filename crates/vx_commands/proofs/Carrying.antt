-- A run that threads took.
use Rattle.std.proofs.Common.{◌≡◌, ℕ, List, ◌++◌, subst, codes}
use Rattle.vx_record.specs.Types.{End, Rec, System}
use Rattle.vx_carrier.specs.Pool.{IsRunOf}
use Rattle.vx_exec.specs.View.{Executive, plan}
use Rattle.vx_journal.specs.Transcript.{trailer_lines}
use Rattle.vx_lines.specs.Records.{ended_lines, records_lines}
use Rattle.vx_record.specs.Runs.{first}
use Rattle.vx_script.specs.Script.{script}
use Rattle.vx_trailer.proofs.Spelled.{spelled_run}
use Rattle.vx_commands.specs.Carried.{IsCarriedText}

-- what was printed of a pool's run is the run's transcript
pub is_carried_text : (system : System) (limit : ℕ) (before closed : Executive) (recs : List Rec) (e : End) (text : List ℕ) → before ≡ record { state = first system; limit = limit; taken = 0 } → IsRunOf (plan before) closed recs e → text ≡ ((script system ++ codes "$JOURNAL 1\n") ++ ended_lines (records_lines closed.state.system.units 1 recs)) ++ ended_lines (trailer_lines closed.state e closed.taken) → IsCarriedText system limit e text
is_carried_text system limit before closed recs e text opens is spells =
    let ran : IsRunOf (record { system = system; limit = limit }) closed recs e = subst (λ (b : Executive). IsRunOf (plan b) closed recs e) opens is in
    record { recs = recs; run = ran.run; ended = ran.ended; spells = spelled_run system closed recs e text ran.now ran.counted spells }
