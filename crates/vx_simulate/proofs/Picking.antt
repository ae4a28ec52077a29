-- A run that places choose, and what is written of it.
use Rattle.std.proofs.Common.{◌≡◌, ℕ, List, ◌++◌, Some, ap, subst, ◌∙◌, codes}
use Rattle.vx_record.specs.Types.{End, Rec, System}
use Rattle.vx_exec.specs.View.{Executive}
use Rattle.vx_journal.specs.Transcript.{trailer_lines, transcript}
use Rattle.vx_lines.specs.Records.{records_lines}
use Rattle.vx_simulate.specs.Picking.{IsPickedRun}
use Rattle.vx_record.specs.Runs.{IsRun, end_after}
use Rattle.vx_script.specs.Script.{ended_lines, script}
use Rattle.vx_simulate.specs.Followed.{IsPickedText}
use Rattle.vx_trailer.proofs.Spelled.{spelled_run}
use Rattle.vx_words.specs.declared.picks.Picks.{Picks}

-- what was printed of a run that places chose is its transcript
pub is_picked_text : (system : System) (picks : Picks) (closed : Executive) (recs : List Rec) (e : End) (text : List ℕ) → IsPickedRun system picks.places picks.limit closed recs e → text ≡ ((script system ++ codes "$JOURNAL 1\n") ++ ended_lines (records_lines closed.state.system.units 1 recs)) ++ ended_lines (trailer_lines closed.state e closed.taken) → IsPickedText system picks e text
is_picked_text system picks closed recs e text is spells = record {
  run = subst (λ rs. IsRun system rs) is.picked is.run;
  ended = subst (λ rs. end_after system rs picks.limit ≡ Some e) is.picked is.ended;
  spells = spelled_run system closed recs e text is.now is.counted spells ∙ ap (λ rs. transcript system rs e) is.picked;
}
