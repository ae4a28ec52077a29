-- What is printed of a run, one part after another, is its transcript.
use Rattle.std.proofs.Common.{◌≡◌, ℕ, List, ◌∷◌, ◌++◌, length, ap, ◌∙◌, append_assoc, codes}
use Rattle.std.proofs.lemmas.Grind.{flat_map-append}
use Rattle.vx_record.specs.Types.{End, Rec, System}
use Rattle.vx_exec.specs.View.{Executive}
use Rattle.vx_journal.specs.Transcript.{trailer_lines, transcript}
use Rattle.vx_lines.specs.Records.{records_lines}
use Rattle.vx_record.proofs.SoundSteps.{run_keeps_system}
use Rattle.vx_record.specs.Runs.{after, first}
use Rattle.vx_record.specs.State.{State}
use Rattle.vx_script.specs.Script.{ended_lines, script}

-- lines that were printed one part after another
printed : (text : List ℕ) (xs ys : List (List ℕ)) → ((text ++ codes "$JOURNAL 1\n") ++ ended_lines xs) ++ ended_lines ys ≡ text ++ ended_lines (codes "$JOURNAL 1" ∷ (xs ++ ys))
printed text xs ys = simp (flat_map-append, append_assoc)

-- the script, the records and the trailer of what an executive took are the run's transcript
pub spelled_run : (system : System) (closed : Executive) (recs : List Rec) (e : End) (text : List ℕ) → closed.state ≡ after system recs → closed.taken ≡ length recs → text ≡ ((script system ++ codes "$JOURNAL 1\n") ++ ended_lines (records_lines closed.state.system.units 1 recs)) ++ ended_lines (trailer_lines closed.state e closed.taken) → text ≡ transcript system recs e
spelled_run system closed recs e text now counted spells =
    let kept : closed.state.system ≡ system = ap (λ (s : State). s.system) now ∙ run_keeps_system (first system) recs in
    let front : System → List ℕ = λ s. (script system ++ codes "$JOURNAL 1\n") ++ ended_lines (records_lines s.units 1 recs) in
    let own : text ≡ front system ++ ended_lines (trailer_lines closed.state e closed.taken) = spells ∙ ap (λ s. front s ++ ended_lines (trailer_lines closed.state e closed.taken)) kept in
    let there : text ≡ front system ++ ended_lines (trailer_lines (after system recs) e closed.taken) = own ∙ ap (λ s. front system ++ ended_lines (trailer_lines s e closed.taken)) now in
    there ∙ (ap (λ n. front system ++ ended_lines (trailer_lines (after system recs) e n)) counted ∙ printed (script system) (records_lines system.units 1 recs) (trailer_lines (after system recs) e (length recs)))
