-- A text whose verdict is an ending is the transcript of a run.
use Rattle.std.proofs.Common.{◌≡◌, ℕ, Bool, true, false, cond, ◌+◌, List, ◌∷◌, ◌++◌, length, bytes_eq, codes, Option, None, Some, refl, sym, ap, ◌∙◌, append_assoc}
use Rattle.std.proofs.lemmas.Grind.{flat_map-append}
use Rattle.std.proofs.lemmas.Slice.Eq.{bytes_eq-Decides}
use Rattle.vx_record.specs.Types.{End}
use Rattle.vx_base.specs.declared.record.End.TheVariants.{Done, Hung, Limit}
use Rattle.vx_lines.specs.Records.{ended_lines, records_lines}
use Rattle.vx_record.specs.State.{State}
use Rattle.vx_record.specs.Runs.{IsRun, after, end_after}
use Rattle.vx_script.specs.Script.{script}
use Rattle.vx_journal.proofs.JournalText.{journal_spelled}
use Rattle.vx_journal.specs.ReadJournal.{IsJournal, header}
use Rattle.vx_journal.specs.Transcript.{trailer_lines, transcript}
use Rattle.vx_journal.specs.declared.journal.Journal.{Journal}
use Rattle.vx_journal.specs.declared.journal.Part.{Part}
use Rattle.vx_journal.specs.declared.journal.Part.TheVariants.{Cut, Ended}
use Rattle.vx_check.specs.Verdict.{IsVerdict, ended_verdict, limit_for, of_record, of_run, part_verdict, trailer_verdict}
use Rattle.vx_check.specs.declared.verdict.Verdict.TheVariants.{Prefix, Bad}

no_bad : (end : End) (n m : ℕ) → ended_verdict end n ≡ Bad m → ⊥
no_bad Done n m h = cc
no_bad Hung n m h = cc
no_bad Limit n m h = cc

no_prefix : (end : End) (n m : ℕ) → ended_verdict end n ≡ Prefix m → ⊥
no_prefix Done n m h = cc
no_prefix Hung n m h = cc
no_prefix Limit n m h = cc

one_end : (end e : End) (n m : ℕ) → ended_verdict end n ≡ ended_verdict e m → end ≡ e
one_end Done Done n m h = refl
one_end Done Hung n m h = absurd (cc)
one_end Done Limit n m h = absurd (cc)
one_end Hung Done n m h = absurd (cc)
one_end Hung Hung n m h = refl
one_end Hung Limit n m h = absurd (cc)
one_end Limit Done n m h = absurd (cc)
one_end Limit Hung n m h = absurd (cc)
one_end Limit Limit n m h = refl

by_bytes : (s : State) (end e : End) (n m : ℕ) (trailer : List ℕ) (t : Bool) → bytes_eq (ended_lines (trailer_lines s e m)) trailer ≡ t → ended_verdict end n ≡ cond t (ended_verdict e m) (Bad (m + 1)) → trailer ≡ ended_lines (trailer_lines s end m)
by_bytes s end e n m trailer true is h = sym ((bytes_eq-Decides (ended_lines (trailer_lines s e m)) trailer).0 is) ∙ ap (λ z. ended_lines (trailer_lines s z m)) (sym (one_end end e n m h))
by_bytes s end e n m trailer false is h = absurd (no_bad end n (m + 1) h)

by_end : (s : State) (end : End) (n m : ℕ) (trailer : List ℕ) (o : Option End) → ended_verdict end n ≡ trailer_verdict s m trailer o → trailer ≡ ended_lines (trailer_lines s end m)
by_end s end n m trailer None h = absurd (no_bad end n (m + 1) h)
by_end s end n m trailer (Some e) h = by_bytes s end e n m trailer _ refl h

by_part : (s : State) (end : End) (n m : ℕ) (part : Part) (trailer : List ℕ) (o : Option End) → ended_verdict end n ≡ part_verdict s m part trailer o → trailer ≡ ended_lines (trailer_lines s end m)
by_part s end n m Cut trailer o h = absurd (no_prefix end n m h)
by_part s end n m Ended trailer o h = by_end s end n m trailer o h

laid : (text : List ℕ) (xs ys : List (List ℕ)) → text ++ (codes "$JOURNAL 1\n" ++ (ended_lines xs ++ ended_lines ys)) ≡ text ++ ended_lines (codes "$JOURNAL 1" ∷ (xs ++ ys))
laid text xs ys = simp (flat_map-append, append_assoc)

pub ended_text : (text : List ℕ) (j : Journal) (end : End) (n : ℕ) → IsJournal text j → IsVerdict j (ended_verdict end n) → IsRun j.system j.recs × (text ≡ transcript j.system j.recs end)
ended_text text j end n says (of_record m wrong is) = absurd (no_bad end n m is)
ended_text text j end n says (of_run run is) =
    let s : State = after j.system j.recs in
    let trailer : j.trailer ≡ ended_lines (trailer_lines s end (length j.recs)) = by_part s end n (length j.recs) j.part j.trailer (end_after j.system j.recs (limit_for (length j.recs))) is in
    (run, journal_spelled text j says ∙ ap (λ z. script j.system ++ (header ++ (ended_lines (records_lines j.system.units 1 j.recs) ++ z))) trailer ∙ laid (script j.system) (records_lines j.system.units 1 j.recs) (trailer_lines s end (length j.recs)))
