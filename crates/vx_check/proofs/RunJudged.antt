-- The journal of a run that has ended is judged as it has ended.
use Rattle.std.proofs.Common.{◌≡◌, ℕ, zero, suc, ◌≤◌, nat_le, Bool, true, false, cond, List, [], ◌∷◌, length, Some, None, refl, sym, ap, subst, ◌∙◌, arith}
use Rattle.std.proofs.lemmas.Bool.{leb-true, le-leb}
use Rattle.vx_record.specs.Types.{End, Event}
use Rattle.vx_base.specs.declared.record.End.TheVariants.{Limit}
use Rattle.vx_lines.specs.Records.{ended_lines}
use Rattle.vx_record.specs.Events.{enabled}
use Rattle.vx_record.specs.Runs.{after, are_deleted, end_after, end_with}
use Rattle.vx_record.specs.State.{State}
use Rattle.vx_journal.proofs.JournalBack.{journal_back}
use Rattle.vx_journal.proofs.RunBack.{run_spelled, transcript_is}
use Rattle.vx_journal.specs.ReadJournal.{IsJournal}
use Rattle.vx_journal.specs.RunJournal.{run_journal}
use Rattle.vx_journal.specs.Transcript.{trailer_lines}
use Rattle.vx_check.specs.Laws.{RunJudged, TranscriptJudged}
use Rattle.vx_check.specs.Verdict.{of_run, ended_verdict, limit_for, trailer_verdict}
use Rattle.vx_base.proofs.Texts.{same_bytes}

-- how a run has ended by its limit is how it has by its number of records

above_none : (limit : ℕ) (end : End) (t : Bool) → nat_le limit 0 ≡ t → 1 ≤ limit → cond t (Some Limit) None ≡ Some end → cond (nat_le 1 0) (Some Limit) None ≡ Some end
above_none limit end true is above h = absurd (let low : limit ≤ 0 = leb-true limit 0 is in omega (arith, low, above))
above_none limit end false is above h = absurd (cc)

any_limit : (end : End) (t : Bool) → cond t (Some Limit) None ≡ Some end → Some Limit ≡ Some end
any_limit end true h = h
any_limit end false h = absurd (cc)

at_limit : (limit n : ℕ) (end : End) → 1 ≤ limit → cond (nat_le limit n) (Some Limit) None ≡ Some end → cond (nat_le (limit_for n) n) (Some Limit) None ≡ Some end
at_limit limit zero end above h = above_none limit end (nat_le limit 0) refl above h
at_limit limit (suc n) end above h =
    let full : nat_le (suc n) (suc n) ≡ true = le-leb (suc n) (suc n) (omega arith) in
    rw full (any_limit end (nat_le limit (suc n)) h)

by_events : (limit n : ℕ) (deleted : Bool) (es : List Event) (end : End) → 1 ≤ limit → end_with limit n deleted es ≡ Some end → end_with (limit_for n) n deleted es ≡ Some end
by_events limit n deleted [] end above h = h
by_events limit n deleted (e ∷ es) end above h = at_limit limit n end above h

pub run_judged : RunJudged
run_judged system recs limit end run above h =
    let s : State = after system recs in
    let n : ℕ = length recs in
    let trailer : List ℕ = ended_lines (trailer_lines s end n) in
    let ended : end_after system recs (limit_for n) ≡ Some end = by_events limit n (are_deleted s) (enabled s) end above h in
    let own : trailer_verdict s n trailer (Some end) ≡ ended_verdict end n = rw (same_bytes trailer) refl in
    of_run run (sym (ap (trailer_verdict s n trailer) ended ∙ own))

pub transcript_judged : TranscriptJudged
transcript_judged system recs limit end held above h =
    (subst (λ (z : List ℕ). IsJournal z (run_journal system recs end)) (sym (transcript_is system recs end)) (journal_back (run_journal system recs end) (run_spelled system recs end held)), run_judged system recs limit end held.run above h)
