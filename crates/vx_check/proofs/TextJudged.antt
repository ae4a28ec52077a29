-- The verdict on a text whose records were followed.
use Rattle.std.proofs.Common.{◌≡◌, ℕ, zero, suc, ◌==◌, ◌≤◌, nat_le, Bool, true, false, cond, List, [], ◌∷◌, length, drop, Option, None, Some, Result, Ok, Err, refl, sym, ap, subst, ◌∙◌, arith}
use Rattle.std.proofs.lemmas.Bool.{le-leb}
use Rattle.std.proofs.lemmas.Bool.Decides.{nat_tests}
use Rattle.vx_base.specs.declared.record.End.TheVariants.{Limit}
use Rattle.vx_record.specs.Types.{Event, Rec, System}
use Rattle.vx_lines.specs.ReadRecords.{read_records}
use Rattle.vx_lines.specs.declared.read.LinesFail.TheVariants as lines_fail
use Rattle.vx_lines.specs.declared.read.Records.{Records}
use Rattle.vx_record.specs.State.{State}
use Rattle.vx_record.specs.Events.{enabled}
use Rattle.vx_record.specs.Runs.{after, are_deleted, end_of, end_with, first}
use Rattle.vx_exec.specs.Taken.{TakesRun}
use Rattle.vx_exec.specs.View.{Executive, Plan, plan}
use Rattle.vx_script.specs.Results.{◌>>=◌}
use Rattle.vx_journal.proofs.Fronts.{bad_line_there, journal_there}
use Rattle.vx_journal.specs.ReadJournal.{IsFront, TellsFailure, behind_header, behind_records}
use Rattle.vx_journal.specs.TrailerLines.{read_trailer}
use Rattle.vx_journal.specs.declared.journal.Front.{Front}
use Rattle.vx_journal.specs.declared.journal.Journal.{Journal}
use Rattle.vx_journal.specs.declared.journal.JournalFail.TheVariants as fail
use Rattle.vx_journal.specs.declared.journal.Part.{Part}
use Rattle.vx_check.proofs.Judging.{wrong_verdict}
use Rattle.vx_check.specs.Following.{Ends, FollowsAll, IsVerdictBehind, JudgesBehind, fresh, verdict_on}
use Rattle.vx_check.specs.Judging.{end_for}
use Rattle.vx_check.specs.Verdict.{IsJudged, IsVerdict, limit_for, of_run, part_verdict}
use Rattle.vx_check.specs.declared.following.Followed.{Followed}
use Rattle.vx_check.specs.declared.verdict.Verdict.{Verdict}

-- How a run has ended.

at_most : (n : ℕ) (t : Bool) → nat_le 100000 (suc n) ≡ t → end_for (suc n) (cond t (Some Limit) None) ≡ Some Limit
at_most n true is = refl
at_most n false is = let some : (suc n == 0) ≡ false = grind (arith, nat_tests) in rw some refl

by_events : (n : ℕ) (deleted : Bool) (es : List Event) → end_for n (end_with 100000 n deleted es) ≡ end_with (limit_for n) n deleted es
by_events n deleted [] = refl
by_events zero deleted (e ∷ es) = refl
by_events (suc n) deleted (e ∷ es) =
    let full : nat_le (suc n) (suc n) ≡ true = le-leb (suc n) (suc n) (omega arith) in
    rw full (at_most n (nat_le 100000 (suc n)) refl)

-- by its number of records as the limit
pub end_by_count : (n : ℕ) (s : State) → end_for n (end_of 100000 n s) ≡ end_of (limit_for n) n s
end_by_count n s = by_events n (are_deleted s) (enabled s)

-- The verdict on a journal.

run_verdict_is : (j : Journal) (now : Executive) (v : Verdict) → TakesRun (fresh (first j.system)) now j.recs → length j.recs ≤ 100000 → v ≡ verdict_on now None j.part j.trailer → IsVerdict j v
run_verdict_is j now v takes few is =
    let s : State = after j.system j.recs in
    let n : ℕ = length j.recs in
    let limit : now.limit ≡ 100000 = ap (λ (p : Plan). p.limit) takes.planned in
    let taken : now.taken ≡ n = omega (arith, takes.counted) in
    let by : State → ℕ → ℕ → Verdict = λ t k m. part_verdict t k j.part j.trailer (end_for k (end_of m k t)) in
    let by_state : by now.state now.taken now.limit ≡ by s now.taken now.limit = ap (λ t. by t now.taken now.limit) takes.now in
    let by_taken : by s now.taken now.limit ≡ by s n now.limit = ap (λ k. by s k now.limit) taken in
    let by_limit : by s n now.limit ≡ by s n 100000 = ap (λ m. by s n m) limit in
    of_run (record { few = few; steps = takes.steps }) (is ∙ by_state ∙ by_taken ∙ by_limit ∙ ap (part_verdict s n j.part j.trailer) (end_by_count n s))

verdict_is : (j : Journal) (now : Executive) (v : Verdict) (o : Option ℕ) → Ends (first j.system) now j.recs o → v ≡ verdict_on now o j.part j.trailer → IsVerdict j v
verdict_is j now v None ends is = run_verdict_is j now v ends.0 ends.1 is
verdict_is j now v (Some n) ends is = subst (IsVerdict j) (sym is) (wrong_verdict j n ends.1)

-- what is known of an executive that followed records

ends_plan : (s : State) (now : Executive) (recs : List Rec) (o : Option ℕ) → Ends s now recs o → plan now ≡ plan (fresh s)
ends_plan s now recs None h = h.0.planned
ends_plan s now recs (Some n) h = h.0

pub follows_system : (s : State) (now : Executive) (line : ℕ) (text : List ℕ) (f : Followed) → FollowsAll s now line text f → now.state.system ≡ s.system
follows_system s now line text f h = ap (λ (p : Plan). p.system) (ends_plan s now h.recs f.wrong h.ends)

-- What stands behind a header.

abbrev journal_by : System → List Rec → List ℕ → Part → Journal
journal_by system recs trailer part = record { system = system; recs = recs; part = part; trailer = trailer }

-- the records were read, and then the trailer gives what the whole gives
trailer_behind : (system : System) (line : ℕ) (text : List ℕ) (records : Records) → read_records system.units line text ≡ Ok records → behind_header system line text ≡ (read_trailer system.units records.line (drop records.len text) >>= λ part. Ok (journal_by system records.recs (drop records.len text) part))
trailer_behind system line text records reads = ap (λ (o : Result Records ℕ). o >>= λ (r : Records). behind_records system r (drop r.len text)) reads

pub judged_behind : (system : System) (now : Executive) (line : ℕ) (text : List ℕ) (f : Followed) (part : Part) (v : Verdict) → FollowsAll (first system) now line text f → read_trailer system.units f.line (drop f.len text) ≡ Ok part → v ≡ verdict_on now f.wrong part (drop f.len text) → IsVerdictBehind system line text v
judged_behind system now line text f part v follows reads is =
    let records : Records = record { recs = follows.recs; line = f.line; len = f.len } in
    let j : Journal = journal_by system follows.recs (drop f.len text) part in
    record {
      journal = j;
      reads = trailer_behind system line text records follows.reads ∙ ap (λ (o : Result Part ℕ). o >>= λ p. Ok (journal_by system follows.recs (drop f.len text) p)) reads;
      judged = verdict_is j now v f.wrong follows.ends is;
    }

-- The text.

pub judged_text : (text : List ℕ) (f : Front) (v : Verdict) → IsFront text f → JudgesBehind f.system f.end.line (drop f.end.len text) (Ok v) → IsJudged text v
judged_text text f v front h = record {
  journal = h.journal;
  says = journal_there text f h.journal front h.reads;
  judged = h.judged;
}

pub bad_text : (text : List ℕ) (f : Front) (line : ℕ) → IsFront text f → JudgesBehind f.system f.end.line (drop f.end.len text) (Err (lines_fail.Bad line)) → TellsFailure text (fail.Form line)
bad_text text f line front h = bad_line_there text f line front h
