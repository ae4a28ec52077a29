-- A transcript that was judged and is read again is the same one.
use Rattle.std.proofs.Common.{◌≡◌, ℕ, List, Ok, ap, sym, ◌∙◌}
use Rattle.vx_check.specs.Verdict.{IsJudged}
use Rattle.vx_check.specs.declared.verdict.Verdict.{Verdict}
use Rattle.vx_grammar.specs.Grammar.{Spells}
use Rattle.vx_record.specs.Types.{System}
use Rattle.vx_journal.specs.ReadJournal.{script_part, journal_of, IsJournal}
use Rattle.vx_journal.specs.declared.journal.Journal.{Journal}
use Rattle.vx_words.specs.declared.command.Report.{Report}
use Rattle.vx_words.specs.declared.command.Report.TheVariants.{Line}
use Rattle.vx_commands.specs.Reported.{IsReported, report_text, verdict_line}

same_journal : (text : List ℕ) (i j : Journal) → IsJournal text i → ((s : System) → Spells (script_part text) s → journal_of s text ≡ Ok j) → i ≡ j
same_journal text i j is only = let both : Ok i ≡ Ok j = sym is.reads ∙ only i.system is.says in cc

pub drawn_as : (input : List ℕ) (report : Report) (verdict : Verdict) (j : Journal) (text : List ℕ) → IsJudged input verdict → ((s : System) → Spells (script_part input) s → journal_of s input ≡ Ok j) → text ≡ report_text report j verdict → IsReported input report verdict text
drawn_as input report verdict j text has only spells =
    let same = same_journal input has.journal j has.says only in
    record { journal = has.journal; says = has.says; judged = has.judged; spells = spells ∙ ap (λ (k : Journal). report_text report k verdict) (sym same) }

pub told_as : (input : List ℕ) (report : Report) (verdict : Verdict) (text : List ℕ) → report ≡ Line → IsJudged input verdict → text ≡ verdict_line verdict → IsReported input report verdict text
told_as input report verdict text is has spells =
    record { journal = has.journal; says = has.says; judged = has.judged; spells = spells ∙ ap (λ (r : Report). report_text r has.journal verdict) (sym is) }
