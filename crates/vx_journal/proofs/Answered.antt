-- What the reading of a script, and then of what stands behind it, answers of a text.
use Rattle.std.proofs.Common.{◌≡◌, ℕ, List, Result, Ok, Err, sym, subst}
use Rattle.vx_image.specs.WellFormed.{IsWellFormed}
use Rattle.vx_record.specs.Types.{System}
use Rattle.vx_grammar.specs.FirstFault.{Tells}
use Rattle.vx_grammar.specs.Grammar.{Spells}
use Rattle.vx_script.specs.Results.{ReadsScript, ScriptFails}
use Rattle.vx_script.specs.declared.fault.ScriptFail.{ScriptFail}
use Rattle.vx_script.specs.declared.fault.ScriptFault.{ScriptFault}
use Rattle.vx_script.specs.declared.fault.ScriptFail.TheVariants as script_fail
use Rattle.vx_journal.proofs.JournalText.{whole_text}
use Rattle.vx_journal.specs.ReadJournal.{FailsScript, ReadsJournal, TellsText, failure_of, journal_of, script_part}
use Rattle.vx_journal.specs.declared.journal.Journal.{Journal}
use Rattle.vx_journal.specs.declared.journal.JournalFail.{JournalFail}
use Rattle.vx_journal.specs.declared.journal.JournalFail.TheVariants as fail

-- If the script part, which is this text, says a system.

pub is_read : (text part : List ℕ) (system : System) (r : Result Journal JournalFail) → part ≡ script_part text → Spells part system → IsWellFormed system → ReadsJournal r (journal_of system text) → TellsText text r
is_read text part system (Ok j) same says formed reads =
    let kept : system ≡ j.system = sym (whole_text system text j reads).0 in
    (record { says = subst (λ s. Spells (script_part text) s) kept (subst (λ z. Spells z system) same says); reads = subst (λ (s : System). journal_of s text ≡ Ok j) kept reads }, subst IsWellFormed kept formed)
is_read text part system (Err (fail.Form line)) same says formed reads = record { system = system; says = subst (λ z. Spells z system) same says; bad = reads }
is_read text part system (Err (fail.Script fault)) same says formed reads = absurd reads
is_read text part system (Err fail.NoMemory) same says formed reads = tt

pub is_only : (text part : List ℕ) (system : System) (r : Result Journal JournalFail) → part ≡ script_part text → ((s : System) → Spells part s → ReadsScript (Ok system) (Ok s)) → ReadsJournal r (journal_of system text) → (s : System) → Spells (script_part text) s → ReadsJournal r (journal_of s text)
is_only text part system r same only reads s says =
    let is : s ≡ system = cc (only s (subst (λ z. Spells z s) (sym same) says)) in
    subst (λ z. ReadsJournal r (journal_of z text)) (sym is) reads

pub no_fault : (text part : List ℕ) (system : System) (r : Result Journal JournalFail) → part ≡ script_part text → ((fault : ScriptFault) → Tells part fault → ReadsScript (Ok system) (Err fault)) → (fault : ScriptFault) → Tells (script_part text) fault → FailsScript fault r
no_fault text part system r same only fault tells = absurd (cc (only fault (subst (λ z. Tells z fault) (sym same) tells)))

-- If it has a fault.

pub script_only : (text part : List ℕ) (e : ScriptFail) (f : JournalFail) → part ≡ script_part text → f ≡ failure_of e → ((s : System) → Spells part s → ScriptFails e (Ok s)) → (s : System) → Spells (script_part text) s → ReadsJournal (Err f) (journal_of s text)
script_only text part (script_fail.Fault fault) f same is only s says = absurd (cc (only s (subst (λ z. Spells z s) (sym same) says)))
script_only text part script_fail.NoMemory f same is only s says = subst (λ z. ReadsJournal (Err z) (journal_of s text)) (sym is) tt

pub script_faults : (text part : List ℕ) (e : ScriptFail) (f : JournalFail) → part ≡ script_part text → f ≡ failure_of e → ((fault : ScriptFault) → Tells part fault → ScriptFails {Y = System} e (Err fault)) → (fault : ScriptFault) → Tells (script_part text) fault → FailsScript fault (Err f)
script_faults text part (script_fail.Fault g) f same is only fault tells = subst (λ z. FailsScript fault (Err z)) (sym is) (sym (cc (only fault (subst (λ z. Tells z fault) (sym same) tells))))
script_faults text part script_fail.NoMemory f same is only fault tells = subst (λ z. FailsScript fault (Err z)) (sym is) tt
