-- What the reader returned, in words of the grammar.
use Rattle.std.proofs.Common.{◌≡◌, ◌⊎◌, inl, inr, ℕ, ◌<◌, List, length, Result, Ok, Err, IfOk, refl, subst}
use Rattle.vx_grammar.proofs.Fields.{one_err}
use Rattle.vx_image.specs.declared.system.System.{System}
use Rattle.vx_image.specs.WellFormed.{IsWellFormed}
use Rattle.vx_script.specs.Reading.{read_script}
use Rattle.vx_script.specs.Results.{ReadsScript}
use Rattle.vx_script.specs.declared.fault.ScriptFail.{ScriptFail}
use Rattle.vx_script.specs.declared.fault.ScriptFail.TheVariants as fail
use Rattle.vx_script.specs.declared.fault.ScriptFault.{ScriptFault}
use Rattle.vx_grammar.specs.FirstFault.{Tells, TellsIfFault}
use Rattle.vx_grammar.specs.Grammar.{Spells}
use Rattle.vx_script.proofs.Accepted.{accepted}
use Rattle.vx_grammar.proofs.FewLabels.{well_formed}
use Rattle.vx_grammar.proofs.FirstFaults.{first_fault}
use Rattle.vx_grammar.proofs.ToldFaults.{only_fault}
use Rattle.vx_grammar.proofs.Whole.{read_is_spelled, spelled_is_read}

pub if_spelled : (text : List ℕ) (r : Result System ScriptFail) → ReadsScript r (read_script text) → length text < 4294967295 → IfOk r (λ s. Spells text s × IsWellFormed s)
if_spelled text (Ok s) h short = (read_is_spelled text s h, well_formed text s short (read_is_spelled text s h) (accepted text s h))
if_spelled text (Err e) h short = tt

pub no_other : (text : List ℕ) (r : Result System ScriptFail) → ReadsScript r (read_script text) → (s : System) → Spells text s → ReadsScript r (Ok s)
no_other text r h s g = subst (λ x. ReadsScript r x) (spelled_is_read text s g) h

pub if_fault : (text : List ℕ) (r : Result System ScriptFail) → ReadsScript r (read_script text) → TellsIfFault text r
if_fault text (Ok s) h = tt
if_fault text (Err fail.NoMemory) h = tt
if_fault text (Err (fail.Fault f)) h = first_fault text f h

pub no_other_fault : (text : List ℕ) (r : Result System ScriptFail) → ReadsScript r (read_script text) → (fault : ScriptFault) → Tells text fault → ReadsScript r (Err fault)
no_other_fault text r h fault t = subst (λ x. ReadsScript r x) (only_fault text fault t) h

-- Each text says one thing.

pub some : (text : List ℕ) → ((s : System) × Spells text s) ⊎ ((fault : ScriptFault) × Tells text fault)
some text = by (read_script text) refl
  where
    by : (r : Result System ScriptFault) → read_script text ≡ r → ((s : System) × Spells text s) ⊎ ((fault : ScriptFault) × Tells text fault)
    by (Ok s) e = inl (s, read_is_spelled text s e)
    by (Err fault) e = inr (fault, first_fault text fault e)

pub one_fault : (text : List ℕ) (f g : ScriptFault) → Tells text f → Tells text g → f ≡ g
one_fault text f g h k = one_err (read_script text) f g (only_fault text f h) (only_fault text g k)

apart : (s : System) (f : ScriptFault) (r : Result System ScriptFault) → r ≡ Ok s → r ≡ Err f → ⊥
apart s f r h k = cc

pub not_both : (text : List ℕ) (s : System) (f : ScriptFault) → Spells text s → Tells text f → ⊥
not_both text s f g h = apart s f (read_script text) (spelled_is_read text s g) (only_fault text f h)
