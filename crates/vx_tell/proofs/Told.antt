-- What is told of texts is told of others that they are among.
use Rattle.std.proofs.Common.{◌≡◌, ℕ, List, Option, Result, Ok, Err, IfOk, refl, sym, subst}
use Rattle.vx_grammar.specs.FirstFault.{TellsIfFault, Tells}
use Rattle.vx_grammar.specs.Grammar.{Spells}
use Rattle.vx_host.specs.Causes.{Rose}
use Rattle.vx_host.specs.Streams.{Takes, TakesAtMost}
use Rattle.vx_host.specs.declared.source.ReadFail.{ReadFail}
use Rattle.vx_host.specs.declared.source.ReadFail.TheVariants as read
use Rattle.vx_image.specs.declared.system.System.{System}
use Rattle.vx_script.specs.declared.fault.ScriptFail.{ScriptFail}
use Rattle.vx_script.specs.declared.fault.ScriptFail.TheVariants as fail
use Rattle.vx_script.specs.declared.fault.ScriptFault.{ScriptFault}
use Rattle.vx_tell.specs.Lines.{fault_line, no_memory, read_fault, too_long}
use Rattle.vx_tell.specs.Refused.{IsNoScript, IsRefusalOf}
use Rattle.vx_tell.specs.Scripts.{OfScript, no_script, of_system}
use Rattle.vx_tell.specs.Told.{IsOutputOf, IsOutputText, Only, Told, broken, only, whole}
use Rattle.vx_tell.specs.Unread.{IsUnread, failed, overflowed, short, unread_line, unread_status}
use Rattle.vx_tell.specs.declared.output.Output.{Output}
use Rattle.vx_tell.specs.declared.status.Status.{Status}
use Rattle.vx_tell.specs.declared.status.Status.TheVariants as status

pub told_as : (P Q : Status → List ℕ → Type 0) (faults faults_after : ℕ) (held held_after : Option (List ℕ)) (answer : Status) → ((s : Status) (text : List ℕ) → P s text → Q s text) → Told P faults faults_after held held_after answer → Told Q faults faults_after held held_after answer
told_as P Q faults faults_after held held_after answer so (whole s text is written) = whole s text (so s text is) written
told_as P Q faults faults_after held held_after answer so (broken s text is front rose) = broken s text (so s text is) front rose

-- the one text that was told
pub told_only : (Q : Status → List ℕ → Type 0) (one : Status) (line : List ℕ) (faults faults_after : ℕ) (held held_after : Option (List ℕ)) (answer : Status) → Q one line → Told (Only one line) faults faults_after held held_after answer → Told Q faults faults_after held held_after answer
told_only Q one line faults faults_after held held_after answer is (whole s text only written) = whole s text is written
told_only Q one line faults faults_after held held_after answer is (broken s text only front rose) = broken s text is front rose

-- what is written of an output, or that there is none
pub told_output : {E : Type 0} (Q : Status → List ℕ → Type 0) (output : Result Output E) (faults faults_after : ℕ) (held held_after : Option (List ℕ)) (answer : Status) → IfOk output (IsOutputOf Q) → Q status.NoMemory no_memory → Told (IsOutputText output) faults faults_after held held_after answer → Told Q faults faults_after held held_after answer
told_output Q (Ok output) faults faults_after held held_after answer is none told = told_only Q output.status output.text faults faults_after held held_after answer is told
told_output Q (Err want) faults faults_after held held_after answer is none told = told_only Q status.NoMemory no_memory faults faults_after held held_after answer none told

-- the line that tells why an input was not read whole
pub told_unread : (left left_after : Option (List ℕ)) (faults faults_after counted counted_after : ℕ) (held held_after : Option (List ℕ)) (answer : Status) (why : ReadFail) → (why ≡ read.Fault → TakesAtMost 67108864 left left_after × Rose faults faults_after) → (why ≡ read.TooLong → Takes 67108865 left left_after) → Told (Only (unread_status why) (unread_line why)) counted counted_after held held_after answer → Told (IsUnread left left_after faults faults_after) counted counted_after held held_after answer
told_unread left left_after faults faults_after counted counted_after held held_after answer read.Fault failing long told =
    told_only (IsUnread left left_after faults faults_after) status.ReadFault read_fault counted counted_after held held_after answer (failed (failing refl).0 (failing refl).1) told
told_unread left left_after faults faults_after counted counted_after held held_after answer read.TooLong failing long told =
    told_only (IsUnread left left_after faults faults_after) status.TooLong too_long counted counted_after held held_after answer (overflowed (long refl)) told
told_unread left left_after faults faults_after counted counted_after held held_after answer read.NoMemory failing long told =
    told_only (IsUnread left left_after faults faults_after) status.NoMemory no_memory counted counted_after held held_after answer short told

-- What a command comes to that takes a script.

pub told_of_system : (Texts : System → Status → List ℕ → Type 0) (input : List ℕ) (system : System) (faults faults_after : ℕ) (held held_after : Option (List ℕ)) (answer : Status) → Spells input system → Told (Texts system) faults faults_after held held_after answer → Told (OfScript Texts input) faults faults_after held held_after answer
told_of_system Texts input system faults faults_after held held_after answer says told = told_as (Texts system) (OfScript Texts input) faults faults_after held held_after answer (λ s text is. of_system system s text says is) told

pub of_system_output : {E : Type 0} (Texts : System → Status → List ℕ → Type 0) (input : List ℕ) (system : System) (output : Result Output E) → Spells input system → IfOk output (IsOutputOf (Texts system)) → IfOk output (IsOutputOf (OfScript Texts input))
of_system_output Texts input system (Ok output) says is = of_system system output.status output.text says is
of_system_output Texts input system (Err want) says is = tt

pub is_no_script : (input : List ℕ) (fault : ScriptFault) → Tells input fault → IsNoScript input (fault_line fault)
is_no_script input fault tells = record { fault = fault; tells = tells; spells = refl }

pub refused_output : {E : Type 0} (Texts : System → Status → List ℕ → Type 0) (input : List ℕ) (failure : ScriptFail) (output : Result Output E) → TellsIfFault input (Err failure) → IfOk output (IsRefusalOf failure) → IfOk output (IsOutputOf (OfScript Texts input))
refused_output Texts input failure (Err want) tells is = tt
refused_output Texts input (fail.Fault fault) (Ok output) tells is = subst (λ (z : Output). OfScript Texts input z.status z.text) (sym is) (no_script (fault_line fault) (is_no_script input fault tells))
refused_output Texts input fail.NoMemory (Ok output) tells is = absurd is
