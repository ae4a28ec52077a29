-- What a call writes, and what it answers.
use Rattle.std.specs.Prelude.{ℕ, List, Option, Result, Ok, Err}
use Rattle.std.specs.Io.KnownBytes.{Appends}
use Rattle.vx_host.specs.Causes.{Rose}
use Rattle.vx_host.specs.Streams.{AppendsFront}
use Rattle.vx_tell.specs.Lines.{no_memory}
use Rattle.vx_tell.specs.declared.output.Output.{Output}
use Rattle.vx_tell.specs.declared.status.Status.{Status}
use Rattle.vx_tell.specs.declared.status.Status.TheVariants as status

-- One of these texts was written, and the status that stands for it is answered; or the sink failed after a front of one of them. The sink
-- has counted as many faults as `faults` and `faults_after`, and holds `held` and `held_after`. No text stands for `WriteFault`.
pub data Told (Texts : Status → List ℕ → Type 0) (faults faults_after : ℕ) (held held_after : Option (List ℕ)) : Status → Type 0 where
  whole : (answer : Status) (text : List ℕ) → Texts answer text → Appends held held_after text → Told Texts faults faults_after held held_after answer
  broken : (answer : Status) (text : List ℕ) → Texts answer text → AppendsFront held held_after text → Rose faults faults_after → Told Texts faults faults_after held held_after status.WriteFault

-- this status and this text
pub data Only (status : Status) (text : List ℕ) : Status → List ℕ → Type 0 where
  only : Only status text status text

-- the output is one of these texts, with the status that stands for it
abbrev pub IsOutputOf : (Status → List ℕ → Type 0) → Output → Type 0
IsOutputOf Texts output = Texts output.status output.text

-- what is written of an output that there is, or of none
abbrev pub IsOutputText : {E : Type 0} → Result Output E → Status → List ℕ → Type 0
IsOutputText (Ok output) = Only output.status output.text
IsOutputText (Err failed) = Only status.NoMemory no_memory
