-- The program's statuses.
use Rattle.std.specs.Prelude.{ℕ}
use Rattle.vx_base.specs.declared.record.End.{End}
use Rattle.vx_base.specs.declared.record.End.TheVariants as end
use Rattle.vx_tell.specs.declared.status.Status.{Status}
use Rattle.vx_tell.specs.declared.status.Status.TheVariants.{Done, Hung, Words, Form, Limit, Illegal, ReadFault, WriteFault, NoMemory, TooLong, Cut}

abbrev pub code_of : Status → ℕ
code_of Done = 0
code_of Hung = 1
code_of Words = 2
code_of Form = 3
code_of Limit = 4
code_of Illegal = 5
code_of ReadFault = 6
code_of WriteFault = 7
code_of NoMemory = 8
code_of TooLong = 9
code_of Cut = 10

-- the status of a run that has ended so
abbrev pub status_of_end : End → Status
status_of_end end.Done = Done
status_of_end end.Hung = Hung
status_of_end end.Limit = Limit
