-- What is written if an input is not read whole.
use Rattle.std.specs.Prelude.{ℕ, List, Option}
use Rattle.vx_host.specs.Causes.{Rose}
use Rattle.vx_host.specs.Streams.{Takes, TakesAtMost}
use Rattle.vx_host.specs.declared.source.ReadFail.{ReadFail}
use Rattle.vx_host.specs.declared.source.ReadFail.TheVariants as fail
use Rattle.vx_tell.specs.Lines.{no_memory, read_fault, too_long}
use Rattle.vx_tell.specs.declared.status.Status.{Status}
use Rattle.vx_tell.specs.declared.status.Status.TheVariants as status

-- the status that tells why
abbrev pub unread_status : ReadFail → Status
unread_status fail.Fault = status.ReadFault
unread_status fail.TooLong = status.TooLong
unread_status fail.NoMemory = status.NoMemory

-- and the line
abbrev pub unread_line : ReadFail → List ℕ
unread_line fail.Fault = read_fault
unread_line fail.TooLong = too_long
unread_line fail.NoMemory = no_memory

-- Why an input was not read whole, and what is told of it: a read failed within the limit, and the source's count of faults rose; or 67,108,865 bytes were read, one more
-- than is taken; or memory ran out, and the line on that states no cause. The source had the bytes `left` before and has `left_after`, and it has counted as many faults as
-- `faults` and `faults_after`.
pub data IsUnread (left left_after : Option (List ℕ)) (faults faults_after : ℕ) : Status → List ℕ → Type 0 where
  failed : TakesAtMost 67108864 left left_after → Rose faults faults_after → IsUnread left left_after faults faults_after status.ReadFault read_fault
  overflowed : Takes 67108865 left left_after → IsUnread left left_after faults faults_after status.TooLong too_long
  short : IsUnread left left_after faults faults_after status.NoMemory no_memory
