-- What the executive keeps beside its state, and what is true of it.
use Rattle.std.specs.Prelude.{◌≡◌, ℕ, ◌+◌, ◌-◌, ◌<◌, ◌≤◌, List, Bool, true, false, ◌==◌, not, Option, Some, None, IfSome, is_some, length, slice_index_or, ⊤}
use Rattle.std.specs.List.{AllByRecursion}
use Rattle.vx_base.specs.Flags.{one}
use Rattle.vx_base.specs.Lists.{tally}
use Rattle.vx_record.specs.Types.{Alarm, Pid, Req, Request, Timer, UnitNo}
use Rattle.vx_base.specs.Pieces.{OfTimer, OfWake}
use Rattle.vx_base.specs.Queues.{is_served_by}
use Rattle.vx_base.specs.Quotas.{no_need}
use Rattle.vx_record.specs.State.{State, IsProcess, IsWithin, process_at, limits_of}
use Rattle.vx_record.specs.Charges.{charge}
use Rattle.vx_quota.specs.Account.{Quotas}
use Rattle.vx_procs.specs.Kernel.{Room, no_room}
use Rattle.vx_procs.specs.Ready.{owed}
use Rattle.vx_procs.specs.Requests.{IsOwnRequest}
use Rattle.vx_procs.specs.Units.{Ending, asked_of}

-- of each process its room and its account
pub record Books : Type 0 where
  pub room : Room
  pub account : Quotas

abbrev pub no_books : Books
no_books = record { room = no_room; account = record { used = no_need; limits = no_need } }

abbrev pub books_at : List Books → Pid → Books
books_at bs p = slice_index_or bs (p.0 - 1) no_books

-- the process is the one whose spares may have been used since they were made
abbrev pub is_short : Option Pid → Pid → Bool
is_short None p = false
is_short (Some q) p = p.0 == q.0

-- how many spare places a process has
abbrev pub spare : Option Pid → Pid → ℕ
spare short p = one (not (is_short short p))

-- What is queued and promised has its places, and there are spare ones; what is charged is what the lists come to.
pub record IsBooked (s : State) (short : Option Pid) (p : Pid) (b : Books) : Type 0 where
  pub frames : length (process_at s p).frames + spare short p ≤ b.room.frames
  pub asts : owed s p + spare short p ≤ b.room.asts
  pub used : b.account.used ≡ charge s p
  pub limits : b.account.limits ≡ limits_of s p

-- the process that a wake is for is one of so many
abbrev pub IsTargetMade : ℕ → Alarm → Type 0
IsTargetMade n (OfTimer efn reqid mode tag) = ⊤
IsTargetMade n (OfWake target repeat) = IsWithin n target

-- An entry is a process's, and a wake is for a process; it is due now or later, and less than 2^32 ticks ahead.
pub record IsOwn (s : State) (t : Timer) : Type 0 where
  pub made : IsProcess s t.p
  pub target : IsTargetMade (length s.procs) t.what
  pub ahead : s.time ≤ t.due
  pub soon : t.due < s.time + 4294967296

-- a unit serves one request at most, and only the one that it is asked
pub record ServesAsked (requests : List Request) (u : UnitNo) (asked : Option Req) : Type 0 where
  pub few : tally (is_served_by u) requests ≤ one (is_some asked)
  pub only : AllByRecursion (λ r. is_served_by u r ≡ true → asked ≡ Some r.req) requests

abbrev pub AreServed : List Request → List (Option Ending) → Type 0
AreServed requests ends = (u : UnitNo) → ServesAsked requests u (asked_of (slice_index_or ends u.0 None))

pub record AreHeld (s : State) (short : Option Pid) (books : List Books) (ends : List (Option Ending)) : Type 0 where
  pub booked : (p : Pid) → IsProcess s p → IsBooked s short p (books_at books p)
  pub timers : AllByRecursion (IsOwn s) s.timers
  pub requests : AllByRecursion (λ r. IsOwnRequest s r.req) s.requests
  pub attention : AllByRecursion (λ a. IsProcess s a.p) s.attention
  pub served : AreServed s.requests ends
  pub marked : IfSome short (IsProcess s)
