-- A source and a sink in memory, and what one call of each does.
use Rattle.std.specs.Prelude.{◌≡◌, ℕ, ◌-◌, min, nat_lt, ◌==◌, Bool, ◌||◌, if◌then◌else◌, List, [], ◌++◌, length, take, drop, Result, Ok, Err}
use Rattle.std.specs.List.{list_any}
use Rattle.vx_host.specs.Causes.{counted}
use Rattle.vx_host.specs.declared.source.Failed.{Failed}

abbrev pub failed : Failed
failed = record {}

-- A source: the bytes that are left, how many a read gives at most, the numbers of the calls that fail, and how many
-- calls and how many faults there were.
pub record SourceState : Type 0 where
  pub left : List ℕ
  pub piece : ℕ
  pub fails : List ℕ
  pub calls : ℕ
  pub faults : ℕ

-- A sink: the bytes held, how many it holds at most, how many a write takes at most, the numbers of the calls that
-- fail, and how many calls and how many faults there were.
pub record SinkState : Type 0 where
  pub held : List ℕ
  pub room : ℕ
  pub piece : ℕ
  pub fails : List ℕ
  pub calls : ℕ
  pub faults : ℕ

-- The call of a number is among those that fail. Calls are numbered from 1, and from 18446744073709551615 on they
-- all have that number.
abbrev pub is_among : List ℕ → ℕ → Bool
is_among fails call = list_any (λ n. n == call) fails

-- what one read does: its answer, the bytes that it gives, and the source after it
pub record Read : Type 0 where
  pub answer : Result ℕ Failed
  pub bytes : List ℕ
  pub after : SourceState

-- the call is counted
abbrev pub called : SourceState → SourceState
called s = record s { calls = counted s.calls }

-- a fault gives nothing
abbrev pub read_fault : SourceState → Read
read_fault s = record { answer = Err failed; bytes = []; after = record s { faults = counted s.faults } }

-- the first n of the bytes that are left are given
abbrev pub read_of : SourceState → ℕ → Read
read_of s n = record { answer = Ok n; bytes = take n s.left; after = record s { left = drop n s.left } }

-- one read into so many bytes: a fault at the numbers that fail, and else as much as the buffer, the piece and what is
-- left allow
abbrev pub one_read : SourceState → ℕ → Read
one_read s room =
    let t = called s in
    if is_among t.fails t.calls then read_fault t else read_of t (min (min room t.piece) (length t.left))

-- the answer, the front of the buffer and the source are those of the read, and the rest of the buffer is as it was
pub record DoesRead (read : Read) (answer : Result ℕ Failed) (buf_old buf_new : List ℕ) (after : SourceState) : Type 0 where
  pub answers : answer ≡ read.answer
  pub fills : buf_new ≡ read.bytes ++ drop (length read.bytes) buf_old
  pub leaves : after ≡ read.after

-- what one write does: its answer, and the sink after it
pub record Write : Type 0 where
  pub answer : Result ℕ Failed
  pub after : SinkState

-- the call is counted
abbrev pub sink_called : SinkState → SinkState
sink_called s = record s { calls = counted s.calls }

-- a fault takes nothing
abbrev pub write_fault : SinkState → Write
write_fault s = record { answer = Err failed; after = record s { faults = counted s.faults } }

-- these bytes are taken
abbrev pub write_of : SinkState → List ℕ → Write
write_of s bytes = record { answer = Ok (length bytes); after = record s { held = s.held ++ bytes } }

-- one write: a fault if its front is more than the room left, and at the numbers that fail, and else its front, as
-- long as the piece allows
abbrev pub one_write : SinkState → List ℕ → Write
one_write s bytes =
    let t = sink_called s in
    let front = take t.piece bytes in
    if nat_lt (t.room - length t.held) (length front) || is_among t.fails t.calls then write_fault t else write_of t front

-- the answer and the sink are those of the write
pub record DoesWrite (write : Write) (answer : Result ℕ Failed) (after : SinkState) : Type 0 where
  pub answers : answer ≡ write.answer
  pub leaves : after ≡ write.after
