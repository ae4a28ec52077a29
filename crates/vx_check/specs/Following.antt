-- What is known of the records of a transcript while its lines are read. Private contracts cite this alone.
use Rattle.std.specs.Prelude.{◌≡◌, ◌⊎◌, ℕ, suc, ◌+◌, ◌<◌, ◌≤◌, ◌==◌, nat_lt, List, [], ◌∷◌, ◌++◌, length, take, if◌then◌else◌, Option, None, Some, Result, Ok, Err, Contains}
use Rattle.vx_record.specs.Types.{Effect, Rec, System}
use Rattle.vx_lines.specs.ReadRecords.{Fails, nothing_read, read_records, read_so_far}
use Rattle.vx_lines.specs.declared.read.LinesFail.{LinesFail}
use Rattle.vx_lines.specs.declared.read.Reading.{Reading}
use Rattle.vx_record.specs.State.{State}
use Rattle.vx_record.specs.Events.{enabled}
use Rattle.vx_record.specs.Runs.{end_of, record_of}
use Rattle.vx_exec.specs.Taken.{TakesRun}
use Rattle.vx_exec.specs.View.{Executive, after_step, plan}
use Rattle.vx_journal.specs.ReadJournal.{behind_header}
use Rattle.vx_journal.specs.declared.journal.Journal.{Journal}
use Rattle.vx_journal.specs.declared.journal.Part.{Part}
use Rattle.vx_check.specs.Judging.{AreRun, IsWrongFrom, end_for}
use Rattle.vx_check.specs.Verdict.{IsVerdict, part_verdict}
use Rattle.vx_check.specs.declared.course.Course.{Course}
use Rattle.vx_check.specs.declared.course.Course.TheVariants.{Begun, Open, Wrong}
use Rattle.vx_check.specs.declared.course.Progress.{Progress}
use Rattle.vx_check.specs.declared.following.Followed.{Followed}
use Rattle.vx_check.specs.declared.verdict.Verdict.{Verdict}
use Rattle.vx_check.specs.declared.verdict.Verdict.TheVariants.{Bad}

-- What a course says of the records, of which an executive took so many.

-- all of them are the machine's
abbrev pub IsRight : Course → Type 0
IsRight Begun = Unit {0}
IsRight (Open made kept) = made ≡ kept
IsRight (Wrong n) = ⊥

-- record n is the first that is not
abbrev pub IsWrong : ℕ → Course → ℕ → Type 0
IsWrong taken Begun n = ⊥
IsWrong taken (Open made kept) n = (n ≡ taken) × (made ≡ kept → ⊥)
IsWrong taken (Wrong m) n = n ≡ m

-- The executive that judges, before the first event.
abbrev pub fresh : State → Executive
fresh s = record { state = s; limit = 100000; taken = 0 }

-- The executive took all records before the last, and of the last one's event it made this record. What is kept of the last is all of
-- it, or one effect more than the machine made.
pub record IsOpen (s : State) (now : Executive) (made kept : Rec) (r : Reading) : Type 0 where
  pub last : Rec
  pub current : r.current ≡ Some last
  pub few : length r.recs < 100000
  pub takes : TakesRun (fresh s) now (r.recs ++ made ∷ [])
  pub event : made.event ≡ last.event
  pub front : kept ≡ record last { effects = take (suc (length made.effects)) last.effects }

-- record n is the first that is not the machine's, whatever the last one's effects are
pub data IsLost (s : State) (r : Reading) (n : ℕ) : Type 0 where
  before_last : (last : Rec) → r.current ≡ Some last → IsWrongFrom s r.recs n → IsLost s r n
  at_last : (last : Rec) → r.current ≡ Some last → n ≡ length r.recs + 1 → AreRun s r.recs → ((es : List Effect) → AreRun s (r.recs ++ record last { effects = es } ∷ []) → ⊥) → IsLost s r n

-- the course is that of what was read, from a state on
abbrev pub Follows : State → Executive → Course → Reading → Type 0
Follows s now Begun r = (r ≡ nothing_read) × (now ≡ fresh s)
Follows s now (Open made kept) r = IsOpen s now made kept r
Follows s now (Wrong n) r = (plan now ≡ plan (fresh s)) × IsLost s r n

pub record IsFollowing (s : State) (now : Executive) (p : Progress) (r : Reading) : Type 0 where
  pub count : p.count ≡ length (read_so_far r)
  pub course : Follows s now p.course r

-- A head, behind records that are the machine's.

-- Its event was enabled, and is taken.
pub record IsOpened (before after : Executive) (head made kept : Rec) : Type 0 where
  pub going : before.taken < before.limit
  pub there : Contains (enabled before.state) head.event
  pub made_is : made ≡ record_of before.state head.event
  pub kept_is : kept ≡ head
  pub goes : after ≡ after_step before head.event
  pub planned : plan after ≡ plan before

-- Its event was not enabled, or there were as many records as the limit. It has this number.
pub record IsRefused (before after : Executive) (number : ℕ) (head : Rec) (n : ℕ) : Type 0 where
  pub stays : after ≡ before
  pub place : n ≡ number
  pub why : (before.limit ≤ before.taken) ⊎ (Contains (enabled before.state) head.event → ⊥)

abbrev pub Opens : Executive → Executive → ℕ → Rec → Course → Type 0
Opens before after number head Begun = ⊥
Opens before after number head (Open made kept) = IsOpened before after head made kept
Opens before after number head (Wrong n) = IsRefused before after number head n

-- An effect.

abbrev pub with_more : Rec → ℕ → Effect → Rec
with_more rec most e = if nat_lt most (length rec.effects) then rec else record rec { effects = rec.effects ++ e ∷ [] }

abbrev pub course_with : Course → Effect → Course
course_with Begun e = Begun
course_with (Open made kept) e = Open made (with_more kept (length made.effects) e)
course_with (Wrong n) e = Wrong n

abbrev pub with_effect : Progress → Option Effect → Option Progress
with_effect p None = None
with_effect p (Some e) = if p.count == 0 then None else Some (record p { course = course_with p.course e })

-- A line: there is no progress if it is bad, and else it is that of what was read with the line.
abbrev pub FollowsLine : State → Executive → Option Progress → Option Reading → Type 0
FollowsLine s now None o = o ≡ None
FollowsLine s now (Some p) o = (r : Reading) × ((o ≡ Some r) × IsFollowing s now p r)

-- All lines.

-- all records are the machine's, or this one is the first that is not
abbrev pub Ends : State → Executive → List Rec → Option ℕ → Type 0
Ends s now recs None = TakesRun (fresh s) now recs × (length recs ≤ 100000)
Ends s now recs (Some n) = (plan now ≡ plan (fresh s)) × IsWrongFrom s recs n

-- The records that a text begins with, which it follows to their end.
pub record FollowsAll (s : State) (now : Executive) (line : ℕ) (text : List ℕ) (f : Followed) : Type 0 where
  pub recs : List Rec
  pub reads : read_records s.system.units line text ≡ Ok (record { recs = recs; line = f.line; len = f.len })
  pub ends : Ends s now recs f.wrong

abbrev pub IfFollows : State → Executive → ℕ → List ℕ → Result Followed LinesFail → Type 0
IfFollows s now line text (Ok f) = FollowsAll s now line text f
IfFollows s now line text (Err e) = Fails e (read_records s.system.units line text)

-- The verdict.

abbrev pub verdict_on : Executive → Option ℕ → Part → List ℕ → Verdict
verdict_on e None part trailer = part_verdict e.state e.taken part trailer (end_for e.taken (end_of e.limit e.taken e.state))
verdict_on e (Some n) part trailer = Bad n

-- on what stands behind a header

pub record IsVerdictBehind (system : System) (line : ℕ) (text : List ℕ) (v : Verdict) : Type 0 where
  pub journal : Journal
  pub reads : behind_header system line text ≡ Ok journal
  pub judged : IsVerdict journal v

abbrev pub JudgesBehind : System → ℕ → List ℕ → Result Verdict LinesFail → Type 0
JudgesBehind system line text (Ok v) = IsVerdictBehind system line text v
JudgesBehind system line text (Err e) = Fails e (behind_header system line text)
