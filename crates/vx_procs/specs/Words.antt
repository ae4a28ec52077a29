-- Words on one process: its declaration and image, its local statements, the ASTs that its frames leave.
use Rattle.std.specs.Prelude.{ℕ, ◌+◌, ◌<◌, nat_le, List, [], ◌∷◌, ◌++◌, Bool, true, false, ◌&&◌, ◌==◌, not, if◌then◌else◌, Option, Some, None, is_some, option_map, length, ⊤}
use Rattle.std.specs.List.{list_any}
use Rattle.vx_base.specs.Lists.{amend, less}
use Rattle.vx_record.specs.Types.{Alarm, Effect, Frame, FrameKind, Handler, Id, Image, Mode, Need, Pid, ProcDecl, Queued, Timer}
use Rattle.vx_base.specs.Pieces.{OfTimer, OfWake}
use Rattle.vx_base.specs.declared.effects.Effect.TheVariants as effect
use Rattle.vx_base.specs.declared.frame.FrameKind.TheVariants as kind
use Rattle.vx_image.specs.Local.{Advanced, advanced, stopped}
use Rattle.vx_image.specs.Storage.{Storage}
use Rattle.vx_image.specs.declared.stop.Stop.TheVariants as stop
use Rattle.vx_record.specs.State.{Process, State, IsWithin, process_at, change, decl_of, image_of, top_mode}
use Rattle.vx_record.specs.Control.{created, held_by_both}
use Rattle.vx_base.specs.Modes.{outer}
use Rattle.vx_record.specs.Asts.{charged_ast, deliverable_at, with_queued}
use Rattle.vx_record.specs.Charges.{ast_need, is_timer, takes_ast, timer_need}
use Rattle.vx_record.specs.Timers.{due_again, is_due}
use Rattle.vx_record.specs.Events.{reader, moved_to}
use Rattle.vx_record.specs.Parts.{Part}
use Rattle.vx_record.specs.Rundown.{without_ast, is_ast_reached, leave_all, named_for_deletion}
use Rattle.vx_record.specs.Runs.{born_of}
use Rattle.vx_timers.specs.Seen.{falls_of}
use Rattle.vx_timers.specs.declared.due.Falls.{Falls}
use Rattle.vx_timers.specs.declared.due.Falls.TheVariants as falls

-- the process of a declaration at a place, if it is there from the start
abbrev pub born_if_started : ℕ → ProcDecl → List Process
born_if_started place d = if d.start then born_of place d ∷ [] else []

-- a declaration as a creator hands it on: with its group and member, no privilege that it lacks, and no inner mode
abbrev pub handed_on : Process → ProcDecl → ProcDecl
handed_on pr d = record d { group = pr.group; member = pr.member; privs = held_by_both pr.privs d.privs; mode = outer d.mode (top_mode pr.frames) }

-- the state with one process more
abbrev pub with_created : State → Pid → ℕ → State
with_created s p place = record s { procs = s.procs ++ created s p place ∷ [] }

-- the AST of a process that may start: none if it is suspended or has no frame
abbrev pub deliverable_of : Process → Option Queued
deliverable_of pr = if pr.suspended then None else deliverable_at pr pr.frames

-- no two of these have one id
abbrev pub have_own : {A : Type 0} → (A → Id) → List A → Bool
have_own id [] = true
have_own id (x ∷ xs) = not (list_any (λ y. (id x).0 == (id y).0) xs) && have_own id xs

abbrev pub have_own_ids : List Queued → Bool
have_own_ids qs = have_own (λ q. q.id) qs

abbrev pub handlers_have_own_ids : List Handler → Bool
handlers_have_own_ids hs = have_own (λ h. h.id) hs

-- the process without the AST that starts, if one does
abbrev pub without_started : Option Queued → Process → Process
without_started None pr = pr
without_started (Some q) pr = without_ast q.id pr

-- the process without the first of its queued ASTs that is of a mode or an outer one
abbrev pub without_reached : Mode → Process → Process
without_reached mode pr = record pr { asts = less (is_ast_reached mode) pr.asts }

-- the declaration of p is the system's, and so is its image

abbrev pub HasDecl : State → Pid → Type 0
HasDecl s p = (process_at s p).decl < length s.system.decls

abbrev pub HasImage : State → Pid → Type 0
HasImage s p = (decl_of s p).image < length s.system.images

-- the local statements of process p, of its image, from where its top frame stands

abbrev pub advanced_from : Image → Pid → Storage → List Frame → Advanced
advanced_from image p store [] = stopped store 0 stop.Local
advanced_from image p store (f ∷ fs) = advanced image (reader p f) store f.pc

abbrev pub advanced_of : Image → Pid → Process → Advanced
advanced_of image p pr = advanced_from image p pr.store pr.frames

abbrev pub advanced_at : State → Pid → Advanced
advanced_at s p = advanced_of (image_of s p) p (process_at s p)

-- the process after them
abbrev pub moved_as : Advanced → Process → Process
moved_as a pr = moved_to a.store a.place pr

-- the ASTs of these frames are no longer active, the top one first

abbrev pub left_kind : FrameKind → List Effect
left_kind (kind.Ast id) = effect.Leave id ∷ []
left_kind _ = []

abbrev pub left : List Frame → List Effect
left [] = []
left (f ∷ fs) = left_kind f.kind ++ left fs

-- those of the top frame alone
abbrev pub left_top : List Frame → List Effect
left_top [] = []
left_top (f ∷ fs) = left_kind f.kind

-- the frames of a process that is named for deletion go
abbrev pub frames_deleted : State → Pid → Part
frames_deleted s p = leave_all (process_at s p).frames (change s p named_for_deletion)

-- How many frames and exit handlers a process has, and the most that one of these has.

abbrev pub depth : Process → ℕ
depth pr = length pr.frames + length pr.handlers

abbrev pub deeper : ℕ → ℕ → ℕ
deeper a b = if nat_le a b then b else a

abbrev pub deepest : List Process → ℕ
deepest [] = 0
deepest (pr ∷ prs) = deeper (depth pr) (deepest prs)

-- Timers.

-- its id, its process, and what it does

abbrev pub due_entry : Timer → Id × Pid × Falls
due_entry t = (t.id, t.p, falls_of t.what)

-- the process that it wakes is one of so many
abbrev pub IsWoken : ℕ → Falls → Type 0
IsWoken n (falls.Timer efn) = ⊤
IsWoken n (falls.Wake target repeat) = IsWithin n target

-- what an entry is charged: a timer, and its AST if it has one; a wake as an AST
abbrev pub alarm_need : Alarm → Need
alarm_need a = if is_timer a then timer_need (takes_ast a) else ast_need true

-- what it is given back as it fires: an AST that it queues stays charged
abbrev pub fired_need : Alarm → Need
fired_need (OfTimer efn reqid mode tag) = timer_need false
fired_need (OfWake target repeat) = ast_need true

-- the AST that an entry queues when it is due

abbrev pub alarm_ast : Id → Alarm → Option Queued
alarm_ast id (OfTimer efn reqid mode tag) = option_map (charged_ast id mode) tag
alarm_ast id (OfWake target repeat) = None

abbrev pub timer_ast : Timer → Option Queued
timer_ast t = alarm_ast t.id t.what

abbrev pub fired_ast : Option Timer → Bool
fired_ast None = false
fired_ast (Some t) = is_some (timer_ast t)

abbrev pub with_queued_if : Option Queued → Process → Process
with_queued_if None pr = pr
with_queued_if (Some q) pr = with_queued q pr

abbrev pub without_timer : (Timer → Bool) → State → State
without_timer passes s = record s { timers = less passes s.timers }

-- the first entry that is due is so many ticks later
abbrev pub put_off_first : ℕ → ℕ → State → State
put_off_first now ticks s = record s { timers = amend (is_due now) (due_again ticks) s.timers }

-- the first entry that is due is out, and its AST, if it has one, is queued
abbrev pub moved_on : State → ℕ → Option Timer → State
moved_on s now None = s
moved_on s now (Some t) = change (without_timer (is_due now) s) t.p (with_queued_if (timer_ast t))
