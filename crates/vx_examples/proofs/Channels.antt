-- Channels and mailboxes: assigning, creating, freeing and deleting. RunChannelTest, RunFullMailbox and
-- RunMailboxRefused show whole runs.
use Rattle.std.specs.Prelude.{◌≡◌, ◌∷◌, [], ◌++◌, ℕ, List, None, Option, Some, codes, false, refl, replicate, true}
use Rattle.vx_record.specs.Types.{Channel, Mailbox, Msg}
use Rattle.vx_base.specs.declared.cond.Cond.TheVariants as cond
use Rattle.vx_base.specs.declared.mode.Mode.TheVariants as mode
use Rattle.vx_base.specs.declared.request.Body.TheVariants as body
use Rattle.vx_base.specs.declared.service.Service.TheVariants as service
use Rattle.vx_examples.specs.Script.{call, id, in_mode, mailbox, mbx, named, no_privs, process, puts, value, variable}
use Rattle.vx_examples.specs.Small.{Answers, Comes, Refuses, alone, box_holding, on_box, on_unit, small_store, somebody, somebody_in, with, with_both}
use Rattle.vx_record.specs.Services.{service}
use Rattle.vx_record.specs.State.{Process, State}

abbrev channels_to : List (Option Channel) → Process
channels_to channels = record somebody { channels = channels }

abbrev boxed : State → List (Option Mailbox) → State
boxed s boxes = record s { boxes = boxes }

abbrev empty_box : Mailbox
empty_box = box_holding []

abbrev permanent_box : Mailbox
permanent_box = record empty_box { permanent = true }

-- the variable A takes a number
abbrev told : ℕ → Process → Process
told n pr = record pr { store = record small_store { vars = n ∷ 0 ∷ [] } }

-- $ASSIGN: the least free number, and the outer one of the mode and the caller's

pub assign-unit :
    Answers (with (channels_to (Some (on_unit 0 mode.User) ∷ None ∷ None ∷ [])))
    (call service.Assign (variable (codes "A") ∷ named (codes "DK") ∷ in_mode mode.Kernel ∷ [])) cond.Normal
    (puts 1 (codes "A") 2 ∷ []) (with
    (told 2 (channels_to (Some (on_unit 0 mode.User) ∷ Some (on_unit 1 mode.User) ∷ None ∷ []))))
assign-unit = refl

pub assign-mode :
    Answers (with (somebody_in mode.Kernel))
    (call service.Assign (variable (codes "A") ∷ named (codes "TT") ∷ in_mode mode.Super ∷ [])) cond.Normal
    (puts 1 (codes "A") 1 ∷ []) (with
    (told 1 (record (somebody_in mode.Kernel) { channels = Some (on_unit 0 mode.Super) ∷ None ∷ None ∷ [] })))
assign-mode = refl

pub assign-mailbox :
    Answers (boxed alone (None ∷ Some empty_box ∷ []))
    (call service.Assign (variable (codes "A") ∷ named (codes "BOX") ∷ in_mode mode.Kernel ∷ [])) cond.Normal
    (puts 1 (codes "A") 1 ∷ []) (boxed (with (told 1 (channels_to (Some (on_box 1 mode.User) ∷ None ∷ None ∷ []))))
    (None ∷ Some empty_box ∷ []))
assign-mailbox = refl

pub assign-no_device :
    Refuses alone (call service.Assign (variable (codes "A") ∷ named (codes "BOX") ∷ in_mode mode.Kernel ∷ []))
    cond.NoSuchDev
assign-no_device = refl

-- all 64 are used; 63 of 64 are
pub assign-no_channel :
    Refuses (with (channels_to (replicate 64 (Some (on_unit 0 mode.User)))))
    (call service.Assign (variable (codes "A") ∷ named (codes "TT") ∷ in_mode mode.Kernel ∷ [])) cond.NoIoChan
assign-no_channel = refl

pub assign-last :
    (service (with (channels_to (replicate 63 (Some (on_unit 0 mode.User)) ++ None ∷ []))) (process 1)
    (call service.Assign (variable (codes "A") ∷ named (codes "TT") ∷ in_mode mode.Kernel ∷ []))).effects ≡
    puts 1 (codes "A") 64 ∷ []
assign-last = refl

-- $CREMBX

pub crembx-new :
    Answers alone (call service.CreMbx (mailbox (codes "A") (codes "BOX") 0 3 5 mode.Kernel)) cond.Normal
    (mbx (codes "BOX") true ∷ puts 1 (codes "A") 1 ∷ [])
    (boxed (with (told 1 (channels_to (Some (on_box 0 mode.User) ∷ None ∷ None ∷ []))))
    (Some empty_box ∷ None ∷ []))
crembx-new = refl

abbrev may_mailbox : Process
may_mailbox = record somebody { privs = record no_privs { prmmbx = true } }

-- the least free number of a mailbox
pub crembx-permanent :
    Answers (boxed (with may_mailbox) (Some (record empty_box { name = codes "B" }) ∷ None ∷ []))
    (call service.CreMbx (mailbox (codes "A") (codes "BOX") 1 3 5 mode.Kernel)) cond.Normal
    (mbx (codes "BOX") true ∷ puts 1 (codes "A") 1 ∷ [])
    (boxed (with (told 1 (record may_mailbox { channels = Some (on_box 1 mode.User) ∷ None ∷ None ∷ [] })))
    (Some (record empty_box { name = codes "B" }) ∷ Some permanent_box ∷ []))
crembx-permanent = refl

-- one that is there is assigned as it is, also a permanent or a marked one, and no privilege is asked for
pub crembx-found :
    Answers (boxed alone (Some (record permanent_box { marked = true }) ∷ None ∷ []))
    (call service.CreMbx (mailbox (codes "A") (codes "BOX") 1 200 300 mode.Kernel)) cond.Normal
    (puts 1 (codes "A") 1 ∷ [])
    (boxed (with (told 1 (channels_to (Some (on_box 0 mode.User) ∷ None ∷ None ∷ []))))
    (Some (record permanent_box { marked = true }) ∷ None ∷ []))
crembx-found = refl

pub crembx-unit_name :
    Refuses alone (call service.CreMbx (mailbox (codes "A") (codes "TT") 0 3 5 mode.Kernel)) cond.BadParam
crembx-unit_name = refl

pub crembx-no_size :
    Refuses alone (call service.CreMbx (mailbox (codes "A") (codes "BOX") 0 0 5 mode.Kernel)) cond.BadParam
crembx-no_size = refl

pub crembx-large :
    Refuses alone (call service.CreMbx (mailbox (codes "A") (codes "BOX") 0 2049 65535 mode.Kernel)) cond.BadParam
crembx-large = refl

pub crembx-largest :
    Comes alone (call service.CreMbx (mailbox (codes "A") (codes "BOX") 0 2048 65535 mode.Kernel)) cond.Normal
crembx-largest = refl

pub crembx-small_quota :
    Refuses alone (call service.CreMbx (mailbox (codes "A") (codes "BOX") 0 5 4 mode.Kernel)) cond.BadParam
crembx-small_quota = refl

pub crembx-large_quota :
    Refuses alone (call service.CreMbx (mailbox (codes "A") (codes "BOX") 0 5 65536 mode.Kernel)) cond.BadParam
crembx-large_quota = refl

-- the sizes are tested also if the mailbox is there
pub crembx-found_size :
    Refuses (boxed alone (Some empty_box ∷ None ∷ []))
    (call service.CreMbx (mailbox (codes "A") (codes "BOX") 0 0 5 mode.Kernel)) cond.BadParam
crembx-found_size = refl

pub crembx-without :
    Refuses alone (call service.CreMbx (mailbox (codes "A") (codes "BOX") 1 3 5 mode.Kernel)) cond.NoPriv
crembx-without = refl

-- 64 stand
abbrev full_boxes : List (Option Mailbox)
full_boxes = replicate 64 (Some (record empty_box { name = codes "B" }))

pub crembx-no_slot :
    Refuses (boxed alone full_boxes) (call service.CreMbx (mailbox (codes "A") (codes "BOX") 0 3 5 mode.Kernel))
    cond.NoSlot
crembx-no_slot = refl

pub crembx-no_channel :
    Refuses (with (channels_to (replicate 64 (Some (on_unit 0 mode.User)))))
    (call service.CreMbx (mailbox (codes "A") (codes "BOX") 0 3 5 mode.Kernel)) cond.NoIoChan
crembx-no_channel = refl

-- NOPRIV comes before NOSLOT, and NOSLOT before NOIOCHAN
pub crembx-privilege_first :
    Refuses (boxed alone full_boxes) (call service.CreMbx (mailbox (codes "A") (codes "BOX") 1 3 5 mode.Kernel))
    cond.NoPriv
crembx-privilege_first = refl

pub crembx-slot_first :
    Refuses (boxed (with (channels_to (replicate 64 (Some (on_unit 0 mode.User))))) full_boxes)
    (call service.CreMbx (mailbox (codes "A") (codes "BOX") 0 3 5 mode.Kernel)) cond.NoSlot
crembx-slot_first = refl

-- the mailbox is there, and no channel is free
pub crembx-found_no_channel :
    Refuses (boxed (with (channels_to (replicate 64 (Some (on_unit 0 mode.User))))) (Some empty_box ∷ None ∷ []))
    (call service.CreMbx (mailbox (codes "A") (codes "BOX") 0 3 5 mode.Kernel)) cond.NoIoChan
crembx-found_no_channel = refl

-- $DASSGN: the channel test

pub dassgn-zero : Refuses alone (call service.Dassgn (value 0 ∷ [])) cond.IvChan
dassgn-zero = refl

pub dassgn-above : Refuses alone (call service.Dassgn (value 65 ∷ [])) cond.IvChan
dassgn-above = refl

pub dassgn-free : Refuses alone (call service.Dassgn (value 2 ∷ [])) cond.NoPriv
dassgn-free = refl

pub dassgn-inner :
    Refuses (with (channels_to (Some (on_unit 0 mode.Super) ∷ []))) (call service.Dassgn (value 1 ∷ [])) cond.NoPriv
dassgn-inner = refl

-- a channel of an outer mode can be used
pub dassgn-outer :
    Answers (with (record (somebody_in mode.Kernel) { channels = Some (on_unit 0 mode.Super) ∷ None ∷ [] }))
    (call service.Dassgn (value 1 ∷ [])) cond.Normal []
    (with (record (somebody_in mode.Kernel) { channels = None ∷ None ∷ [] }))
dassgn-outer = refl

-- a temporary mailbox goes with its last channel, and its messages with it

abbrev message : Msg
message = record { id = id 3; writer = process 1; body = body.Text (codes "AB"); held = false }

pub dassgn-last :
    Answers (boxed (with (channels_to (Some (on_box 1 mode.User) ∷ [])))
    (None ∷ Some (box_holding (message ∷ [])) ∷ [])) (call service.Dassgn (value 1 ∷ [])) cond.Normal
    (mbx (codes "BOX") false ∷ []) (boxed (with (channels_to (None ∷ []))) (None ∷ None ∷ []))
dassgn-last = refl

-- another channel to it is left, of this process or of another
pub dassgn-not_last :
    Answers (boxed (with (channels_to (Some (on_box 0 mode.User) ∷ Some (on_box 0 mode.User) ∷ [])))
    (Some empty_box ∷ [])) (call service.Dassgn (value 1 ∷ [])) cond.Normal []
    (boxed (with (channels_to (None ∷ Some (on_box 0 mode.User) ∷ []))) (Some empty_box ∷ []))
dassgn-not_last = refl

pub dassgn-shared :
    Answers (boxed (with_both (channels_to (Some (on_box 0 mode.User) ∷ []))
    (channels_to (Some (on_box 0 mode.User) ∷ []))) (Some empty_box ∷ [])) (call service.Dassgn (value 1 ∷ []))
    cond.Normal []
    (boxed (with_both (channels_to (None ∷ [])) (channels_to (Some (on_box 0 mode.User) ∷ [])))
    (Some empty_box ∷ []))
dassgn-shared = refl

-- a permanent one stays with its messages; a marked one goes
pub dassgn-permanent :
    Answers (boxed (with (channels_to (Some (on_box 0 mode.User) ∷ [])))
    (Some (record (box_holding (message ∷ [])) { permanent = true }) ∷ [])) (call service.Dassgn (value 1 ∷ []))
    cond.Normal []
    (boxed (with (channels_to (None ∷ []))) (Some (record (box_holding (message ∷ [])) { permanent = true }) ∷ []))
dassgn-permanent = refl

pub dassgn-marked :
    Answers (boxed (with (channels_to (Some (on_box 0 mode.User) ∷ [])))
    (Some (record permanent_box { marked = true }) ∷ [])) (call service.Dassgn (value 1 ∷ [])) cond.Normal
    (mbx (codes "BOX") false ∷ []) (boxed (with (channels_to (None ∷ []))) (None ∷ []))
dassgn-marked = refl

-- $DELMBX

pub delmbx-above : Refuses alone (call service.DelMbx (value 65 ∷ [])) cond.IvChan
delmbx-above = refl

pub delmbx-free : Refuses alone (call service.DelMbx (value 1 ∷ [])) cond.NoPriv
delmbx-free = refl

pub delmbx-unit :
    Refuses (with (channels_to (Some (on_unit 0 mode.User) ∷ []))) (call service.DelMbx (value 1 ∷ []))
    cond.DevNotMbx
delmbx-unit = refl

pub delmbx-without :
    Refuses (boxed (with (channels_to (Some (on_box 0 mode.User) ∷ []))) (Some permanent_box ∷ []))
    (call service.DelMbx (value 1 ∷ [])) cond.NoPriv
delmbx-without = refl

pub delmbx-permanent :
    Answers (boxed (with (record may_mailbox { channels = Some (on_box 0 mode.User) ∷ [] }))
    (Some permanent_box ∷ []))
    (call service.DelMbx (value 1 ∷ [])) cond.Normal []
    (boxed (with (record may_mailbox { channels = Some (on_box 0 mode.User) ∷ [] }))
    (Some (record permanent_box { marked = true }) ∷ []))
delmbx-permanent = refl

-- a temporary one goes by itself, and no privilege is asked for
pub delmbx-temporary :
    Answers (boxed (with (channels_to (Some (on_box 0 mode.User) ∷ []))) (Some empty_box ∷ []))
    (call service.DelMbx (value 1 ∷ [])) cond.Normal []
    (boxed (with (channels_to (Some (on_box 0 mode.User) ∷ []))) (Some empty_box ∷ []))
delmbx-temporary = refl
