-- $QIO, $QIOW and $SYNCH: refusals in their order, and acceptance. RunBufferedBytes, RunFullMailbox and RunLineUnit
-- show whole runs.
use Rattle.std.specs.Prelude.{◌≡◌, ◌∷◌, [], None, Some, codes, false, refl, replicate, true}
use Rattle.vx_base.specs.Pieces.{cleared}
use Rattle.vx_base.specs.declared.cond.Cond.TheVariants as cond
use Rattle.vx_base.specs.declared.effects.Opened.TheVariants as opened
use Rattle.vx_base.specs.declared.frame.FrameKind.TheVariants as kind
use Rattle.vx_base.specs.declared.frame.Wait.TheVariants as wait
use Rattle.vx_base.specs.declared.mode.Mode.TheVariants as mode
use Rattle.vx_record.specs.Types.{Msg, Need}
use Rattle.vx_base.specs.declared.request.Body.TheVariants as body
use Rattle.vx_base.specs.declared.request.Func.TheVariants as func
use Rattle.vx_base.specs.declared.routine.Entry.TheVariants as entry
use Rattle.vx_base.specs.declared.service.Service.TheVariants as service
use Rattle.vx_examples.specs.Script.{call, cleared_status, declared, fin, flag, id, mput, no_routine, opens, process, request, routine, usual_limits, value}
use Rattle.vx_examples.specs.Small.{Answers, Comes, Refuses, Suspends, alone, block_unit, box_holding, connected, connected_with, filled, frame_of, in_box, line_unit, on_unit, online, outstanding, small_system, somebody, waiting, with}
use Rattle.vx_record.specs.Services.{service}
use Rattle.vx_record.specs.State.{Process, State}
use Rattle.vx_record.specs.declared.served.Served.TheVariants.{Waits}

-- $QIO: a number of a status block, a buffer or a length out of its range; attention without an AST.

pub qio-status :
    Refuses online (call service.Qio (request 1 (value 1) func.Read 33 no_routine 0 0 3 0)) cond.BadParam
qio-status = refl

pub qio-buffer :
    Refuses online (call service.Qio (request 1 (value 1) func.Read 0 no_routine 0 32 3 0)) cond.BadParam
qio-buffer = refl

pub qio-length :
    Refuses online (call service.Qio (request 1 (value 1) func.Read 0 no_routine 0 0 2049 0)) cond.BadParam
qio-length = refl

pub qio-edges :
    Comes online (call service.Qio (request 1 (value 1) func.Read 32 no_routine 0 31 2048 0)) cond.Normal
qio-edges = refl

pub qio-attention :
    Refuses online (call service.Qio (request 1 (value 3) func.WrtAttn 0 no_routine 0 0 0 0)) cond.BadParam
qio-attention = refl

pub qio-read_attention :
    Refuses online (call service.Qio (request 1 (value 3) func.ReadAttn 0 no_routine 0 0 0 0)) cond.BadParam
qio-read_attention = refl

-- the flag test, after that; the channel test, after the flag test

pub qio-bad_first :
    Refuses online (call service.Qio (request 128 (value 0) func.Read 33 no_routine 0 0 3 0)) cond.BadParam
qio-bad_first = refl

pub qio-above : Refuses online (call service.Qio (request 128 (value 0) func.Read 0 no_routine 0 0 3 0)) cond.IllEfc
qio-above = refl

pub qio-unnamed :
    Refuses online (call service.Qio (request 64 (value 0) func.Read 0 no_routine 0 0 3 0)) cond.UnasEfc
qio-unnamed = refl

pub qio-channel_zero :
    Refuses online (call service.Qio (request 1 (value 0) func.Read 0 no_routine 0 0 3 0)) cond.IvChan
qio-channel_zero = refl

pub qio-channel_free :
    Refuses online (call service.Qio (request 1 (value 4) func.Read 0 no_routine 0 0 3 0)) cond.NoPriv
qio-channel_free = refl

pub qio-channel_inner :
    Refuses (with (record somebody { channels = Some (on_unit 0 mode.Super) ∷ [] }))
    (call service.Qio (request 1 (value 1) func.Read 0 no_routine 0 0 3 0)) cond.NoPriv
qio-channel_inner = refl

-- units read and write alone

pub qio-read_now :
    Refuses online (call service.Qio (request 1 (value 1) func.ReadNow 0 no_routine 0 0 3 0)) cond.IllIoFunc
qio-read_now = refl

pub qio-write_now :
    Refuses online (call service.Qio (request 1 (value 2) func.WriteNow 0 no_routine 0 0 3 0)) cond.IllIoFunc
qio-write_now = refl

pub qio-eof : Refuses online (call service.Qio (request 1 (value 1) func.Eof 0 no_routine 0 0 0 0)) cond.IllIoFunc
qio-eof = refl

pub qio-eof_now :
    Refuses online (call service.Qio (request 1 (value 1) func.EofNow 0 no_routine 0 0 0 0)) cond.IllIoFunc
qio-eof_now = refl

pub qio-unit_attention :
    Refuses online (call service.Qio (request 1 (value 1) func.WrtAttn 0 (routine (codes "T")) 0 0 0 0))
    cond.IllIoFunc
qio-unit_attention = refl

pub qio-unit_read_attention :
    Refuses online (call service.Qio (request 1 (value 1) func.ReadAttn 0 (routine (codes "T")) 0 0 0 0))
    cond.IllIoFunc
qio-unit_read_attention = refl

-- a message of more than 3 bytes; one that does not fit beside those that are stored

abbrev stored : Msg
stored = record { id = id 3; writer = process 1; body = body.Text (codes "ABC"); held = false }

abbrev with_stored : State
with_stored = record online { boxes = Some (box_holding (stored ∷ [])) ∷ None ∷ [] }

pub qio-too_long :
    Refuses online (call service.Qio (request 1 (value 3) func.Write 0 no_routine 0 0 4 0)) cond.MbTooSml
qio-too_long = refl

pub qio-too_long_now :
    Refuses online (call service.Qio (request 1 (value 3) func.WriteNow 0 no_routine 0 0 4 0)) cond.MbTooSml
qio-too_long_now = refl

pub qio-too_long_first :
    Refuses with_stored (call service.Qio (request 1 (value 3) func.Write 0 no_routine 0 0 4 0)) cond.MbTooSml
qio-too_long_first = refl

pub qio-full :
    Refuses with_stored (call service.Qio (request 1 (value 3) func.WriteNow 0 no_routine 0 0 3 0)) cond.MbFull
qio-full = refl

pub qio-just_fits :
    Comes with_stored (call service.Qio (request 1 (value 3) func.WriteNow 0 no_routine 0 0 2 0)) cond.Normal
qio-just_fits = refl

-- an end of file has no length, so it is neither too long nor too much; nor is a read
pub qio-eof_fits :
    Comes with_stored (call service.Qio (request 1 (value 3) func.Eof 0 no_routine 0 0 2048 0)) cond.Normal
qio-eof_fits = refl

pub qio-read_fits :
    Comes with_stored (call service.Qio (request 1 (value 3) func.Read 0 no_routine 0 0 4 0)) cond.Normal
qio-read_fits = refl

-- if a read waits the message is not stored: the quota of the mailbox is not asked
pub qio-read_waits :
    Comes (record online {
      boxes = Some (record (box_holding []) { bufquo = 3; maxmsg = 9 }) ∷ None ∷ [];
      requests = outstanding 3 in_box func.Read ∷ [];
    })
    (call service.Qio (request 1 (value 3) func.Write 0 no_routine 0 0 9 0)) cond.Normal
qio-read_waits = refl

pub qio-no_read_waits :
    Refuses (record online { boxes = Some (record (box_holding []) { bufquo = 3; maxmsg = 9 }) ∷ None ∷ [] })
    (call service.Qio (request 1 (value 3) func.Write 0 no_routine 0 0 9 0)) cond.MbFull
qio-no_read_waits = refl

-- quotas: exactly where a charge and the need exceed the limit

abbrev limited : Need → State → State
limited limits s = record s {
  system = record small_system
      { decls = record (declared (codes "P") 0) { limits = limits } ∷ [] };
}

pub qio-no_bio :
    Refuses (limited (record usual_limits { bio = 0 }) online)
    (call service.Qio (request 1 (value 1) func.Read 0 no_routine 0 0 3 0)) cond.ExQuota
qio-no_bio = refl

pub qio-no_bytes :
    Refuses (limited (record usual_limits { byt = 2 }) online)
    (call service.Qio (request 1 (value 1) func.Read 0 no_routine 0 0 3 0)) cond.ExQuota
qio-no_bytes = refl

pub qio-bytes :
    Comes (limited (record usual_limits { byt = 3; dio = 0; ast = 0; tqe = 0 }) online)
    (call service.Qio (request 1 (value 1) func.Read 0 no_routine 0 0 3 0)) cond.Normal
qio-bytes = refl

-- the bytes of an outstanding request of this process count, and not those of another's
pub qio-bytes_charged :
    Refuses (limited (record usual_limits { byt = 5 })
    (record online { requests = outstanding 3 line_unit func.Read ∷ [] }))
    (call service.Qio (request 1 (value 1) func.Read 0 no_routine 0 0 3 0)) cond.ExQuota
qio-bytes_charged = refl

-- a block unit takes DIOLM and no bytes
pub qio-no_dio :
    Refuses (limited (record usual_limits { dio = 0 }) online)
    (call service.Qio (request 1 (value 2) func.Read 0 no_routine 0 0 3 0)) cond.ExQuota
qio-no_dio = refl

pub qio-dio :
    Comes (limited (record usual_limits { bio = 0; byt = 0 }) online)
    (call service.Qio (request 1 (value 2) func.Read 0 no_routine 0 0 3 0)) cond.Normal
qio-dio = refl

pub qio-no_ast :
    Refuses (limited (record usual_limits { ast = 0 }) online)
    (call service.Qio (request 1 (value 1) func.Read 0 (routine (codes "T")) 0 0 3 0)) cond.ExQuota
qio-no_ast = refl

-- attention takes ASTLM alone
pub qio-attention_no_ast :
    Refuses (limited (record usual_limits { ast = 0 }) online)
    (call service.Qio (request 1 (value 3) func.WrtAttn 0 (routine (codes "T")) 0 0 3 0)) cond.ExQuota
qio-attention_no_ast = refl

pub qio-attention_alone :
    Comes (limited (record usual_limits { bio = 0; byt = 0; dio = 0 }) online)
    (call service.Qio (request 1 (value 3) func.WrtAttn 0 (routine (codes "T")) 0 0 3 0)) cond.Normal
qio-attention_alone = refl

-- an end of file takes no bytes
pub qio-eof_bytes :
    Comes (limited (record usual_limits { byt = 0 }) online)
    (call service.Qio (request 1 (value 3) func.Eof 0 no_routine 0 0 3 0)) cond.Normal
qio-eof_bytes = refl

-- Acceptance: the flag is cleared, the status block too, and the request is queued at its unit.

abbrev before : Process
before = record (connected_with (codes "WXYZ" ∷ replicate 4 0 ∷ []) (cleared ∷ filled cond.Abort 4 2 ∷ []))
    { cluster_0 = 3 }

abbrev after : Process
after = record connected { cluster_0 = 1 }

pub qio-read :
    Answers (with before) (call service.Qio (request 1 (value 1) func.Read 2 no_routine 0 1 4 0)) cond.Normal
    (flag 1 1 false ∷ cleared_status 1 2 ∷ opens 7 opened.Bio 1 None 4 ∷ [])
    (record (with after) {
      next = 8;
      requests = record (outstanding 7 line_unit func.Read)
          { req = record ((outstanding 7 line_unit func.Read).req) { iosb = 2; len = 4 } } ∷ [];
    })
qio-read = refl

-- a write captures the first bytes of the buffer; the AST's parameter is the argument, its mode the caller's, and the
-- request keeps the mode of its channel
abbrev inside : Process
inside = record connected { frames = frame_of kind.Main mode.Exec ∷ [] }

pub qio-write :
    Answers (with inside) (call service.Qio (request 1 (value 2) func.Write 0 (routine (codes "H")) 5 0 3 6))
    cond.Normal
    (flag 1 1 false ∷ opens 7 opened.Dio 1 (Some mode.Exec) 0 ∷ [])
    (record (with inside) {
      next = 8;
      requests =
          record (outstanding 7 block_unit func.Write) {
            req = record ((outstanding 7 block_unit func.Write).req)
                { chan = 2; iosb = 0; buf = 0; blk = 6; bytes = codes "WXY" };
            ast = Some (record { mode = mode.Exec; tag = entry.Label 1 5 });
          } ∷ [];
    })
qio-write = refl

-- $QIOW: refused as $QIO; a request on a unit is waited for; one that is finished at once is not

pub qiow-bad :
    Refuses online (call service.QioW (request 1 (value 1) func.Read 33 no_routine 0 0 3 0)) cond.BadParam
qiow-bad = refl

pub qiow-channel :
    Refuses online (call service.QioW (request 1 (value 65) func.Read 0 no_routine 0 0 3 0)) cond.IvChan
qiow-channel = refl

pub qiow-quota :
    Refuses (limited (record usual_limits { bio = 0 }) online)
    (call service.QioW (request 1 (value 1) func.Read 0 no_routine 0 0 3 0)) cond.ExQuota
qiow-quota = refl

pub qiow-waits :
    Suspends (with before) (call service.QioW (request 1 (value 1) func.Read 2 no_routine 0 1 4 0))
    (flag 1 1 false ∷ cleared_status 1 2 ∷ opens 7 opened.Bio 1 None 4 ∷ [])
    (record (with (record after
    { frames = record (frame_of kind.Main mode.User) { wait = Some (wait.Synch 1 2) } ∷ [] })) {
      next = 8;
      requests = record (outstanding 7 line_unit func.Read)
          { req = record ((outstanding 7 line_unit func.Read).req) { iosb = 2; len = 4 } } ∷ [];
    })
qiow-waits = refl

pub qiow-at_once :
    Answers online (call service.QioW (request 1 (value 3) func.EofNow 0 no_routine 0 0 0 0)) cond.Normal
    (flag 1 1 false ∷ opens 7 opened.Bio 1 None 0 ∷ mput (codes "BOX") 7 body.Eof ∷ fin 7 cond.Normal ∷ flag 1 1
    true ∷ [])
    (record (with (record connected { cluster_0 = 2 })) {
      next = 8;
      boxes = Some (box_holding (record { id = id 7; writer = process 1; body = body.Eof; held = false } ∷ [])) ∷
          None ∷ [];
    })
qiow-at_once = refl

-- $SYNCH

pub synch-status : Refuses alone (call service.Synch (value 128 ∷ value 33 ∷ [])) cond.BadParam
synch-status = refl

pub synch-above : Refuses alone (call service.Synch (value 128 ∷ value 32 ∷ [])) cond.IllEfc
synch-above = refl

pub synch-unnamed : Refuses alone (call service.Synch (value 64 ∷ value 0 ∷ [])) cond.UnasEfc
synch-unnamed = refl

pub synch-set :
    Answers (with (record somebody { cluster_0 = 2 })) (call service.Synch (value 1 ∷ value 0 ∷ [])) cond.Normal []
    (with (record somebody { cluster_0 = 2 }))
synch-set = refl

-- the flag is set, but the status block is cleared
pub synch-cleared :
    Suspends (with (record somebody { cluster_0 = 2 })) (call service.Synch (value 1 ∷ value 1 ∷ [])) []
    (with (record (waiting (wait.Synch 1 1)) { cluster_0 = 2 }))
synch-cleared = refl

-- $QIOW is refused as $QIO is

pub qiow-above :
    Refuses online (call service.QioW (request 128 (value 1) func.Read 0 no_routine 0 0 3 0)) cond.IllEfc
qiow-above = refl

pub qiow-unnamed :
    Refuses online (call service.QioW (request 64 (value 1) func.Read 0 no_routine 0 0 3 0)) cond.UnasEfc
qiow-unnamed = refl

pub qiow-free : Refuses online (call service.QioW (request 1 (value 4) func.Read 0 no_routine 0 0 3 0)) cond.NoPriv
qiow-free = refl

pub qiow-function :
    Refuses online (call service.QioW (request 1 (value 1) func.ReadNow 0 no_routine 0 0 3 0)) cond.IllIoFunc
qiow-function = refl

pub qiow-too_long :
    Refuses online (call service.QioW (request 1 (value 3) func.Write 0 no_routine 0 0 4 0)) cond.MbTooSml
qiow-too_long = refl

pub qiow-full :
    Refuses with_stored (call service.QioW (request 1 (value 3) func.Write 0 no_routine 0 0 3 0)) cond.MbFull
qiow-full = refl

-- the flag of another request is set already, and its status block is filled: the call clears both, and waits
pub qiow-clears :
    (service (with (record before { cluster_0 = 2 })) (process 1)
    (call service.QioW (request 1 (value 1) func.Read 2 no_routine 0 1 4 0))).answer ≡ Waits
qiow-clears = refl
