-- Cancelling a channel, by $CANCEL and $DASSGN. RunCancel shows a whole run.
use Rattle.std.specs.Prelude.{◌∷◌, [], ℕ, List, None, Some, codes, false, refl, replicate, true}
use Rattle.vx_record.specs.Types.{Attention, Func, Msg, Request}
use Rattle.vx_base.specs.Pieces.{cleared}
use Rattle.vx_base.specs.declared.cond.Cond.TheVariants as cond
use Rattle.vx_base.specs.declared.mode.Mode.TheVariants as mode
use Rattle.vx_base.specs.declared.request.Body.TheVariants as body
use Rattle.vx_base.specs.declared.request.Func.TheVariants as func
use Rattle.vx_base.specs.declared.routine.Entry.TheVariants as entry
use Rattle.vx_base.specs.declared.service.Service.TheVariants as service
use Rattle.vx_examples.specs.Script.{box, call, drops, fin, flag, id, mark, mbx, mcut, process, que, status, value}
use Rattle.vx_examples.specs.Small.{Answers, Refuses, box_holding, connected, connected_with, filled, in_box, line_unit, on_box, on_unit, online, outstanding, somebody, with, with_both}
use Rattle.vx_record.specs.State.{Process, State}

-- the channel test

pub cancel-zero : Refuses online (call service.Cancel (value 0 ∷ [])) cond.IvChan
cancel-zero = refl

pub cancel-above : Refuses online (call service.Cancel (value 65 ∷ [])) cond.IvChan
cancel-above = refl

pub cancel-free : Refuses online (call service.Cancel (value 4 ∷ [])) cond.NoPriv
cancel-free = refl

pub cancel-inner :
    Refuses (with (record somebody { channels = Some (on_unit 0 mode.Exec) ∷ [] }))
    (call service.Cancel (value 1 ∷ []))
    cond.NoPriv
cancel-inner = refl

pub cancel-nothing : Answers online (call service.Cancel (value 1 ∷ [])) cond.Normal [] online
cancel-nothing = refl

-- One in service is marked, once; those that wait finish; those of another channel and of another process stay.

abbrev reads : ℕ → ℕ → ℕ → Request
reads n p chan = record (outstanding n line_unit func.Read)
    { req = record ((outstanding n line_unit func.Read).req) { p = process p; chan = chan; iosb = 0; efn = n } }

abbrev served : Request → Request
served r = record r { served = true }

abbrev marked : Request → Request
marked r = record r { served = true; marked = true }

abbrev asking : List Request → Process → State
asking requests pr = record online { procs = pr ∷ connected ∷ []; requests = requests }

pub cancel-all :
    Answers (asking (reads 1 2 1 ∷ served (reads 2 1 1) ∷ reads 3 1 1 ∷ reads 4 1 2 ∷ reads 5 1 1 ∷ []) connected)
    (call service.Cancel (value 1 ∷ [])) cond.Normal
    (mark 2 ∷ fin 3 cond.Cancel ∷ flag 1 3 true ∷ fin 5 cond.Cancel ∷ flag 1 5 true ∷ [])
    (asking (reads 1 2 1 ∷ marked (reads 2 1 1) ∷ reads 4 1 2 ∷ []) (record connected { cluster_0 = 40 }))
cancel-all = refl

pub cancel-again :
    Answers (asking (marked (reads 2 1 1) ∷ []) connected) (call service.Cancel (value 1 ∷ [])) cond.Normal []
    (asking (marked (reads 2 1 1) ∷ []) connected)
cancel-again = refl

-- a cancelled read puts no bytes, fills its status block, and queues its AST
abbrev with_ast : Request → Request
with_ast r = record r { ast = Some (record { mode = mode.User; tag = entry.Label 0 0 }) }

pub cancel-parts :
    Answers (record online { requests = with_ast (outstanding 3 line_unit func.Read) ∷ [] })
    (call service.Cancel (value 1 ∷ [])) cond.Normal
    (fin 3 cond.Cancel ∷ status 1 1 cond.Cancel 0 0 ∷ flag 1 1 true ∷ que 3 ∷ [])
    (record online {
      procs =
          record (connected_with (codes "WXYZ" ∷ replicate 4 0 ∷ []) (filled cond.Cancel 0 0 ∷ cleared ∷ [])) {
            cluster_0 = 2;
            asts = record { id = id 3; mode = mode.User; tag = entry.Label 0 0; charged = true } ∷ [];
          } ∷ [];
    })
cancel-parts = refl

-- Mailboxes: a stored write is withdrawn, a read that waits is not; then the attention entries on the channel are
-- dropped.

abbrev on_3 : ℕ → Func → Request
on_3 n func = record (outstanding n in_box func)
    { req = record ((outstanding n in_box func).req) { chan = 3; iosb = 0; efn = 2 } }

abbrev message : ℕ → ℕ → Msg
message n p = record { id = id n; writer = process p; body = body.Text (codes "A"); held = true }

abbrev entry_on : ℕ → ℕ → ℕ → Attention
entry_on n p chan = record {
  id = id n;
  p = process p;
  chan = chan;
  box = box 0;
  func = func.WrtAttn;
  mode = mode.User;
  tag = entry.Label 0 n;
}

abbrev of_process_2 : Request
of_process_2 = record (on_3 3 func.Write) { req = record ((on_3 3 func.Write).req) { p = process 2 } }

pub cancel-mailbox :
    Answers
    (record (with_both connected connected) {
      boxes = Some (box_holding (message 2 1 ∷ message 3 2 ∷ message 4 1 ∷ [])) ∷ None ∷ [];
      requests = on_3 2 func.Write ∷ of_process_2 ∷ on_3 4 func.Eof ∷ [];
      attention = entry_on 1 1 3 ∷ entry_on 5 2 3 ∷ entry_on 6 1 3 ∷ entry_on 8 1 2 ∷ [];
    })
    (call service.Cancel (value 3 ∷ [])) cond.Normal
    (mcut (codes "BOX") 2 ∷ fin 2 cond.Cancel ∷ flag 1 2 true ∷ mcut (codes "BOX") 4 ∷ fin 4 cond.Cancel ∷
    flag 1 2 true ∷ drops 1 ∷ drops 6 ∷ [])
    (record (with_both (record connected { cluster_0 = 4 }) connected) {
      boxes = Some (box_holding (message 3 2 ∷ [])) ∷ None ∷ [];
      requests = of_process_2 ∷ [];
      attention = entry_on 5 2 3 ∷ entry_on 8 1 2 ∷ [];
    })
cancel-mailbox = refl

pub cancel-read :
    Answers (record online { requests = on_3 2 func.Read ∷ [] }) (call service.Cancel (value 3 ∷ [])) cond.Normal
    (fin 2 cond.Cancel ∷ flag 1 2 true ∷ []) (record online { procs = record connected { cluster_0 = 4 } ∷ [] })
cancel-read = refl

-- a message whose write was finished at once stays
pub cancel-write_now :
    Answers (record online { boxes = Some (box_holding (record (message 2 1) { held = false } ∷ [])) ∷ None ∷ [] })
    (call service.Cancel (value 3 ∷ [])) cond.Normal []
    (record online { boxes = Some (box_holding (record (message 2 1) { held = false } ∷ [])) ∷ None ∷ [] })
cancel-write_now = refl

-- $DASSGN: the channel is cancelled, and then freed, and the mailbox goes
pub dassgn-cancels :
    Answers (record online {
      boxes = Some (box_holding (message 2 1 ∷ [])) ∷ None ∷ [];
      requests = on_3 2 func.Write ∷ [];
      attention = entry_on 1 1 3 ∷ [];
    })
    (call service.Dassgn (value 3 ∷ [])) cond.Normal
    (mcut (codes "BOX") 2 ∷ fin 2 cond.Cancel ∷ flag 1 2 true ∷ drops 1 ∷ mbx (codes "BOX") false ∷ [])
    (record (with (record connected
    { cluster_0 = 4; channels = Some (on_unit 0 mode.User) ∷ Some (on_unit 1 mode.User) ∷ None ∷ [] }))
    { boxes = None ∷ None ∷ [] })
dassgn-cancels = refl

-- the request in service keeps the number and the mode of its channel
pub dassgn-served :
    Answers (asking (served (reads 2 1 1) ∷ []) connected) (call service.Dassgn (value 1 ∷ [])) cond.Normal
    (mark 2 ∷ [])
    (asking (marked (reads 2 1 1) ∷ [])
    (record connected { channels = None ∷ Some (on_unit 1 mode.User) ∷ Some (on_box 0 mode.User) ∷ [] }))
dassgn-served = refl
