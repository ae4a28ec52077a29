-- Mailboxes: what accepted writes, ends of file, reads and attention entries do. RunMessages, RunAttention and
-- RunFullMailbox show whole runs. Process 1 calls; channel 3 is mailbox 0.
use Rattle.std.specs.Prelude.{◌≡◌, ◌∷◌, [], ◌++◌, ℕ, Bool, List, None, Some, codes, false, refl, replicate, true}
use Rattle.vx_record.specs.Types.{Attention, Call, Func, Msg, Queued, Request}
use Rattle.vx_base.specs.Pieces.{cleared}
use Rattle.vx_base.specs.declared.cond.Cond.TheVariants as cond
use Rattle.vx_base.specs.declared.effects.Opened.TheVariants as opened
use Rattle.vx_base.specs.declared.frame.FrameKind.TheVariants as kind
use Rattle.vx_base.specs.declared.mode.Mode.TheVariants as mode
use Rattle.vx_base.specs.declared.request.Body.TheVariants as body
use Rattle.vx_base.specs.declared.request.Func.TheVariants as func
use Rattle.vx_base.specs.declared.routine.Entry.TheVariants as entry
use Rattle.vx_base.specs.declared.service.Service.TheVariants as service
use Rattle.vx_examples.specs.Script.{box, bytes_put, call, cleared_status, fin, fires, flag, id, mget, mput, no_routine, opens, process, que, request, routine, status, value}
use Rattle.vx_examples.specs.Small.{Answers, box_holding, connected, connected_with, filled, frame_of, in_box, online, outstanding, small_store, somebody}
use Rattle.vx_record.specs.Runs.{first}
use Rattle.vx_record.specs.Services.{service}
use Rattle.vx_record.specs.State.{Process, State}

abbrev buffers_of : List ℕ → List ℕ → Process
buffers_of first second = record connected { store = record small_store { buffers = first ∷ second ∷ [] } }

abbrev holding : List Msg → List Request → List Attention → State → State
holding messages requests attention s = record s
    { boxes = Some (box_holding messages) ∷ None ∷ []; requests = requests; attention = attention }

abbrev past : State → State
past s = record s { next = 8 }

-- a message of process 2, its write held or not
abbrev message : ℕ → List ℕ → Bool → Msg
message n bytes held = record { id = id n; writer = process 2; body = body.Text bytes; held = held }

-- a request of process 2, with its own flag 1 and status block 1, and no bytes to be put anywhere but its buffer 1
abbrev of_other : ℕ → Func → Request
of_other n func = record (outstanding n in_box func)
    { req = record ((outstanding n in_box func).req) { p = process 2 } }

abbrev two_of : Process → Process → State
two_of p q = record online { procs = p ∷ q ∷ [] }

-- A write that no read waits for.

abbrev own_message : Bool → Msg
own_message held = record { id = id 7; writer = process 1; body = body.Text (codes "WX"); held = held }

abbrev own_write : Func → Request
own_write func = record (outstanding 7 in_box func)
    { req = record ((outstanding 7 in_box func).req) { chan = 3; iosb = 0; buf = 0; len = 2; bytes = codes "WX" } }

-- it is stored, and held until it is read
pub write-stored :
    Answers online (call service.Qio (request 1 (value 3) func.Write 0 no_routine 0 0 2 0)) cond.Normal
    (flag 1 1 false ∷ opens 7 opened.Bio 1 None 2 ∷ mput (codes "BOX") 7 (body.Text (codes "WX")) ∷ [])
    (past (holding (own_message true ∷ []) (own_write func.Write ∷ []) [] online))
write-stored = refl

-- with NOW it is finished, and stored all the same; behind what is stored
pub write_now-stored :
    Answers (holding (message 3 (codes "A") false ∷ []) [] [] online)
    (call service.Qio (request 1 (value 3) func.WriteNow 1 no_routine 0 0 2 0)) cond.Normal
    (flag 1 1 false ∷ cleared_status 1 1 ∷ opens 7 opened.Bio 1 None 2 ∷ mput (codes "BOX") 7
    (body.Text (codes "WX")) ∷
    fin 7 cond.Normal ∷ status 1 1 cond.Normal 2 0 ∷ flag 1 1 true ∷ [])
    (past (holding (message 3 (codes "A") false ∷ own_message false ∷ []) [] []
    (record online {
      procs = record
          (connected_with (codes "WXYZ" ∷ replicate 4 0 ∷ []) (filled cond.Normal 2 0 ∷ cleared ∷ [])) { cluster_0 = 2 } ∷
          [];
    })))
write_now-stored = refl

-- each WRTATTN entry, in id order, fires after that; other entries do not
abbrev entry_for : ℕ → ℕ → Func → Attention
entry_for n p func = record {
  id = id n;
  p = process p;
  chan = 3;
  box = box 0;
  func = func;
  mode = mode.User;
  tag = entry.Label 0 n;
}

abbrev ast_of : ℕ → Queued
ast_of n = record { id = id n; mode = mode.User; tag = entry.Label 0 n; charged = true }

pub write-attention :
    Answers (holding [] [] (entry_for 2 2 func.WrtAttn ∷ entry_for 3 1 func.ReadAttn ∷ entry_for 4 1
    func.WrtAttn ∷ [])
    (two_of connected somebody))
    (call service.Qio (request 1 (value 3) func.Write 0 no_routine 0 0 2 0)) cond.Normal
    (flag 1 1 false ∷ opens 7 opened.Bio 1 None 2 ∷ mput (codes "BOX") 7 (body.Text (codes "WX")) ∷ fires 2 ∷ que
    2 ∷
    fires 4 ∷ que 4 ∷ [])
    (past (holding (own_message true ∷ []) (own_write func.Write ∷ []) (entry_for 3 1 func.ReadAttn ∷ [])
    (two_of (record connected { asts = ast_of 4 ∷ [] }) (record somebody { asts = ast_of 2 ∷ [] }))))
write-attention = refl

-- A write that a read waits for: the oldest takes it, and no entry fires.

pub write-taken :
    Answers (holding [] (of_other 2 func.Read ∷ of_other 3 func.Read ∷ []) (entry_for 4 1 func.WrtAttn ∷ [])
    (two_of connected connected))
    (call service.Qio (request 1 (value 3) func.Write 1 no_routine 0 0 2 0)) cond.Normal
    (flag 1 1 false ∷ cleared_status 1 1 ∷ opens 7 opened.Bio 1 None 2 ∷ mput (codes "BOX") 7
    (body.Text (codes "WX")) ∷ mget (codes "BOX") 7 2 ∷
    fin 2 cond.Normal ∷ bytes_put 2 1 (codes "WX") ∷ status 2 1 cond.Normal 2 1 ∷ flag 2 1 true ∷
    fin 7 cond.Normal ∷ status 1 1 cond.Normal 2 0 ∷ flag 1 1 true ∷ [])
    (past (holding [] (of_other 3 func.Read ∷ []) (entry_for 4 1 func.WrtAttn ∷ [])
    (two_of
    (record (connected_with (codes "WXYZ" ∷ replicate 4 0 ∷ []) (filled cond.Normal 2 0 ∷ cleared ∷ []))
    { cluster_0 = 2 })
    (record (connected_with (codes "WXYZ" ∷ (codes "WX" ++ 0 ∷ 0 ∷ []) ∷ [])
    (filled cond.Normal 2 1 ∷ cleared ∷ [])) { cluster_0 = 2 }))))
write-taken = refl

-- a write with NOW that is taken: its request, which is outstanding, does not finish a second time
pub write_now-taken :
    (service (holding [] (of_other 2 func.Read ∷ []) [] (two_of connected connected)) (process 1)
    (call service.Qio (request 1 (value 3) func.WriteNow 0 no_routine 0 0 2 0))).effects ≡
    flag 1 1 false ∷ opens 7 opened.Bio 1 None 2 ∷ mput (codes "BOX") 7 (body.Text (codes "WX")) ∷ mget
    (codes "BOX")
    7 2 ∷
    fin 2 cond.Normal ∷ bytes_put 2 1 (codes "WX") ∷ status 2 1 cond.Normal 2 1 ∷ flag 2 1 true ∷ fin 7
    cond.Normal ∷
    flag 1 1 true ∷ []
write_now-taken = refl

-- An end of file: no bytes, whatever its length.

pub eof-stored :
    Answers online (call service.Qio (request 1 (value 3) func.Eof 0 no_routine 0 0 2 0)) cond.Normal
    (flag 1 1 false ∷ opens 7 opened.Bio 1 None 0 ∷ mput (codes "BOX") 7 body.Eof ∷ [])
    (past (holding (record { id = id 7; writer = process 1; body = body.Eof; held = true } ∷ [])
    (record (own_write func.Eof) { req = record ((own_write func.Eof).req) { bytes = [] } } ∷ []) [] online))
eof-stored = refl

pub eof_now-status :
    (service online (process 1) (call service.Qio (request 1 (value 3) func.EofNow 1 no_routine 0 0 2 0))).effects ≡
    flag 1 1 false ∷ cleared_status 1 1 ∷ opens 7 opened.Bio 1 None 0 ∷ mput (codes "BOX") 7 body.Eof ∷ fin 7
    cond.Normal ∷ status 1 1 cond.Normal 0 0 ∷ flag 1 1 true ∷ []
eof_now-status = refl

-- one that is taken by a read
pub eof-taken :
    (service (holding [] (of_other 2 func.Read ∷ []) [] (two_of connected connected)) (process 1)
    (call service.Qio (request 1 (value 3) func.Eof 1 no_routine 0 0 2 0))).effects ≡
    flag 1 1 false ∷ cleared_status 1 1 ∷ opens 7 opened.Bio 1 None 0 ∷ mput (codes "BOX") 7 body.Eof ∷ mget
    (codes "BOX") 7 2 ∷
    fin 2 cond.EndOfFile ∷ status 2 1 cond.EndOfFile 0 1 ∷ flag 2 1 true ∷ fin 7 cond.Normal ∷ status 1 1
    cond.Normal
    0 0 ∷ flag 1 1 true ∷ []
eof-taken = refl

-- A read takes the oldest message, and then its write finishes if it is held.

abbrev read_own : Func → Call
read_own func = call service.Qio (request 1 (value 3) func 1 no_routine 0 1 3 0)

pub read-held :
    Answers (holding (message 2 (codes "AB") true ∷ message 3 (codes "C") true ∷ [])
    (of_other 2 func.Write ∷ of_other 3 func.Write ∷ []) (entry_for 4 1 func.ReadAttn ∷ [])
    (two_of connected connected))
    (read_own func.Read) cond.Normal
    (flag 1 1 false ∷ cleared_status 1 1 ∷ opens 7 opened.Bio 1 None 3 ∷ mget (codes "BOX") 2 7 ∷
    fin 7 cond.Normal ∷ bytes_put 1 1 (codes "AB") ∷ status 1 1 cond.Normal 2 2 ∷ flag 1 1 true ∷
    fin 2 cond.Normal ∷ status 2 1 cond.Normal 2 0 ∷ flag 2 1 true ∷ [])
    (past (holding (message 3 (codes "C") true ∷ []) (of_other 3 func.Write ∷ []) (entry_for 4 1 func.ReadAttn ∷ [])
    (two_of
    (record (connected_with (codes "WXYZ" ∷ (codes "AB" ++ 0 ∷ 0 ∷ []) ∷ [])
    (filled cond.Normal 2 2 ∷ cleared ∷ [])) { cluster_0 = 2 })
    (record (connected_with (codes "WXYZ" ∷ replicate 4 0 ∷ []) (filled cond.Normal 2 0 ∷ cleared ∷ []))
    { cluster_0 = 2 }))))
read-held = refl

-- one whose write was finished at once; READNOW takes it as READ does
pub read_now-taken :
    (service (holding (message 2 (codes "AB") false ∷ []) [] [] (two_of connected connected)) (process 1)
    (read_own func.ReadNow)).effects ≡
    flag 1 1 false ∷ cleared_status 1 1 ∷ opens 7 opened.Bio 1 None 3 ∷ mget (codes "BOX") 2 7 ∷
    fin 7 cond.Normal ∷ bytes_put 1 1 (codes "AB") ∷ status 1 1 cond.Normal 2 2 ∷ flag 1 1 true ∷ []
read_now-taken = refl

-- a message that is longer than the read; one of just its length; one of no bytes, of which none are put
pub read-longer :
    (service (holding (message 2 (codes "ABCD") false ∷ []) [] [] (two_of connected connected)) (process 1)
    (read_own func.Read)).effects ≡
    flag 1 1 false ∷ cleared_status 1 1 ∷ opens 7 opened.Bio 1 None 3 ∷ mget (codes "BOX") 2 7 ∷
    fin 7 cond.BufferOvf ∷ bytes_put 1 1 (codes "ABC") ∷ status 1 1 cond.BufferOvf 3 2 ∷ flag 1 1 true ∷ []
read-longer = refl

pub read-just :
    (service (holding (message 2 (codes "ABC") false ∷ []) [] [] (two_of connected connected)) (process 1)
    (read_own func.Read)).effects ≡
    flag 1 1 false ∷ cleared_status 1 1 ∷ opens 7 opened.Bio 1 None 3 ∷ mget (codes "BOX") 2 7 ∷
    fin 7 cond.Normal ∷ bytes_put 1 1 (codes "ABC") ∷ status 1 1 cond.Normal 3 2 ∷ flag 1 1 true ∷ []
read-just = refl

pub read-empty :
    (service (holding (message 2 [] false ∷ []) [] [] (two_of connected connected)) (process 1)
    (read_own func.Read)).effects ≡
    flag 1 1 false ∷ cleared_status 1 1 ∷ opens 7 opened.Bio 1 None 3 ∷ mget (codes "BOX") 2 7 ∷ fin 7 cond.Normal ∷
    status 1 1 cond.Normal 0 2 ∷ flag 1 1 true ∷ []
read-empty = refl

-- a write that is held finishes with the message's whole length, and queues its AST
pub read-writer :
    (service (holding (message 2 (codes "ABCD") true ∷ [])
    (record (of_other 2 func.Write) { ast = Some (record { mode = mode.User; tag = entry.Label 0 1 }) } ∷ []) []
    (two_of connected connected))
    (process 1) (read_own func.Read)).effects ≡
    flag 1 1 false ∷ cleared_status 1 1 ∷ opens 7 opened.Bio 1 None 3 ∷ mget (codes "BOX") 2 7 ∷
    fin 7 cond.BufferOvf ∷ bytes_put 1 1 (codes "ABC") ∷ status 1 1 cond.BufferOvf 3 2 ∷ flag 1 1 true ∷
    fin 2 cond.Normal ∷ status 2 1 cond.Normal 4 0 ∷ flag 2 1 true ∷ que 2 ∷ []
read-writer = refl

-- A read if nothing is stored: READ waits, READNOW finds an end of file; then each READATTN entry fires, in id
-- order.

abbrev own_read : Func → Request
own_read func = record (outstanding 7 in_box func) { req = record ((outstanding 7 in_box func).req) { chan = 3 } }

pub read-waits :
    Answers (holding [] [] (entry_for 2 1 func.ReadAttn ∷ entry_for 3 1 func.WrtAttn ∷ entry_for 4 1
    func.ReadAttn ∷ [])
    online) (read_own func.Read) cond.Normal
    (flag 1 1 false ∷ cleared_status 1 1 ∷ opens 7 opened.Bio 1 None 3 ∷ fires 2 ∷ que 2 ∷ fires 4 ∷ que 4 ∷ [])
    (past (holding [] (own_read func.Read ∷ []) (entry_for 3 1 func.WrtAttn ∷ [])
    (record online { procs = record connected { asts = ast_of 2 ∷ ast_of 4 ∷ [] } ∷ [] })))
read-waits = refl

pub read_now-nothing :
    Answers (holding [] [] (entry_for 2 1 func.ReadAttn ∷ []) online) (read_own func.ReadNow) cond.Normal
    (flag 1 1 false ∷ cleared_status 1 1 ∷ opens 7 opened.Bio 1 None 3 ∷ fin 7 cond.EndOfFile ∷ status 1 1
    cond.EndOfFile 0 0 ∷ flag 1 1 true ∷ fires 2 ∷ que 2 ∷ [])
    (past (holding [] [] []
    (record online {
      procs = record
          (connected_with (codes "WXYZ" ∷ replicate 4 0 ∷ []) (filled cond.EndOfFile 0 0 ∷ cleared ∷ []))
          { cluster_0 = 2; asts = ast_of 2 ∷ [] } ∷ [];
    })))
read_now-nothing = refl

-- Attention.

abbrev attention_on : Func → Call
attention_on func = call service.Qio (request 1 (value 3) func 1 (routine (codes "T")) 7 0 0 0)

abbrev granted : Process
granted = record (connected_with (codes "WXYZ" ∷ replicate 4 0 ∷ []) (filled cond.Normal 0 0 ∷ cleared ∷ []))
    { cluster_0 = 2 }

-- it stands, with its status block filled and its flag set
pub attention-stands :
    Answers (holding [] (of_other 2 func.Read ∷ []) [] online) (attention_on func.WrtAttn) cond.Normal
    (flag 1 1 false ∷ cleared_status 1 1 ∷ opens 7 opened.Attn 1 (Some mode.User) 0 ∷ status 1 1 cond.Normal 0 0 ∷
    flag 1 1 true ∷ [])
    (past (holding [] (of_other 2 func.Read ∷ []) (entry_for 7 1 func.WrtAttn ∷ [])
    (record online { procs = granted ∷ [] })))
attention-stands = refl

-- messages are stored already: it fires at once
pub attention-at_once :
    Answers (holding (message 2 (codes "A") false ∷ []) [] [] online) (attention_on func.WrtAttn) cond.Normal
    (flag 1 1 false ∷ cleared_status 1 1 ∷ opens 7 opened.Attn 1 (Some mode.User) 0 ∷ status 1 1 cond.Normal 0 0 ∷
    flag 1 1 true ∷ fires 7 ∷ que 7 ∷ [])
    (past (holding (message 2 (codes "A") false ∷ []) [] []
    (record online { procs = record granted { asts = ast_of 7 ∷ [] } ∷ [] })))
attention-at_once = refl

-- for reads it is reads that wait, and not messages
pub read_attention-at_once :
    Answers (holding [] (of_other 2 func.Read ∷ []) [] online) (attention_on func.ReadAttn) cond.Normal
    (flag 1 1 false ∷ cleared_status 1 1 ∷ opens 7 opened.Attn 1 (Some mode.User) 0 ∷ status 1 1 cond.Normal 0 0 ∷
    flag 1 1 true ∷ fires 7 ∷ que 7 ∷ [])
    (past (holding [] (of_other 2 func.Read ∷ []) []
    (record online { procs = record granted { asts = ast_of 7 ∷ [] } ∷ [] })))
read_attention-at_once = refl

pub read_attention-stands :
    Answers (holding (message 2 (codes "A") false ∷ []) [] [] online) (attention_on func.ReadAttn) cond.Normal
    (flag 1 1 false ∷ cleared_status 1 1 ∷ opens 7 opened.Attn 1 (Some mode.User) 0 ∷ status 1 1 cond.Normal 0 0 ∷
    flag 1 1 true ∷ [])
    (past (holding (message 2 (codes "A") false ∷ []) [] (entry_for 7 1 func.ReadAttn ∷ [])
    (record online { procs = granted ∷ [] })))
read_attention-stands = refl

-- its AST's mode is the caller's
pub attention-exec :
    Answers (record online { procs = record connected { frames = frame_of kind.Main mode.Exec ∷ [] } ∷ [] })
    (call service.Qio (request 1 (value 3) func.WrtAttn 0 (routine (codes "T")) 7 0 0 0)) cond.Normal
    (flag 1 1 false ∷ opens 7 opened.Attn 1 (Some mode.Exec) 0 ∷ flag 1 1 true ∷ [])
    (past (holding [] [] (record (entry_for 7 1 func.WrtAttn) { mode = mode.Exec } ∷ [])
    (record online { procs = record connected { frames = frame_of kind.Main mode.Exec ∷ []; cluster_0 = 2 } ∷ [] })))
attention-exec = refl
