-- Units: which request is begun, what a service replies, and how a request finishes. RunLineUnit, RunBlockUnit,
-- RunLineFault and RunProducer show whole runs.
use Rattle.std.specs.Prelude.{◌≡◌, ◌∷◌, [], ◌++◌, ℕ, List, Some, codes, false, refl, replicate, true}
use Rattle.vx_record.specs.Types.{Cond, Device, Request}
use Rattle.vx_base.specs.Pieces.{Blocks, Lines, cleared}
use Rattle.vx_base.specs.declared.cond.Cond.TheVariants as cond
use Rattle.vx_base.specs.declared.mode.Mode.TheVariants as mode
use Rattle.vx_base.specs.declared.record.Answer.TheVariants as answer
use Rattle.vx_base.specs.declared.record.Event.TheVariants as event
use Rattle.vx_base.specs.declared.request.Func.TheVariants as func
use Rattle.vx_base.specs.declared.routine.Entry.TheVariants as entry
use Rattle.vx_examples.specs.Script.{bytes_put, common_flag, fin, flag, id, que, status, unit}
use Rattle.vx_examples.specs.Small.{association, block_unit, cluster, connected_with, filled, line_unit, online, outstanding, sharing}
use Rattle.vx_record.specs.Events.{step}
use Rattle.vx_record.specs.State.{Process, State}

-- BEG takes the oldest request that is queued at the unit; the other unit's are not asked.

abbrev reads_at : ℕ → Device → Request
reads_at n dev = outstanding n dev func.Read

abbrev served : Request → Request
served r = record r { served = true }

pub beg-oldest :
    step (record online { requests = reads_at 2 block_unit ∷ reads_at 3 line_unit ∷ reads_at 4 line_unit ∷ [] })
    (event.Beg (unit 0)) ≡ record {
      answer = answer.Unit (id 3);
      effects = [];
      after = record online {
        requests = reads_at 2 block_unit ∷ served (reads_at 3 line_unit) ∷ reads_at 4 line_unit ∷
            [];
      };
    }
beg-oldest = refl

-- DON of a line unit. Its request is of 3 bytes, into buffer 1.

abbrev at_lines : List (List ℕ) → List (List ℕ) → ℕ → State → State
at_lines inputs outputs services s =
    record s {
      units =
          record { contents = Lines inputs outputs; faults = 2 ∷ []; services = services } ∷
          record { contents = Blocks (replicate 512 0); faults = []; services = 0 } ∷
          [];
    }

-- process 1, to which a request came back: its buffer 1, its status block 1, and flag 1
abbrev done_with : List ℕ → Cond → ℕ → Process
done_with bytes cond count = record (connected_with (codes "WXYZ" ∷ bytes ∷ [])
    (filled cond count 0 ∷ cleared ∷ []))
    { cluster_0 = 2 }

abbrev online_with : Process → State
online_with pr = record online { procs = pr ∷ [] }

-- a line that fits: the bytes behind it in the buffer stay
pub don-line :
    step (at_lines (codes "AB" ∷ codes "CDEF" ∷ []) [] 0
    (record online { requests = served (reads_at 3 line_unit) ∷ [] })) (event.Don (unit 0)) ≡ record {
      answer = answer.Unit (id 3);
      effects = fin 3 cond.Normal ∷ bytes_put 1 1 (codes "AB") ∷ status 1 1 cond.Normal 2 0 ∷ flag 1 1 true ∷ [];
      after = at_lines (codes "CDEF" ∷ []) [] 1 (online_with (done_with (codes "AB" ++ 0 ∷ 0 ∷ []) cond.Normal 2));
    }
don-line = refl

-- a line that is longer: the rest is lost
pub don-long_line :
    step (at_lines (codes "CDEF" ∷ codes "GH" ∷ []) [] 0
    (record online { requests = served (reads_at 3 line_unit) ∷ [] })) (event.Don (unit 0)) ≡ record {
      answer = answer.Unit (id 3);
      effects = fin 3 cond.BufferOvf ∷ bytes_put 1 1 (codes "CDE") ∷ status 1 1 cond.BufferOvf 3 0 ∷ flag 1 1
          true ∷ [];
      after = at_lines (codes "GH" ∷ []) [] 1 (online_with (done_with (codes "CDE" ++ 0 ∷ []) cond.BufferOvf 3));
    }
don-long_line = refl

-- no line is left: no bytes are put
pub don-no_line :
    step (at_lines [] (codes "OUT" ∷ []) 0 (record online { requests = served (reads_at 3 line_unit) ∷ [] }))
    (event.Don (unit 0)) ≡ record {
      answer = answer.Unit (id 3);
      effects = fin 3 cond.EndOfFile ∷ status 1 1 cond.EndOfFile 0 0 ∷ flag 1 1 true ∷ [];
      after = at_lines [] (codes "OUT" ∷ []) 1 (online_with (done_with (replicate 4 0) cond.EndOfFile 0));
    }
don-no_line = refl

-- a stated fault: the second service fails, and the contents stay
pub don-fault :
    step (at_lines (codes "AB" ∷ []) [] 1 (record online { requests = served (reads_at 3 line_unit) ∷ [] }))
    (event.Don (unit 0)) ≡ record {
      answer = answer.Unit (id 3);
      effects = fin 3 cond.CtrlErr ∷ status 1 1 cond.CtrlErr 0 0 ∷ flag 1 1 true ∷ [];
      after = at_lines (codes "AB" ∷ []) [] 2 (online_with (done_with (replicate 4 0) cond.CtrlErr 0));
    }
don-fault = refl

-- a write appends its line: no bytes are put into a buffer
abbrev writes_line : Request
writes_line = record (outstanding 3 line_unit func.Write)
    { req = record ((outstanding 3 line_unit func.Write).req) { bytes = codes "XYZ" }; served = true }

pub don-write_line :
    step (at_lines [] (codes "OUT" ∷ []) 0 (record online { requests = writes_line ∷ [] })) (event.Don (unit 0)) ≡
    record {
      answer = answer.Unit (id 3);
      effects = fin 3 cond.Normal ∷ status 1 1 cond.Normal 3 0 ∷ flag 1 1 true ∷ [];
      after = at_lines [] (codes "OUT" ∷ codes "XYZ" ∷ []) 1
          (online_with (done_with (replicate 4 0) cond.Normal 3));
    }
don-write_line = refl

-- a marked request is aborted; the line is taken all the same
pub don-marked :
    step (at_lines (codes "AB" ∷ []) [] 0
    (record online { requests = record (served (reads_at 3 line_unit)) { marked = true } ∷ [] }))
    (event.Don (unit 0))
    ≡ record {
      answer = answer.Unit (id 3);
      effects = fin 3 cond.Abort ∷ status 1 1 cond.Abort 0 0 ∷ flag 1 1 true ∷ [];
      after = at_lines [] [] 1 (online_with (done_with (replicate 4 0) cond.Abort 0));
    }
don-marked = refl

-- The parts of finish that may be absent: the status block if none is named, the flag if its number names no
-- cell now, the AST if there is one.

abbrev finishes : Request → State
finishes r = at_lines (codes "AB" ∷ []) [] 0 (record online { requests = served r ∷ [] })

abbrev read_with : ℕ → ℕ → Request
read_with efn iosb = record (reads_at 3 line_unit)
    { req = record ((reads_at 3 line_unit).req) { efn = efn; iosb = iosb } }

pub finish-no_status :
    (step (finishes (read_with 1 0)) (event.Don (unit 0))).effects ≡ fin 3 cond.Normal ∷ bytes_put 1 1
    (codes "AB") ∷
    flag 1 1 true ∷ []
finish-no_status = refl

pub finish-no_cell :
    (step (finishes (read_with 64 2)) (event.Don (unit 0))).effects ≡ fin 3 cond.Normal ∷ bytes_put 1 1
    (codes "AB") ∷
    status 1 2 cond.Normal 2 0 ∷ []
finish-no_cell = refl

-- the cluster that is associated now
pub finish-common :
    (step (sharing (finishes (read_with 64 0)) (cluster (codes "C") false false 0 ∷ [])
    (association 1 2 (codes "C") ∷ [])) (event.Don (unit 0))).effects ≡
    fin 3 cond.Normal ∷ bytes_put 1 1 (codes "AB") ∷ common_flag 1 (codes "C") 0 true ∷ []
finish-common = refl

abbrev with_line : List ℕ
with_line = codes "AB" ++ 0 ∷ 0 ∷ []

pub finish-ast :
    step (finishes (record (read_with 64 0) { ast = Some (record { mode = mode.Super; tag = entry.Label 1 5 }) }))
    (event.Don (unit 0)) ≡ record {
      answer = answer.Unit (id 3);
      effects = fin 3 cond.Normal ∷ bytes_put 1 1 (codes "AB") ∷ que 3 ∷ [];
      after = at_lines [] [] 1
          (online_with (record (connected_with (codes "WXYZ" ∷ with_line ∷ []) (cleared ∷ cleared ∷ []))
          { asts = record { id = id 3; mode = mode.Super; tag = entry.Label 1 5; charged = true } ∷ [] }));
    }
finish-ast = refl

-- DON of a block unit, of two blocks in which byte 512 is 7 and byte 1022 is 8.

abbrev two_blocks : List ℕ
two_blocks = replicate 512 0 ++ 7 ∷ replicate 509 0 ++ 8 ∷ 9 ∷ []

abbrev at_blocks : List ℕ → ℕ → State → State
at_blocks bytes services s =
    record s {
      units =
          record { contents = Lines [] []; faults = []; services = 0 } ∷
          record { contents = Blocks bytes; faults = []; services = services } ∷
          [];
    }

abbrev at_block : ℕ → ℕ → Request
at_block blk len = record (served (reads_at 3 block_unit))
    { req = record ((reads_at 3 block_unit).req) { blk = blk; len = len } }

pub don-block :
    step (at_blocks two_blocks 0 (record online { requests = at_block 1 3 ∷ [] })) (event.Don (unit 1)) ≡ record {
      answer = answer.Unit (id 3);
      effects = fin 3 cond.Normal ∷ bytes_put 1 1 (7 ∷ 0 ∷ 0 ∷ []) ∷ status 1 1 cond.Normal 3 0 ∷ flag 1 1 true ∷
          [];
      after = at_blocks two_blocks 1 (online_with (done_with (7 ∷ 0 ∷ 0 ∷ 0 ∷ []) cond.Normal 3));
    }
don-block = refl

-- the last block whole, and one byte more
pub don-last_block :
    (step (at_blocks two_blocks 0 (record online { requests = at_block 1 512 ∷ [] }))
    (event.Don (unit 1))).effects ≡
    fin 3 cond.Normal ∷ bytes_put 1 1 (7 ∷ replicate 509 0 ++ 8 ∷ 9 ∷ []) ∷ status 1 1 cond.Normal 512 0 ∷ flag 1 1
    true ∷ []
don-last_block = refl

pub don-past_end :
    (step (at_blocks two_blocks 0 (record online { requests = at_block 1 513 ∷ [] }))
    (event.Don (unit 1))).effects ≡
    fin 3 cond.IllBlkNum ∷ status 1 1 cond.IllBlkNum 0 0 ∷ flag 1 1 true ∷ []
don-past_end = refl

-- no bytes of a block that is there, and of one that is not
pub don-no_bytes :
    (step (at_blocks two_blocks 0 (record online { requests = at_block 1 0 ∷ [] })) (event.Don (unit 1))).effects ≡
    fin 3 cond.Normal ∷ status 1 1 cond.Normal 0 0 ∷ flag 1 1 true ∷ []
don-no_bytes = refl

pub don-no_block :
    (step (at_blocks two_blocks 0 (record online { requests = at_block 2 0 ∷ [] })) (event.Don (unit 1))).effects ≡
    fin 3 cond.IllBlkNum ∷ status 1 1 cond.IllBlkNum 0 0 ∷ flag 1 1 true ∷ []
don-no_block = refl

-- a write goes over the bytes from its block on
abbrev writes_block : Request
writes_block = record (served (outstanding 3 block_unit func.Write))
    { req = record ((outstanding 3 block_unit func.Write).req) { blk = 1; bytes = codes "XYZ" } }

pub don-write_block :
    step (at_blocks two_blocks 0 (record online { requests = writes_block ∷ [] })) (event.Don (unit 1)) ≡ record {
      answer = answer.Unit (id 3);
      effects = fin 3 cond.Normal ∷ status 1 1 cond.Normal 3 0 ∷ flag 1 1 true ∷ [];
      after = at_blocks (replicate 512 0 ++ codes "XYZ" ++ replicate 507 0 ++ 8 ∷ 9 ∷ []) 1
          (online_with (done_with (replicate 4 0) cond.Normal 3));
    }
don-write_block = refl
