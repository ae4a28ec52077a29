-- Messages: a read that is shorter than the message, an end of file, and a read that does not wait.
use Rattle.std.specs.Prelude.{◌≡◌, refl, List, [], ◌∷◌, true, false, codes, Some, None}
use Rattle.vx_base.specs.declared.cond.Cond.TheVariants as cond
use Rattle.vx_base.specs.declared.effects.Opened.TheVariants as opened
use Rattle.vx_base.specs.declared.mode.Mode.TheVariants as mode
use Rattle.vx_base.specs.declared.record.End.TheVariants as end
use Rattle.vx_record.specs.Types.{Image, Rec, System}
use Rattle.vx_base.specs.declared.request.Body.TheVariants as body
use Rattle.vx_base.specs.declared.request.Func.TheVariants as func
use Rattle.vx_base.specs.declared.service.Service.TheVariants as service
use Rattle.vx_examples.specs.Along.{exit_codes}
use Rattle.vx_examples.specs.Script.{value, no_routine, call, calls, declared, runs, is_gone, opens, fin, flag, status, cleared_status, bytes_put, puts, mput, mget, mbx, gone, held_in, request, mailbox}
use Rattle.vx_image.specs.declared.stmt.Stmt.TheVariants as stmt
use Rattle.vx_record.specs.Runs.{chosen, end_after}

abbrev image_main : Image
image_main = record {
  name = codes "MAIN";
  labels = [];
  stmts =
      calls service.CreMbx (mailbox (codes "A") (codes "BOX") 0 256 1024 mode.Kernel) ∷
      stmt.Put 0 (codes "ABCDE") ∷
      calls service.Qio (request 1 (held_in (codes "A")) func.Write 1 no_routine 0 0 5 0) ∷
      calls service.QioW (request 2 (held_in (codes "A")) func.Read 2 no_routine 0 1 3 0) ∷
      calls service.Qio (request 1 (held_in (codes "A")) func.Eof 1 no_routine 0 0 0 0) ∷
      calls service.QioW (request 2 (held_in (codes "A")) func.Read 2 no_routine 0 1 3 0) ∷
      calls service.QioW (request 2 (held_in (codes "A")) func.ReadNow 2 no_routine 0 1 3 0) ∷
      calls service.Exit (value 1 ∷ []) ∷
      [];
}

abbrev pub script : System
script = record {
  units = [];
  images = image_main ∷ [];
  decls = declared (codes "P") 0 ∷ [];
}

-- its records
abbrev pub records : List Rec
records =
    runs 1 (call service.CreMbx (mailbox (codes "A") (codes "BOX") 0 256 1024 mode.Kernel)) cond.Normal
    (mbx (codes "BOX") true ∷ puts 1 (codes "A") 1 ∷ []) ∷
    runs 1 (call service.Qio (request 1 (value 1) func.Write 1 no_routine 0 0 5 0)) cond.Normal
    (flag 1 1 false ∷ cleared_status 1 1 ∷ opens 1 opened.Bio 1 None 5 ∷ mput (codes "BOX") 1
    (body.Text (codes "ABCDE")) ∷ []) ∷
    runs 1 (call service.QioW (request 2 (value 1) func.Read 2 no_routine 0 1 3 0)) cond.Normal
    (flag 1 2 false ∷ cleared_status 1 2 ∷ opens 2 opened.Bio 1 None 3 ∷ mget (codes "BOX") 1 2 ∷ fin 2
    cond.BufferOvf ∷ bytes_put 1 1 (codes "ABC") ∷ status 1 2 cond.BufferOvf 3 1 ∷ flag 1 2 true ∷ fin 1
    cond.Normal ∷ status 1 1 cond.Normal 5 0 ∷ flag 1 1 true ∷ []) ∷
    runs 1 (call service.Qio (request 1 (value 1) func.Eof 1 no_routine 0 0 0 0)) cond.Normal
    (flag 1 1 false ∷ cleared_status 1 1 ∷ opens 3 opened.Bio 1 None 0 ∷ mput (codes "BOX") 3 body.Eof ∷ []) ∷
    runs 1 (call service.QioW (request 2 (value 1) func.Read 2 no_routine 0 1 3 0)) cond.Normal
    (flag 1 2 false ∷ cleared_status 1 2 ∷ opens 4 opened.Bio 1 None 3 ∷ mget (codes "BOX") 3 4 ∷ fin 4
    cond.EndOfFile ∷ status 1 2 cond.EndOfFile 0 1 ∷ flag 1 2 true ∷ fin 3 cond.Normal ∷ status 1 1
    cond.Normal 0 0 ∷ flag 1 1 true ∷ []) ∷
    runs 1 (call service.QioW (request 2 (value 1) func.ReadNow 2 no_routine 0 1 3 0)) cond.Normal
    (flag 1 2 false ∷ cleared_status 1 2 ∷ opens 5 opened.Bio 1 None 3 ∷ fin 5 cond.EndOfFile ∷ status 1 2
    cond.EndOfFile 0 0 ∷ flag 1 2 true ∷ []) ∷
    runs 1 (call service.Exit (value 1 ∷ [])) cond.Normal [] ∷
    is_gone 1 (mbx (codes "BOX") false ∷ gone 1 ∷ []) ∷
    []

pub messages : chosen script 0 10000 ≡ records
messages = refl

pub messages-end : end_after script records 10000 ≡ Some end.Done
messages-end = refl

-- the exit codes
pub messages-codes : exit_codes script records ≡ 1 ∷ []
messages-codes = refl
