-- A producer reads lines and mails them, and a consumer writes each into a block of its own.
use Rattle.std.specs.Prelude.{◌≡◌, refl, List, [], ◌∷◌, true, false, codes, Some, None}
use Rattle.vx_base.specs.declared.call.Operand.TheVariants as operand
use Rattle.vx_base.specs.declared.call.Target.TheVariants as target
use Rattle.vx_base.specs.declared.cond.Cond.TheVariants as cond
use Rattle.vx_base.specs.declared.effects.Opened.TheVariants as opened
use Rattle.vx_base.specs.declared.mode.Mode.TheVariants as mode
use Rattle.vx_base.specs.declared.record.End.TheVariants as end
use Rattle.vx_record.specs.Types.{Image, Rec, System}
use Rattle.vx_base.specs.declared.request.Body.TheVariants as body
use Rattle.vx_base.specs.declared.request.Func.TheVariants as func
use Rattle.vx_base.specs.declared.service.Service.TheVariants as service
use Rattle.vx_examples.specs.Along.{exit_codes, outputs}
use Rattle.vx_examples.specs.Script.{letter, value, variable, named, no_routine, in_mode, function, call, calls, declared, runs, waits, resumes, is_gone, begins, is_done, opens, fin, flag, status, cleared_status, bytes_put, puts, mput, mget, mbx, gone, held_in, request, mailbox}
use Rattle.vx_image.specs.declared.stmt.Field.TheVariants as field
use Rattle.vx_image.specs.declared.stmt.Rel.TheVariants as rel
use Rattle.vx_image.specs.declared.stmt.Stmt.TheVariants as stmt
use Rattle.vx_record.specs.Runs.{chosen, end_after}

abbrev image_prod : Image
image_prod = record {
  name = codes "PROD";
  labels =
      record { name = codes "NEXT"; place = 2 } ∷
      record { name = codes "LAST"; place = 8 } ∷
      [];
  stmts =
      calls service.Assign (variable (codes "T") ∷ named (codes "TT") ∷ in_mode mode.Kernel ∷ []) ∷
      calls service.CreMbx (mailbox (codes "M") (codes "BOX") 0 256 1024 mode.Kernel) ∷
      calls service.QioW (request 1 (held_in (codes "T")) func.Read 1 no_routine 0 0 80 0) ∷
      stmt.Iosb (target.Var (letter (codes "S"))) 1 field.Status ∷
      stmt.If (operand.Var (letter (codes "S"))) rel.Eq (operand.Cond cond.EndOfFile) 1 ∷
      stmt.Iosb (target.Var (letter (codes "C"))) 1 field.Count ∷
      calls service.QioW (value 1 ∷ held_in (codes "M") ∷ function func.Write ∷ value 1 ∷ no_routine ∷ value 0 ∷
      value 0 ∷ held_in (codes "C") ∷ value 0 ∷ []) ∷
      stmt.Goto 0 ∷
      calls service.QioW (request 1 (held_in (codes "M")) func.Eof 1 no_routine 0 0 0 0) ∷
      calls service.Exit (value 1 ∷ []) ∷
      [];
}

abbrev image_cons : Image
image_cons = record {
  name = codes "CONS";
  labels =
      record { name = codes "NEXT"; place = 2 } ∷
      record { name = codes "LAST"; place = 8 } ∷
      [];
  stmts =
      calls service.CreMbx (mailbox (codes "M") (codes "BOX") 0 256 1024 mode.Kernel) ∷
      calls service.Assign (variable (codes "D") ∷ named (codes "DK") ∷ in_mode mode.Kernel ∷ []) ∷
      calls service.QioW (request 1 (held_in (codes "M")) func.Read 1 no_routine 0 0 80 0) ∷
      stmt.Iosb (target.Var (letter (codes "S"))) 1 field.Status ∷
      stmt.If (operand.Var (letter (codes "S"))) rel.Eq (operand.Cond cond.EndOfFile) 1 ∷
      calls service.QioW (value 2 ∷ held_in (codes "D") ∷ function func.Write ∷ value 2 ∷ no_routine ∷ value 0 ∷
      value 0 ∷ value 512 ∷ held_in (codes "B") ∷ []) ∷
      stmt.Add (target.Var (letter (codes "B"))) (operand.Var (letter (codes "B"))) (operand.Num 1) ∷
      stmt.Goto 0 ∷
      calls service.Exit (value 1 ∷ []) ∷
      [];
}

abbrev pub script : System
script = record {
  units = record { name = codes "TT"; blocks = 0; inputs = (codes "alpha") ∷ (codes "beta") ∷ []; faults = [] } ∷
      record { name = codes "DK"; blocks = 16; inputs = []; faults = [] } ∷ [];
  images = image_prod ∷ image_cons ∷ [];
  decls =
      declared (codes "PRODUCER") 0 ∷
      declared (codes "CONSUMER") 1 ∷
      [];
}

-- its records
abbrev pub records : List Rec
records =
    runs 1 (call service.Assign (variable (codes "T") ∷ named (codes "TT") ∷ in_mode mode.Kernel ∷ [])) cond.Normal
    (puts 1 (codes "T") 1 ∷ []) ∷
    runs 1 (call service.CreMbx (mailbox (codes "M") (codes "BOX") 0 256 1024 mode.Kernel)) cond.Normal
    (mbx (codes "BOX") true ∷ puts 1 (codes "M") 2 ∷ []) ∷
    waits 1 (call service.QioW (request 1 (value 1) func.Read 1 no_routine 0 0 80 0))
    (flag 1 1 false ∷ cleared_status 1 1 ∷ opens 1 opened.Bio 1 None 80 ∷ []) ∷
    runs 2 (call service.CreMbx (mailbox (codes "M") (codes "BOX") 0 256 1024 mode.Kernel)) cond.Normal
    (puts 2 (codes "M") 1 ∷ []) ∷
    runs 2 (call service.Assign (variable (codes "D") ∷ named (codes "DK") ∷ in_mode mode.Kernel ∷ [])) cond.Normal
    (puts 2 (codes "D") 2 ∷ []) ∷
    waits 2 (call service.QioW (request 1 (value 1) func.Read 1 no_routine 0 0 80 0))
    (flag 2 1 false ∷ cleared_status 2 1 ∷ opens 2 opened.Bio 2 None 80 ∷ []) ∷
    begins 0 1 [] ∷
    is_done 0 1
    (fin 1 cond.Normal ∷ bytes_put 1 0 (codes "alpha") ∷ status 1 1 cond.Normal 5 0 ∷ flag 1 1 true ∷ []) ∷
    resumes 1 cond.Normal [] ∷
    runs 1 (call service.QioW (request 1 (value 2) func.Write 1 no_routine 0 0 5 0)) cond.Normal
    (flag 1 1 false ∷ cleared_status 1 1 ∷ opens 3 opened.Bio 1 None 5 ∷ mput (codes "BOX") 3
    (body.Text (codes "alpha")) ∷ mget (codes "BOX") 3 2 ∷ fin 2 cond.Normal ∷ bytes_put 2 0
    (codes "alpha") ∷ status 2 1 cond.Normal 5 1 ∷ flag 2 1 true ∷ fin 3 cond.Normal ∷ status 1 1
    cond.Normal 5 0 ∷ flag 1 1 true ∷ []) ∷
    waits 1 (call service.QioW (request 1 (value 1) func.Read 1 no_routine 0 0 80 0))
    (flag 1 1 false ∷ cleared_status 1 1 ∷ opens 4 opened.Bio 1 None 80 ∷ []) ∷
    resumes 2 cond.Normal [] ∷
    waits 2 (call service.QioW (request 2 (value 2) func.Write 2 no_routine 0 0 512 0))
    (flag 2 2 false ∷ cleared_status 2 2 ∷ opens 5 opened.Dio 2 None 0 ∷ []) ∷
    begins 0 4 [] ∷
    is_done 0 4 (fin 4 cond.Normal ∷ bytes_put 1 0 (codes "beta") ∷ status 1 1 cond.Normal 4 0 ∷ flag 1 1 true ∷ []) ∷
    resumes 1 cond.Normal [] ∷
    waits 1 (call service.QioW (request 1 (value 2) func.Write 1 no_routine 0 0 4 0))
    (flag 1 1 false ∷ cleared_status 1 1 ∷ opens 6 opened.Bio 1 None 4 ∷ mput (codes "BOX") 6
    (body.Text (codes "beta")) ∷ []) ∷
    begins 1 5 [] ∷
    is_done 1 5 (fin 5 cond.Normal ∷ status 2 2 cond.Normal 512 0 ∷ flag 2 2 true ∷ []) ∷
    resumes 2 cond.Normal [] ∷
    runs 2 (call service.QioW (request 1 (value 1) func.Read 1 no_routine 0 0 80 0)) cond.Normal
    (flag 2 1 false ∷ cleared_status 2 1 ∷ opens 7 opened.Bio 2 None 80 ∷ mget (codes "BOX") 6 7 ∷ fin 7
    cond.Normal ∷ bytes_put 2 0 (codes "beta") ∷ status 2 1 cond.Normal 4 1 ∷ flag 2 1 true ∷ fin 6
    cond.Normal ∷ status 1 1 cond.Normal 4 0 ∷ flag 1 1 true ∷ []) ∷
    resumes 1 cond.Normal [] ∷
    waits 1 (call service.QioW (request 1 (value 1) func.Read 1 no_routine 0 0 80 0))
    (flag 1 1 false ∷ cleared_status 1 1 ∷ opens 8 opened.Bio 1 None 80 ∷ []) ∷
    waits 2 (call service.QioW (request 2 (value 2) func.Write 2 no_routine 0 0 512 1))
    (flag 2 2 false ∷ cleared_status 2 2 ∷ opens 9 opened.Dio 2 None 0 ∷ []) ∷
    begins 0 8 [] ∷
    is_done 0 8 (fin 8 cond.EndOfFile ∷ status 1 1 cond.EndOfFile 0 0 ∷ flag 1 1 true ∷ []) ∷
    resumes 1 cond.Normal [] ∷
    waits 1 (call service.QioW (request 1 (value 2) func.Eof 1 no_routine 0 0 0 0))
    (flag 1 1 false ∷ cleared_status 1 1 ∷ opens 10 opened.Bio 1 None 0 ∷ mput (codes "BOX") 10 body.Eof ∷ []) ∷
    begins 1 9 [] ∷
    is_done 1 9 (fin 9 cond.Normal ∷ status 2 2 cond.Normal 512 0 ∷ flag 2 2 true ∷ []) ∷
    resumes 2 cond.Normal [] ∷
    runs 2 (call service.QioW (request 1 (value 1) func.Read 1 no_routine 0 0 80 0)) cond.Normal
    (flag 2 1 false ∷ cleared_status 2 1 ∷ opens 11 opened.Bio 2 None 80 ∷ mget (codes "BOX") 10 11 ∷ fin 11
    cond.EndOfFile ∷ status 2 1 cond.EndOfFile 0 1 ∷ flag 2 1 true ∷ fin 10 cond.Normal ∷ status 1 1
    cond.Normal 0 0 ∷ flag 1 1 true ∷ []) ∷
    resumes 1 cond.Normal [] ∷
    runs 1 (call service.Exit (value 1 ∷ [])) cond.Normal [] ∷
    is_gone 1 (gone 1 ∷ []) ∷
    runs 2 (call service.Exit (value 1 ∷ [])) cond.Normal [] ∷
    is_gone 2 (mbx (codes "BOX") false ∷ gone 2 ∷ []) ∷
    []

pub producer : chosen script 0 100 ≡ records
producer = refl

pub producer-end : end_after script records 100 ≡ Some end.Done
producer-end = refl

-- the exit codes
pub producer-codes : exit_codes script records ≡ 1 ∷ 1 ∷ []
producer-codes = refl

-- the lines that the units were given
pub producer-outputs : outputs script records ≡ [] ∷ [] ∷ []
producer-outputs = refl
