-- A producer and a consumer as seed 1 picks.
use Rattle.std.specs.Prelude.{◌≡◌, refl, List, [], ◌∷◌, true, false, codes, Some, None}
use Rattle.vx_base.specs.declared.cond.Cond.TheVariants as cond
use Rattle.vx_base.specs.declared.effects.Opened.TheVariants as opened
use Rattle.vx_base.specs.declared.mode.Mode.TheVariants as mode
use Rattle.vx_base.specs.declared.record.End.TheVariants as end
use Rattle.vx_record.specs.Types.{Rec}
use Rattle.vx_base.specs.declared.request.Body.TheVariants as body
use Rattle.vx_base.specs.declared.request.Func.TheVariants as func
use Rattle.vx_base.specs.declared.service.Service.TheVariants as service
use Rattle.vx_examples.specs.Along.{exit_codes, outputs}
pub use Rattle.vx_examples.proofs.RunProducer.{script}
use Rattle.vx_examples.specs.Script.{value, variable, named, no_routine, in_mode, call, runs, waits, resumes, is_gone, begins, is_done, opens, fin, flag, status, cleared_status, bytes_put, puts, mput, mget, mbx, gone, request, mailbox}
use Rattle.vx_record.specs.Runs.{chosen, end_after}

abbrev pub records : List Rec
records =
    runs 1 (call service.Assign (variable (codes "T") ∷ named (codes "TT") ∷ in_mode mode.Kernel ∷ [])) cond.Normal
    (puts 1 (codes "T") 1 ∷ []) ∷
    runs 2 (call service.CreMbx (mailbox (codes "M") (codes "BOX") 0 256 1024 mode.Kernel)) cond.Normal
    (mbx (codes "BOX") true ∷ puts 2 (codes "M") 1 ∷ []) ∷
    runs 1 (call service.CreMbx (mailbox (codes "M") (codes "BOX") 0 256 1024 mode.Kernel)) cond.Normal
    (puts 1 (codes "M") 2 ∷ []) ∷
    waits 1 (call service.QioW (request 1 (value 1) func.Read 1 no_routine 0 0 80 0))
    (flag 1 1 false ∷ cleared_status 1 1 ∷ opens 1 opened.Bio 1 None 80 ∷ []) ∷
    runs 2 (call service.Assign (variable (codes "D") ∷ named (codes "DK") ∷ in_mode mode.Kernel ∷ [])) cond.Normal
    (puts 2 (codes "D") 2 ∷ []) ∷
    begins 0 1 [] ∷
    waits 2 (call service.QioW (request 1 (value 1) func.Read 1 no_routine 0 0 80 0))
    (flag 2 1 false ∷ cleared_status 2 1 ∷ opens 2 opened.Bio 2 None 80 ∷ []) ∷
    is_done 0 1
    (fin 1 cond.Normal ∷ bytes_put 1 0 (codes "alpha") ∷ status 1 1 cond.Normal 5 0 ∷ flag 1 1 true ∷ []) ∷
    resumes 1 cond.Normal [] ∷
    runs 1 (call service.QioW (request 1 (value 2) func.Write 1 no_routine 0 0 5 0)) cond.Normal
    (flag 1 1 false ∷ cleared_status 1 1 ∷ opens 3 opened.Bio 1 None 5 ∷ mput (codes "BOX") 3
    (body.Text (codes "alpha")) ∷ mget (codes "BOX") 3 2 ∷ fin 2 cond.Normal ∷ bytes_put 2 0
    (codes "alpha") ∷ status 2 1 cond.Normal 5 1 ∷ flag 2 1 true ∷ fin 3 cond.Normal ∷ status 1 1
    cond.Normal 5 0 ∷ flag 1 1 true ∷ []) ∷
    resumes 2 cond.Normal [] ∷
    waits 1 (call service.QioW (request 1 (value 1) func.Read 1 no_routine 0 0 80 0))
    (flag 1 1 false ∷ cleared_status 1 1 ∷ opens 4 opened.Bio 1 None 80 ∷ []) ∷
    waits 2 (call service.QioW (request 2 (value 2) func.Write 2 no_routine 0 0 512 0))
    (flag 2 2 false ∷ cleared_status 2 2 ∷ opens 5 opened.Dio 2 None 0 ∷ []) ∷
    begins 0 4 [] ∷
    is_done 0 4 (fin 4 cond.Normal ∷ bytes_put 1 0 (codes "beta") ∷ status 1 1 cond.Normal 4 0 ∷ flag 1 1 true ∷ []) ∷
    resumes 1 cond.Normal [] ∷
    waits 1 (call service.QioW (request 1 (value 2) func.Write 1 no_routine 0 0 4 0))
    (flag 1 1 false ∷ cleared_status 1 1 ∷ opens 6 opened.Bio 1 None 4 ∷ mput (codes "BOX") 6
    (body.Text (codes "beta")) ∷ []) ∷
    begins 1 5 [] ∷
    is_done 1 5 (fin 5 cond.Normal ∷ status 2 2 cond.Normal 512 0 ∷ flag 2 2 true ∷ []) ∷
    resumes 2 cond.Normal [] ∷
    runs 2 (call service.QioW (request 1 (value 1) func.Read 1 no_routine 0 0 80 0)) cond.Normal
    (flag 2 1 false ∷ cleared_status 2 1 ∷ opens 7 opened.Bio 2 None 80 ∷ mget (codes "BOX") 6 7 ∷ fin 7
    cond.Normal ∷ bytes_put 2 0 (codes "beta") ∷ status 2 1 cond.Normal 4 1 ∷ flag 2 1 true ∷ fin 6
    cond.Normal ∷ status 1 1 cond.Normal 4 0 ∷ flag 1 1 true ∷ []) ∷
    waits 2 (call service.QioW (request 2 (value 2) func.Write 2 no_routine 0 0 512 1))
    (flag 2 2 false ∷ cleared_status 2 2 ∷ opens 8 opened.Dio 2 None 0 ∷ []) ∷
    resumes 1 cond.Normal [] ∷
    waits 1 (call service.QioW (request 1 (value 1) func.Read 1 no_routine 0 0 80 0))
    (flag 1 1 false ∷ cleared_status 1 1 ∷ opens 9 opened.Bio 1 None 80 ∷ []) ∷
    begins 1 8 [] ∷
    begins 0 9 [] ∷
    is_done 0 9 (fin 9 cond.EndOfFile ∷ status 1 1 cond.EndOfFile 0 0 ∷ flag 1 1 true ∷ []) ∷
    resumes 1 cond.Normal [] ∷
    is_done 1 8 (fin 8 cond.Normal ∷ status 2 2 cond.Normal 512 0 ∷ flag 2 2 true ∷ []) ∷
    waits 1 (call service.QioW (request 1 (value 2) func.Eof 1 no_routine 0 0 0 0))
    (flag 1 1 false ∷ cleared_status 1 1 ∷ opens 10 opened.Bio 1 None 0 ∷ mput (codes "BOX") 10 body.Eof ∷ []) ∷
    resumes 2 cond.Normal [] ∷
    runs 2 (call service.QioW (request 1 (value 1) func.Read 1 no_routine 0 0 80 0)) cond.Normal
    (flag 2 1 false ∷ cleared_status 2 1 ∷ opens 11 opened.Bio 2 None 80 ∷ mget (codes "BOX") 10 11 ∷ fin 11
    cond.EndOfFile ∷ status 2 1 cond.EndOfFile 0 1 ∷ flag 2 1 true ∷ fin 10 cond.Normal ∷ status 1 1
    cond.Normal 0 0 ∷ flag 1 1 true ∷ []) ∷
    resumes 1 cond.Normal [] ∷
    runs 2 (call service.Exit (value 1 ∷ [])) cond.Normal [] ∷
    runs 1 (call service.Exit (value 1 ∷ [])) cond.Normal [] ∷
    is_gone 1 (gone 1 ∷ []) ∷
    is_gone 2 (mbx (codes "BOX") false ∷ gone 2 ∷ []) ∷
    []

pub producer_seeded : chosen script 1 100 ≡ records
producer_seeded = refl

pub producer_seeded-end : end_after script records 100 ≡ Some end.Done
producer_seeded-end = refl

-- the exit codes
pub producer_seeded-codes : exit_codes script records ≡ 1 ∷ 1 ∷ []
producer_seeded-codes = refl

-- the lines that the units were given
pub producer_seeded-outputs : outputs script records ≡ [] ∷ [] ∷ []
producer_seeded-outputs = refl
