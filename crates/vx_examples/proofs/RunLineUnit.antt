-- A line unit: a line longer than the buffer, the end of the lines, and a line that is written.
use Rattle.std.specs.Prelude.{◌≡◌, refl, List, [], ◌∷◌, true, false, codes, Some, None}
use Rattle.vx_base.specs.declared.cond.Cond.TheVariants as cond
use Rattle.vx_base.specs.declared.effects.Opened.TheVariants as opened
use Rattle.vx_base.specs.declared.mode.Mode.TheVariants as mode
use Rattle.vx_base.specs.declared.record.End.TheVariants as end
use Rattle.vx_record.specs.Types.{Image, Rec, System}
use Rattle.vx_base.specs.declared.request.Func.TheVariants as func
use Rattle.vx_base.specs.declared.service.Service.TheVariants as service
use Rattle.vx_examples.specs.Along.{exit_codes, outputs}
use Rattle.vx_examples.specs.Script.{value, variable, named, no_routine, in_mode, call, calls, declared, runs, waits, resumes, is_gone, begins, is_done, opens, fin, flag, status, cleared_status, bytes_put, puts, gone, held_in, request}
use Rattle.vx_record.specs.Runs.{chosen, end_after}

abbrev image_main : Image
image_main = record {
  name = codes "MAIN";
  labels = [];
  stmts =
      calls service.Assign (variable (codes "A") ∷ named (codes "TT") ∷ in_mode mode.Kernel ∷ []) ∷
      calls service.QioW (request 1 (held_in (codes "A")) func.Read 1 no_routine 0 0 3 0) ∷
      calls service.QioW (request 1 (held_in (codes "A")) func.Read 1 no_routine 0 0 3 0) ∷
      calls service.QioW (request 1 (held_in (codes "A")) func.Write 0 no_routine 0 0 3 0) ∷
      calls service.Exit (value 1 ∷ []) ∷
      [];
}

abbrev pub script : System
script = record {
  units = record { name = codes "TT"; blocks = 0; inputs = (codes "HELLO") ∷ []; faults = [] } ∷ [];
  images = image_main ∷ [];
  decls = declared (codes "P") 0 ∷ [];
}

-- its records
abbrev pub records : List Rec
records =
    runs 1 (call service.Assign (variable (codes "A") ∷ named (codes "TT") ∷ in_mode mode.Kernel ∷ [])) cond.Normal
    (puts 1 (codes "A") 1 ∷ []) ∷
    waits 1 (call service.QioW (request 1 (value 1) func.Read 1 no_routine 0 0 3 0))
    (flag 1 1 false ∷ cleared_status 1 1 ∷ opens 1 opened.Bio 1 None 3 ∷ []) ∷
    begins 0 1 [] ∷
    is_done 0 1
    (fin 1 cond.BufferOvf ∷ bytes_put 1 0 (codes "HEL") ∷ status 1 1 cond.BufferOvf 3 0 ∷ flag 1 1 true ∷ []) ∷
    resumes 1 cond.Normal [] ∷
    waits 1 (call service.QioW (request 1 (value 1) func.Read 1 no_routine 0 0 3 0))
    (flag 1 1 false ∷ cleared_status 1 1 ∷ opens 2 opened.Bio 1 None 3 ∷ []) ∷
    begins 0 2 [] ∷
    is_done 0 2 (fin 2 cond.EndOfFile ∷ status 1 1 cond.EndOfFile 0 0 ∷ flag 1 1 true ∷ []) ∷
    resumes 1 cond.Normal [] ∷
    waits 1 (call service.QioW (request 1 (value 1) func.Write 0 no_routine 0 0 3 0))
    (flag 1 1 false ∷ opens 3 opened.Bio 1 None 3 ∷ []) ∷
    begins 0 3 [] ∷
    is_done 0 3 (fin 3 cond.Normal ∷ flag 1 1 true ∷ []) ∷
    resumes 1 cond.Normal [] ∷
    runs 1 (call service.Exit (value 1 ∷ [])) cond.Normal [] ∷
    is_gone 1 (gone 1 ∷ []) ∷
    []

pub line_unit : chosen script 0 10000 ≡ records
line_unit = refl

pub line_unit-end : end_after script records 10000 ≡ Some end.Done
line_unit-end = refl

-- the exit codes
pub line_unit-codes : exit_codes script records ≡ 1 ∷ []
line_unit-codes = refl

-- the lines that the units were given
pub line_unit-outputs : outputs script records ≡ ((codes "HEL") ∷ []) ∷ []
line_unit-outputs = refl
