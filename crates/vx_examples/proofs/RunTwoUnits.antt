-- Two processes that wait for a unit each, until the lines have ended.
use Rattle.std.specs.Prelude.{◌≡◌, refl, List, [], ◌∷◌, true, false, codes, Some, None}
use Rattle.vx_base.specs.declared.cond.Cond.TheVariants as cond
use Rattle.vx_base.specs.declared.effects.Opened.TheVariants as opened
use Rattle.vx_base.specs.declared.mode.Mode.TheVariants as mode
use Rattle.vx_base.specs.declared.record.End.TheVariants as end
use Rattle.vx_record.specs.Types.{Image, Rec, System}
use Rattle.vx_base.specs.declared.request.Func.TheVariants as func
use Rattle.vx_base.specs.declared.service.Service.TheVariants as service
use Rattle.vx_examples.specs.Along.{exit_codes, outputs}
use Rattle.vx_examples.specs.Script.{value, variable, named, no_routine, in_mode, call, calls, declared, runs, waits, resumes, is_gone, begins, is_done, opens, fin, flag, status, cleared_status, puts, gone, held_in, request}
use Rattle.vx_record.specs.Runs.{chosen, end_after}

abbrev image_ia : Image
image_ia = record {
  name = codes "IA";
  labels = [];
  stmts =
      calls service.Assign (variable (codes "A") ∷ named (codes "TA") ∷ in_mode mode.Kernel ∷ []) ∷
      calls service.QioW (request 1 (held_in (codes "A")) func.Read 1 no_routine 0 0 8 0) ∷
      calls service.Exit (value 1 ∷ []) ∷
      [];
}

abbrev image_ib : Image
image_ib = record {
  name = codes "IB";
  labels = [];
  stmts =
      calls service.Assign (variable (codes "A") ∷ named (codes "TB") ∷ in_mode mode.Kernel ∷ []) ∷
      calls service.QioW (request 1 (held_in (codes "A")) func.Read 1 no_routine 0 0 8 0) ∷
      calls service.Exit (value 1 ∷ []) ∷
      [];
}

abbrev pub script : System
script = record {
  units = record { name = codes "TA"; blocks = 0; inputs = []; faults = [] } ∷ record
      { name = codes "TB"; blocks = 0; inputs = []; faults = [] } ∷ [];
  images = image_ia ∷ image_ib ∷ [];
  decls =
      declared (codes "PA") 0 ∷
      declared (codes "PB") 1 ∷
      [];
}

-- its records
abbrev pub records : List Rec
records =
    runs 1 (call service.Assign (variable (codes "A") ∷ named (codes "TA") ∷ in_mode mode.Kernel ∷ [])) cond.Normal
    (puts 1 (codes "A") 1 ∷ []) ∷
    waits 1 (call service.QioW (request 1 (value 1) func.Read 1 no_routine 0 0 8 0))
    (flag 1 1 false ∷ cleared_status 1 1 ∷ opens 1 opened.Bio 1 None 8 ∷ []) ∷
    runs 2 (call service.Assign (variable (codes "A") ∷ named (codes "TB") ∷ in_mode mode.Kernel ∷ [])) cond.Normal
    (puts 2 (codes "A") 1 ∷ []) ∷
    waits 2 (call service.QioW (request 1 (value 1) func.Read 1 no_routine 0 0 8 0))
    (flag 2 1 false ∷ cleared_status 2 1 ∷ opens 2 opened.Bio 2 None 8 ∷ []) ∷
    begins 0 1 [] ∷
    is_done 0 1 (fin 1 cond.EndOfFile ∷ status 1 1 cond.EndOfFile 0 0 ∷ flag 1 1 true ∷ []) ∷
    resumes 1 cond.Normal [] ∷
    runs 1 (call service.Exit (value 1 ∷ [])) cond.Normal [] ∷
    is_gone 1 (gone 1 ∷ []) ∷
    begins 1 2 [] ∷
    is_done 1 2 (fin 2 cond.EndOfFile ∷ status 2 1 cond.EndOfFile 0 0 ∷ flag 2 1 true ∷ []) ∷
    resumes 2 cond.Normal [] ∷
    runs 2 (call service.Exit (value 1 ∷ [])) cond.Normal [] ∷
    is_gone 2 (gone 2 ∷ []) ∷
    []

pub two_units : chosen script 0 10000 ≡ records
two_units = refl

pub two_units-end : end_after script records 10000 ≡ Some end.Done
two_units-end = refl

-- the exit codes
pub two_units-codes : exit_codes script records ≡ 1 ∷ 1 ∷ []
two_units-codes = refl

-- the lines that the units were given
pub two_units-outputs : outputs script records ≡ [] ∷ [] ∷ []
two_units-outputs = refl
