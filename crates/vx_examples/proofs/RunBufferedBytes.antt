-- BYTLM counts the bytes of outstanding buffered requests; requests that no unit has begun finish at the rundown.
use Rattle.std.specs.Prelude.{◌≡◌, refl, List, [], ◌∷◌, true, false, codes, Some, None}
use Rattle.vx_base.specs.declared.cond.Cond.TheVariants as cond
use Rattle.vx_base.specs.declared.effects.Opened.TheVariants as opened
use Rattle.vx_base.specs.declared.mode.Mode.TheVariants as mode
use Rattle.vx_base.specs.declared.record.End.TheVariants as end
use Rattle.vx_record.specs.Types.{Image, Rec, System}
use Rattle.vx_base.specs.declared.request.Func.TheVariants as func
use Rattle.vx_base.specs.declared.service.Service.TheVariants as service
use Rattle.vx_examples.specs.Along.{exit_codes, outputs}
use Rattle.vx_examples.specs.Script.{value, variable, named, no_routine, in_mode, call, calls, usual_limits, declared, runs, is_gone, opens, fin, flag, puts, gone, held_in, request}
use Rattle.vx_record.specs.Runs.{chosen, end_after}

abbrev image_main : Image
image_main = record {
  name = codes "MAIN";
  labels = [];
  stmts =
      calls service.Assign (variable (codes "A") ∷ named (codes "TT") ∷ in_mode mode.Kernel ∷ []) ∷
      calls service.Qio (request 1 (held_in (codes "A")) func.Read 0 no_routine 0 0 100 0) ∷
      calls service.Qio (request 1 (held_in (codes "A")) func.Read 0 no_routine 0 0 1 0) ∷
      calls service.Qio (request 1 (held_in (codes "A")) func.Read 0 no_routine 0 0 0 0) ∷
      calls service.Exit (value 1 ∷ []) ∷
      [];
}

abbrev pub script : System
script = record {
  units = record { name = codes "TT"; blocks = 0; inputs = []; faults = [] } ∷ [];
  images = image_main ∷ [];
  decls = record (declared (codes "P") 0) { limits = record usual_limits { byt = 100 } } ∷ [];
}

-- its records
abbrev pub records : List Rec
records =
    runs 1 (call service.Assign (variable (codes "A") ∷ named (codes "TT") ∷ in_mode mode.Kernel ∷ [])) cond.Normal
    (puts 1 (codes "A") 1 ∷ []) ∷
    runs 1 (call service.Qio (request 1 (value 1) func.Read 0 no_routine 0 0 100 0)) cond.Normal
    (flag 1 1 false ∷ opens 1 opened.Bio 1 None 100 ∷ []) ∷
    runs 1 (call service.Qio (request 1 (value 1) func.Read 0 no_routine 0 0 1 0)) cond.ExQuota [] ∷
    runs 1 (call service.Qio (request 1 (value 1) func.Read 0 no_routine 0 0 0 0)) cond.Normal
    (flag 1 1 false ∷ opens 2 opened.Bio 1 None 0 ∷ []) ∷
    runs 1 (call service.Exit (value 1 ∷ [])) cond.Normal [] ∷
    is_gone 1 (fin 1 cond.Cancel ∷ flag 1 1 true ∷ fin 2 cond.Cancel ∷ flag 1 1 true ∷ gone 1 ∷ []) ∷
    []

pub buffered_bytes : chosen script 0 10000 ≡ records
buffered_bytes = refl

pub buffered_bytes-end : end_after script records 10000 ≡ Some end.Done
buffered_bytes-end = refl

-- the exit codes
pub buffered_bytes-codes : exit_codes script records ≡ 1 ∷ []
buffered_bytes-codes = refl

-- the lines that the units were given
pub buffered_bytes-outputs : outputs script records ≡ [] ∷ []
buffered_bytes-outputs = refl
