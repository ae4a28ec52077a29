-- A timer that TQELM refuses leaves its flag as it was.
use Rattle.std.specs.Prelude.{◌≡◌, refl, List, [], ◌∷◌, true, codes, Some}
use Rattle.vx_base.specs.declared.cond.Cond.TheVariants as cond
use Rattle.vx_base.specs.declared.record.End.TheVariants as end
use Rattle.vx_record.specs.Types.{Image, Rec, System}
use Rattle.vx_base.specs.declared.service.Service.TheVariants as service
use Rattle.vx_examples.specs.Along.{exit_codes}
use Rattle.vx_examples.specs.Script.{value, variable, no_routine, call, calls, usual_limits, declared, runs, ends, is_gone, flag, puts, gone}
use Rattle.vx_record.specs.Runs.{chosen, end_after}

abbrev image_main : Image
image_main = record {
  name = codes "MAIN";
  labels = [];
  stmts =
      calls service.SetEf (value 1 ∷ []) ∷
      calls service.SetImr (value 1 ∷ value 5 ∷ no_routine ∷ value 0 ∷ []) ∷
      calls service.ReadEf (value 1 ∷ variable (codes "A") ∷ []) ∷
      [];
}

abbrev pub script : System
script = record {
  units = [];
  images = image_main ∷ [];
  decls = record (declared (codes "P") 0) { limits = record usual_limits { tqe = 0 } } ∷ [];
}

-- its records
abbrev pub records : List Rec
records =
    runs 1 (call service.SetEf (value 1 ∷ [])) cond.WasClr (flag 1 1 true ∷ []) ∷
    runs 1 (call service.SetImr (value 1 ∷ value 5 ∷ no_routine ∷ value 0 ∷ [])) cond.ExQuota [] ∷
    runs 1 (call service.ReadEf (value 1 ∷ variable (codes "A") ∷ [])) cond.WasSet (puts 1 (codes "A") 2 ∷ []) ∷
    ends 1 [] ∷
    is_gone 1 (gone 1 ∷ []) ∷
    []

pub timer_quota : chosen script 0 10000 ≡ records
timer_quota = refl

pub timer_quota-end : end_after script records 10000 ≡ Some end.Done
timer_quota-end = refl

-- the exit codes
pub timer_quota-codes : exit_codes script records ≡ 9 ∷ []
timer_quota-codes = refl
