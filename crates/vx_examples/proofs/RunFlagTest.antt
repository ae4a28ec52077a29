-- The flag test at its edges: the last own flag, the first and the last common one with nothing associated, and one
-- above.
use Rattle.std.specs.Prelude.{◌≡◌, refl, List, [], ◌∷◌, true, codes, Some}
use Rattle.vx_base.specs.declared.cond.Cond.TheVariants as cond
use Rattle.vx_base.specs.declared.record.End.TheVariants as end
use Rattle.vx_record.specs.Types.{Image, Rec, System}
use Rattle.vx_base.specs.declared.service.Service.TheVariants as service
use Rattle.vx_examples.specs.Along.{exit_codes}
use Rattle.vx_examples.specs.Script.{value, call, calls, declared, runs, ends, is_gone, flag, gone}
use Rattle.vx_record.specs.Runs.{chosen, end_after}

abbrev image_main : Image
image_main = record {
  name = codes "MAIN";
  labels = [];
  stmts =
      calls service.SetEf (value 31 ∷ []) ∷
      calls service.SetEf (value 63 ∷ []) ∷
      calls service.SetEf (value 64 ∷ []) ∷
      calls service.SetEf (value 127 ∷ []) ∷
      calls service.SetEf (value 128 ∷ []) ∷
      [];
}

abbrev pub script : System
script = record {
  units = [];
  images = image_main ∷ [];
  decls = declared (codes "P") 0 ∷ [];
}

-- its records
abbrev pub records : List Rec
records =
    runs 1 (call service.SetEf (value 31 ∷ [])) cond.WasClr (flag 1 31 true ∷ []) ∷
    runs 1 (call service.SetEf (value 63 ∷ [])) cond.WasClr (flag 1 63 true ∷ []) ∷
    runs 1 (call service.SetEf (value 64 ∷ [])) cond.UnasEfc [] ∷
    runs 1 (call service.SetEf (value 127 ∷ [])) cond.UnasEfc [] ∷
    runs 1 (call service.SetEf (value 128 ∷ [])) cond.IllEfc [] ∷
    ends 1 [] ∷
    is_gone 1 (gone 1 ∷ []) ∷
    []

pub flag_test : chosen script 0 100 ≡ records
flag_test = refl

pub flag_test-end : end_after script records 100 ≡ Some end.Done
flag_test-end = refl

-- the exit codes
pub flag_test-codes : exit_codes script records ≡ 8052 ∷ []
flag_test-codes = refl
