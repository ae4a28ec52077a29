-- A process sets, reads and clears a flag of its own, and exits.
use Rattle.std.specs.Prelude.{◌≡◌, refl, List, [], ◌∷◌, true, false, codes, Some}
use Rattle.vx_base.specs.declared.cond.Cond.TheVariants as cond
use Rattle.vx_base.specs.declared.record.End.TheVariants as end
use Rattle.vx_record.specs.Types.{Image, Rec, System}
use Rattle.vx_base.specs.declared.service.Service.TheVariants as service
use Rattle.vx_examples.specs.Along.{exit_codes}
use Rattle.vx_examples.specs.Script.{value, variable, call, calls, declared, runs, is_gone, flag, puts, gone}
use Rattle.vx_record.specs.Runs.{chosen, end_after}

abbrev image_main : Image
image_main = record {
  name = codes "MAIN";
  labels = [];
  stmts =
      calls service.SetEf (value 5 ∷ []) ∷
      calls service.ReadEf (value 5 ∷ variable (codes "A") ∷ []) ∷
      calls service.ClrEf (value 5 ∷ []) ∷
      calls service.Exit (value 1 ∷ []) ∷
      [];
}

abbrev pub script : System
script = record {
  units = [];
  images = image_main ∷ [];
  decls = declared (codes "P") 0 ∷ [];
}

-- its records
abbrev pub records : List Rec
records =
    runs 1 (call service.SetEf (value 5 ∷ [])) cond.WasClr (flag 1 5 true ∷ []) ∷
    runs 1 (call service.ReadEf (value 5 ∷ variable (codes "A") ∷ [])) cond.WasSet (puts 1 (codes "A") 32 ∷ []) ∷
    runs 1 (call service.ClrEf (value 5 ∷ [])) cond.WasSet (flag 1 5 false ∷ []) ∷
    runs 1 (call service.Exit (value 1 ∷ [])) cond.Normal [] ∷
    is_gone 1 (gone 1 ∷ []) ∷
    []

pub one_process : chosen script 0 10000 ≡ records
one_process = refl

pub one_process-end : end_after script records 10000 ≡ Some end.Done
one_process-end = refl

-- the exit codes
pub one_process-codes : exit_codes script records ≡ 1 ∷ []
one_process-codes = refl
