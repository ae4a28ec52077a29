-- A wait for all of no flags is over at once.
use Rattle.std.specs.Prelude.{◌≡◌, refl, List, [], ◌∷◌, codes, Some}
use Rattle.vx_base.specs.declared.cond.Cond.TheVariants as cond
use Rattle.vx_base.specs.declared.record.End.TheVariants as end
use Rattle.vx_record.specs.Types.{Image, Rec, System}
use Rattle.vx_base.specs.declared.service.Service.TheVariants as service
use Rattle.vx_examples.specs.Along.{exit_codes}
use Rattle.vx_examples.specs.Script.{value, call, calls, declared, runs, ends, is_gone, gone}
use Rattle.vx_record.specs.Runs.{chosen, end_after}

abbrev image_main : Image
image_main = record {
  name = codes "MAIN";
  labels = [];
  stmts =
      calls service.WflAnd (value 1 ∷ value 0 ∷ []) ∷
      [];
}

abbrev pub script : System
script = record {
  units = [];
  images = image_main ∷ [];
  decls = declared (codes "P") 0 ∷ [];
}

-- its records
abbrev pub records : List Rec
records =
    runs 1 (call service.WflAnd (value 1 ∷ value 0 ∷ [])) cond.Normal [] ∷
    ends 1 [] ∷
    is_gone 1 (gone 1 ∷ []) ∷
    []

pub all_of_no_flags : chosen script 0 10000 ≡ records
all_of_no_flags = refl

pub all_of_no_flags-end : end_after script records 10000 ≡ Some end.Done
all_of_no_flags-end = refl

-- the exit codes
pub all_of_no_flags-codes : exit_codes script records ≡ 1 ∷ []
all_of_no_flags-codes = refl
