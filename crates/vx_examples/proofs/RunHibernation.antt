-- At most one wake pends; the second $HIBER waits forever, and the run hangs.
use Rattle.std.specs.Prelude.{◌≡◌, refl, List, [], ◌∷◌, codes, Some}
use Rattle.vx_base.specs.declared.cond.Cond.TheVariants as cond
use Rattle.vx_base.specs.declared.record.End.TheVariants as end
use Rattle.vx_record.specs.Types.{Image, Rec, System}
use Rattle.vx_base.specs.declared.service.Service.TheVariants as service
use Rattle.vx_examples.specs.Script.{value, call, calls, declared, runs, waits}
use Rattle.vx_record.specs.Runs.{chosen, end_after}

abbrev image_main : Image
image_main = record {
  name = codes "MAIN";
  labels = [];
  stmts =
      calls service.Wake (value 0 ∷ []) ∷
      calls service.Wake (value 0 ∷ []) ∷
      calls service.Hiber [] ∷
      calls service.Hiber [] ∷
      [];
}

abbrev pub script : System
script = record {
  units = [];
  images = image_main ∷ [];
  decls = declared (codes "P") 0 ∷ [];
}

-- its records
abbrev pub records : List Rec
records =
    runs 1 (call service.Wake (value 0 ∷ [])) cond.Normal [] ∷
    runs 1 (call service.Wake (value 0 ∷ [])) cond.Normal [] ∷
    runs 1 (call service.Hiber []) cond.Normal [] ∷
    waits 1 (call service.Hiber []) [] ∷
    []

pub hibernation : chosen script 0 10000 ≡ records
hibernation = refl

pub hibernation-end : end_after script records 10000 ≡ Some end.Hung
hibernation-end = refl
