-- A wait for any of no flags never ends.
use Rattle.std.specs.Prelude.{◌≡◌, refl, List, [], ◌∷◌, codes, Some}
use Rattle.vx_base.specs.declared.record.End.TheVariants as end
use Rattle.vx_record.specs.Types.{Image, Rec, System}
use Rattle.vx_base.specs.declared.service.Service.TheVariants as service
use Rattle.vx_examples.specs.Script.{value, call, calls, declared, waits}
use Rattle.vx_record.specs.Runs.{chosen, end_after}

abbrev image_main : Image
image_main = record {
  name = codes "MAIN";
  labels = [];
  stmts =
      calls service.WflOr (value 1 ∷ value 0 ∷ []) ∷
      [];
}

abbrev pub script : System
script = record {
  units = [];
  images = image_main ∷ [];
  decls = declared (codes "P") 0 ∷ [];
}

-- its records
abbrev pub records : List Rec
records =
    waits 1 (call service.WflOr (value 1 ∷ value 0 ∷ [])) [] ∷
    []

pub no_flags : chosen script 0 10000 ≡ records
no_flags = refl

pub no_flags-end : end_after script records 10000 ≡ Some end.Hung
no_flags-end = refl
