-- No handler with that routine; to cancel all of none is done.
use Rattle.std.specs.Prelude.{◌≡◌, refl, List, [], ◌∷◌, codes, Some}
use Rattle.vx_base.specs.declared.cond.Cond.TheVariants as cond
use Rattle.vx_base.specs.declared.record.End.TheVariants as end
use Rattle.vx_record.specs.Types.{Image, Rec, System}
use Rattle.vx_base.specs.declared.service.Service.TheVariants as service
use Rattle.vx_examples.specs.Along.{exit_codes}
use Rattle.vx_examples.specs.Script.{value, routine, no_routine, call, calls, declared, runs, is_gone, gone}
use Rattle.vx_image.specs.declared.stmt.Stmt.TheVariants as stmt
use Rattle.vx_record.specs.Runs.{chosen, end_after}

abbrev image_main : Image
image_main = record {
  name = codes "MAIN";
  labels = record { name = codes "H"; place = 3 } ∷ [];
  stmts =
      calls service.CanExh (routine (codes "H") ∷ []) ∷
      calls service.CanExh (no_routine ∷ []) ∷
      calls service.Exit (value 1 ∷ []) ∷
      stmt.Return ∷
      [];
}

abbrev pub script : System
script = record {
  units = [];
  images = image_main ∷ [];
  decls = declared (codes "P") 0 ∷ [];
}

-- its records
abbrev pub records : List Rec
records =
    runs 1 (call service.CanExh (routine (codes "H") ∷ [])) cond.NoHandler [] ∷
    runs 1 (call service.CanExh (no_routine ∷ [])) cond.Normal [] ∷
    runs 1 (call service.Exit (value 1 ∷ [])) cond.Normal [] ∷
    is_gone 1 (gone 1 ∷ []) ∷
    []

pub no_handler : chosen script 0 10000 ≡ records
no_handler = refl

pub no_handler-end : end_after script records 10000 ≡ Some end.Done
no_handler-end = refl

-- the exit codes
pub no_handler-codes : exit_codes script records ≡ 1 ∷ []
no_handler-codes = refl
