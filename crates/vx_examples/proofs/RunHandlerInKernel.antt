-- No exit handler is declared in kernel mode.
use Rattle.std.specs.Prelude.{◌≡◌, refl, List, [], ◌∷◌, true, codes, Some}
use Rattle.vx_base.specs.declared.cond.Cond.TheVariants as cond
use Rattle.vx_base.specs.declared.record.End.TheVariants as end
use Rattle.vx_record.specs.Types.{Image, Rec, System}
use Rattle.vx_base.specs.declared.service.Service.TheVariants as service
use Rattle.vx_examples.specs.Along.{exit_codes}
use Rattle.vx_examples.specs.Script.{value, routine, call, calls, no_privs, declared, runs, returns, is_gone, gone}
use Rattle.vx_image.specs.declared.stmt.Stmt.TheVariants as stmt
use Rattle.vx_record.specs.Runs.{chosen, end_after}

abbrev image_main : Image
image_main = record {
  name = codes "MAIN";
  labels = record { name = codes "X"; place = 2 } ∷ record { name = codes "H"; place = 4 } ∷ [];
  stmts =
      calls service.CmKrnl (routine (codes "X") ∷ value 0 ∷ []) ∷
      calls service.Exit (value 1 ∷ []) ∷
      calls service.DclExh (routine (codes "H") ∷ []) ∷
      stmt.Return ∷
      stmt.Return ∷
      [];
}

abbrev pub script : System
script = record {
  units = [];
  images = image_main ∷ [];
  decls = record (declared (codes "P") 0) { privs = record no_privs { cmkrnl = true } } ∷ [];
}

-- its records
abbrev pub records : List Rec
records =
    runs 1 (call service.CmKrnl (routine (codes "X") ∷ value 0 ∷ [])) cond.Normal [] ∷
    runs 1 (call service.DclExh (routine (codes "H") ∷ [])) cond.IvSsRq [] ∷
    returns 1 [] ∷
    runs 1 (call service.Exit (value 1 ∷ [])) cond.Normal [] ∷
    is_gone 1 (gone 1 ∷ []) ∷
    []

pub handler_in_kernel : chosen script 0 10000 ≡ records
handler_in_kernel = refl

pub handler_in_kernel-end : end_after script records 10000 ≡ Some end.Done
handler_in_kernel-end = refl

-- the exit codes
pub handler_in_kernel-codes : exit_codes script records ≡ 1 ∷ []
handler_in_kernel-codes = refl
