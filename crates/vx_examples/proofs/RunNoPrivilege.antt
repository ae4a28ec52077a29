-- The same without GROUP: the other process is not suspended.
use Rattle.std.specs.Prelude.{◌≡◌, refl, List, [], ◌∷◌, false, codes, Some}
use Rattle.vx_base.specs.declared.cond.Cond.TheVariants as cond
use Rattle.vx_base.specs.declared.record.End.TheVariants as end
use Rattle.vx_record.specs.Types.{Image, Rec, System}
use Rattle.vx_base.specs.declared.service.Service.TheVariants as service
use Rattle.vx_examples.specs.Along.{exit_codes}
use Rattle.vx_examples.specs.Script.{value, variable, named, call, calls, declared, runs, is_gone, puts, new, gone}
use Rattle.vx_record.specs.Runs.{chosen, end_after}

abbrev image_b : Image
image_b = record {
  name = codes "B";
  labels = [];
  stmts =
      calls service.Suspnd (value 2 ∷ []) ∷
      calls service.Suspnd (value 9 ∷ []) ∷
      calls service.CrePrc (variable (codes "A") ∷ named (codes "KID") ∷ []) ∷
      calls service.Exit (value 1 ∷ []) ∷
      [];
}

abbrev image_i : Image
image_i = record {
  name = codes "I";
  labels = [];
  stmts =
      calls service.Exit (value 1 ∷ []) ∷
      [];
}

abbrev pub script : System
script = record {
  units = [];
  images = image_b ∷ image_i ∷ [];
  decls =
      declared (codes "BOSS") 0 ∷
      record (declared (codes "OTHER") 1) { member = 2 } ∷
      record (declared (codes "KID") 1) { group = 7; member = 7; start = false } ∷
      [];
}

-- its records
abbrev pub records : List Rec
records =
    runs 1 (call service.Suspnd (value 2 ∷ [])) cond.NoPriv [] ∷
    runs 1 (call service.Suspnd (value 9 ∷ [])) cond.NonExpr [] ∷
    runs 1 (call service.CrePrc (variable (codes "A") ∷ named (codes "KID") ∷ [])) cond.Normal
    (new 3 (codes "KID") ∷ puts 1 (codes "A") 3 ∷ []) ∷
    runs 1 (call service.Exit (value 1 ∷ [])) cond.Normal [] ∷
    is_gone 1 (gone 1 ∷ []) ∷
    runs 2 (call service.Exit (value 1 ∷ [])) cond.Normal [] ∷
    is_gone 2 (gone 2 ∷ []) ∷
    runs 3 (call service.Exit (value 1 ∷ [])) cond.Normal [] ∷
    is_gone 3 (gone 3 ∷ []) ∷
    []

pub no_privilege : chosen script 0 10000 ≡ records
no_privilege = refl

pub no_privilege-end : end_after script records 10000 ≡ Some end.Done
no_privilege-end = refl

-- the exit codes
pub no_privilege-codes : exit_codes script records ≡ 1 ∷ 1 ∷ 1 ∷ []
no_privilege-codes = refl
