-- A timer with an AST and a scheduled wake want ASTLM; a timer without one does not.
use Rattle.std.specs.Prelude.{◌≡◌, refl, List, [], ◌∷◌, false, codes, Some, None}
use Rattle.vx_base.specs.declared.cond.Cond.TheVariants as cond
use Rattle.vx_base.specs.declared.effects.Opened.TheVariants as opened
use Rattle.vx_base.specs.declared.record.End.TheVariants as end
use Rattle.vx_record.specs.Types.{Image, Rec, System}
use Rattle.vx_base.specs.declared.service.Service.TheVariants as service
use Rattle.vx_examples.specs.Along.{exit_codes}
use Rattle.vx_examples.specs.Script.{value, routine, no_routine, call, calls, usual_limits, declared, runs, is_gone, opens, drops, flag, gone}
use Rattle.vx_image.specs.declared.stmt.Stmt.TheVariants as stmt
use Rattle.vx_record.specs.Runs.{chosen, end_after}

abbrev image_main : Image
image_main = record {
  name = codes "MAIN";
  labels = record { name = codes "T"; place = 4 } ∷ [];
  stmts =
      calls service.SetImr (value 1 ∷ value 5 ∷ no_routine ∷ value 0 ∷ []) ∷
      calls service.SetImr (value 1 ∷ value 5 ∷ routine (codes "T") ∷ value 0 ∷ []) ∷
      calls service.SchdWk (value 0 ∷ value 5 ∷ value 0 ∷ []) ∷
      calls service.Exit (value 1 ∷ []) ∷
      stmt.Return ∷
      [];
}

abbrev pub script : System
script = record {
  units = [];
  images = image_main ∷ [];
  decls = record (declared (codes "P") 0) { limits = record usual_limits { ast = 0 } } ∷ [];
}

-- its records
abbrev pub records : List Rec
records =
    runs 1 (call service.SetImr (value 1 ∷ value 5 ∷ no_routine ∷ value 0 ∷ [])) cond.Normal
    (flag 1 1 false ∷ opens 1 opened.Timer 1 None 0 ∷ []) ∷
    runs 1 (call service.SetImr (value 1 ∷ value 5 ∷ routine (codes "T") ∷ value 0 ∷ [])) cond.ExQuota [] ∷
    runs 1 (call service.SchdWk (value 0 ∷ value 5 ∷ value 0 ∷ [])) cond.ExQuota [] ∷
    runs 1 (call service.Exit (value 1 ∷ [])) cond.Normal [] ∷
    is_gone 1 (drops 1 ∷ gone 1 ∷ []) ∷
    []

pub timer_ast_quota : chosen script 0 10000 ≡ records
timer_ast_quota = refl

pub timer_ast_quota-end : end_after script records 10000 ≡ Some end.Done
timer_ast_quota-end = refl

-- the exit codes
pub timer_ast_quota-codes : exit_codes script records ≡ 1 ∷ []
timer_ast_quota-codes = refl
