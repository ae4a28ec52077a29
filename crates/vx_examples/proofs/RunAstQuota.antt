-- ASTLM counts an AST until it starts: a second is refused, and within the routine another is accepted.
use Rattle.std.specs.Prelude.{◌≡◌, refl, List, [], ◌∷◌, true, false, codes, Some}
use Rattle.vx_base.specs.declared.cond.Cond.TheVariants as cond
use Rattle.vx_base.specs.declared.effects.Opened.TheVariants as opened
use Rattle.vx_base.specs.declared.mode.Mode.TheVariants as mode
use Rattle.vx_base.specs.declared.record.End.TheVariants as end
use Rattle.vx_record.specs.Types.{Image, Rec, System}
use Rattle.vx_base.specs.declared.service.Service.TheVariants as service
use Rattle.vx_examples.specs.Along.{exit_codes}
use Rattle.vx_examples.specs.Script.{value, routine, in_mode, call, calls, usual_limits, declared, runs, returns, starts, is_gone, opens, que, leaves, enb, gone}
use Rattle.vx_image.specs.declared.stmt.Stmt.TheVariants as stmt
use Rattle.vx_record.specs.Runs.{chosen, end_after}

abbrev image_main : Image
image_main = record {
  name = codes "MAIN";
  labels = record { name = codes "T"; place = 5 } ∷ record { name = codes "V"; place = 7 } ∷ [];
  stmts =
      calls service.SetAst (value 0 ∷ []) ∷
      calls service.DclAst (routine (codes "T") ∷ value 0 ∷ in_mode mode.Kernel ∷ []) ∷
      calls service.DclAst (routine (codes "T") ∷ value 0 ∷ in_mode mode.Kernel ∷ []) ∷
      calls service.SetAst (value 1 ∷ []) ∷
      calls service.Exit (value 1 ∷ []) ∷
      calls service.DclAst (routine (codes "V") ∷ value 0 ∷ in_mode mode.Kernel ∷ []) ∷
      stmt.Return ∷
      stmt.Return ∷
      [];
}

abbrev pub script : System
script = record {
  units = [];
  images = image_main ∷ [];
  decls = record (declared (codes "P") 0) { limits = record usual_limits { ast = 1 } } ∷ [];
}

-- its records
abbrev pub records : List Rec
records =
    runs 1 (call service.SetAst (value 0 ∷ [])) cond.WasSet (enb 1 mode.User false ∷ []) ∷
    runs 1 (call service.DclAst (routine (codes "T") ∷ value 0 ∷ in_mode mode.Kernel ∷ [])) cond.Normal
    (opens 1 opened.Ast 1 (Some mode.User) 0 ∷ que 1 ∷ []) ∷
    runs 1 (call service.DclAst (routine (codes "T") ∷ value 0 ∷ in_mode mode.Kernel ∷ [])) cond.ExQuota [] ∷
    runs 1 (call service.SetAst (value 1 ∷ [])) cond.WasClr (enb 1 mode.User true ∷ []) ∷
    starts 1 1 [] ∷
    runs 1 (call service.DclAst (routine (codes "V") ∷ value 0 ∷ in_mode mode.Kernel ∷ [])) cond.Normal
    (opens 2 opened.Ast 1 (Some mode.User) 0 ∷ que 2 ∷ []) ∷
    returns 1 (leaves 1 ∷ []) ∷
    starts 1 2 [] ∷
    returns 1 (leaves 2 ∷ []) ∷
    runs 1 (call service.Exit (value 1 ∷ [])) cond.Normal [] ∷
    is_gone 1 (gone 1 ∷ []) ∷
    []

pub ast_quota : chosen script 0 10000 ≡ records
ast_quota = refl

pub ast_quota-end : end_after script records 10000 ≡ Some end.Done
ast_quota-end = refl

-- the exit codes
pub ast_quota-codes : exit_codes script records ≡ 1 ∷ []
ast_quota-codes = refl
