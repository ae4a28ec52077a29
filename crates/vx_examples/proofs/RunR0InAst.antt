-- R0 is saved while an AST runs.
use Rattle.std.specs.Prelude.{◌≡◌, refl, List, [], ◌∷◌, true, codes, Some}
use Rattle.vx_base.specs.declared.call.Operand.TheVariants as operand
use Rattle.vx_base.specs.declared.call.Target.TheVariants as target
use Rattle.vx_base.specs.declared.cond.Cond.TheVariants as cond
use Rattle.vx_base.specs.declared.effects.Opened.TheVariants as opened
use Rattle.vx_base.specs.declared.mode.Mode.TheVariants as mode
use Rattle.vx_base.specs.declared.record.End.TheVariants as end
use Rattle.vx_record.specs.Types.{Image, Rec, System}
use Rattle.vx_base.specs.declared.service.Service.TheVariants as service
use Rattle.vx_examples.specs.Along.{exit_codes}
use Rattle.vx_examples.specs.Script.{value, valued, routine, in_mode, call, calls, declared, runs, returns, starts, handles, is_gone, opens, que, enters, leaves, flag, gone}
use Rattle.vx_image.specs.declared.stmt.Stmt.TheVariants as stmt
use Rattle.vx_record.specs.Runs.{chosen, end_after}

abbrev image_main : Image
image_main = record {
  name = codes "MAIN";
  labels = record { name = codes "T"; place = 3 } ∷ record { name = codes "H"; place = 5 } ∷ [];
  stmts =
      calls service.DclExh (routine (codes "H") ∷ []) ∷
      calls service.DclAst (routine (codes "T") ∷ value 0 ∷ in_mode mode.Kernel ∷ []) ∷
      calls service.Exit (value 3 ∷ []) ∷
      stmt.Let target.R0 (operand.Num 8) ∷
      calls service.Exit (valued operand.R0 ∷ []) ∷
      calls service.SetEf (valued operand.R0 ∷ []) ∷
      stmt.Return ∷
      [];
}

abbrev pub script : System
script = record {
  units = [];
  images = image_main ∷ [];
  decls = declared (codes "P") 0 ∷ [];
}

-- its records
abbrev pub records : List Rec
records =
    runs 1 (call service.DclExh (routine (codes "H") ∷ [])) cond.Normal
    (opens 1 opened.Exh 1 (Some mode.User) 0 ∷ []) ∷
    runs 1 (call service.DclAst (routine (codes "T") ∷ value 0 ∷ in_mode mode.Kernel ∷ [])) cond.Normal
    (opens 2 opened.Ast 1 (Some mode.User) 0 ∷ que 2 ∷ []) ∷
    starts 1 2 [] ∷
    runs 1 (call service.Exit (value 8 ∷ [])) cond.Normal (leaves 2 ∷ []) ∷
    handles 1 (enters 1 ∷ []) ∷
    runs 1 (call service.SetEf (value 1 ∷ [])) cond.WasClr (flag 1 1 true ∷ []) ∷
    returns 1 [] ∷
    is_gone 1 (gone 1 ∷ []) ∷
    []

pub r0_in_ast : chosen script 0 10000 ≡ records
r0_in_ast = refl

pub r0_in_ast-end : end_after script records 10000 ≡ Some end.Done
r0_in_ast-end = refl

-- the exit codes
pub r0_in_ast-codes : exit_codes script records ≡ 8 ∷ []
r0_in_ast-codes = refl
