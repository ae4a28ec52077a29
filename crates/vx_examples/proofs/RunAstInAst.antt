-- ASTs within ASTs, of two processes, as seed 3 picks.
use Rattle.std.specs.Prelude.{◌≡◌, refl, List, [], ◌∷◌, true, false, codes, Some}
use Rattle.vx_base.specs.declared.call.Operand.TheVariants as operand
use Rattle.vx_base.specs.declared.call.Target.TheVariants as target
use Rattle.vx_base.specs.declared.cond.Cond.TheVariants as cond
use Rattle.vx_base.specs.declared.effects.Opened.TheVariants as opened
use Rattle.vx_base.specs.declared.mode.Mode.TheVariants as mode
use Rattle.vx_base.specs.declared.record.End.TheVariants as end
use Rattle.vx_record.specs.Types.{Image, Rec, System}
use Rattle.vx_base.specs.declared.service.Service.TheVariants as service
use Rattle.vx_examples.specs.Along.{exit_codes}
use Rattle.vx_examples.specs.Script.{letter, value, variable, routine, in_mode, call, calls, declared, runs, returns, starts, is_gone, opens, que, leaves, puts, enb, gone, held_in}
use Rattle.vx_image.specs.declared.stmt.Stmt.TheVariants as stmt
use Rattle.vx_record.specs.Runs.{chosen, end_after}

abbrev image_a : Image
image_a = record {
  name = codes "A";
  labels = record { name = codes "T"; place = 4 } ∷ record { name = codes "W"; place = 10 } ∷ [];
  stmts =
      calls service.DclAst (routine (codes "T") ∷ value 1 ∷ in_mode mode.Kernel ∷ []) ∷
      calls service.DclAst (routine (codes "T") ∷ value 2 ∷ in_mode mode.Kernel ∷ []) ∷
      stmt.Let (target.Var (letter (codes "A"))) (operand.Num 1) ∷
      calls service.Exit (held_in (codes "A") ∷ []) ∷
      stmt.Let (target.Var (letter (codes "B"))) operand.Prm ∷
      calls service.DclAst (routine (codes "W") ∷ held_in (codes "B") ∷ in_mode mode.Kernel ∷ []) ∷
      calls service.SetAst (value 0 ∷ []) ∷
      calls service.SetAst (value 1 ∷ []) ∷
      stmt.Let target.R0 (operand.Num 77) ∷
      stmt.Return ∷
      calls service.ReadEf (value 40 ∷ variable (codes "D") ∷ []) ∷
      stmt.Return ∷
      [];
}

abbrev image_b : Image
image_b = record {
  name = codes "B";
  labels = record { name = codes "T"; place = 3 } ∷ record { name = codes "E"; place = 4 } ∷ [];
  stmts =
      calls service.DclAst (routine (codes "T") ∷ value 5 ∷ in_mode mode.Kernel ∷ []) ∷
      calls service.SetEf (value 0 ∷ []) ∷
      stmt.Goto 1 ∷
      calls service.Exit (value 44 ∷ []) ∷
      [];
}

abbrev pub script : System
script = record {
  units = [];
  images = image_a ∷ image_b ∷ [];
  decls =
      declared (codes "P") 0 ∷
      declared (codes "Q") 1 ∷
      record (declared (codes "R") 1) { mode = mode.Super } ∷
      [];
}

-- its records
abbrev pub records : List Rec
records =
    runs 3 (call service.DclAst (routine (codes "T") ∷ value 5 ∷ in_mode mode.Kernel ∷ [])) cond.Normal
    (opens 1 opened.Ast 3 (Some mode.Super) 0 ∷ que 1 ∷ []) ∷
    runs 2 (call service.DclAst (routine (codes "T") ∷ value 5 ∷ in_mode mode.Kernel ∷ [])) cond.Normal
    (opens 2 opened.Ast 2 (Some mode.User) 0 ∷ que 2 ∷ []) ∷
    starts 3 1 [] ∷
    starts 2 2 [] ∷
    runs 1 (call service.DclAst (routine (codes "T") ∷ value 1 ∷ in_mode mode.Kernel ∷ [])) cond.Normal
    (opens 3 opened.Ast 1 (Some mode.User) 0 ∷ que 3 ∷ []) ∷
    runs 3 (call service.Exit (value 44 ∷ [])) cond.Normal (leaves 1 ∷ []) ∷
    runs 2 (call service.Exit (value 44 ∷ [])) cond.Normal (leaves 2 ∷ []) ∷
    is_gone 3 (gone 3 ∷ []) ∷
    is_gone 2 (gone 2 ∷ []) ∷
    starts 1 3 [] ∷
    runs 1 (call service.DclAst (routine (codes "W") ∷ value 1 ∷ in_mode mode.Kernel ∷ [])) cond.Normal
    (opens 4 opened.Ast 1 (Some mode.User) 0 ∷ que 4 ∷ []) ∷
    runs 1 (call service.SetAst (value 0 ∷ [])) cond.WasSet (enb 1 mode.User false ∷ []) ∷
    runs 1 (call service.SetAst (value 1 ∷ [])) cond.WasClr (enb 1 mode.User true ∷ []) ∷
    returns 1 (leaves 3 ∷ []) ∷
    starts 1 4 [] ∷
    runs 1 (call service.ReadEf (value 40 ∷ variable (codes "D") ∷ [])) cond.WasClr (puts 1 (codes "D") 0 ∷ []) ∷
    returns 1 (leaves 4 ∷ []) ∷
    runs 1 (call service.DclAst (routine (codes "T") ∷ value 2 ∷ in_mode mode.Kernel ∷ [])) cond.Normal
    (opens 5 opened.Ast 1 (Some mode.User) 0 ∷ que 5 ∷ []) ∷
    starts 1 5 [] ∷
    runs 1 (call service.DclAst (routine (codes "W") ∷ value 2 ∷ in_mode mode.Kernel ∷ [])) cond.Normal
    (opens 6 opened.Ast 1 (Some mode.User) 0 ∷ que 6 ∷ []) ∷
    runs 1 (call service.SetAst (value 0 ∷ [])) cond.WasSet (enb 1 mode.User false ∷ []) ∷
    runs 1 (call service.SetAst (value 1 ∷ [])) cond.WasClr (enb 1 mode.User true ∷ []) ∷
    returns 1 (leaves 5 ∷ []) ∷
    starts 1 6 [] ∷
    runs 1 (call service.ReadEf (value 40 ∷ variable (codes "D") ∷ [])) cond.WasClr (puts 1 (codes "D") 0 ∷ []) ∷
    returns 1 (leaves 6 ∷ []) ∷
    runs 1 (call service.Exit (value 1 ∷ [])) cond.Normal [] ∷
    is_gone 1 (gone 1 ∷ []) ∷
    []

pub ast_in_ast : chosen script 3 100 ≡ records
ast_in_ast = refl

pub ast_in_ast-end : end_after script records 100 ≡ Some end.Done
ast_in_ast-end = refl

-- the exit codes
pub ast_in_ast-codes : exit_codes script records ≡ 1 ∷ 44 ∷ 44 ∷ []
ast_in_ast-codes = refl
