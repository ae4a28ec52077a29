-- ASTs that are declared while delivery is disabled start in turn once it is enabled.
use Rattle.std.specs.Prelude.{◌≡◌, refl, List, [], ◌∷◌, true, false, codes, Some}
use Rattle.vx_base.specs.declared.call.Operand.TheVariants as operand
use Rattle.vx_base.specs.declared.call.Target.TheVariants as target
use Rattle.vx_base.specs.declared.cond.Cond.TheVariants as cond
use Rattle.vx_base.specs.declared.effects.Opened.TheVariants as opened
use Rattle.vx_base.specs.declared.mode.Mode.TheVariants as mode
use Rattle.vx_base.specs.declared.record.End.TheVariants as end
use Rattle.vx_record.specs.Types.{Image, Rec, System}
use Rattle.vx_base.specs.declared.service.Service.TheVariants as service
use Rattle.vx_examples.specs.Along.{exit_codes}
use Rattle.vx_examples.specs.Script.{letter, value, routine, in_mode, call, calls, declared, runs, returns, starts, is_gone, opens, que, leaves, enb, gone, held_in}
use Rattle.vx_image.specs.declared.stmt.Stmt.TheVariants as stmt
use Rattle.vx_record.specs.Runs.{chosen, end_after}

abbrev image_main : Image
image_main = record {
  name = codes "MAIN";
  labels = record { name = codes "T"; place = 6 } ∷ [];
  stmts =
      calls service.SetAst (value 0 ∷ []) ∷
      calls service.DclAst (routine (codes "T") ∷ value 7 ∷ in_mode mode.Kernel ∷ []) ∷
      calls service.DclAst (routine (codes "T") ∷ value 8 ∷ in_mode mode.Kernel ∷ []) ∷
      calls service.SetAst (value 1 ∷ []) ∷
      stmt.Let (target.Var (letter (codes "B"))) (operand.Var (letter (codes "A"))) ∷
      calls service.Exit (held_in (codes "B") ∷ []) ∷
      stmt.Let (target.Var (letter (codes "A"))) operand.Prm ∷
      stmt.Return ∷
      [];
}

abbrev pub script : System
script = record {
  units = [];
  images = image_main ∷ [];
  decls = declared (codes "P") 0 ∷ [];
}

-- its records
abbrev pub records : List Rec
records =
    runs 1 (call service.SetAst (value 0 ∷ [])) cond.WasSet (enb 1 mode.User false ∷ []) ∷
    runs 1 (call service.DclAst (routine (codes "T") ∷ value 7 ∷ in_mode mode.Kernel ∷ [])) cond.Normal
    (opens 1 opened.Ast 1 (Some mode.User) 0 ∷ que 1 ∷ []) ∷
    runs 1 (call service.DclAst (routine (codes "T") ∷ value 8 ∷ in_mode mode.Kernel ∷ [])) cond.Normal
    (opens 2 opened.Ast 1 (Some mode.User) 0 ∷ que 2 ∷ []) ∷
    runs 1 (call service.SetAst (value 1 ∷ [])) cond.WasClr (enb 1 mode.User true ∷ []) ∷
    starts 1 1 [] ∷
    returns 1 (leaves 1 ∷ []) ∷
    starts 1 2 [] ∷
    returns 1 (leaves 2 ∷ []) ∷
    runs 1 (call service.Exit (value 8 ∷ [])) cond.Normal [] ∷
    is_gone 1 (gone 1 ∷ []) ∷
    []

pub asts_in_turn : chosen script 0 10000 ≡ records
asts_in_turn = refl

pub asts_in_turn-end : end_after script records 10000 ≡ Some end.Done
asts_in_turn-end = refl

-- the exit codes
pub asts_in_turn-codes : exit_codes script records ≡ 8 ∷ []
asts_in_turn-codes = refl
