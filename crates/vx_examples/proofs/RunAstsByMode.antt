-- An AST of an inner mode starts over one of an outer mode; one of the same mode waits for its end.
use Rattle.std.specs.Prelude.{◌≡◌, refl, List, [], ◌∷◌, true, codes, Some}
use Rattle.vx_base.specs.declared.cond.Cond.TheVariants as cond
use Rattle.vx_base.specs.declared.effects.Opened.TheVariants as opened
use Rattle.vx_base.specs.declared.mode.Mode.TheVariants as mode
use Rattle.vx_base.specs.declared.record.End.TheVariants as end
use Rattle.vx_record.specs.Types.{Image, Rec, System}
use Rattle.vx_base.specs.declared.service.Service.TheVariants as service
use Rattle.vx_examples.specs.Along.{exit_codes}
use Rattle.vx_examples.specs.Script.{value, routine, in_mode, call, calls, no_privs, declared, runs, returns, starts, is_gone, opens, que, leaves, gone}
use Rattle.vx_image.specs.declared.stmt.Stmt.TheVariants as stmt
use Rattle.vx_record.specs.Runs.{chosen, end_after}

abbrev image_main : Image
image_main = record {
  name = codes "MAIN";
  labels =
      record { name = codes "U1"; place = 2 } ∷
      record { name = codes "X"; place = 4 } ∷
      record { name = codes "U2"; place = 7 } ∷
      record { name = codes "E"; place = 8 } ∷
      [];
  stmts =
      calls service.DclAst (routine (codes "U1") ∷ value 0 ∷ in_mode mode.Kernel ∷ []) ∷
      calls service.Exit (value 1 ∷ []) ∷
      calls service.CmExec (routine (codes "X") ∷ value 0 ∷ []) ∷
      stmt.Return ∷
      calls service.DclAst (routine (codes "U2") ∷ value 0 ∷ in_mode mode.User ∷ []) ∷
      calls service.DclAst (routine (codes "E") ∷ value 0 ∷ in_mode mode.Kernel ∷ []) ∷
      stmt.Return ∷
      stmt.Return ∷
      stmt.Return ∷
      [];
}

abbrev pub script : System
script = record {
  units = [];
  images = image_main ∷ [];
  decls = record (declared (codes "P") 0) { privs = record no_privs { cmexec = true } } ∷ [];
}

-- its records
abbrev pub records : List Rec
records =
    runs 1 (call service.DclAst (routine (codes "U1") ∷ value 0 ∷ in_mode mode.Kernel ∷ [])) cond.Normal
    (opens 1 opened.Ast 1 (Some mode.User) 0 ∷ que 1 ∷ []) ∷
    starts 1 1 [] ∷
    runs 1 (call service.CmExec (routine (codes "X") ∷ value 0 ∷ [])) cond.Normal [] ∷
    runs 1 (call service.DclAst (routine (codes "U2") ∷ value 0 ∷ in_mode mode.User ∷ [])) cond.Normal
    (opens 2 opened.Ast 1 (Some mode.User) 0 ∷ que 2 ∷ []) ∷
    runs 1 (call service.DclAst (routine (codes "E") ∷ value 0 ∷ in_mode mode.Kernel ∷ [])) cond.Normal
    (opens 3 opened.Ast 1 (Some mode.Exec) 0 ∷ que 3 ∷ []) ∷
    starts 1 3 [] ∷
    returns 1 (leaves 3 ∷ []) ∷
    returns 1 [] ∷
    returns 1 (leaves 1 ∷ []) ∷
    starts 1 2 [] ∷
    returns 1 (leaves 2 ∷ []) ∷
    runs 1 (call service.Exit (value 1 ∷ [])) cond.Normal [] ∷
    is_gone 1 (gone 1 ∷ []) ∷
    []

pub asts_by_mode : chosen script 0 10000 ≡ records
asts_by_mode = refl

pub asts_by_mode-end : end_after script records 10000 ≡ Some end.Done
asts_by_mode-end = refl

-- the exit codes
pub asts_by_mode-codes : exit_codes script records ≡ 1 ∷ []
asts_by_mode-codes = refl
