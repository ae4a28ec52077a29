-- ASTs of three modes in four processes, as seed 7 picks.
use Rattle.std.specs.Prelude.{◌≡◌, refl, List, [], ◌∷◌, true, false, codes, Some}
use Rattle.vx_base.specs.declared.call.Operand.TheVariants as operand
use Rattle.vx_base.specs.declared.call.Target.TheVariants as target
use Rattle.vx_base.specs.declared.cond.Cond.TheVariants as cond
use Rattle.vx_base.specs.declared.effects.Opened.TheVariants as opened
use Rattle.vx_base.specs.declared.mode.Mode.TheVariants as mode
use Rattle.vx_base.specs.declared.record.End.TheVariants as end
use Rattle.vx_record.specs.Types.{Image, Rec, System}
use Rattle.vx_base.specs.declared.service.Service.TheVariants as service
use Rattle.vx_examples.specs.Along.{exit_codes}
use Rattle.vx_examples.specs.Script.{letter, value, variable, routine, in_mode, call, calls, no_privs, usual_limits, declared, runs, returns, starts, is_gone, opens, que, drops, leaves, flag, puts, enb, gone, held_in}
use Rattle.vx_image.specs.declared.stmt.Stmt.TheVariants as stmt
use Rattle.vx_record.specs.Runs.{chosen, end_after}

abbrev image_a : Image
image_a = record {
  name = codes "A";
  labels =
      record { name = codes "X"; place = 8 } ∷
      record { name = codes "K"; place = 15 } ∷
      record { name = codes "U"; place = 19 } ∷
      record { name = codes "E"; place = 21 } ∷
      record { name = codes "V"; place = 24 } ∷
      [];
  stmts =
      calls service.SetAst (value 0 ∷ []) ∷
      calls service.DclAst (routine (codes "U") ∷ value 1 ∷ in_mode mode.Kernel ∷ []) ∷
      calls service.CmExec (routine (codes "X") ∷ value 2 ∷ []) ∷
      calls service.DclAst (routine (codes "U") ∷ value 3 ∷ in_mode mode.Kernel ∷ []) ∷
      calls service.SetAst (value 1 ∷ []) ∷
      calls service.SetEf (value 9 ∷ []) ∷
      calls service.ReadEf (value 9 ∷ variable (codes "Z") ∷ []) ∷
      calls service.Exit (held_in (codes "A") ∷ []) ∷
      calls service.DclAst (routine (codes "E") ∷ value 4 ∷ in_mode mode.Kernel ∷ []) ∷
      calls service.DclAst (routine (codes "U") ∷ value 5 ∷ in_mode mode.User ∷ []) ∷
      calls service.SetAst (value 0 ∷ []) ∷
      calls service.DclAst (routine (codes "E") ∷ value 6 ∷ in_mode mode.Kernel ∷ []) ∷
      calls service.CmKrnl (routine (codes "K") ∷ value 7 ∷ []) ∷
      calls service.SetAst (value 1 ∷ []) ∷
      stmt.Return ∷
      calls service.DclAst (routine (codes "V") ∷ value 8 ∷ in_mode mode.Kernel ∷ []) ∷
      calls service.DclAst (routine (codes "E") ∷ value 9 ∷ in_mode mode.Exec ∷ []) ∷
      stmt.Let (target.Var (letter (codes "K"))) operand.Prm ∷
      stmt.Return ∷
      stmt.Add (target.Var (letter (codes "A"))) (operand.Var (letter (codes "A"))) operand.Prm ∷
      stmt.Return ∷
      stmt.Add (target.Var (letter (codes "E"))) (operand.Var (letter (codes "E"))) operand.Prm ∷
      calls service.SetEf (value 3 ∷ []) ∷
      stmt.Return ∷
      stmt.Let (target.Var (letter (codes "V"))) operand.R0 ∷
      [];
}

abbrev pub script : System
script = record {
  units = [];
  images = image_a ∷ [];
  decls =
      record (declared (codes "P") 0) {
        limits = record usual_limits { ast = 6 };
        privs = record no_privs
            { cmexec = true; cmkrnl = true };
      } ∷
      record (declared (codes "Q") 0) {
        limits = record usual_limits { ast = 3 };
        privs = record no_privs
            { cmexec = true };
      } ∷
      declared (codes "R") 0 ∷
      record (declared (codes "S") 0) { mode = mode.Exec } ∷
      [];
}

-- its records
abbrev pub records : List Rec
records =
    runs 3 (call service.SetAst (value 0 ∷ [])) cond.WasSet (enb 3 mode.User false ∷ []) ∷
    runs 4 (call service.SetAst (value 0 ∷ [])) cond.WasSet (enb 4 mode.Exec false ∷ []) ∷
    runs 2 (call service.SetAst (value 0 ∷ [])) cond.WasSet (enb 2 mode.User false ∷ []) ∷
    runs 2 (call service.DclAst (routine (codes "U") ∷ value 1 ∷ in_mode mode.Kernel ∷ [])) cond.Normal
    (opens 1 opened.Ast 2 (Some mode.User) 0 ∷ que 1 ∷ []) ∷
    runs 2 (call service.CmExec (routine (codes "X") ∷ value 2 ∷ [])) cond.Normal [] ∷
    runs 4 (call service.DclAst (routine (codes "U") ∷ value 1 ∷ in_mode mode.Kernel ∷ [])) cond.Normal
    (opens 2 opened.Ast 4 (Some mode.Exec) 0 ∷ que 2 ∷ []) ∷
    runs 1 (call service.SetAst (value 0 ∷ [])) cond.WasSet (enb 1 mode.User false ∷ []) ∷
    runs 1 (call service.DclAst (routine (codes "U") ∷ value 1 ∷ in_mode mode.Kernel ∷ [])) cond.Normal
    (opens 3 opened.Ast 1 (Some mode.User) 0 ∷ que 3 ∷ []) ∷
    runs 4 (call service.CmExec (routine (codes "X") ∷ value 2 ∷ [])) cond.Normal [] ∷
    runs 3 (call service.DclAst (routine (codes "U") ∷ value 1 ∷ in_mode mode.Kernel ∷ [])) cond.Normal
    (opens 4 opened.Ast 3 (Some mode.User) 0 ∷ que 4 ∷ []) ∷
    runs 4 (call service.DclAst (routine (codes "E") ∷ value 4 ∷ in_mode mode.Kernel ∷ [])) cond.Normal
    (opens 5 opened.Ast 4 (Some mode.Exec) 0 ∷ que 5 ∷ []) ∷
    runs 4 (call service.DclAst (routine (codes "U") ∷ value 5 ∷ in_mode mode.User ∷ [])) cond.Normal
    (opens 6 opened.Ast 4 (Some mode.User) 0 ∷ que 6 ∷ []) ∷
    runs 1 (call service.CmExec (routine (codes "X") ∷ value 2 ∷ [])) cond.Normal [] ∷
    runs 1 (call service.DclAst (routine (codes "E") ∷ value 4 ∷ in_mode mode.Kernel ∷ [])) cond.Normal
    (opens 7 opened.Ast 1 (Some mode.Exec) 0 ∷ que 7 ∷ []) ∷
    runs 2 (call service.DclAst (routine (codes "E") ∷ value 4 ∷ in_mode mode.Kernel ∷ [])) cond.Normal
    (opens 8 opened.Ast 2 (Some mode.Exec) 0 ∷ que 8 ∷ []) ∷
    runs 3 (call service.CmExec (routine (codes "X") ∷ value 2 ∷ [])) cond.NoPriv [] ∷
    starts 2 8 [] ∷
    runs 4 (call service.SetAst (value 0 ∷ [])) cond.WasClr (enb 4 mode.Exec false ∷ []) ∷
    starts 1 7 [] ∷
    runs 4 (call service.DclAst (routine (codes "E") ∷ value 6 ∷ in_mode mode.Kernel ∷ [])) cond.Normal
    (opens 9 opened.Ast 4 (Some mode.Exec) 0 ∷ que 9 ∷ []) ∷
    runs 1 (call service.SetEf (value 3 ∷ [])) cond.WasClr (flag 1 3 true ∷ []) ∷
    runs 2 (call service.SetEf (value 3 ∷ [])) cond.WasClr (flag 2 3 true ∷ []) ∷
    runs 3 (call service.DclAst (routine (codes "U") ∷ value 3 ∷ in_mode mode.Kernel ∷ [])) cond.Normal
    (opens 10 opened.Ast 3 (Some mode.User) 0 ∷ que 10 ∷ []) ∷
    runs 3 (call service.SetAst (value 1 ∷ [])) cond.WasClr (enb 3 mode.User true ∷ []) ∷
    returns 2 (leaves 8 ∷ []) ∷
    returns 1 (leaves 7 ∷ []) ∷
    runs 1 (call service.DclAst (routine (codes "U") ∷ value 5 ∷ in_mode mode.User ∷ [])) cond.Normal
    (opens 11 opened.Ast 1 (Some mode.User) 0 ∷ que 11 ∷ []) ∷
    runs 2 (call service.DclAst (routine (codes "U") ∷ value 5 ∷ in_mode mode.User ∷ [])) cond.Normal
    (opens 12 opened.Ast 2 (Some mode.User) 0 ∷ que 12 ∷ []) ∷
    runs 2 (call service.SetAst (value 0 ∷ [])) cond.WasSet (enb 2 mode.Exec false ∷ []) ∷
    runs 1 (call service.SetAst (value 0 ∷ [])) cond.WasSet (enb 1 mode.Exec false ∷ []) ∷
    runs 1 (call service.DclAst (routine (codes "E") ∷ value 6 ∷ in_mode mode.Kernel ∷ [])) cond.Normal
    (opens 13 opened.Ast 1 (Some mode.Exec) 0 ∷ que 13 ∷ []) ∷
    runs 2 (call service.DclAst (routine (codes "E") ∷ value 6 ∷ in_mode mode.Kernel ∷ [])) cond.Normal
    (opens 14 opened.Ast 2 (Some mode.Exec) 0 ∷ que 14 ∷ []) ∷
    starts 3 4 [] ∷
    runs 4 (call service.CmKrnl (routine (codes "K") ∷ value 7 ∷ [])) cond.Normal [] ∷
    runs 2 (call service.CmKrnl (routine (codes "K") ∷ value 7 ∷ [])) cond.Normal [] ∷
    runs 4 (call service.DclAst (routine (codes "V") ∷ value 8 ∷ in_mode mode.Kernel ∷ [])) cond.Normal
    (opens 15 opened.Ast 4 (Some mode.Kernel) 0 ∷ que 15 ∷ []) ∷
    runs 2 (call service.DclAst (routine (codes "V") ∷ value 8 ∷ in_mode mode.Kernel ∷ [])) cond.ExQuota [] ∷
    starts 4 15 [] ∷
    runs 1 (call service.CmKrnl (routine (codes "K") ∷ value 7 ∷ [])) cond.Normal [] ∷
    runs 1 (call service.DclAst (routine (codes "V") ∷ value 8 ∷ in_mode mode.Kernel ∷ [])) cond.Normal
    (opens 16 opened.Ast 1 (Some mode.Kernel) 0 ∷ que 16 ∷ []) ∷
    runs 2 (call service.DclAst (routine (codes "E") ∷ value 9 ∷ in_mode mode.Exec ∷ [])) cond.ExQuota [] ∷
    returns 4 (leaves 15 ∷ []) ∷
    starts 1 16 [] ∷
    returns 3 (leaves 4 ∷ []) ∷
    returns 1 (leaves 16 ∷ []) ∷
    runs 1 (call service.DclAst (routine (codes "E") ∷ value 9 ∷ in_mode mode.Exec ∷ [])) cond.Normal
    (opens 17 opened.Ast 1 (Some mode.Exec) 0 ∷ que 17 ∷ []) ∷
    returns 1 [] ∷
    runs 1 (call service.SetAst (value 1 ∷ [])) cond.WasClr (enb 1 mode.Exec true ∷ []) ∷
    starts 3 10 [] ∷
    returns 3 (leaves 10 ∷ []) ∷
    starts 1 13 [] ∷
    runs 3 (call service.SetEf (value 9 ∷ [])) cond.WasClr (flag 3 9 true ∷ []) ∷
    returns 2 [] ∷
    runs 1 (call service.SetEf (value 3 ∷ [])) cond.WasSet (flag 1 3 true ∷ []) ∷
    runs 3 (call service.ReadEf (value 9 ∷ variable (codes "Z") ∷ [])) cond.WasSet (puts 3 (codes "Z") 512 ∷ []) ∷
    runs 4 (call service.DclAst (routine (codes "E") ∷ value 9 ∷ in_mode mode.Exec ∷ [])) cond.Normal
    (opens 18 opened.Ast 4 (Some mode.Exec) 0 ∷ que 18 ∷ []) ∷
    returns 1 (leaves 13 ∷ []) ∷
    starts 1 17 [] ∷
    runs 3 (call service.Exit (value 4 ∷ [])) cond.Normal [] ∷
    returns 4 [] ∷
    runs 4 (call service.SetAst (value 1 ∷ [])) cond.WasClr (enb 4 mode.Exec true ∷ []) ∷
    runs 2 (call service.SetAst (value 1 ∷ [])) cond.WasClr (enb 2 mode.Exec true ∷ []) ∷
    starts 4 2 [] ∷
    runs 1 (call service.SetEf (value 3 ∷ [])) cond.WasSet (flag 1 3 true ∷ []) ∷
    returns 4 (leaves 2 ∷ []) ∷
    starts 2 14 [] ∷
    returns 1 (leaves 17 ∷ []) ∷
    starts 4 5 [] ∷
    returns 1 [] ∷
    is_gone 3 (gone 3 ∷ []) ∷
    runs 1 (call service.DclAst (routine (codes "U") ∷ value 3 ∷ in_mode mode.Kernel ∷ [])) cond.Normal
    (opens 19 opened.Ast 1 (Some mode.User) 0 ∷ que 19 ∷ []) ∷
    runs 4 (call service.SetEf (value 3 ∷ [])) cond.WasClr (flag 4 3 true ∷ []) ∷
    returns 4 (leaves 5 ∷ []) ∷
    runs 2 (call service.SetEf (value 3 ∷ [])) cond.WasSet (flag 2 3 true ∷ []) ∷
    returns 2 (leaves 14 ∷ []) ∷
    runs 1 (call service.SetAst (value 1 ∷ [])) cond.WasClr (enb 1 mode.User true ∷ []) ∷
    starts 1 3 [] ∷
    returns 2 [] ∷
    starts 4 9 [] ∷
    returns 1 (leaves 3 ∷ []) ∷
    starts 1 11 [] ∷
    runs 4 (call service.SetEf (value 3 ∷ [])) cond.WasSet (flag 4 3 true ∷ []) ∷
    returns 4 (leaves 9 ∷ []) ∷
    returns 1 (leaves 11 ∷ []) ∷
    runs 2 (call service.DclAst (routine (codes "U") ∷ value 3 ∷ in_mode mode.Kernel ∷ [])) cond.Normal
    (opens 20 opened.Ast 2 (Some mode.User) 0 ∷ que 20 ∷ []) ∷
    starts 4 18 [] ∷
    runs 4 (call service.SetEf (value 3 ∷ [])) cond.WasSet (flag 4 3 true ∷ []) ∷
    runs 2 (call service.SetAst (value 1 ∷ [])) cond.WasClr (enb 2 mode.User true ∷ []) ∷
    returns 4 (leaves 18 ∷ []) ∷
    starts 2 1 [] ∷
    starts 1 19 [] ∷
    returns 1 (leaves 19 ∷ []) ∷
    returns 2 (leaves 1 ∷ []) ∷
    starts 2 12 [] ∷
    returns 2 (leaves 12 ∷ []) ∷
    starts 2 20 [] ∷
    returns 4 [] ∷
    runs 1 (call service.SetEf (value 9 ∷ [])) cond.WasClr (flag 1 9 true ∷ []) ∷
    runs 1 (call service.ReadEf (value 9 ∷ variable (codes "Z") ∷ [])) cond.WasSet (puts 1 (codes "Z") 520 ∷ []) ∷
    runs 4 (call service.DclAst (routine (codes "U") ∷ value 3 ∷ in_mode mode.Kernel ∷ [])) cond.Normal
    (opens 21 opened.Ast 4 (Some mode.Exec) 0 ∷ que 21 ∷ []) ∷
    starts 4 21 [] ∷
    returns 4 (leaves 21 ∷ []) ∷
    runs 1 (call service.Exit (value 9 ∷ [])) cond.Normal [] ∷
    runs 4 (call service.SetAst (value 1 ∷ [])) cond.WasSet (enb 4 mode.Exec true ∷ []) ∷
    returns 2 (leaves 20 ∷ []) ∷
    runs 2 (call service.SetEf (value 9 ∷ [])) cond.WasClr (flag 2 9 true ∷ []) ∷
    is_gone 1 (gone 1 ∷ []) ∷
    runs 2 (call service.ReadEf (value 9 ∷ variable (codes "Z") ∷ [])) cond.WasSet (puts 2 (codes "Z") 520 ∷ []) ∷
    runs 2 (call service.Exit (value 9 ∷ [])) cond.Normal [] ∷
    runs 4 (call service.SetEf (value 9 ∷ [])) cond.WasClr (flag 4 9 true ∷ []) ∷
    runs 4 (call service.ReadEf (value 9 ∷ variable (codes "Z") ∷ [])) cond.WasSet (puts 4 (codes "Z") 520 ∷ []) ∷
    runs 4 (call service.Exit (value 4 ∷ [])) cond.Normal [] ∷
    is_gone 2 (gone 2 ∷ []) ∷
    is_gone 4 (drops 6 ∷ gone 4 ∷ []) ∷
    []

pub four_processes : chosen script 7 200 ≡ records
four_processes = refl

pub four_processes-end : end_after script records 200 ≡ Some end.Done
four_processes-end = refl

-- the exit codes
pub four_processes-codes : exit_codes script records ≡ 9 ∷ 9 ∷ 4 ∷ 4 ∷ []
four_processes-codes = refl
