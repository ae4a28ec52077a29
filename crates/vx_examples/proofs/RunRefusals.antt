-- Refusals, as seed 2 picks.
use Rattle.std.specs.Prelude.{◌≡◌, refl, List, [], ◌∷◌, true, codes, Some}
use Rattle.vx_base.specs.declared.call.Operand.TheVariants as operand
use Rattle.vx_base.specs.declared.cond.Cond.TheVariants as cond
use Rattle.vx_base.specs.declared.effects.Opened.TheVariants as opened
use Rattle.vx_base.specs.declared.mode.Mode.TheVariants as mode
use Rattle.vx_base.specs.declared.record.End.TheVariants as end
use Rattle.vx_record.specs.Types.{Image, Rec, System}
use Rattle.vx_base.specs.declared.service.Service.TheVariants as service
use Rattle.vx_examples.specs.Along.{exit_codes}
use Rattle.vx_examples.specs.Script.{value, valued, variable, routine, in_mode, call, calls, usual_limits, declared, runs, returns, starts, is_gone, opens, que, leaves, flag, gone, in_r0, puts_r0}
use Rattle.vx_image.specs.declared.stmt.Stmt.TheVariants as stmt
use Rattle.vx_record.specs.Runs.{chosen, end_after}

abbrev image_a : Image
image_a = record {
  name = codes "A";
  labels = record { name = codes "X"; place = 11 } ∷ [];
  stmts =
      calls service.SetEf (value 128 ∷ []) ∷
      calls service.ClrEf (value 64 ∷ []) ∷
      calls service.ReadEf (value 4294967295 ∷ variable (codes "A") ∷ []) ∷
      calls service.CmKrnl (routine (codes "X") ∷ value 0 ∷ []) ∷
      calls service.CmExec (routine (codes "X") ∷ value 0 ∷ []) ∷
      calls service.DclAst (routine (codes "X") ∷ value 0 ∷ in_mode mode.Kernel ∷ []) ∷
      calls service.DclAst (routine (codes "X") ∷ value 0 ∷ in_mode mode.Kernel ∷ []) ∷
      calls service.DclAst (routine (codes "X") ∷ value 0 ∷ in_mode mode.Kernel ∷ []) ∷
      calls service.SetEf (value 63 ∷ []) ∷
      calls service.ReadEf (value 63 ∷ in_r0 ∷ []) ∷
      calls service.Exit (valued operand.R0 ∷ []) ∷
      stmt.Return ∷
      [];
}

abbrev pub script : System
script = record {
  units = [];
  images = image_a ∷ [];
  decls =
      record (declared (codes "P") 0) { limits = record usual_limits { ast = 1 } } ∷
      record (declared (codes "Q") 0) { limits = record usual_limits { ast = 0 } } ∷
      [];
}

-- its records
abbrev pub records : List Rec
records =
    runs 1 (call service.SetEf (value 128 ∷ [])) cond.IllEfc [] ∷
    runs 1 (call service.ClrEf (value 64 ∷ [])) cond.UnasEfc [] ∷
    runs 1 (call service.ReadEf (value 4294967295 ∷ variable (codes "A") ∷ [])) cond.IllEfc [] ∷
    runs 1 (call service.CmKrnl (routine (codes "X") ∷ value 0 ∷ [])) cond.NoPriv [] ∷
    runs 2 (call service.SetEf (value 128 ∷ [])) cond.IllEfc [] ∷
    runs 2 (call service.ClrEf (value 64 ∷ [])) cond.UnasEfc [] ∷
    runs 1 (call service.CmExec (routine (codes "X") ∷ value 0 ∷ [])) cond.NoPriv [] ∷
    runs 1 (call service.DclAst (routine (codes "X") ∷ value 0 ∷ in_mode mode.Kernel ∷ [])) cond.Normal
    (opens 1 opened.Ast 1 (Some mode.User) 0 ∷ que 1 ∷ []) ∷
    runs 2 (call service.ReadEf (value 4294967295 ∷ variable (codes "A") ∷ [])) cond.IllEfc [] ∷
    starts 1 1 [] ∷
    runs 2 (call service.CmKrnl (routine (codes "X") ∷ value 0 ∷ [])) cond.NoPriv [] ∷
    returns 1 (leaves 1 ∷ []) ∷
    runs 1 (call service.DclAst (routine (codes "X") ∷ value 0 ∷ in_mode mode.Kernel ∷ [])) cond.Normal
    (opens 2 opened.Ast 1 (Some mode.User) 0 ∷ que 2 ∷ []) ∷
    starts 1 2 [] ∷
    returns 1 (leaves 2 ∷ []) ∷
    runs 1 (call service.DclAst (routine (codes "X") ∷ value 0 ∷ in_mode mode.Kernel ∷ [])) cond.Normal
    (opens 3 opened.Ast 1 (Some mode.User) 0 ∷ que 3 ∷ []) ∷
    starts 1 3 [] ∷
    runs 2 (call service.CmExec (routine (codes "X") ∷ value 0 ∷ [])) cond.NoPriv [] ∷
    returns 1 (leaves 3 ∷ []) ∷
    runs 2 (call service.DclAst (routine (codes "X") ∷ value 0 ∷ in_mode mode.Kernel ∷ [])) cond.ExQuota [] ∷
    runs 1 (call service.SetEf (value 63 ∷ [])) cond.WasClr (flag 1 63 true ∷ []) ∷
    runs 1 (call service.ReadEf (value 63 ∷ in_r0 ∷ [])) cond.WasSet (puts_r0 1 2147483648 ∷ []) ∷
    runs 1 (call service.Exit (value 9 ∷ [])) cond.Normal [] ∷
    is_gone 1 (gone 1 ∷ []) ∷
    runs 2 (call service.DclAst (routine (codes "X") ∷ value 0 ∷ in_mode mode.Kernel ∷ [])) cond.ExQuota [] ∷
    runs 2 (call service.DclAst (routine (codes "X") ∷ value 0 ∷ in_mode mode.Kernel ∷ [])) cond.ExQuota [] ∷
    runs 2 (call service.SetEf (value 63 ∷ [])) cond.WasClr (flag 2 63 true ∷ []) ∷
    runs 2 (call service.ReadEf (value 63 ∷ in_r0 ∷ [])) cond.WasSet (puts_r0 2 2147483648 ∷ []) ∷
    runs 2 (call service.Exit (value 9 ∷ [])) cond.Normal [] ∷
    is_gone 2 (gone 2 ∷ []) ∷
    []

pub refusals : chosen script 2 100 ≡ records
refusals = refl

pub refusals-end : end_after script records 100 ≡ Some end.Done
refusals-end = refl

-- the exit codes
pub refusals-codes : exit_codes script records ≡ 9 ∷ 9 ∷ []
refusals-codes = refl
