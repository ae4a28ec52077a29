-- Two processes at seed 1: the first pick is the first of two.
use Rattle.std.specs.Prelude.{◌≡◌, refl, List, [], ◌∷◌, true, false, codes, Some}
use Rattle.vx_base.specs.declared.call.Operand.TheVariants as operand
use Rattle.vx_base.specs.declared.call.Target.TheVariants as target
use Rattle.vx_base.specs.declared.cond.Cond.TheVariants as cond
use Rattle.vx_base.specs.declared.record.End.TheVariants as end
use Rattle.vx_record.specs.Types.{Image, Rec, System}
use Rattle.vx_base.specs.declared.service.Service.TheVariants as service
use Rattle.vx_examples.specs.Along.{exit_codes}
use Rattle.vx_examples.specs.Script.{letter, value, variable, call, calls, declared, runs, ends, is_gone, flag, puts, gone, in_r0, puts_r0, held_in}
use Rattle.vx_image.specs.declared.stmt.Stmt.TheVariants as stmt
use Rattle.vx_record.specs.Runs.{chosen, end_after}

abbrev image_a : Image
image_a = record {
  name = codes "A";
  labels = [];
  stmts =
      calls service.SetEf (value 1 ∷ []) ∷
      stmt.Add (target.Var (letter (codes "A"))) (operand.Var (letter (codes "A"))) (operand.Num 1) ∷
      calls service.ReadEf (value 1 ∷ variable (codes "B") ∷ []) ∷
      calls service.ClrEf (value 1 ∷ []) ∷
      [];
}

abbrev image_b : Image
image_b = record {
  name = codes "B";
  labels = [];
  stmts =
      calls service.SetEf (value 2 ∷ []) ∷
      calls service.SetEf (value 31 ∷ []) ∷
      calls service.ReadEf (value 2 ∷ in_r0 ∷ []) ∷
      stmt.Sub (target.Var (letter (codes "C"))) operand.R0 (operand.Num 1) ∷
      calls service.Exit (held_in (codes "C") ∷ []) ∷
      [];
}

abbrev pub script : System
script = record {
  units = [];
  images = image_a ∷ image_b ∷ [];
  decls =
      declared (codes "P") 0 ∷
      declared (codes "Q") 1 ∷
      [];
}

-- its records
abbrev pub records : List Rec
records =
    runs 1 (call service.SetEf (value 1 ∷ [])) cond.WasClr (flag 1 1 true ∷ []) ∷
    runs 2 (call service.SetEf (value 2 ∷ [])) cond.WasClr (flag 2 2 true ∷ []) ∷
    runs 1 (call service.ReadEf (value 1 ∷ variable (codes "B") ∷ [])) cond.WasSet (puts 1 (codes "B") 2 ∷ []) ∷
    runs 1 (call service.ClrEf (value 1 ∷ [])) cond.WasSet (flag 1 1 false ∷ []) ∷
    ends 1 [] ∷
    runs 2 (call service.SetEf (value 31 ∷ [])) cond.WasClr (flag 2 31 true ∷ []) ∷
    is_gone 1 (gone 1 ∷ []) ∷
    runs 2 (call service.ReadEf (value 2 ∷ in_r0 ∷ [])) cond.WasSet (puts_r0 2 2147483652 ∷ []) ∷
    runs 2 (call service.Exit (value 8 ∷ [])) cond.Normal [] ∷
    is_gone 2 (gone 2 ∷ []) ∷
    []

pub first_pick : chosen script 1 10000 ≡ records
first_pick = refl

pub first_pick-end : end_after script records 10000 ≡ Some end.Done
first_pick-end = refl

-- the exit codes
pub first_pick-codes : exit_codes script records ≡ 9 ∷ 8 ∷ []
first_pick-codes = refl
