-- Local statements: arithmetic modulo 2^32, bytes, comparisons and status blocks.
use Rattle.std.specs.Prelude.{◌≡◌, refl, List, [], ◌∷◌, codes, Some}
use Rattle.vx_base.specs.declared.call.Operand.TheVariants as operand
use Rattle.vx_base.specs.declared.call.Target.TheVariants as target
use Rattle.vx_base.specs.declared.cond.Cond.TheVariants as cond
use Rattle.vx_base.specs.declared.mode.Mode.TheVariants as mode
use Rattle.vx_base.specs.declared.record.End.TheVariants as end
use Rattle.vx_record.specs.Types.{Image, Rec, System}
use Rattle.vx_base.specs.declared.service.Service.TheVariants as service
use Rattle.vx_examples.specs.Along.{exit_codes}
use Rattle.vx_examples.specs.Script.{letter, value, call, calls, declared, runs, goes_on, is_gone, gone, held_in}
use Rattle.vx_image.specs.declared.stmt.Field.TheVariants as field
use Rattle.vx_image.specs.declared.stmt.Rel.TheVariants as rel
use Rattle.vx_image.specs.declared.stmt.Stmt.TheVariants as stmt
use Rattle.vx_record.specs.Runs.{chosen, end_after}

abbrev image_a : Image
image_a = record {
  name = codes "A";
  labels =
      record { name = codes "NEXT"; place = 8 } ∷
      record { name = codes "DONE"; place = 11 } ∷
      [];
  stmts =
      stmt.Let (target.Var (letter (codes "A"))) (operand.Num 4294967295) ∷
      stmt.Add (target.Var (letter (codes "A"))) (operand.Var (letter (codes "A"))) (operand.Num 2) ∷
      stmt.Sub (target.Var (letter (codes "B"))) (operand.Num 0) (operand.Num 1) ∷
      stmt.Put 3 (104 ∷ 101 ∷ 108 ∷ 108 ∷ 111 ∷ 0 ∷ 255 ∷ []) ∷
      stmt.Byte (target.Var (letter (codes "C"))) 3 (operand.Num 4) ∷
      stmt.Byte (target.Var (letter (codes "D"))) 3 (operand.Num 6) ∷
      stmt.Byte (target.Var (letter (codes "E"))) 3 (operand.Num 2048) ∷
      stmt.Iosb (target.Var (letter (codes "F"))) 32 field.Status ∷
      stmt.If (operand.Var (letter (codes "A"))) rel.Ge (operand.Num 5) 1 ∷
      stmt.Add (target.Var (letter (codes "A"))) (operand.Var (letter (codes "A"))) operand.Pid ∷
      stmt.Goto 0 ∷
      stmt.If (operand.Var (letter (codes "B"))) rel.Lt (operand.Var (letter (codes "A"))) 0 ∷
      stmt.Let (target.Var (letter (codes "G"))) (operand.Cond cond.WasSet) ∷
      calls service.Exit (held_in (codes "G") ∷ []) ∷
      [];
}

abbrev image_l : Image
image_l = record {
  name = codes "L";
  labels = record { name = codes "L"; place = 0 } ∷ [];
  stmts =
      stmt.Add (target.Var (letter (codes "A"))) (operand.Var (letter (codes "A"))) (operand.Num 1) ∷
      stmt.If (operand.Var (letter (codes "A"))) rel.Ne (operand.Num 1500) 0 ∷
      calls service.Exit (held_in (codes "A") ∷ []) ∷
      [];
}

abbrev pub script : System
script = record {
  units = [];
  images = image_a ∷ image_l ∷ [];
  decls =
      declared (codes "P") 0 ∷
      declared (codes "Q") 1 ∷
      record (declared (codes "R") 0) { group = 5; member = 6; mode = mode.Kernel } ∷
      [];
}

-- its records
abbrev pub records : List Rec
records =
    runs 3 (call service.Exit (value 9 ∷ [])) cond.Normal [] ∷
    runs 1 (call service.Exit (value 9 ∷ [])) cond.Normal [] ∷
    is_gone 1 (gone 1 ∷ []) ∷
    goes_on 2 [] ∷
    goes_on 2 [] ∷
    is_gone 3 (gone 3 ∷ []) ∷
    goes_on 2 [] ∷
    runs 2 (call service.Exit (value 1500 ∷ [])) cond.Normal [] ∷
    is_gone 2 (gone 2 ∷ []) ∷
    []

pub local_statements : chosen script 1 10000 ≡ records
local_statements = refl

pub local_statements-end : end_after script records 10000 ≡ Some end.Done
local_statements-end = refl

-- the exit codes
pub local_statements-codes : exit_codes script records ≡ 9 ∷ 1500 ∷ 9 ∷ []
local_statements-codes = refl
