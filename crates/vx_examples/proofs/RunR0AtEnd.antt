-- The end of an image exits with R0 as code, and leaves R0 as it was.
use Rattle.std.specs.Prelude.{◌≡◌, refl, List, [], ◌∷◌, true, codes, Some}
use Rattle.vx_base.specs.declared.call.Operand.TheVariants as operand
use Rattle.vx_base.specs.declared.call.Target.TheVariants as target
use Rattle.vx_base.specs.declared.cond.Cond.TheVariants as cond
use Rattle.vx_base.specs.declared.effects.Opened.TheVariants as opened
use Rattle.vx_base.specs.declared.mode.Mode.TheVariants as mode
use Rattle.vx_base.specs.declared.record.End.TheVariants as end
use Rattle.vx_record.specs.Types.{Image, Rec, System}
use Rattle.vx_base.specs.declared.service.Service.TheVariants as service
use Rattle.vx_examples.specs.Along.{exit_codes}
use Rattle.vx_examples.specs.Script.{value, valued, routine, call, calls, declared, runs, returns, ends, handles, is_gone, opens, enters, flag, gone}
use Rattle.vx_image.specs.declared.stmt.Stmt.TheVariants as stmt
use Rattle.vx_record.specs.Runs.{chosen, end_after}

abbrev image_main : Image
image_main = record {
  name = codes "MAIN";
  labels = record { name = codes "H"; place = 3 } ∷ record { name = codes "Z"; place = 5 } ∷ [];
  stmts =
      calls service.DclExh (routine (codes "H") ∷ []) ∷
      stmt.Let target.R0 (operand.Num 7) ∷
      stmt.Goto 1 ∷
      calls service.SetEf (valued operand.R0 ∷ []) ∷
      stmt.Return ∷
      [];
}

abbrev pub script : System
script = record {
  units = [];
  images = image_main ∷ [];
  decls = declared (codes "P") 0 ∷ [];
}

-- its records
abbrev pub records : List Rec
records =
    runs 1 (call service.DclExh (routine (codes "H") ∷ [])) cond.Normal
    (opens 1 opened.Exh 1 (Some mode.User) 0 ∷ []) ∷
    ends 1 [] ∷
    handles 1 (enters 1 ∷ []) ∷
    runs 1 (call service.SetEf (value 7 ∷ [])) cond.WasClr (flag 1 7 true ∷ []) ∷
    returns 1 [] ∷
    is_gone 1 (gone 1 ∷ []) ∷
    []

pub r0_at_end : chosen script 0 10000 ≡ records
r0_at_end = refl

pub r0_at_end-end : end_after script records 10000 ≡ Some end.Done
r0_at_end-end = refl

-- the exit codes
pub r0_at_end-codes : exit_codes script records ≡ 7 ∷ []
r0_at_end-codes = refl
