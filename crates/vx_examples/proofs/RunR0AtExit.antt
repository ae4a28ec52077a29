-- R0 is 1 after $EXIT.
use Rattle.std.specs.Prelude.{◌≡◌, refl, List, [], ◌∷◌, true, codes, Some}
use Rattle.vx_base.specs.declared.call.Operand.TheVariants as operand
use Rattle.vx_base.specs.declared.cond.Cond.TheVariants as cond
use Rattle.vx_base.specs.declared.effects.Opened.TheVariants as opened
use Rattle.vx_base.specs.declared.mode.Mode.TheVariants as mode
use Rattle.vx_base.specs.declared.record.End.TheVariants as end
use Rattle.vx_record.specs.Types.{Image, Rec, System}
use Rattle.vx_base.specs.declared.service.Service.TheVariants as service
use Rattle.vx_examples.specs.Along.{exit_codes}
use Rattle.vx_examples.specs.Script.{value, valued, routine, call, calls, declared, runs, returns, handles, is_gone, opens, enters, flag, gone}
use Rattle.vx_image.specs.declared.stmt.Stmt.TheVariants as stmt
use Rattle.vx_record.specs.Runs.{chosen, end_after}

abbrev image_main : Image
image_main = record {
  name = codes "MAIN";
  labels = record { name = codes "H"; place = 2 } ∷ [];
  stmts =
      calls service.DclExh (routine (codes "H") ∷ []) ∷
      calls service.Exit (value 44 ∷ []) ∷
      calls service.SetEf (valued operand.R0 ∷ []) ∷
      stmt.Return ∷
      [];
}

abbrev pub script : System
script = record {
  units = [];
  images = image_main ∷ [];
  decls = declared (codes "P") 0 ∷ [];
}

-- its records
abbrev pub records : List Rec
records =
    runs 1 (call service.DclExh (routine (codes "H") ∷ [])) cond.Normal
    (opens 1 opened.Exh 1 (Some mode.User) 0 ∷ []) ∷
    runs 1 (call service.Exit (value 44 ∷ [])) cond.Normal [] ∷
    handles 1 (enters 1 ∷ []) ∷
    runs 1 (call service.SetEf (value 1 ∷ [])) cond.WasClr (flag 1 1 true ∷ []) ∷
    returns 1 [] ∷
    is_gone 1 (gone 1 ∷ []) ∷
    []

pub r0_at_exit : chosen script 0 10000 ≡ records
r0_at_exit = refl

pub r0_at_exit-end : end_after script records 10000 ≡ Some end.Done
r0_at_exit-end = refl

-- the exit codes
pub r0_at_exit-codes : exit_codes script records ≡ 44 ∷ []
r0_at_exit-codes = refl
