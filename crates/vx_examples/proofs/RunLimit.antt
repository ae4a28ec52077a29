-- A loop without end, and a limit of 3 records.
use Rattle.std.specs.Prelude.{◌≡◌, refl, List, [], ◌∷◌, codes, Some}
use Rattle.vx_base.specs.declared.call.Operand.TheVariants as operand
use Rattle.vx_base.specs.declared.call.Target.TheVariants as target
use Rattle.vx_base.specs.declared.record.End.TheVariants as end
use Rattle.vx_record.specs.Types.{Image, Rec, System}
use Rattle.vx_examples.specs.Script.{letter, declared, goes_on}
use Rattle.vx_image.specs.declared.stmt.Stmt.TheVariants as stmt
use Rattle.vx_record.specs.Runs.{chosen, end_after}

abbrev image_main : Image
image_main = record {
  name = codes "MAIN";
  labels = record { name = codes "L"; place = 0 } ∷ [];
  stmts =
      stmt.Add (target.Var (letter (codes "A"))) (operand.Var (letter (codes "A"))) (operand.Num 1) ∷
      stmt.Goto 0 ∷
      [];
}

abbrev pub script : System
script = record {
  units = [];
  images = image_main ∷ [];
  decls = declared (codes "P") 0 ∷ [];
}

-- its records
abbrev pub records : List Rec
records =
    goes_on 1 [] ∷
    goes_on 1 [] ∷
    goes_on 1 [] ∷
    []

pub limit : chosen script 0 3 ≡ records
limit = refl

pub limit-end : end_after script records 3 ≡ Some end.Limit
limit-end = refl
