-- Exit handlers are entered newest first, each once, also if $EXIT is called within an AST or a handler.
use Rattle.std.specs.Prelude.{◌≡◌, refl, List, [], ◌∷◌, codes, Some}
use Rattle.vx_base.specs.declared.cond.Cond.TheVariants as cond
use Rattle.vx_base.specs.declared.effects.Opened.TheVariants as opened
use Rattle.vx_base.specs.declared.mode.Mode.TheVariants as mode
use Rattle.vx_base.specs.declared.record.End.TheVariants as end
use Rattle.vx_record.specs.Types.{Image, Rec, System}
use Rattle.vx_base.specs.declared.service.Service.TheVariants as service
use Rattle.vx_examples.specs.Along.{exit_codes}
use Rattle.vx_examples.specs.Script.{value, routine, in_mode, call, calls, declared, runs, returns, starts, handles, is_gone, opens, que, enters, leaves, gone}
use Rattle.vx_image.specs.declared.stmt.Stmt.TheVariants as stmt
use Rattle.vx_record.specs.Runs.{chosen, end_after}

abbrev image_main : Image
image_main = record {
  name = codes "MAIN";
  labels =
      record { name = codes "T"; place = 5 } ∷
      record { name = codes "H1"; place = 6 } ∷
      record { name = codes "H2"; place = 7 } ∷
      record { name = codes "H3"; place = 8 } ∷
      [];
  stmts =
      calls service.DclExh (routine (codes "H1") ∷ []) ∷
      calls service.DclExh (routine (codes "H2") ∷ []) ∷
      calls service.DclExh (routine (codes "H3") ∷ []) ∷
      calls service.DclAst (routine (codes "T") ∷ value 0 ∷ in_mode mode.Kernel ∷ []) ∷
      calls service.Exit (value 1 ∷ []) ∷
      calls service.Exit (value 44 ∷ []) ∷
      stmt.Return ∷
      calls service.Exit (value 45 ∷ []) ∷
      stmt.Return ∷
      [];
}

abbrev pub script : System
script = record {
  units = [];
  images = image_main ∷ [];
  decls = declared (codes "P") 0 ∷ [];
}

-- its records
abbrev pub records : List Rec
records =
    runs 1 (call service.DclExh (routine (codes "H1") ∷ [])) cond.Normal
    (opens 1 opened.Exh 1 (Some mode.User) 0 ∷ []) ∷
    runs 1 (call service.DclExh (routine (codes "H2") ∷ [])) cond.Normal
    (opens 2 opened.Exh 1 (Some mode.User) 0 ∷ []) ∷
    runs 1 (call service.DclExh (routine (codes "H3") ∷ [])) cond.Normal
    (opens 3 opened.Exh 1 (Some mode.User) 0 ∷ []) ∷
    runs 1 (call service.DclAst (routine (codes "T") ∷ value 0 ∷ in_mode mode.Kernel ∷ [])) cond.Normal
    (opens 4 opened.Ast 1 (Some mode.User) 0 ∷ que 4 ∷ []) ∷
    starts 1 4 [] ∷
    runs 1 (call service.Exit (value 44 ∷ [])) cond.Normal (leaves 4 ∷ []) ∷
    handles 1 (enters 3 ∷ []) ∷
    returns 1 [] ∷
    handles 1 (enters 2 ∷ []) ∷
    runs 1 (call service.Exit (value 45 ∷ [])) cond.Normal [] ∷
    handles 1 (enters 1 ∷ []) ∷
    returns 1 [] ∷
    is_gone 1 (gone 1 ∷ []) ∷
    []

pub exit_handlers : chosen script 0 10000 ≡ records
exit_handlers = refl

pub exit_handlers-end : end_after script records 10000 ≡ Some end.Done
exit_handlers-end = refl

-- the exit codes
pub exit_handlers-codes : exit_codes script records ≡ 45 ∷ []
exit_handlers-codes = refl
