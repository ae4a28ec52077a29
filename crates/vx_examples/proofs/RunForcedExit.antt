-- A scheduled wake, and a process that forces its own exit.
use Rattle.std.specs.Prelude.{◌≡◌, refl, List, [], ◌∷◌, codes, Some, None}
use Rattle.vx_base.specs.declared.cond.Cond.TheVariants as cond
use Rattle.vx_base.specs.declared.effects.Opened.TheVariants as opened
use Rattle.vx_base.specs.declared.mode.Mode.TheVariants as mode
use Rattle.vx_base.specs.declared.record.End.TheVariants as end
use Rattle.vx_record.specs.Types.{Image, Rec, System}
use Rattle.vx_base.specs.declared.service.Service.TheVariants as service
use Rattle.vx_examples.specs.Along.{exit_codes}
use Rattle.vx_examples.specs.Script.{value, call, calls, declared, runs, waits, resumes, starts, is_gone, ticks, opens, que, fires, leaves, gone}
use Rattle.vx_record.specs.Runs.{chosen, end_after}

abbrev image_main : Image
image_main = record {
  name = codes "MAIN";
  labels = [];
  stmts =
      calls service.SchdWk (value 0 ∷ value 5 ∷ value 0 ∷ []) ∷
      calls service.Hiber [] ∷
      calls service.ForceX (value 0 ∷ value 44 ∷ []) ∷
      [];
}

abbrev pub script : System
script = record {
  units = [];
  images = image_main ∷ [];
  decls = declared (codes "P") 0 ∷ [];
}

-- its records
abbrev pub records : List Rec
records =
    runs 1 (call service.SchdWk (value 0 ∷ value 5 ∷ value 0 ∷ [])) cond.Normal (opens 1 opened.Wake 1 None 0 ∷ []) ∷
    waits 1 (call service.Hiber []) [] ∷
    ticks 5 (fires 1 ∷ []) ∷
    resumes 1 cond.Normal [] ∷
    runs 1 (call service.ForceX (value 0 ∷ value 44 ∷ [])) cond.Normal
    (opens 2 opened.Force 1 (Some mode.User) 0 ∷ que 2 ∷ []) ∷
    starts 1 2 (leaves 2 ∷ []) ∷
    is_gone 1 (gone 1 ∷ []) ∷
    []

pub forced_exit : chosen script 0 10000 ≡ records
forced_exit = refl

pub forced_exit-end : end_after script records 10000 ≡ Some end.Done
forced_exit-end = refl

-- the exit codes
pub forced_exit-codes : exit_codes script records ≡ 44 ∷ []
forced_exit-codes = refl
