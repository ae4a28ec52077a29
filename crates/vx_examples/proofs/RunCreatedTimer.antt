-- A process and one that it creates each count their own timers; a timer ends with its process.
use Rattle.std.specs.Prelude.{◌≡◌, refl, List, [], ◌∷◌, true, false, codes, Some, None}
use Rattle.vx_base.specs.declared.cond.Cond.TheVariants as cond
use Rattle.vx_base.specs.declared.effects.Opened.TheVariants as opened
use Rattle.vx_base.specs.declared.record.End.TheVariants as end
use Rattle.vx_record.specs.Types.{Image, Rec, System}
use Rattle.vx_base.specs.declared.service.Service.TheVariants as service
use Rattle.vx_examples.specs.Along.{exit_codes}
use Rattle.vx_examples.specs.Script.{value, variable, named, no_routine, call, calls, usual_limits, declared, runs, waits, resumes, is_gone, ticks, opens, fires, drops, flag, puts, new, gone}
use Rattle.vx_record.specs.Runs.{chosen, end_after}

abbrev image_b : Image
image_b = record {
  name = codes "B";
  labels = [];
  stmts =
      calls service.SetImr (value 1 ∷ value 5 ∷ no_routine ∷ value 0 ∷ []) ∷
      calls service.CrePrc (variable (codes "A") ∷ named (codes "KID") ∷ []) ∷
      calls service.WaitFr (value 1 ∷ []) ∷
      calls service.Exit (value 1 ∷ []) ∷
      [];
}

abbrev image_k : Image
image_k = record {
  name = codes "K";
  labels = [];
  stmts =
      calls service.SetImr (value 1 ∷ value 3 ∷ no_routine ∷ value 0 ∷ []) ∷
      calls service.Exit (value 1 ∷ []) ∷
      [];
}

abbrev pub script : System
script = record {
  units = [];
  images = image_b ∷ image_k ∷ [];
  decls =
      record (declared (codes "BOSS") 0) { limits = record usual_limits { tqe = 1 } } ∷
      record (declared (codes "KID") 1) { start = false } ∷
      [];
}

-- its records
abbrev pub records : List Rec
records =
    runs 1 (call service.SetImr (value 1 ∷ value 5 ∷ no_routine ∷ value 0 ∷ [])) cond.Normal
    (flag 1 1 false ∷ opens 1 opened.Timer 1 None 0 ∷ []) ∷
    runs 1 (call service.CrePrc (variable (codes "A") ∷ named (codes "KID") ∷ [])) cond.Normal
    (new 2 (codes "KID") ∷ puts 1 (codes "A") 2 ∷ []) ∷
    waits 1 (call service.WaitFr (value 1 ∷ [])) [] ∷
    runs 2 (call service.SetImr (value 1 ∷ value 3 ∷ no_routine ∷ value 0 ∷ [])) cond.Normal
    (flag 2 1 false ∷ opens 2 opened.Timer 2 None 0 ∷ []) ∷
    runs 2 (call service.Exit (value 1 ∷ [])) cond.Normal [] ∷
    is_gone 2 (drops 2 ∷ gone 2 ∷ []) ∷
    ticks 5 (fires 1 ∷ flag 1 1 true ∷ []) ∷
    resumes 1 cond.Normal [] ∷
    runs 1 (call service.Exit (value 1 ∷ [])) cond.Normal [] ∷
    is_gone 1 (gone 1 ∷ []) ∷
    []

pub created_timer : chosen script 0 10000 ≡ records
created_timer = refl

pub created_timer-end : end_after script records 10000 ≡ Some end.Done
created_timer-end = refl

-- the exit codes
pub created_timer-codes : exit_codes script records ≡ 1 ∷ 1 ∷ []
created_timer-codes = refl
