-- Timers: cancelled by identification, fired by due time and id, and not cancelled from a mode further out; one of an
-- inner mode ends with the process.
use Rattle.std.specs.Prelude.{◌≡◌, refl, List, [], ◌∷◌, true, false, codes, Some, None}
use Rattle.vx_base.specs.declared.cond.Cond.TheVariants as cond
use Rattle.vx_base.specs.declared.effects.Opened.TheVariants as opened
use Rattle.vx_base.specs.declared.mode.Mode.TheVariants as mode
use Rattle.vx_base.specs.declared.record.End.TheVariants as end
use Rattle.vx_record.specs.Types.{Image, Rec, System}
use Rattle.vx_base.specs.declared.service.Service.TheVariants as service
use Rattle.vx_examples.specs.Along.{exit_codes}
use Rattle.vx_examples.specs.Script.{value, routine, no_routine, in_mode, call, calls, no_privs, declared, runs, waits, resumes, returns, starts, is_gone, ticks, opens, que, fires, drops, leaves, flag, gone}
use Rattle.vx_image.specs.declared.stmt.Stmt.TheVariants as stmt
use Rattle.vx_record.specs.Runs.{chosen, end_after}

abbrev image_main : Image
image_main = record {
  name = codes "MAIN";
  labels = record { name = codes "X"; place = 8 } ∷ record { name = codes "T"; place = 10 } ∷ [];
  stmts =
      calls service.CmExec (routine (codes "X") ∷ value 0 ∷ []) ∷
      calls service.SetImr (value 1 ∷ value 10 ∷ routine (codes "T") ∷ value 7 ∷ []) ∷
      calls service.SetImr (value 2 ∷ value 10 ∷ routine (codes "T") ∷ value 8 ∷ []) ∷
      calls service.SetImr (value 3 ∷ value 10 ∷ no_routine ∷ value 9 ∷ []) ∷
      calls service.CanTim (value 8 ∷ in_mode mode.Kernel ∷ []) ∷
      calls service.WaitFr (value 1 ∷ []) ∷
      calls service.CanTim (value 0 ∷ in_mode mode.Kernel ∷ []) ∷
      calls service.Exit (value 1 ∷ []) ∷
      calls service.SetImr (value 4 ∷ value 30 ∷ no_routine ∷ value 7 ∷ []) ∷
      stmt.Return ∷
      stmt.Return ∷
      [];
}

abbrev pub script : System
script = record {
  units = [];
  images = image_main ∷ [];
  decls = record (declared (codes "P") 0) { privs = record no_privs { cmexec = true } } ∷ [];
}

-- its records
abbrev pub records : List Rec
records =
    runs 1 (call service.CmExec (routine (codes "X") ∷ value 0 ∷ [])) cond.Normal [] ∷
    runs 1 (call service.SetImr (value 4 ∷ value 30 ∷ no_routine ∷ value 7 ∷ [])) cond.Normal
    (flag 1 4 false ∷ opens 1 opened.Timer 1 None 0 ∷ []) ∷
    returns 1 [] ∷
    runs 1 (call service.SetImr (value 1 ∷ value 10 ∷ routine (codes "T") ∷ value 7 ∷ [])) cond.Normal
    (flag 1 1 false ∷ opens 2 opened.Timer 1 (Some mode.User) 0 ∷ []) ∷
    runs 1 (call service.SetImr (value 2 ∷ value 10 ∷ routine (codes "T") ∷ value 8 ∷ [])) cond.Normal
    (flag 1 2 false ∷ opens 3 opened.Timer 1 (Some mode.User) 0 ∷ []) ∷
    runs 1 (call service.SetImr (value 3 ∷ value 10 ∷ no_routine ∷ value 9 ∷ [])) cond.Normal
    (flag 1 3 false ∷ opens 4 opened.Timer 1 None 0 ∷ []) ∷
    runs 1 (call service.CanTim (value 8 ∷ in_mode mode.Kernel ∷ [])) cond.Normal (drops 3 ∷ []) ∷
    waits 1 (call service.WaitFr (value 1 ∷ [])) [] ∷
    ticks 10 (fires 2 ∷ flag 1 1 true ∷ que 2 ∷ fires 4 ∷ flag 1 3 true ∷ []) ∷
    starts 1 2 [] ∷
    returns 1 (leaves 2 ∷ []) ∷
    resumes 1 cond.Normal [] ∷
    runs 1 (call service.CanTim (value 0 ∷ in_mode mode.Kernel ∷ [])) cond.Normal [] ∷
    runs 1 (call service.Exit (value 1 ∷ [])) cond.Normal [] ∷
    is_gone 1 (drops 1 ∷ gone 1 ∷ []) ∷
    []

pub timers : chosen script 0 10000 ≡ records
timers = refl

pub timers-end : end_after script records 10000 ≡ Some end.Done
timers-end = refl

-- the exit codes
pub timers-codes : exit_codes script records ≡ 1 ∷ []
timers-codes = refl
