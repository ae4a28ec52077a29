-- $DELPRC: the victim is run down, waiting for the request in service, and its queued ASTs are dropped.
use Rattle.std.specs.Prelude.{IsTrue, ◌≡◌, refl, List, [], ◌∷◌, true, false, codes, Some, None}
use Rattle.vx_base.specs.declared.cond.Cond.TheVariants as cond
use Rattle.vx_base.specs.declared.effects.Opened.TheVariants as opened
use Rattle.vx_base.specs.declared.mode.Mode.TheVariants as mode
use Rattle.vx_base.specs.declared.record.End.TheVariants as end
use Rattle.vx_base.specs.declared.record.Event.TheVariants as event
use Rattle.vx_record.specs.Types.{Event, Image, Rec, System}
use Rattle.vx_base.specs.declared.request.Func.TheVariants as func
use Rattle.vx_base.specs.declared.service.Service.TheVariants as service
use Rattle.vx_examples.specs.Along.{along, are_enabled, exit_codes, outputs}
use Rattle.vx_examples.specs.Script.{process, unit, value, variable, named, routine, no_routine, in_mode, call, calls, declared, runs, waits, is_busy, is_gone, begins, is_done, opens, fin, mark, que, drops, flag, status, cleared_status, puts, enb, gone, held_in, request}
use Rattle.vx_image.specs.declared.stmt.Stmt.TheVariants as stmt
use Rattle.vx_record.specs.Runs.{first, end_after}

abbrev image_v : Image
image_v = record {
  name = codes "V";
  labels = record { name = codes "T"; place = 7 } ∷ [];
  stmts =
      calls service.SetAst (value 0 ∷ []) ∷
      calls service.Assign (variable (codes "A") ∷ named (codes "TT") ∷ in_mode mode.Kernel ∷ []) ∷
      calls service.Qio (request 1 (held_in (codes "A")) func.Read 1 (routine (codes "T")) 0 0 8 0) ∷
      calls service.Qio (request 2 (held_in (codes "A")) func.Read 2 (routine (codes "T")) 0 0 8 0) ∷
      calls service.SetImr (value 3 ∷ value 50 ∷ no_routine ∷ value 0 ∷ []) ∷
      calls service.DclAst (routine (codes "T") ∷ value 0 ∷ in_mode mode.Kernel ∷ []) ∷
      calls service.Hiber [] ∷
      stmt.Return ∷
      [];
}

abbrev image_k : Image
image_k = record {
  name = codes "K";
  labels = [];
  stmts =
      calls service.DelPrc (value 1 ∷ []) ∷
      calls service.DelPrc (value 1 ∷ []) ∷
      calls service.Exit (value 1 ∷ []) ∷
      [];
}

abbrev pub script : System
script = record {
  units = record { name = codes "TT"; blocks = 0; inputs = []; faults = [] } ∷ [];
  images = image_v ∷ image_k ∷ [];
  decls =
      declared (codes "VICTIM") 0 ∷
      declared (codes "KILLER") 1 ∷
      [];
}

-- its records
abbrev pub records : List Rec
records =
    runs 1 (call service.SetAst (value 0 ∷ [])) cond.WasSet (enb 1 mode.User false ∷ []) ∷
    runs 1 (call service.Assign (variable (codes "A") ∷ named (codes "TT") ∷ in_mode mode.Kernel ∷ [])) cond.Normal
    (puts 1 (codes "A") 1 ∷ []) ∷
    runs 1 (call service.Qio (request 1 (value 1) func.Read 1 (routine (codes "T")) 0 0 8 0)) cond.Normal
    (flag 1 1 false ∷ cleared_status 1 1 ∷ opens 1 opened.Bio 1 (Some mode.User) 8 ∷ []) ∷
    runs 1 (call service.Qio (request 2 (value 1) func.Read 2 (routine (codes "T")) 0 0 8 0)) cond.Normal
    (flag 1 2 false ∷ cleared_status 1 2 ∷ opens 2 opened.Bio 1 (Some mode.User) 8 ∷ []) ∷
    runs 1 (call service.SetImr (value 3 ∷ value 50 ∷ no_routine ∷ value 0 ∷ [])) cond.Normal
    (flag 1 3 false ∷ opens 3 opened.Timer 1 None 0 ∷ []) ∷
    runs 1 (call service.DclAst (routine (codes "T") ∷ value 0 ∷ in_mode mode.Kernel ∷ [])) cond.Normal
    (opens 4 opened.Ast 1 (Some mode.User) 0 ∷ que 4 ∷ []) ∷
    waits 1 (call service.Hiber []) [] ∷
    begins 0 1 [] ∷
    runs 2 (call service.DelPrc (value 1 ∷ [])) cond.Normal [] ∷
    is_busy 1 (mark 1 ∷ fin 2 cond.Cancel ∷ status 1 2 cond.Cancel 0 0 ∷ flag 1 2 true ∷ que 2 ∷ drops 3 ∷ []) ∷
    runs 2 (call service.DelPrc (value 1 ∷ [])) cond.NonExpr [] ∷
    is_done 0 1 (fin 1 cond.Abort ∷ status 1 1 cond.Abort 0 0 ∷ flag 1 1 true ∷ que 1 ∷ []) ∷
    is_gone 1 (drops 4 ∷ drops 2 ∷ drops 1 ∷ gone 1 ∷ []) ∷
    runs 2 (call service.Exit (value 1 ∷ [])) cond.Normal [] ∷
    is_gone 2 (gone 2 ∷ []) ∷
    []

-- the events that happen
abbrev events : List Event
events = event.Run (process 1) ∷ event.Run (process 1) ∷ event.Run (process 1) ∷ event.Run (process 1) ∷ event.Run
    (process 1) ∷ event.Run (process 1) ∷ event.Run (process 1) ∷ event.Beg (unit 0) ∷ event.Run (process 2) ∷
    event.Rdn (process 1) ∷ event.Run (process 2) ∷ event.Don (unit 0) ∷ event.Rdn (process 1) ∷ event.Run
    (process 2) ∷ event.Rdn (process 2) ∷ []

-- each is enabled at its moment
pub deletion-enabled : IsTrue (are_enabled (first script) events)
deletion-enabled = refl

pub deletion : along (first script) events ≡ records
deletion = refl

pub deletion-end : end_after script records 10000 ≡ Some end.Done
deletion-end = refl

-- the exit codes
pub deletion-codes : exit_codes script records ≡ 0 ∷ 1 ∷ []
deletion-codes = refl

-- the lines that the units were given
pub deletion-outputs : outputs script records ≡ [] ∷ []
deletion-outputs = refl
