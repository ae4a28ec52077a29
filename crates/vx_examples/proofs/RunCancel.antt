-- $CANCEL marks the request in service, and finishes those that wait; the marked one is aborted when its unit is done.
use Rattle.std.specs.Prelude.{IsTrue, ◌≡◌, refl, List, [], ◌∷◌, true, false, codes, Some, None}
use Rattle.vx_base.specs.declared.cond.Cond.TheVariants as cond
use Rattle.vx_base.specs.declared.effects.Opened.TheVariants as opened
use Rattle.vx_base.specs.declared.mode.Mode.TheVariants as mode
use Rattle.vx_base.specs.declared.record.End.TheVariants as end
use Rattle.vx_base.specs.declared.record.Event.TheVariants as event
use Rattle.vx_record.specs.Types.{Event, Image, Rec, System}
use Rattle.vx_base.specs.declared.request.Func.TheVariants as func
use Rattle.vx_base.specs.declared.service.Service.TheVariants as service
use Rattle.vx_examples.specs.Along.{along, are_enabled, exit_codes, outputs}
use Rattle.vx_examples.specs.Script.{process, unit, value, variable, named, no_routine, in_mode, call, calls, declared, runs, is_gone, begins, is_done, opens, fin, mark, flag, status, cleared_status, puts, gone, held_in, request}
use Rattle.vx_record.specs.Runs.{first, end_after}

abbrev image_main : Image
image_main = record {
  name = codes "MAIN";
  labels = [];
  stmts =
      calls service.Assign (variable (codes "A") ∷ named (codes "TT") ∷ in_mode mode.Kernel ∷ []) ∷
      calls service.Qio (request 1 (held_in (codes "A")) func.Read 1 no_routine 0 0 8 0) ∷
      calls service.Qio (request 2 (held_in (codes "A")) func.Read 2 no_routine 0 0 8 0) ∷
      calls service.Qio (request 3 (held_in (codes "A")) func.Read 3 no_routine 0 0 8 0) ∷
      calls service.Cancel (held_in (codes "A") ∷ []) ∷
      calls service.Exit (value 1 ∷ []) ∷
      [];
}

abbrev pub script : System
script = record {
  units = record { name = codes "TT"; blocks = 0; inputs = []; faults = [] } ∷ [];
  images = image_main ∷ [];
  decls = declared (codes "P") 0 ∷ [];
}

-- its records
abbrev pub records : List Rec
records =
    runs 1 (call service.Assign (variable (codes "A") ∷ named (codes "TT") ∷ in_mode mode.Kernel ∷ [])) cond.Normal
    (puts 1 (codes "A") 1 ∷ []) ∷
    runs 1 (call service.Qio (request 1 (value 1) func.Read 1 no_routine 0 0 8 0)) cond.Normal
    (flag 1 1 false ∷ cleared_status 1 1 ∷ opens 1 opened.Bio 1 None 8 ∷ []) ∷
    runs 1 (call service.Qio (request 2 (value 1) func.Read 2 no_routine 0 0 8 0)) cond.Normal
    (flag 1 2 false ∷ cleared_status 1 2 ∷ opens 2 opened.Bio 1 None 8 ∷ []) ∷
    runs 1 (call service.Qio (request 3 (value 1) func.Read 3 no_routine 0 0 8 0)) cond.Normal
    (flag 1 3 false ∷ cleared_status 1 3 ∷ opens 3 opened.Bio 1 None 8 ∷ []) ∷
    begins 0 1 [] ∷
    runs 1 (call service.Cancel (value 1 ∷ [])) cond.Normal
    (mark 1 ∷ fin 2 cond.Cancel ∷ status 1 2 cond.Cancel 0 0 ∷ flag 1 2 true ∷ fin 3 cond.Cancel ∷ status 1 3
    cond.Cancel 0 0 ∷ flag 1 3 true ∷ []) ∷
    is_done 0 1 (fin 1 cond.Abort ∷ status 1 1 cond.Abort 0 0 ∷ flag 1 1 true ∷ []) ∷
    runs 1 (call service.Exit (value 1 ∷ [])) cond.Normal [] ∷
    is_gone 1 (gone 1 ∷ []) ∷
    []

-- the events that happen
abbrev events : List Event
events = event.Run (process 1) ∷ event.Run (process 1) ∷ event.Run (process 1) ∷ event.Run (process 1) ∷ event.Beg
    (unit 0) ∷ event.Run (process 1) ∷ event.Don (unit 0) ∷ event.Run (process 1) ∷ event.Rdn (process 1) ∷ []

-- each is enabled at its moment
pub cancel-enabled : IsTrue (are_enabled (first script) events)
cancel-enabled = refl

pub cancel : along (first script) events ≡ records
cancel = refl

pub cancel-end : end_after script records 10000 ≡ Some end.Done
cancel-end = refl

-- the exit codes
pub cancel-codes : exit_codes script records ≡ 1 ∷ []
cancel-codes = refl

-- the lines that the units were given
pub cancel-outputs : outputs script records ≡ [] ∷ []
cancel-outputs = refl
