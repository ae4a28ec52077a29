-- A message longer than the mailbox takes, a mailbox that is full, and a message of no bytes.
use Rattle.std.specs.Prelude.{◌≡◌, refl, List, [], ◌∷◌, true, false, codes, Some, None}
use Rattle.vx_base.specs.declared.cond.Cond.TheVariants as cond
use Rattle.vx_base.specs.declared.effects.Opened.TheVariants as opened
use Rattle.vx_base.specs.declared.mode.Mode.TheVariants as mode
use Rattle.vx_base.specs.declared.record.End.TheVariants as end
use Rattle.vx_record.specs.Types.{Image, Rec, System}
use Rattle.vx_base.specs.declared.request.Body.TheVariants as body
use Rattle.vx_base.specs.declared.request.Func.TheVariants as func
use Rattle.vx_base.specs.declared.service.Service.TheVariants as service
use Rattle.vx_examples.specs.Along.{exit_codes}
use Rattle.vx_examples.specs.Script.{value, no_routine, call, calls, declared, runs, ends, is_gone, opens, fin, flag, puts, mput, mbx, gone, held_in, request, mailbox}
use Rattle.vx_record.specs.Runs.{chosen, end_after}

abbrev image_main : Image
image_main = record {
  name = codes "MAIN";
  labels = [];
  stmts =
      calls service.CreMbx (mailbox (codes "A") (codes "BOX") 0 4 4 mode.Kernel) ∷
      calls service.Qio (request 1 (held_in (codes "A")) func.WriteNow 0 no_routine 0 0 5 0) ∷
      calls service.Qio (request 1 (held_in (codes "A")) func.WriteNow 0 no_routine 0 0 4 0) ∷
      calls service.Qio (request 1 (held_in (codes "A")) func.WriteNow 0 no_routine 0 0 1 0) ∷
      calls service.Qio (request 1 (held_in (codes "A")) func.WriteNow 0 no_routine 0 0 0 0) ∷
      [];
}

abbrev pub script : System
script = record {
  units = [];
  images = image_main ∷ [];
  decls = declared (codes "P") 0 ∷ [];
}

-- its records
abbrev pub records : List Rec
records =
    runs 1 (call service.CreMbx (mailbox (codes "A") (codes "BOX") 0 4 4 mode.Kernel)) cond.Normal
    (mbx (codes "BOX") true ∷ puts 1 (codes "A") 1 ∷ []) ∷
    runs 1 (call service.Qio (request 1 (value 1) func.WriteNow 0 no_routine 0 0 5 0)) cond.MbTooSml [] ∷
    runs 1 (call service.Qio (request 1 (value 1) func.WriteNow 0 no_routine 0 0 4 0)) cond.Normal
    (flag 1 1 false ∷ opens 1 opened.Bio 1 None 4 ∷ mput (codes "BOX") 1 (body.Text (0 ∷ 0 ∷ 0 ∷ 0 ∷ [])) ∷ fin
    1 cond.Normal ∷ flag 1 1 true ∷ []) ∷
    runs 1 (call service.Qio (request 1 (value 1) func.WriteNow 0 no_routine 0 0 1 0)) cond.MbFull [] ∷
    runs 1 (call service.Qio (request 1 (value 1) func.WriteNow 0 no_routine 0 0 0 0)) cond.Normal
    (flag 1 1 false ∷ opens 2 opened.Bio 1 None 0 ∷ mput (codes "BOX") 2 (body.Text []) ∷ fin 2 cond.Normal ∷
    flag 1 1 true ∷ []) ∷
    ends 1 [] ∷
    is_gone 1 (mbx (codes "BOX") false ∷ gone 1 ∷ []) ∷
    []

pub full_mailbox : chosen script 0 10000 ≡ records
full_mailbox = refl

pub full_mailbox-end : end_after script records 10000 ≡ Some end.Done
full_mailbox-end = refl

-- the exit codes
pub full_mailbox-codes : exit_codes script records ≡ 1 ∷ []
full_mailbox-codes = refl
