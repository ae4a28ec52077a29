-- Attention is granted once, after the write that asked for it is finished.
use Rattle.std.specs.Prelude.{◌≡◌, refl, List, [], ◌∷◌, true, false, codes, Some, None}
use Rattle.vx_base.specs.declared.cond.Cond.TheVariants as cond
use Rattle.vx_base.specs.declared.effects.Opened.TheVariants as opened
use Rattle.vx_base.specs.declared.mode.Mode.TheVariants as mode
use Rattle.vx_base.specs.declared.record.End.TheVariants as end
use Rattle.vx_record.specs.Types.{Image, Rec, System}
use Rattle.vx_base.specs.declared.request.Body.TheVariants as body
use Rattle.vx_base.specs.declared.request.Func.TheVariants as func
use Rattle.vx_base.specs.declared.service.Service.TheVariants as service
use Rattle.vx_examples.specs.Along.{exit_codes}
use Rattle.vx_examples.specs.Script.{value, routine, no_routine, call, calls, declared, runs, returns, starts, is_gone, opens, fin, que, fires, leaves, flag, status, cleared_status, puts, mput, mbx, gone, held_in, request, mailbox}
use Rattle.vx_image.specs.declared.stmt.Stmt.TheVariants as stmt
use Rattle.vx_record.specs.Runs.{chosen, end_after}

abbrev image_main : Image
image_main = record {
  name = codes "MAIN";
  labels = record { name = codes "T"; place = 4 } ∷ [];
  stmts =
      calls service.CreMbx (mailbox (codes "A") (codes "BOX") 0 256 1024 mode.Kernel) ∷
      calls service.Qio (request 1 (held_in (codes "A")) func.WrtAttn 1 (routine (codes "T")) 0 0 0 0) ∷
      calls service.Qio (request 2 (held_in (codes "A")) func.WriteNow 0 no_routine 0 0 1 0) ∷
      calls service.Exit (value 1 ∷ []) ∷
      stmt.Return ∷
      [];
}

abbrev pub script : System
script = record {
  units = [];
  images = image_main ∷ [];
  decls = declared (codes "P") 0 ∷ [];
}

-- its records
abbrev pub records : List Rec
records =
    runs 1 (call service.CreMbx (mailbox (codes "A") (codes "BOX") 0 256 1024 mode.Kernel)) cond.Normal
    (mbx (codes "BOX") true ∷ puts 1 (codes "A") 1 ∷ []) ∷
    runs 1 (call service.Qio (request 1 (value 1) func.WrtAttn 1 (routine (codes "T")) 0 0 0 0)) cond.Normal
    (flag 1 1 false ∷ cleared_status 1 1 ∷ opens 1 opened.Attn 1 (Some mode.User) 0 ∷ status 1 1 cond.Normal 0
    0 ∷ flag 1 1 true ∷ []) ∷
    runs 1 (call service.Qio (request 2 (value 1) func.WriteNow 0 no_routine 0 0 1 0)) cond.Normal
    (flag 1 2 false ∷ opens 2 opened.Bio 1 None 1 ∷ mput (codes "BOX") 2 (body.Text (0 ∷ [])) ∷ fin 2
    cond.Normal ∷ flag 1 2 true ∷ fires 1 ∷ que 1 ∷ []) ∷
    starts 1 1 [] ∷
    returns 1 (leaves 1 ∷ []) ∷
    runs 1 (call service.Exit (value 1 ∷ [])) cond.Normal [] ∷
    is_gone 1 (mbx (codes "BOX") false ∷ gone 1 ∷ []) ∷
    []

pub attention : chosen script 0 10000 ≡ records
attention = refl

pub attention-end : end_after script records 10000 ≡ Some end.Done
attention-end = refl

-- the exit codes
pub attention-codes : exit_codes script records ≡ 1 ∷ []
attention-codes = refl
