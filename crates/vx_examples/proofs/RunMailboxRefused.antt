-- A permanent mailbox wants PRMMBX, and a message size of 0 is none.
use Rattle.std.specs.Prelude.{◌≡◌, refl, List, [], ◌∷◌, codes, Some}
use Rattle.vx_base.specs.declared.cond.Cond.TheVariants as cond
use Rattle.vx_base.specs.declared.mode.Mode.TheVariants as mode
use Rattle.vx_base.specs.declared.record.End.TheVariants as end
use Rattle.vx_record.specs.Types.{Image, Rec, System}
use Rattle.vx_base.specs.declared.service.Service.TheVariants as service
use Rattle.vx_examples.specs.Along.{exit_codes}
use Rattle.vx_examples.specs.Script.{call, calls, declared, runs, ends, is_gone, gone, mailbox}
use Rattle.vx_record.specs.Runs.{chosen, end_after}

abbrev image_main : Image
image_main = record {
  name = codes "MAIN";
  labels = [];
  stmts =
      calls service.CreMbx (mailbox (codes "A") (codes "BOX") 1 256 1024 mode.Kernel) ∷
      calls service.CreMbx (mailbox (codes "A") (codes "BOX") 0 0 1024 mode.Kernel) ∷
      [];
}

abbrev pub script : System
script = record {
  units = [];
  images = image_main ∷ [];
  decls = declared (codes "P") 0 ∷ [];
}

-- its records
abbrev pub records : List Rec
records =
    runs 1 (call service.CreMbx (mailbox (codes "A") (codes "BOX") 1 256 1024 mode.Kernel)) cond.NoPriv [] ∷
    runs 1 (call service.CreMbx (mailbox (codes "A") (codes "BOX") 0 0 1024 mode.Kernel)) cond.BadParam [] ∷
    ends 1 [] ∷
    is_gone 1 (gone 1 ∷ []) ∷
    []

pub mailbox_refused : chosen script 0 10000 ≡ records
mailbox_refused = refl

pub mailbox_refused-end : end_after script records 10000 ≡ Some end.Done
mailbox_refused-end = refl

-- the exit codes
pub mailbox_refused-codes : exit_codes script records ≡ 8108 ∷ []
mailbox_refused-codes = refl
