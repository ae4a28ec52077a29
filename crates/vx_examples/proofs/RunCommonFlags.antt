-- A common cluster goes with its last association, and is clear when it is made again; a permanent one wants PRMCEB.
use Rattle.std.specs.Prelude.{◌≡◌, refl, List, [], ◌∷◌, true, false, codes, Some}
use Rattle.vx_base.specs.declared.cond.Cond.TheVariants as cond
use Rattle.vx_base.specs.declared.record.End.TheVariants as end
use Rattle.vx_record.specs.Types.{Image, Rec, System}
use Rattle.vx_base.specs.declared.service.Service.TheVariants as service
use Rattle.vx_examples.specs.Along.{exit_codes}
use Rattle.vx_examples.specs.Script.{value, variable, named, call, calls, declared, runs, is_gone, common_flag, puts, cef, clu, no_clu, gone}
use Rattle.vx_record.specs.Runs.{chosen, end_after}

abbrev image_main : Image
image_main = record {
  name = codes "MAIN";
  labels = [];
  stmts =
      calls service.AscEfc (value 64 ∷ named (codes "CLU") ∷ value 0 ∷ []) ∷
      calls service.SetEf (value 70 ∷ []) ∷
      calls service.DacEfc (value 64 ∷ []) ∷
      calls service.AscEfc (value 64 ∷ named (codes "CLU") ∷ value 0 ∷ []) ∷
      calls service.ReadEf (value 70 ∷ variable (codes "A") ∷ []) ∷
      calls service.AscEfc (value 96 ∷ named (codes "X") ∷ value 1 ∷ []) ∷
      calls service.SetEf (value 96 ∷ []) ∷
      calls service.Exit (value 1 ∷ []) ∷
      [];
}

abbrev pub script : System
script = record {
  units = [];
  images = image_main ∷ [];
  decls = declared (codes "P") 0 ∷ [];
}

-- its records
abbrev pub records : List Rec
records =
    runs 1 (call service.AscEfc (value 64 ∷ named (codes "CLU") ∷ value 0 ∷ [])) cond.Normal
    (cef 1 (codes "CLU") true ∷ clu 1 2 1 (codes "CLU") ∷ []) ∷
    runs 1 (call service.SetEf (value 70 ∷ [])) cond.WasClr (common_flag 1 (codes "CLU") 6 true ∷ []) ∷
    runs 1 (call service.DacEfc (value 64 ∷ [])) cond.Normal (no_clu 1 2 ∷ cef 1 (codes "CLU") false ∷ []) ∷
    runs 1 (call service.AscEfc (value 64 ∷ named (codes "CLU") ∷ value 0 ∷ [])) cond.Normal
    (cef 1 (codes "CLU") true ∷ clu 1 2 1 (codes "CLU") ∷ []) ∷
    runs 1 (call service.ReadEf (value 70 ∷ variable (codes "A") ∷ [])) cond.WasClr (puts 1 (codes "A") 0 ∷ []) ∷
    runs 1 (call service.AscEfc (value 96 ∷ named (codes "X") ∷ value 1 ∷ [])) cond.NoPriv [] ∷
    runs 1 (call service.SetEf (value 96 ∷ [])) cond.UnasEfc [] ∷
    runs 1 (call service.Exit (value 1 ∷ [])) cond.Normal [] ∷
    is_gone 1 (no_clu 1 2 ∷ cef 1 (codes "CLU") false ∷ gone 1 ∷ []) ∷
    []

pub common_flags : chosen script 0 10000 ≡ records
common_flags = refl

pub common_flags-end : end_after script records 10000 ≡ Some end.Done
common_flags-end = refl

-- the exit codes
pub common_flags-codes : exit_codes script records ≡ 1 ∷ []
common_flags-codes = refl
