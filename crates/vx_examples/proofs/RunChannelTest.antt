-- The channel test: a channel of an inner mode, numbers that are none, a free channel; the least free number is
-- assigned.
use Rattle.std.specs.Prelude.{◌≡◌, refl, List, [], ◌∷◌, true, codes, Some}
use Rattle.vx_base.specs.declared.cond.Cond.TheVariants as cond
use Rattle.vx_base.specs.declared.mode.Mode.TheVariants as mode
use Rattle.vx_base.specs.declared.record.End.TheVariants as end
use Rattle.vx_record.specs.Types.{Image, Rec, System}
use Rattle.vx_base.specs.declared.service.Service.TheVariants as service
use Rattle.vx_examples.specs.Along.{exit_codes, outputs}
use Rattle.vx_examples.specs.Script.{value, variable, named, routine, in_mode, call, calls, no_privs, declared, runs, returns, is_gone, puts, gone, held_in}
use Rattle.vx_image.specs.declared.stmt.Stmt.TheVariants as stmt
use Rattle.vx_record.specs.Runs.{chosen, end_after}

abbrev image_main : Image
image_main = record {
  name = codes "MAIN";
  labels = record { name = codes "X"; place = 9 } ∷ [];
  stmts =
      calls service.CmExec (routine (codes "X") ∷ value 0 ∷ []) ∷
      calls service.Dassgn (value 1 ∷ []) ∷
      calls service.Dassgn (value 0 ∷ []) ∷
      calls service.Dassgn (value 64 ∷ []) ∷
      calls service.Dassgn (value 65 ∷ []) ∷
      calls service.Assign (variable (codes "B") ∷ named (codes "TT") ∷ in_mode mode.Kernel ∷ []) ∷
      calls service.Dassgn (held_in (codes "B") ∷ []) ∷
      calls service.Dassgn (held_in (codes "B") ∷ []) ∷
      calls service.Exit (value 1 ∷ []) ∷
      calls service.Assign (variable (codes "A") ∷ named (codes "TT") ∷ in_mode mode.Kernel ∷ []) ∷
      stmt.Return ∷
      [];
}

abbrev pub script : System
script = record {
  units = record { name = codes "TT"; blocks = 0; inputs = []; faults = [] } ∷ [];
  images = image_main ∷ [];
  decls = record (declared (codes "P") 0) { privs = record no_privs { cmexec = true } } ∷ [];
}

-- its records
abbrev pub records : List Rec
records =
    runs 1 (call service.CmExec (routine (codes "X") ∷ value 0 ∷ [])) cond.Normal [] ∷
    runs 1 (call service.Assign (variable (codes "A") ∷ named (codes "TT") ∷ in_mode mode.Kernel ∷ [])) cond.Normal
    (puts 1 (codes "A") 1 ∷ []) ∷
    returns 1 [] ∷
    runs 1 (call service.Dassgn (value 1 ∷ [])) cond.NoPriv [] ∷
    runs 1 (call service.Dassgn (value 0 ∷ [])) cond.IvChan [] ∷
    runs 1 (call service.Dassgn (value 64 ∷ [])) cond.NoPriv [] ∷
    runs 1 (call service.Dassgn (value 65 ∷ [])) cond.IvChan [] ∷
    runs 1 (call service.Assign (variable (codes "B") ∷ named (codes "TT") ∷ in_mode mode.Kernel ∷ [])) cond.Normal
    (puts 1 (codes "B") 2 ∷ []) ∷
    runs 1 (call service.Dassgn (value 2 ∷ [])) cond.Normal [] ∷
    runs 1 (call service.Dassgn (value 2 ∷ [])) cond.NoPriv [] ∷
    runs 1 (call service.Exit (value 1 ∷ [])) cond.Normal [] ∷
    is_gone 1 (gone 1 ∷ []) ∷
    []

pub channel_test : chosen script 0 10000 ≡ records
channel_test = refl

pub channel_test-end : end_after script records 10000 ≡ Some end.Done
channel_test-end = refl

-- the exit codes
pub channel_test-codes : exit_codes script records ≡ 1 ∷ []
channel_test-codes = refl

-- the lines that the units were given
pub channel_test-outputs : outputs script records ≡ [] ∷ []
channel_test-outputs = refl
