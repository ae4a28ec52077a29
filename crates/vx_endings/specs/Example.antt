-- Worked examples: two processes of an image that touch nothing in common.
use Rattle.std.specs.Prelude.{ℕ, zero, suc, List, [], ◌∷◌, codes, true, false}
use Rattle.vx_base.specs.declared.call.Arg.TheVariants.{Value, Unused}
use Rattle.vx_base.specs.declared.call.Operand.TheVariants.{Num}
use Rattle.vx_base.specs.declared.mode.Mode.TheVariants.{User}
use Rattle.vx_record.specs.Types.{ProcDecl, Service, Stmt, System}
use Rattle.vx_base.specs.declared.service.Service.TheVariants.{Exit, SetEf}
use Rattle.vx_image.specs.declared.stmt.Stmt.TheVariants as stmt

-- a call with one argument
abbrev pub calls : Service → ℕ → Stmt
calls service n = stmt.Service (record { service = service; args = record { a0 = Value (Num n); a1 = Unused; a2 = Unused; a3 = Unused; a4 = Unused; a5 = Unused; a6 = Unused; a7 = Unused; a8 = Unused } })

-- $SETEF 1 so many times, and then $EXIT 7
abbrev pub setting : ℕ → List Stmt
setting zero = calls Exit 7 ∷ []
setting (suc n) = calls SetEf 1 ∷ setting n

-- a process of the image, with each key as it is if its line names none
abbrev pub usual_process : List ℕ → ProcDecl
usual_process name = record {
  name = name;
  image = 0;
  group = 1;
  member = 1;
  mode = User;
  limits = record { ast = 24; bio = 18; dio = 18; byt = 8192; tqe = 10 };
  privs = record { cmexec = false; cmkrnl = false; group = false; prmceb = false; prmmbx = false; world = false };
  start = true;
}

-- the processes P and Q, each with so many calls before $EXIT
abbrev pub two_processes : ℕ → System
two_processes n = record {
  units = [];
  images = record { name = codes "M"; labels = []; stmts = setting n } ∷ [];
  decls = usual_process (codes "P") ∷ usual_process (codes "Q") ∷ [];
}
