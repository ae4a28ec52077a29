-- The generated system: n processes each send 20 messages to one mailbox, and one process writes each message to a block of its own.
use Rattle.std.specs.Prelude.{ℕ, ◌*◌, List, [], ◌∷◌, ◌++◌, true, false, codes, decimal, None, map}
use Rattle.std.specs.List.{range_with_len}
use Rattle.vx_base.specs.declared.call.Arg.{Arg}
use Rattle.vx_base.specs.declared.call.Arg.TheVariants as arg
use Rattle.vx_base.specs.declared.call.Args.{Args}
use Rattle.vx_base.specs.declared.call.Operand.{Operand}
use Rattle.vx_base.specs.declared.call.Operand.TheVariants as operand
use Rattle.vx_base.specs.declared.call.Target.TheVariants as target
use Rattle.vx_base.specs.declared.mode.Mode.TheVariants.{Kernel, User}
use Rattle.vx_base.specs.declared.request.Func.{Func}
use Rattle.vx_base.specs.declared.request.Func.TheVariants.{Read, Write}
use Rattle.vx_base.specs.declared.service.Service.{Service}
use Rattle.vx_base.specs.declared.service.Service.TheVariants.{Assign, CreMbx, Exit, QioW}
use Rattle.vx_image.specs.declared.decl.ProcDecl.{ProcDecl}
use Rattle.vx_image.specs.declared.image.Image.{Image}
use Rattle.vx_image.specs.declared.stmt.Rel.TheVariants.{Lt}
use Rattle.vx_image.specs.declared.stmt.Stmt.{Stmt}
use Rattle.vx_image.specs.declared.stmt.Stmt.TheVariants as stmt
use Rattle.vx_image.specs.declared.system.System.{System}
use Rattle.vx_image.specs.declared.unit.UnitDecl.{UnitDecl}

-- Variables, by their letters.

abbrev pub letter_a : ℕ
letter_a = 65

abbrev pub letter_b : ℕ
letter_b = 66

abbrev pub letter_d : ℕ
letter_d = 68

abbrev pub letter_m : ℕ
letter_m = 77

-- Statements.

abbrev pub number : ℕ → Arg
number n = arg.Value (operand.Num n)

abbrev pub held_in : ℕ → Arg
held_in letter = arg.Value (operand.Var letter)

abbrev pub variable : ℕ → Arg
variable letter = arg.Target (target.Var letter)

abbrev pub no_args : Args
no_args = record {
  a0 = arg.Unused;
  a1 = arg.Unused;
  a2 = arg.Unused;
  a3 = arg.Unused;
  a4 = arg.Unused;
  a5 = arg.Unused;
  a6 = arg.Unused;
  a7 = arg.Unused;
  a8 = arg.Unused;
}

abbrev pub calls : Service → Args → Stmt
calls service args = stmt.Service (record { service = service; args = args })

-- $CREMBX M,BOX,0,80,65535
abbrev pub makes_mailbox : Stmt
makes_mailbox = calls CreMbx (record no_args {
  a0 = variable letter_m;
  a1 = arg.Name (codes "BOX");
  a2 = number 0;
  a3 = number 80;
  a4 = number 65535;
  a5 = arg.Mode Kernel;
})

-- $ASSIGN D,DK
abbrev pub assigns_unit : Stmt
assigns_unit = calls Assign (record no_args {
  a0 = variable letter_d;
  a1 = arg.Name (codes "DK");
  a2 = arg.Mode Kernel;
})

-- $QIOW n,channel,func,n,,,0,len,block: the event flag and the status block have one number
abbrev pub requests : ℕ → ℕ → Func → ℕ → Operand → Stmt
requests n channel func len block = calls QioW (record {
  a0 = number n;
  a1 = held_in channel;
  a2 = arg.Func func;
  a3 = number n;
  a4 = arg.Label None;
  a5 = number 0;
  a6 = number 0;
  a7 = number len;
  a8 = arg.Value block;
})

-- LET v = v + 1
abbrev pub adds_one : ℕ → Stmt
adds_one letter = stmt.Add (target.Var letter) (operand.Var letter) (operand.Num 1)

-- IF v LT n GOTO the first label
abbrev pub repeats_below : ℕ → ℕ → Stmt
repeats_below letter n = stmt.If (operand.Var letter) Lt (operand.Num n) 0

-- $EXIT
abbrev pub exits : Stmt
exits = calls Exit (record no_args { a0 = number 1 })

-- Images: each has one label, NEXT, at the first statement of its loop.

abbrev pub image_of : List ℕ → ℕ → List Stmt → Image
image_of name next stmts = record { name = name; labels = record { name = codes "NEXT"; place = next } ∷ []; stmts = stmts }

-- reads k messages, and writes the buffer to block B, which counts them
abbrev pub consumer : ℕ → Image
consumer k = image_of (codes "CONS") 2 (
    makes_mailbox ∷
    assigns_unit ∷
    requests 1 letter_m Read 80 (operand.Num 0) ∷
    requests 2 letter_d Write 80 (operand.Var letter_b) ∷
    adds_one letter_b ∷
    repeats_below letter_b k ∷
    exits ∷
    [])

-- writes 20 messages of 40 bytes
abbrev pub producer : Image
producer = image_of (codes "PROD") 1 (
    makes_mailbox ∷
    requests 1 letter_m Write 40 (operand.Num 0) ∷
    adds_one letter_a ∷
    repeats_below letter_a 20 ∷
    exits ∷
    [])

-- Process declarations, with all keys as a script has them by default.

abbrev pub declared : List ℕ → ℕ → ProcDecl
declared name image = record {
  name = name;
  image = image;
  group = 1;
  member = 1;
  mode = User;
  limits = record { ast = 24; bio = 18; dio = 18; byt = 8192; tqe = 10 };
  privs = record { cmexec = false; cmkrnl = false; group = false; prmceb = false; prmmbx = false; world = false };
  start = true;
}

-- process Pi
abbrev pub sender : ℕ → ProcDecl
sender i = declared (codes "P" ++ decimal i) 1

-- P1 to Pn
abbrev pub senders : ℕ → List ProcDecl
senders n = map sender (range_with_len 1 n)

-- a block unit
abbrev pub disk : UnitDecl
disk = record { name = codes "DK"; blocks = 4096; inputs = []; faults = [] }

abbrev pub generated : ℕ → System
generated n = record {
  units = disk ∷ [];
  images = consumer (20 * n) ∷ producer ∷ [];
  decls = declared (codes "C") 0 ∷ senders n;
}
