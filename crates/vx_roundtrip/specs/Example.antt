-- A worked example: a system with every kind of line and of local statement, and its canonical script.
use Rattle.std.specs.Prelude.{◌≡◌, ℕ, true, false, List, [], ◌∷◌, codes}
use Rattle.vx_base.specs.declared.call.Arg.TheVariants as arg
use Rattle.vx_base.specs.declared.call.Args.{Args}
use Rattle.vx_base.specs.declared.call.Operand.TheVariants.{Num, Cond, Var, Pid, Prm}
use Rattle.vx_base.specs.declared.call.Target.TheVariants as target
use Rattle.vx_base.specs.declared.cond.Cond.TheVariants.{WasSet}
use Rattle.vx_base.specs.declared.mode.Mode.TheVariants.{Exec, User}
use Rattle.vx_base.specs.declared.service.Service.TheVariants.{CrePrc}
use Rattle.vx_image.specs.WellFormed.{IsWellFormed}
use Rattle.vx_image.specs.declared.decl.ProcDecl.{ProcDecl}
use Rattle.vx_image.specs.declared.image.Image.{Image}
use Rattle.vx_image.specs.declared.stmt.Field.TheVariants.{Count}
use Rattle.vx_image.specs.declared.stmt.Rel.TheVariants.{Ne}
use Rattle.vx_image.specs.declared.stmt.Stmt.{Stmt}
use Rattle.vx_image.specs.declared.stmt.Stmt.TheVariants as stmt
use Rattle.vx_image.specs.declared.system.System.{System}
use Rattle.vx_image.specs.declared.unit.UnitDecl.{UnitDecl}
use Rattle.vx_grammar.specs.Grammar.{Spells}
use Rattle.vx_script.specs.Script.{script}
use Rattle.vx_roundtrip.specs.Held.{IsHeldSystem}

-- a line unit of two lines, of which the second is a quote and a line feed, and a block unit with two faults
abbrev pub example_units : List UnitDecl
example_units =
    record { name = codes "TT"; blocks = 0; inputs = codes "HI" ∷ (34 ∷ 10 ∷ []) ∷ []; faults = [] }
    ∷ record { name = codes "DK"; blocks = 8; inputs = []; faults = 2 ∷ 5 ∷ [] } ∷ []

-- $CREPRC A,P
abbrev pub creates : Args
creates = record { a0 = arg.Target (target.Var 65); a1 = arg.Name (codes "P"); a2 = arg.Unused; a3 = arg.Unused; a4 = arg.Unused; a5 = arg.Unused; a6 = arg.Unused; a7 = arg.Unused; a8 = arg.Unused }

-- each local statement, and a call
abbrev pub example_stmts : List Stmt
example_stmts =
    stmt.Let (target.Var 65) (Num 1)
    ∷ stmt.If (Var 65) Ne (Cond WasSet) 1
    ∷ stmt.Add (target.Var 66) (Var 65) Prm
    ∷ stmt.Sub target.R0 (Var 66) Pid
    ∷ stmt.Put 31 (codes "HI")
    ∷ stmt.Byte (target.Var 67) 31 (Var 65)
    ∷ stmt.Iosb (target.Var 68) 32 Count
    ∷ stmt.Service (record { service = CrePrc; args = creates })
    ∷ stmt.Goto 0
    ∷ stmt.Return
    ∷ []

-- the first statement is TOP, and the image's end is LAST
abbrev pub example_image : Image
example_image = record { name = codes "MAIN"; labels = record { name = codes "TOP"; place = 0 } ∷ record { name = codes "LAST"; place = 10 } ∷ []; stmts = example_stmts }

-- a process that is there from the start, with no privilege, and one that is made later, with all
abbrev pub example_decls : List ProcDecl
example_decls =
    record {
      name = codes "FIRST";
      image = 0;
      group = 16382;
      member = 0;
      mode = User;
      limits = record { ast = 24; bio = 18; dio = 19; byt = 8192; tqe = 10 };
      privs = record { cmexec = false; cmkrnl = false; group = false; prmceb = false; prmmbx = false; world = false };
      start = true;
    }
    ∷ record {
      name = codes "P";
      image = 0;
      group = 1;
      member = 65534;
      mode = Exec;
      limits = record { ast = 0; bio = 1; dio = 2; byt = 3; tqe = 1000000 };
      privs = record { cmexec = true; cmkrnl = true; group = true; prmceb = true; prmmbx = true; world = true };
      start = false;
    }
    ∷ []

abbrev pub example : System
example = record { units = example_units; images = example_image ∷ []; decls = example_decls }

-- its text
abbrev pub example_text : List ℕ
example_text = codes "UNIT TT LINE\nINPUT TT \"HI\"\nINPUT TT \"\\22\\0A\"\nUNIT DK BLOCK 8\nFAULT DK 2\nFAULT DK 5\nIMAGE MAIN\nTOP:\n  LET A = 1\n  IF A NE SS$_WASSET GOTO LAST\n  LET B = A + PRM\n  LET R0 = B - PID\n  PUT 31 \"HI\"\n  BYTE C 31 A\n  IOSB D 32 COUNT\n  $CREPRC A,P\n  GOTO TOP\n  RETURN\nLAST:\nEND\nPROCESS FIRST MAIN UIC=16382:0 MODE=USER ASTLM=24 BIOLM=18 DIOLM=19 BYTLM=8192 TQELM=10 PRIV=NONE START=1\nPROCESS P MAIN UIC=1:65534 MODE=EXEC ASTLM=0 BIOLM=1 DIOLM=2 BYTLM=3 TQELM=1000000 PRIV=CMEXEC+CMKRNL+GROUP+PRMCEB+PRMMBX+WORLD START=0\n"

-- The law speaks of the example: its canonical script is the text, which is spelled as the example.
pub record IsExample : Type 0 where
  pub text : script example ≡ example_text
  pub well_formed : IsWellFormed example
  pub held : IsHeldSystem example
  pub read : Spells example_text example
