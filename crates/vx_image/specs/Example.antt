-- Worked examples of local statements, on a small store.
use Rattle.std.specs.Prelude.{◌≡◌, ℕ, List, [], ◌∷◌}
use Rattle.vx_base.specs.declared.call.Operand.TheVariants as operand
use Rattle.vx_base.specs.declared.call.Target.TheVariants as target
use Rattle.vx_image.specs.Local.{Reader, run_local, stopped}
use Rattle.vx_image.specs.Storage.{Storage}
use Rattle.vx_image.specs.declared.image.Image.{Image}
use Rattle.vx_image.specs.declared.stmt.Stmt.{Stmt}
use Rattle.vx_image.specs.declared.stmt.Stmt.TheVariants as stmt
use Rattle.vx_image.specs.declared.stop.Stop.TheVariants as stop

-- variables A and B, and a buffer of two bytes
abbrev pub storing : List ℕ → Storage
storing vars = record { vars = vars; r0 = 0; buffers = (72 ∷ 73 ∷ []) ∷ []; statuses = [] }

-- an image of these statements, with a label at its start
abbrev pub image_of : List Stmt → Image
image_of stmts = record { name = 65 ∷ []; labels = record { name = 76 ∷ []; place = 0 } ∷ []; stmts = stmts }

-- process 1, with the parameter 3
abbrev pub someone : Reader
someone = record { prm = 3; p = record { 0 = 1 } }

-- ADD A A 2 and SUB B 0 PID, and then nothing
abbrev pub Wraps : Type 0
Wraps =
    run_local 1000 (image_of (stmt.Add (target.Var 65) (operand.Var 65) (operand.Num 2) ∷ stmt.Sub (target.Var 66) (operand.Num 0) operand.Pid ∷ [])) someone (storing (4294967295 ∷ 0 ∷ [])) 0
    ≡ stopped (storing (1 ∷ 4294967295 ∷ [])) 2 stop.End

-- GOTO the label at its own place
abbrev pub GoesRound : Type 0
GoesRound = (n : ℕ) (store : Storage) → run_local n (image_of (stmt.Goto 0 ∷ [])) someone store 0 ≡ stopped store 0 stop.Local

-- BYTE A 0 1 and BYTE B 0 2, and then RETURN
abbrev pub ReadsPast : Type 0
ReadsPast =
    run_local 1000 (image_of (stmt.Byte (target.Var 65) 0 (operand.Num 1) ∷ stmt.Byte (target.Var 66) 0 (operand.Num 2) ∷ stmt.Return ∷ [])) someone (storing (5 ∷ 5 ∷ [])) 0
    ≡ stopped (storing (73 ∷ 0 ∷ [])) 2 stop.Return
