-- What the program's types hold, so that every value of them has it: names, numbers of 32 bits, and bytes.
use Rattle.std.specs.Prelude.{IsTrue}
use Rattle.std.specs.List.{AllByRecursion}
use Rattle.vx_base.specs.Name.{is_name}
use Rattle.vx_base.specs.Services.{args_list}
use Rattle.vx_image.specs.declared.decl.ProcDecl.{ProcDecl}
use Rattle.vx_image.specs.declared.image.Image.{Image}
use Rattle.vx_image.specs.declared.image.Label.{Label}
use Rattle.vx_image.specs.declared.stmt.Stmt.{Stmt}
use Rattle.vx_image.specs.declared.stmt.Stmt.TheVariants as stmt
use Rattle.vx_image.specs.declared.system.System.{System}
use Rattle.vx_image.specs.declared.unit.UnitDecl.{UnitDecl}
use Rattle.vx_text.specs.Quote.{AreBytes}
use Rattle.vx_table.specs.Back.{IsHeldOperand, AreHeld}

-- a unit: its name, and the bytes of the lines that it reads
abbrev pub IsHeldUnit : UnitDecl → Type 0
IsHeldUnit u = IsTrue (is_name u.name) × AllByRecursion AreBytes u.inputs

-- a statement: its numbers, names and bytes
abbrev pub IsHeldStmt : Stmt → Type 0
IsHeldStmt (stmt.Let t x) = IsHeldOperand x
IsHeldStmt (stmt.Add t x y) = IsHeldOperand x × IsHeldOperand y
IsHeldStmt (stmt.Sub t x y) = IsHeldOperand x × IsHeldOperand y
IsHeldStmt (stmt.If x r y k) = IsHeldOperand x × IsHeldOperand y
IsHeldStmt (stmt.Put b bytes) = AreBytes bytes
IsHeldStmt (stmt.Byte t b x) = IsHeldOperand x
IsHeldStmt (stmt.Service c) = AreHeld (args_list c.args)
IsHeldStmt _ = Unit {0}

-- a label: its name
abbrev pub IsHeldLabelOf : Label → Type 0
IsHeldLabelOf l = IsTrue (is_name l.name)

-- an image: its name, its labels and its statements
abbrev pub IsHeldImage : Image → Type 0
IsHeldImage i = IsTrue (is_name i.name) × AllByRecursion IsHeldLabelOf i.labels × AllByRecursion IsHeldStmt i.stmts

-- a process declaration: its name
abbrev pub IsHeldDecl : ProcDecl → Type 0
IsHeldDecl d = IsTrue (is_name d.name)

-- Each unit, image and process declaration. The numbers of these that are not named here have limits if the system is well formed.
pub record IsHeldSystem (s : System) : Type 0 where
  pub units : AllByRecursion IsHeldUnit s.units
  pub images : AllByRecursion IsHeldImage s.images
  pub decls : AllByRecursion IsHeldDecl s.decls
