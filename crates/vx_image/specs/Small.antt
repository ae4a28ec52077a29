-- Statements in their small form: a head with its kind, and terms in a list that all share.
use Rattle.std.specs.Prelude.{List, map}
use Rattle.std.specs.List.{AllByRecursion}
use Rattle.vx_base.specs.Services.{number, place}
use Rattle.vx_base.specs.declared.call.Arg.{Arg}
use Rattle.vx_base.specs.declared.call.Args.{Args}
use Rattle.vx_base.specs.declared.call.Operand.{Operand}
use Rattle.vx_base.specs.declared.call.Arg.TheVariants as arg
use Rattle.vx_base.specs.declared.call.Operand.TheVariants as operand
use Rattle.vx_base.specs.declared.call.Target.TheVariants as target
use Rattle.vx_image.specs.Packed.{piece, IsWithin}
use Rattle.vx_image.specs.Terms.{Term, arg_in, text_in}
use Rattle.vx_image.specs.declared.stmt.Stmt.{Stmt}
use Rattle.vx_image.specs.declared.stmt.Stmt.TheVariants as stmt
use Rattle.vx_image.specs.declared.stmts.Head.{Head}
use Rattle.vx_image.specs.declared.stmts.Kind.{Kind}
use Rattle.vx_image.specs.declared.stmts.Kind.TheVariants as kind

abbrev pub operand_of : Arg → Operand
operand_of (arg.Value x) = x
operand_of _ = operand.R0

-- the arguments of a call, and none past the last term
abbrev pub args_in : List Term → Args
args_in terms = record {
  a0 = arg_in terms 0;
  a1 = arg_in terms 1;
  a2 = arg_in terms 2;
  a3 = arg_in terms 3;
  a4 = arg_in terms 4;
  a5 = arg_in terms 5;
  a6 = arg_in terms 6;
  a7 = arg_in terms 7;
  a8 = arg_in terms 8;
}

-- the statement of a kind with these terms
abbrev pub stmt_by : Kind → List Term → Stmt
stmt_by kind.Let terms = stmt.Let (place (arg_in terms 0)) (operand_of (arg_in terms 1))
stmt_by kind.Add terms = stmt.Add (place (arg_in terms 0)) (operand_of (arg_in terms 1)) (operand_of (arg_in terms 2))
stmt_by kind.Sub terms = stmt.Sub (place (arg_in terms 0)) (operand_of (arg_in terms 1)) (operand_of (arg_in terms 2))
stmt_by kind.Goto terms = stmt.Goto (number (arg_in terms 0))
stmt_by (kind.If r) terms = stmt.If (operand_of (arg_in terms 0)) r (operand_of (arg_in terms 1)) (number (arg_in terms 2))
stmt_by (kind.Put b) terms = stmt.Put b (text_in terms 0)
stmt_by (kind.Byte b) terms = stmt.Byte (place (arg_in terms 0)) b (operand_of (arg_in terms 1))
stmt_by (kind.Iosb i f) terms = stmt.Iosb (place (arg_in terms 0)) i f
stmt_by kind.Return terms = stmt.Return
stmt_by (kind.Service s) terms = stmt.Service (record { service = s; args = args_in terms })

-- the terms of a statement
abbrev pub own : List Term → Head → List Term
own terms h = piece h.start h.count terms

abbrev pub stmts_in : List Term → List Head → List Stmt
stmts_in terms heads = map (λ h. stmt_by h.kind (own terms h)) heads

-- the terms of each statement are there
abbrev pub HaveTerms : List Term → List Head → Type 0
HaveTerms terms heads = AllByRecursion (λ h. IsWithin h.start h.count terms) heads
