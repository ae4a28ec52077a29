use Rattle.std.proofs.Common.{arith, sym}
use Rattle.vx_record.specs.Charges.{is_charged}
use Rattle.vx_record.specs.Rundown.{is_ast_reached}
use Rattle.vx_procs.proofs.Booked.{tally-less}
use Rattle.vx_procs.proofs.Ops.{within_by}
use Rattle.vx_procs.proofs.process.Proc.drop_ast.Goals as goal

pub release-requires : goal.release-requires
release-requires g c =
    let counted = tally-less is_charged (is_ast_reached c.args.mode) c.args.self.now.asts.items c.in_ok-delivery.delivery (sym c.in_ok-delivery.ensures.found) in
    rw (c.ast_need.ensures, c.is_charged.ensures) (within_by c.in_ok-delivery.delivery c.args.self.now.account.used (omega (arith, c.requires, counted)))
