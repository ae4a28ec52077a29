use Rattle.std.proofs.Common.{Option, arith, sym, ap, ◌∙◌}
use Rattle.vx_record.specs.Types.{Queued}
use Rattle.vx_ast.specs.Queue.{less_first_like}
use Rattle.vx_record.specs.Charges.{is_charged}
use Rattle.vx_procs.specs.View.{process}
use Rattle.vx_procs.specs.Words.{deliverable_of}
use Rattle.vx_procs.proofs.Booked.{tally-less}
use Rattle.vx_procs.proofs.Ops.{within_by}
use Rattle.vx_procs.proofs.Started.{deliverable_top, started_found, taken_started}
use Rattle.vx_procs.proofs.process.Proc.take.Goals as goal

pub release-requires : goal.release-requires
release-requires g c =
    let pr = process c.args.self.now in
    let q = c.in_ok-delivery.delivery in
    let e = deliverable_top pr c.in_ok-frame.frame.now c.active_ast_mode-active.result c.if-self.false c.in_ok-frame.ensures c.active_ast_mode-active.ensures.mode in
    let found = started_found pr q (sym (c.in_ok-delivery.ensures.found ∙ e)) in
    let counted = tally-less is_charged _ pr.asts q found.1 in
    rw (c.ast_need.ensures, c.is_charged.ensures) (within_by q c.args.self.now.account.used (omega (arith, c.requires.counts, counted)))

pub returns-clause-after : goal.returns-clause-after
returns-clause-after g c =
    let pr = process c.args.self.now in
    let frame = c.in_ok-frame.frame.now in
    let active = c.active_ast_mode-active.result in
    let e = deliverable_top pr frame active c.if-self.false c.in_ok-frame.ensures c.active_ast_mode-active.ensures.mode in
    rw c.take.ensures.after (ap (λ (r : Option Queued). record pr { asts = less_first_like r pr.asts }) e ∙ taken_started pr frame.mode active (deliverable_of pr) c.requires.ids e)
