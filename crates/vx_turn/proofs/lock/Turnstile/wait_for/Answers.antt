use Rattle.std.proofs.Common.{rules, ap, ◌∙◌, Option}
use Rattle.atomic_table.specs.Table.{Me}
use Rattle.vx_turn.specs.declared.view.View.{View}
use Rattle.vx_turn.proofs.lock.Turnstile.wait_for.Goals as goal

pub returns-then-look-clause-inside : goal.returns-then-look-clause-inside
returns-then-look-clause-inside g c =
    let e = c.if-look.ensures.looked in
    let left = c.take_out.ensures.left in
    let view = ap (λ (m : Me (Option g.row.T.Denot) (View g.row.E.Denot)). m.0) left in record {
      table = search rules;
      holds = ap (λ (m : Me (Option g.row.T.Denot) (View g.row.E.Denot)). m.1) left;
      ticket = c.args.ticket;
      part = search rules;
      stage = ap (λ (m : Me (Option g.row.T.Denot) (View g.row.E.Denot)). m.0.stage) left ∙ ap (λ (v : View g.row.E.Denot). v.stage) e.2;
    }
