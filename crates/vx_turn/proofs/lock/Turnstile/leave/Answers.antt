use Rattle.std.proofs.Common.{rules, ap, sym, ◌∙◌, ◌++◌, ◌∷◌, ℕ, List, Option, Some}
use Rattle.atomic_table.specs.Table.{Me, rest}
use Rattle.vx_turn.specs.declared.view.View.{View}
use Rattle.vx_turn.proofs.Keeps.{passes_as}
use Rattle.vx_turn.proofs.lock.Turnstile.leave.Goals as goal

pub fetch_add-requires : goal.fetch_add-requires
fetch_add-requires g c =
    let now = c.exchange-hole.ensures.3 in
    let es = c.requires.longer in (
      search rules,
      search rules,
      passes_as g.T.Kept.history _ _ _ c.requires.inside.ticket _ c.args.value es.0
          (ap (λ (m : Me (Option g.row.T.Denot) (View g.row.E.Denot)). m.1) now ∙ ap (λ (l : List (ℕ × Option g.row.T.Denot)). (0, Some c.args.value) ∷ rest l) c.requires.inside.holds)
          (ap (λ (m : Me (Option g.row.T.Denot) (View g.row.E.Denot)). m.0.stage) now ∙ c.requires.inside.stage)
          (es.1 ∙ ap (λ (m : Me (Option g.row.T.Denot) (View g.row.E.Denot)). m.0.seen ++ es.0) (sym now)),
    )
