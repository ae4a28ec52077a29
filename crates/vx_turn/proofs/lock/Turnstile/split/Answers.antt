use Rattle.std.proofs.Common.{rules, ap, Option}
use Rattle.atomic_table.specs.Table.{Me}
use Rattle.vx_turn.specs.declared.view.View.{View}
use Rattle.vx_turn.proofs.Keeps.{splits}
use Rattle.vx_turn.proofs.lock.Turnstile.split.Goals as goal

pub split_seat-requires : goal.split_seat-requires
split_seat-requires g c = (search rules, search rules, splits g.T.Kept.history _ _ _ (ap (λ (m : Me (Option g.row.T.Denot) (View g.row.E.Denot)). m.0.stage) c.requires.some.1) c.requires.some.0)
