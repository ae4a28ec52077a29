use Rattle.std.proofs.Common.{nat_eq, ap, sym, ◌∙◌}
use Rattle.std.specs.Prelude.{option_map}
use Rattle.std.specs.HashMap.{get}
use Rattle.vx_laws.specs.Items.{called_in}
use Rattle.vx_laws.specs.Lives.{life, new_life}
use Rattle.vx_judge.specs.Places.{past_in}
use Rattle.vx_judge.specs.Owing.{owed, owed_by}
use Rattle.vx_judge.proofs.Tables.{opened_on}
use Rattle.vx_judge.proofs.Passes.{latest_in}
use Rattle.vx_judge.proofs.debts.Debts.pass_effect.Goals as goal

pub returns-in_ok-insert-in-Open : goal.returns-in_ok-insert-in-Open
returns-in_ok-insert-in-Open c = λ past are i.
    let here = past_in past c.args.rec.now c.args.earlier.now in
    rw c.in-Open.is (opened_on owed_by (nat_eq c.in-Open.id.0 i.0) (get nat_eq c.insert.new.self i.0) (get nat_eq c.args.self.now.map i.0) c.owed_in.result (new_life here c.in-Open.kind c.in-Open.p c.in-Open.mode c.in-Open.n) (life here i)
    (c.in_ok-insert-in-Open.ensures.updates.0 i.0)
    (c.owed_in.ensures ∙ ap (λ h. option_map owed (called_in h)) (sym (latest_in past c.args.rec.now c.args.earlier.now)))
    (are i))
