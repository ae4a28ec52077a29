use Rattle.std.proofs.Common.{List, sym, subst, ◌∙◌}
use Rattle.vx_record.specs.Types.{Rec}
use Rattle.vx_carrier.specs.Desk.{HasRun}
use Rattle.vx_carrier.proofs.desk.Desk.into_parts.Goals as goal

pub returns-clause-run : goal.returns-clause-run
returns-clause-run g c =
    subst (λ (rs : List Rec). HasRun g.J.Naming.plan (record { leasing = c.self.inside.exec; recs = rs })) (sym (c.from_vec.ensures ∙ c.into_vec.ensures)) c.self.invariant.run
