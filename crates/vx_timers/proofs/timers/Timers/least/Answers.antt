use Rattle.std.proofs.Common.{ap, option_map, ◌∙◌}
use Rattle.vx_record.specs.Types.{Timer}
use Rattle.vx_base.specs.Queues.{least_due}
use Rattle.vx_base.specs.Roomy.{Roomy}
use Rattle.vx_timers.specs.Rounds.{least_of}
use Rattle.vx_timers.proofs.Entries.{least_time}
use Rattle.vx_timers.proofs.timers.Timers.least.Goals as goal

pub returns : goal.returns
returns g c = c.least.ensures ∙ (ap least_of c.self.invariant.timed ∙ (least_time c.self.inside.places.items ∙ ap (λ (x : Roomy Timer). option_map (λ t. t.due) (least_due x.items)) c.self.view_is))
