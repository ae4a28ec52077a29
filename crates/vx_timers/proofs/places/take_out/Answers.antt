use Rattle.std.proofs.Common.{List, None, Option, ap, map, slice_set, sym, ◌∙◌, ℕ}
use Rattle.std.proofs.lemmas.List.{map-set}
use Rattle.vx_record.specs.Types.{Timer}
use Rattle.vx_timers.specs.Places.{time_of}
use Rattle.vx_timers.proofs.places.take_out.Goals as goal

pub returns-clause-times : goal.returns-clause-times
returns-clause-times g c =
    let items = c.args.places.now.items in
    let at = c.args.at in
    c.set.ensures ∙ (ap (λ (xs : List (Option ℕ)). slice_set xs at None) c.requires.times ∙ (sym (map-set time_of items at None) ∙ ap (λ (o : Option Timer). map time_of (slice_set items at o)) (sym c.take.ensures.after)))
