use Rattle.std.proofs.Common.{List, Option, Some, ap, map, slice_set, sym, ◌∙◌, ℕ}
use Rattle.std.proofs.lemmas.List.{map-set}
use Rattle.vx_timers.specs.Places.{time_of}
use Rattle.vx_timers.proofs.places.put_in.Goals as goal

pub returns-clause-times : goal.returns-clause-times
returns-clause-times g c =
    let items = c.args.places.now.items in
    let at = c.args.at in
    c.set.ensures ∙ (ap (λ (xs : List (Option ℕ)). slice_set xs at (Some c.due.result)) c.requires.times ∙ (ap (λ (n : ℕ). slice_set (map time_of items) at (Some n)) c.due.ensures ∙ sym (map-set time_of items at (Some c.args.due))))
