use Rattle.std.proofs.Common.{◌≡◌, ap, is_some, length, rules, ◌∙◌}
use Rattle.std.specs.List.{filter}
use Rattle.std.proofs.lemmas.List.Elements.{filter_from_retain}
use Rattle.vx_timers.specs.Places.{entries}
use Rattle.vx_timers.proofs.Entries.{entries_filter, length_filter}
use Rattle.vx_timers.proofs.places.keep_entries.Goals as goal

pub returns-clause-same : goal.returns-clause-same
returns-clause-same g c =
    let kept : c.retain.new.self.items ≡ filter is_some c.args.places.now.items = filter_from_retain _ is_some (λ p x b q h. search rules) _ _ _ c.retain.ensures.filtered in
    ap entries kept ∙ entries_filter c.args.places.now.items

pub returns-clause-full : goal.returns-clause-full
returns-clause-full g c =
    let kept : c.retain.new.self.items ≡ filter is_some c.args.places.now.items = filter_from_retain _ is_some (λ p x b q h. search rules) _ _ _ c.retain.ensures.filtered in
    ap length kept ∙ length_filter c.args.places.now.items
