use Rattle.std.proofs.Common.{List, [], ◌++◌, ◌∷◌, ap, arith, length, sym, ◌∙◌}
use Rattle.vx_record.specs.Types.{Timer}
use Rattle.vx_timers.specs.Places.{entries}
use Rattle.vx_timers.proofs.Entries.{entries_put}
use Rattle.vx_timers.proofs.Kept.{kept_put, seen_changed}
use Rattle.vx_timers.proofs.timers.Timers.put.Goals as goal

pub invariant_of-self : goal.invariant_of-self
invariant_of-self g c =
    let made = c.free_place-place.ensures in
    kept_put c.free_place-place.new.places.items c.put_in.new.places.items c.put_in.new.times c.self.inside.count c.self.inside.room c.free_place-place.result c.args.due
    (c.self.invariant.counted ∙ ap length (sym made.same)) (omega (arith, c.self.invariant.wide, made.len)) made.within made.free c.put_in.ensures.places c.put_in.ensures.times

pub returns : goal.returns
returns g c =
    let made = c.free_place-place.ensures in
    seen_changed (λ (ts : List Timer). ts ++ c.args.due ∷ []) c.self.inside.places.items c.put_in.new.places.items c.self.inside.room c.args.self.now c.self.view_is
    (ap entries c.put_in.ensures.places ∙ (entries_put c.free_place-place.new.places.items c.free_place-place.result c.args.due made.within made.free ∙ ap (λ (ts : List Timer). ts ++ c.args.due ∷ []) made.same))
