use Rattle.std.proofs.Common.{◌≡◌, List, None, Option, Some, ap, arith, position, slice_set, sym, ◌∙◌}
use Rattle.std.proofs.lemmas.Bool.{leb-true}
use Rattle.std.proofs.lemmas.List.{set-set}
use Rattle.vx_base.specs.Lists.{amend, is_some_and}
use Rattle.vx_record.specs.Types.{Timer}
use Rattle.vx_record.specs.Timers.{due_again, is_due}
use Rattle.vx_timers.specs.Places.{entries}
use Rattle.vx_timers.proofs.Entries.{first_at, nowhere}
use Rattle.vx_timers.proofs.Kept.{kept_changed, seen_changed, seen_same}
use Rattle.vx_timers.proofs.timers.Timers.put_off.Goals as goal

pub put_off-requires : goal.put_off-requires
put_off-requires g c =
    let p = is_due c.args.now in
    let at = first_at p c.self.inside.places.items c.in-Some.place (sym c.in-Some.is ∙ (c.first_place.ensures.place ∙ ap (position (is_some_and p)) c.as_slice.ensures.value)) in
    let found : Some c.in-Some-take_out.due ≡ Some at.0 = sym c.in-Some-take_out.is ∙ (c.take_out.ensures.before ∙ at.1) in
    let same : c.in-Some-take_out.due ≡ at.0 = cc in
    omega (arith, ap (λ (t : Timer). t.due) same, leb-true at.0.due c.args.now at.2, c.requires)

pub invariant_of-self-in-Some-take_out : goal.invariant_of-self-in-Some-take_out
invariant_of-self-in-Some-take_out g c =
    let p = is_due c.args.now in
    let places = c.self.inside.places.items in
    let i = c.in-Some.place in
    let at = first_at p places i (sym c.in-Some.is ∙ (c.first_place.ensures.place ∙ ap (position (is_some_and p)) c.as_slice.ensures.value)) in
    let u = c.put_off.new.self in
    let after = c.put_in.ensures.places ∙ (ap (λ (xs : List (Option Timer)). slice_set xs i (Some u)) c.take_out.ensures.places ∙ set-set places i None (Some u)) in
    kept_changed places c.put_in.new.places.items c.self.inside.times c.put_in.new.times _ _ _ i at.0 u c.self.invariant at.1 after c.put_in.ensures.times

pub returns-in-None : goal.returns-in-None
returns-in-None g c =
    let p = is_due c.args.now in
    let f = due_again c.args.ticks in
    let none = nowhere p c.self.inside.places.items (sym c.in-None.is ∙ (c.first_place.ensures.place ∙ ap (position (is_some_and p)) c.as_slice.ensures.value)) in
    seen_same (amend p f) c.self.inside.places.items c.self.inside.room c.args.self.now c.self.view_is (none.changed f)

pub returns-in-None-take_out : goal.returns-in-None-take_out
returns-in-None-take_out g c =
    let p = is_due c.args.now in
    let at = first_at p c.self.inside.places.items c.in-Some.place (sym c.in-Some.is ∙ (c.first_place.ensures.place ∙ ap (position (is_some_and p)) c.as_slice.ensures.value)) in
    let never : None ≡ Some at.0 = sym c.in-None-take_out.is ∙ (c.take_out.ensures.before ∙ at.1) in
    absurd (cc)

pub returns-in-Some-take_out : goal.returns-in-Some-take_out
returns-in-Some-take_out g c =
    let p = is_due c.args.now in
    let f = due_again c.args.ticks in
    let places = c.self.inside.places.items in
    let i = c.in-Some.place in
    let at = first_at p places i (sym c.in-Some.is ∙ (c.first_place.ensures.place ∙ ap (position (is_some_and p)) c.as_slice.ensures.value)) in
    let found : Some c.in-Some-take_out.due ≡ Some at.0 = sym c.in-Some-take_out.is ∙ (c.take_out.ensures.before ∙ at.1) in
    let same : c.in-Some-take_out.due ≡ at.0 = cc in
    let u = c.put_off.new.self in
    let after = c.put_in.ensures.places ∙ (ap (λ (xs : List (Option Timer)). slice_set xs i (Some u)) c.take_out.ensures.places ∙ set-set places i None (Some u)) in
    let changed = ap (λ (t : Timer). entries (slice_set places i (Some t))) (c.put_off.ensures ∙ ap f same) in
    seen_changed (amend p f) places c.put_in.new.places.items c.self.inside.room c.args.self.now c.self.view_is (ap entries after ∙ (changed ∙ at.3.changed f))
