use Rattle.std.proofs.Common.{None, arith, ap, length, refl, ◌∙◌}
use Rattle.std.proofs.lemmas.List.{get_or_past, length_push}
use Rattle.vx_timers.specs.Places.{entries}
use Rattle.vx_timers.proofs.Entries.{entries_push, free_push}
use Rattle.vx_timers.proofs.places.fill_up.Goals as goal

pub loop-places-init : goal.loop-places-init
loop-places-init g c = record {
  same = refl;
  free = λ k h. get_or_past c.args.places.now.items k None h;
  within = c.requires.there;
  room = c.requires.room;
}

pub loop-places-preserved : goal.loop-places-preserved
loop-places-preserved g c =
    let items = c.loop-places.places.items in
    let old = c.args.places.now.items in
    let pushed = c.push_reserved.ensures.items in
    record {
      same = ap entries pushed ∙ (entries_push items ∙ c.loop-places.invariant.same);
      free = rw pushed (free_push (length old) items c.loop-places.invariant.free);
      within = omega (arith, ap length pushed, length_push items None, c.loop-places-test.true, c.len.ensures, c.loop-places.places.ok.0);
      room = omega (arith, c.push_reserved.ensures.capacity, c.loop-places.invariant.room);
    }
