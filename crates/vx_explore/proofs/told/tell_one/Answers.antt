use Rattle.std.proofs.Common.{◌≡◌, true, sym, ◌∙◌}
use Rattle.vx_explore.specs.Alike.{stops}
use Rattle.vx_explore.proofs.told.tell_one.Goals as goal

pub returns-then-is_stop : goal.returns-then-is_stop
returns-then-is_stop g c =
    let yes : stops g.M.Machine.enabled c.args.last c.args.there.now.what ≡ true = sym c.is_stop.ensures ∙ c.if-is_stop.true in
    rw (yes, ← c.in_ok-ending.ensures) c.tell.ensures
