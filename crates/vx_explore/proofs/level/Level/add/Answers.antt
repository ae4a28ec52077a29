use Rattle.std.proofs.Common.{◌<◌, length}
use Rattle.vx_explore.specs.Index.{whats}
use Rattle.vx_explore.proofs.Adding.{AreMore-push, AreMore-same}
use Rattle.vx_explore.proofs.Finding.{Like-counted, map-counted}
use Rattle.vx_explore.proofs.Indexed.{Contains-whats}
use Rattle.vx_explore.proofs.level.Level.add.Goals as goal

pub invariant_of-self : goal.invariant_of-self
invariant_of-self g c =
    let xs = c.self.inside.reached.items in
    let there = c.at_mut-there.result.now in
    let within : c.in-Some.i < length c.self.inside.reached.items = rw c.self.view_is c.in-Some.ensures.0 in
    let read = c.at_mut-there.ensures.value in
    record {
      index = rw (map-counted g.M.Machine.digest_of xs c.in-Some.i there c.saturating_add-there.result within read) c.self.invariant.index;
      different = rw (map-counted (λ s. s) xs c.in-Some.i there c.saturating_add-there.result within read) c.self.invariant.different;
    }

pub returns-in-Some-clause-like : goal.returns-in-Some-clause-like
returns-in-Some-clause-like g c =
    let there = c.at_mut-there.result.now in
    let is_there = c.in-Some.ensures in
    rw (← c.self.view_is)
    (Like-counted _ (record { what = g.M.Machine.state_of c.args.machine.now; ways = c.args.ways; picks = _ })
    c.self.inside.reached.items c.in-Some.i there _ (rw c.self.view_is is_there.0) c.at_mut-there.ensures.value
    (rw c.self.view_is (is_there.1 there)) c.saturating_add-there.ensures)

pub returns-in-Some-clause-states : goal.returns-in-Some-clause-states
returns-in-Some-clause-states g c =
    let xs = c.self.inside.reached.items in
    let there = c.at_mut-there.result.now in
    let is_there = c.in-Some.ensures in
    rw (map-counted (λ s. s) xs c.in-Some.i there c.saturating_add-there.result (rw c.self.view_is is_there.0) c.at_mut-there.ensures.value, c.self.view_is)
    (AreMore-same (whats c.args.self.now) _ (Contains-whats c.args.self.now c.in-Some.i _ is_there.0 is_there.1))

pub returns-in_ok-push-in-None-clause-states : goal.returns-in_ok-push-in-None-clause-states
returns-in_ok-push-in-None-clause-states g c = rw (c.in_ok-push-in-None.ensures.ok, ← c.in_ok-what-in-None.ensures) (AreMore-push c.args.self.now _)
