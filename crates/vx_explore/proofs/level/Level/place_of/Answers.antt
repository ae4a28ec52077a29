use Rattle.std.proofs.Common.{◌≡◌, ◌∙◌, None, ap, get_or}
use Rattle.std.proofs.lemmas.Bool.{both_ways}
use Rattle.vx_explore.proofs.Indexed.{All-whats, Seeks-start, Seeks-step}
use Rattle.vx_explore.proofs.level.Level.place_of.Goals as goal

pub loop-next-init : goal.loop-next-init
loop-next-init g c =
    rw c.as_slice-reached.ensures
    (Seeks-start g.M.Machine.digest_of c.self.inside.reached.items (g.M.Machine.state_of c.args.machine.now) _ _ c.self.invariant.index
    c.args.digest c.copied-next.result c.requires.digest (c.copied-next.ensures ∙ c.get.ensures.value))

pub same-requires : goal.same-requires
same-requires g c = let m = g.M.Machine in
    let here = rw c.in-Some.is at c.loop-next.invariant in
    All-whats (λ t. m.origin t ≡ m.origin (m.state_of c.args.machine.now)) c.as_slice-reached.result.now c.in-Some.i _ here.found.0
    (rw (c.as_slice-reached.ensures, c.self.view_is) c.requires.alike)

pub loop-next-smaller : goal.loop-next-smaller
loop-next-smaller g c = let m = g.M.Machine in
    rw c.in-Some.is (Seeks-step m.digest_of c.self.inside.reached.items (m.state_of c.args.machine.now) _ _ c.self.invariant.index
    c.in-Some.i c.index-reached-i.result (rw (c.in-Some.is, c.as_slice-reached.ensures) at c.loop-next.invariant)
    (λ e. both_ways c.same.result c.if-same.false (c.same.ensures.1 (rw c.as_slice-reached.ensures e)))
    _ (ap (λ xs. get_or xs c.in-Some.i None) c.as_slice-older.ensures)).1

pub loop-next-preserved : goal.loop-next-preserved
loop-next-preserved g c = let m = g.M.Machine in
    rw c.as_slice-reached.ensures
    (Seeks-step m.digest_of c.self.inside.reached.items (m.state_of c.args.machine.now) _ _ c.self.invariant.index
    c.in-Some.i c.index-reached-i.result (rw (c.in-Some.is, c.as_slice-reached.ensures) at c.loop-next.invariant)
    (λ e. both_ways c.same.result c.if-same.false (c.same.ensures.1 (rw c.as_slice-reached.ensures e)))
    _ (ap (λ xs. get_or xs c.in-Some.i None) c.as_slice-older.ensures)).0
