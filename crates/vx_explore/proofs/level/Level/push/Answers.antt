use Rattle.vx_explore.proofs.Indexed.{IsLevel-push}
use Rattle.vx_explore.proofs.level.Level.push.Goals as goal

pub invariant_of-self-2 : goal.invariant_of-self-2
invariant_of-self-2 g c =
    let inserted = c.in_ok-before.ensures in
    rw (c.put-2.ensures, c.put.ensures, c.reserve.ensures.items, c.reserve-2.ensures.items)
    (IsLevel-push g.M.Machine.digest_of c.self.inside.reached.items c.args.found c.self.inside.older.items _ _
    c.args.digest c.len.result c.in_ok-before.before c.self.invariant (rw c.self.view_is c.requires.new)
    c.requires.digest (rw c.reserve.ensures.items at c.len.ensures) inserted.old inserted.updates.0)
