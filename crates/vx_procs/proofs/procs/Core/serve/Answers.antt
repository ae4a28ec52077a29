use Rattle.std.proofs.Common.{◌≡◌, subst, sym, ◌∙◌}
use Rattle.vx_base.specs.Queues.{is_served_by}
use Rattle.vx_base.specs.Lists.{tally}
use Rattle.vx_procs.specs.Kernel.{Kernel}
use Rattle.vx_procs.proofs.Leased.{read_asked, read_in}
use Rattle.vx_procs.proofs.Requested.{free_serving, held_unit, served_as, unit_within}
use Rattle.vx_procs.proofs.procs.Core.serve.Goals as goal

pub finish-reply-requires-clause-asked : goal.finish-reply-requires-clause-asked
finish-reply-requires-clause-asked g c =
    let k = c.args.self.now in
    read_asked c.self.inside k c.args.u c.index_mut.result.now c.self.view_is (unit_within c.self.inside k c.args.u c.self.view_is c.requires.unit) c.index_mut.ensures.value ∙ c.requires.asked

pub finish-reply-requires-clause-home : goal.finish-reply-requires-clause-home
finish-reply-requires-clause-home g c =
    let k = c.args.self.now in
    read_in c.self.inside k c.args.u c.index_mut.result.now c.self.view_is (unit_within c.self.inside k c.args.u c.self.view_is c.requires.unit) c.index_mut.ensures.value c.requires.home

pub invariant_of-self : goal.invariant_of-self
invariant_of-self g c =
    let k = c.args.self.now in
    let free = subst (λ (x : Kernel). tally (is_served_by c.args.u) x.state.requests ≡ 0) (sym c.self.view_is) c.requires.free in
    held_unit c.self.inside c.args.u c.finish-reply.new.self c.finish-reply.result.1 (unit_within c.self.inside k c.args.u c.self.view_is c.requires.unit) (free_serving c.args.u c.self.inside.requests.items _ free) c.self.invariant

pub returns-clause-after : goal.returns-clause-after
returns-clause-after g c =
    let k = c.args.self.now in
    served_as c.self.inside k c.args.u c.args.req.now c.index_mut.result.now c.finish-reply.new.self c.finish-reply.result.1 c.self.view_is (unit_within c.self.inside k c.args.u c.self.view_is c.requires.unit) c.index_mut.ensures.value c.finish-reply.ensures.log c.finish-reply.ensures.after
