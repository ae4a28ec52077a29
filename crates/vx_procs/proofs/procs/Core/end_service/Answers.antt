use Rattle.std.proofs.Common.{◌≡◌, Option, Some, false, length, ap, subst, sym, ◌<◌, ◌∙◌}
use Rattle.vx_record.specs.Types.{Req}
use Rattle.vx_units.specs.Leases.{is_out}
use Rattle.vx_procs.specs.Kernel.{Kernel, asked_for, stand_for}
use Rattle.vx_procs.specs.declared.requests.Finished.{Finished}
use Rattle.vx_procs.proofs.Requested.{serving, serving_after, serving_done, serving_ended, serving_free, serving_replied, serving_there}
use Rattle.vx_procs.proofs.procs.Core.end_service.Goals as goal

pub returns-in_err-done-clause-found : goal.returns-in_err-done-clause-found
returns-in_err-done-clause-found g c =
    let x = serving c.self.inside c.args.self.now c.args.u c.in_ok-id.id c.self.view_is c.self.invariant c.requires.order c.in_ok-id.ensures in
    absurd (serving_there c.args.self.now c.args.u c.in_ok-id.id x c.in_err-done.ensures.found)

pub returns-in_err-done-clause-log : goal.returns-in_err-done-clause-log
returns-in_err-done-clause-log g c =
    let x = serving c.self.inside c.args.self.now c.args.u c.in_ok-id.id c.self.view_is c.self.invariant c.requires.order c.in_ok-id.ensures in
    absurd (serving_there c.args.self.now c.args.u c.in_ok-id.id x c.in_err-done.ensures.found)

pub returns-in_err-done-clause-after : goal.returns-in_err-done-clause-after
returns-in_err-done-clause-after g c =
    let x = serving c.self.inside c.args.self.now c.args.u c.in_ok-id.id c.self.view_is c.self.invariant c.requires.order c.in_ok-id.ensures in
    absurd (serving_there c.args.self.now c.args.u c.in_ok-id.id x c.in_err-done.ensures.found)

pub serve-reply-requires-clause-unit : goal.serve-reply-requires-clause-unit
serve-reply-requires-clause-unit g c =
    let k = c.args.self.now in
    let x = serving c.self.inside k c.args.u c.in_ok-id.id c.self.view_is c.self.invariant c.requires.order c.in_ok-id.ensures in
    subst (λ (l : Kernel). c.args.u.0 < length l.state.units) (sym (serving_after k c.finish_request.new.self c.args.u c.in_ok-id.id x c.in_ok-done.ensures.after)) x.within

pub serve-reply-requires-clause-asked : goal.serve-reply-requires-clause-asked
serve-reply-requires-clause-asked g c =
    let k = c.args.self.now in
    let u = c.args.u in
    let x = serving c.self.inside k u c.in_ok-id.id c.self.view_is c.self.invariant c.requires.order c.in_ok-id.ensures in
    let done = c.in_ok-done.done in
    let own : asked_for k u ≡ Some done.req = x.asked ∙ ap (λ (d : Finished). let o : Option Req = Some d.req in o) (sym (serving_done k u c.in_ok-id.id x done c.in_ok-done.ensures.found)) in
    subst (λ (l : Kernel). asked_for l u ≡ Some done.req) (sym (serving_after k c.finish_request.new.self u c.in_ok-id.id x c.in_ok-done.ensures.after)) own

pub serve-reply-requires-clause-home : goal.serve-reply-requires-clause-home
serve-reply-requires-clause-home g c =
    let k = c.args.self.now in
    let x = serving c.self.inside k c.args.u c.in_ok-id.id c.self.view_is c.self.invariant c.requires.order c.in_ok-id.ensures in
    subst (λ (l : Kernel). is_out (stand_for l c.args.u) ≡ false) (sym (serving_after k c.finish_request.new.self c.args.u c.in_ok-id.id x c.in_ok-done.ensures.after)) c.requires.home

pub serve-reply-requires-clause-free : goal.serve-reply-requires-clause-free
serve-reply-requires-clause-free g c =
    let k = c.args.self.now in
    let x = serving c.self.inside k c.args.u c.in_ok-id.id c.self.view_is c.self.invariant c.requires.order c.in_ok-id.ensures in
    serving_free k c.finish_request.new.self c.args.u c.in_ok-id.id x (serving_after k c.finish_request.new.self c.args.u c.in_ok-id.id x c.in_ok-done.ensures.after)

pub returns-clause-found : goal.returns-clause-found
returns-clause-found g c =
    let k = c.args.self.now in
    let l = c.finish_request.new.self in
    let x = serving c.self.inside k c.args.u c.in_ok-id.id c.self.view_is c.self.invariant c.requires.order c.in_ok-id.ensures in
    serving_replied k l c.args.u c.in_ok-id.id x c.in_ok-done.done c.serve-reply.result (serving_after k l c.args.u c.in_ok-id.id x c.in_ok-done.ensures.after) (serving_done k c.args.u c.in_ok-id.id x c.in_ok-done.done c.in_ok-done.ensures.found) c.serve-reply.ensures.reply

pub returns-clause-after : goal.returns-clause-after
returns-clause-after g c =
    let k = c.args.self.now in
    let l = c.finish_request.new.self in
    let x = serving c.self.inside k c.args.u c.in_ok-id.id c.self.view_is c.self.invariant c.requires.order c.in_ok-id.ensures in
    serving_ended k l c.serve-reply.new.self c.args.u c.in_ok-id.id x c.in_ok-done.done (serving_after k l c.args.u c.in_ok-id.id x c.in_ok-done.ensures.after) (serving_done k c.args.u c.in_ok-id.id x c.in_ok-done.done c.in_ok-done.ensures.found) c.serve-reply.ensures.after
