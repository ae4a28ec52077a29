use Rattle.std.proofs.Common.{Option, Some, ap, subst, sym, ◌∙◌}
use Rattle.vx_record.specs.Types.{Answer, Entry}
use Rattle.vx_record.specs.Parts.{Outcome}
use Rattle.vx_procs.specs.Kernel.{Does, Fits, Kernel}
use Rattle.vx_rundown.specs.Steps.{cancelled_and_drained}
use Rattle.vx_rundown.proofs.Entering.{enter_done, enter_leaving, enter_room, none_passed}
use Rattle.vx_rundown.proofs.mode.pass_on.Goals as goal

pub enter-requires-in-Some-clause-leaving : goal.enter-requires-in-Some-clause-leaving
enter-requires-in-Some-clause-leaving g c = enter_leaving c.args.core.now c.take_handler.new.self c.args.p c.args.mode c.in-Some.id (g.R.Routine.tagged c.in-Some.routine) c.requires.leaving c.in-Some.ensures.handler c.take_handler.ensures.after

pub enter-requires-in-Some-clause-room : goal.enter-requires-in-Some-clause-room
enter-requires-in-Some-clause-room g c = enter_room c.args.core.now c.take_handler.new.self c.args.p c.args.mode c.in-Some.id (g.R.Routine.tagged c.in-Some.routine) c.in-Some.ensures.handler c.take_handler.ensures.after c.requires.room

pub returns-in-Some : goal.returns-in-Some
returns-in-Some g c = enter_done c.args.core.now c.take_handler.new.self c.enter-in-Some.new.core c.args.p c.args.mode c.in-Some.id c.enter.result c.enter-in-Some.result c.requires.leaving (ap (λ (e : Entry). Some (c.in-Some.id, e)) c.enter.ensures ∙ c.in-Some.ensures.handler) c.take_handler.ensures.after c.enter-in-Some.ensures

pub cancel_and_drain-requires-clause-leaving : goal.cancel_and_drain-requires-clause-leaving
cancel_and_drain-requires-clause-leaving g c = rw (c.take_handler.ensures.kept c.in-None.is) c.requires.leaving

pub cancel_and_drain-requires-clause-room : goal.cancel_and_drain-requires-clause-room
cancel_and_drain-requires-clause-room g c =
    rw (c.take_handler.ensures.kept c.in-None.is) (subst (λ (o : Outcome (Option Answer)). Fits c.args.core.now o.effects) (none_passed c.args.core.now.state c.args.p c.args.mode c.in-None.ensures.handler) c.requires.room)

pub returns-in-None : goal.returns-in-None
returns-in-None g c =
    let did = subst (λ (x : Kernel). Does (cancelled_and_drained c.args.p c.args.mode x.state) c.cancel_and_drain.result x c.cancel_and_drain.new.core) (c.take_handler.ensures.kept c.in-None.is) c.cancel_and_drain.ensures in
    subst (λ (o : Outcome (Option Answer)). Does o c.cancel_and_drain.result c.args.core.now c.cancel_and_drain.new.core) (sym (none_passed c.args.core.now.state c.args.p c.args.mode c.in-None.ensures.handler)) did
