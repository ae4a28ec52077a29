use Rattle.vx_procs.proofs.Rest.{answering_end}
use Rattle.vx_rundown.proofs.Modes.{does_as, drain_more}
use Rattle.vx_rundown.proofs.rundown.rundown_step.Goals as goal

pub run_down-requires-in-None-clause-leaving : goal.run_down-requires-in-None-clause-leaving
run_down-requires-in-None-clause-leaving g c =
    (drain_more c.args.p c.in-Draining.mode c.args.core.now c.drain.new.core c.requires.leaving c.in-Draining.ensures c.requires.room (does_as c.in-None.is c.drain.ensures)).leaving

pub returns-in-None : goal.returns-in-None
returns-in-None g c =
    let on = drain_more c.args.p c.in-Draining.mode c.args.core.now c.drain.new.core c.requires.leaving c.in-Draining.ensures c.requires.room (does_as c.in-None.is c.drain.ensures) in
    answering_end _ _ _ _ _ _ on.rest (rw (← c.next_inner.ensures) c.run_down-in-None.ensures)
