use Rattle.vx_simulate.proofs.Simulated.{no_lines}
use Rattle.vx_simulate.proofs.by_seed.write_run.Goals as goal

pub returns-in_err-front-clause-no_memory : goal.returns-in_err-front-clause-no_memory
returns-in_err-front-clause-no_memory g c = λ e. no_lines c.args.system c.args.options (g.K.Sink.held c.args.sink.now) c.requires.within

pub returns-in_err-exec-clause-no_memory : goal.returns-in_err-exec-clause-no_memory
returns-in_err-exec-clause-no_memory g c = λ e. no_lines c.args.system c.args.options (g.K.Sink.held c.args.sink.now) c.requires.within
