use Rattle.vx_simulate.proofs.Simulated.{front_spelled}
use Rattle.vx_simulate.proofs.by_seed.front_text.Goals as goal

pub returns : goal.returns
returns c = front_spelled c.args.system.now c.push_all.new.self (rw c.in_ok-text.ensures at c.in_ok-push_all.ensures.ok)
