use Rattle.std.proofs.Common.{ℕ, take, ap}
use Rattle.vx_journal.proofs.Fronts.{front_tells}
use Rattle.vx_journal.proofs.read.read_front.Goals as goal

pub returns-in-Ok-clause-failure : goal.returns-in-Ok-clause-failure
returns-in-Ok-clause-failure c =
    let part = ap (λ (n : ℕ). take n c.args.text.now) c.script_len-len.ensures.len in
    front_tells c.args.text.now _ c.in-Ok.system c.front_of.result part c.in-Ok.ensures.spelled.0 c.front_of.ensures.front
