use Rattle.std.proofs.Common.{◌&&◌, nat_eq}
use Rattle.std.specs.HashMap.{get}
use Rattle.vx_laws.specs.Values.{status_by}
use Rattle.vx_judge.specs.Pairs.{pair_eq}
use Rattle.vx_judge.proofs.Filled.{filled_on}
use Rattle.vx_judge.proofs.blocks.Blocks.pass_effect.Goals as goal

pub returns-in_ok-insert-in-Iosb : goal.returns-in_ok-insert-in-Iosb
returns-in_ok-insert-in-Iosb c = λ past are p i.
    let k = c.in-Iosb in
    rw k.is (filled_on (nat_eq k.p.0 p.0 && nat_eq k.i i) (get pair_eq c.insert.new.self (p.0, i)) (get pair_eq c.args.self.now.map (p.0, i)) c.is_some.result (record { cond = k.cond; count = k.count; info = k.info }) (status_by past p i)
    (c.in_ok-insert-in-Iosb.ensures.updates.0 (p.0, i)) c.is_some.ensures (are p i))
