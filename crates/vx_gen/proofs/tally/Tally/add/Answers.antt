use Rattle.vx_gen.proofs.Counting.{one_more}
use Rattle.vx_gen.proofs.tally.Tally.add.Goals as goal

pub returns-clause-counts : goal.returns-clause-counts
returns-clause-counts c = λ recs so_far. one_more c.args.self.now c.count.new.self recs c.args.rec.now c.count.ensures so_far
