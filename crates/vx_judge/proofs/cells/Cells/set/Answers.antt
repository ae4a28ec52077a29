use Rattle.std.proofs.Common.{refl}
use Rattle.vx_judge.proofs.CellWords.{common_put}
use Rattle.vx_judge.proofs.cells.Cells.set.Goals as goal

pub returns-in_ok-put-in-Common : goal.returns-in_ok-put-in-Common
returns-in_ok-put-in-Common c = λ d.
    let old = c.args.self.now in
    rw c.in-Common.is (common_put old (record { lower = old.lower; upper = old.upper; common = c.put.new.items }) c.in-Common.field-2 (record { group = c.in-Common.group; name = c.in-Common.name; word = c.args.word }) refl refl c.in_ok-put-in-Common.ensures d)
