use Rattle.std.proofs.Common.{refl}
use Rattle.vx_judge.proofs.CellWords.{common_gone}
use Rattle.vx_judge.proofs.cells.Cells.clear.Goals as goal

pub returns : goal.returns
returns c =
    let old = c.args.self.now in
    common_gone old (record { lower = old.lower; upper = old.upper; common = c.forget.new.items }) c.args.group c.args.name refl refl c.in_ok-forget.ensures
