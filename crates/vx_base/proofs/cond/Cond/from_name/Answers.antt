use Rattle.vx_base.specs.Cond.{cond_row}
use Rattle.vx_base.proofs.Table.{row_of}
use Rattle.vx_base.proofs.cond.Cond.from_name.Goals as goal

pub returns : goal.returns
returns c = record { exact = λ cond. c.with_name.ensures.exact (cond_row cond) (rw c.cond_table.ensures.rows (row_of cond)) }
