use Rattle.std.proofs.Common.{lit<, refl}
use Rattle.vx_table.proofs.table.service_table.Goals as goal

pub of_rows-requires : goal.of_rows-requires
of_rows-requires c = (lit< tt, (lit< tt, refl))

pub returns-clause-rows : goal.returns-clause-rows
returns-clause-rows c = c.of_rows.ensures.rows

pub returns-clause-laws : goal.returns-clause-laws
returns-clause-laws c = c.of_rows.ensures.laws
