use Rattle.std.proofs.Common.{◌≡◌, map, drop}
use Rattle.vx_table.specs.Rows.{row_of}
use Rattle.vx_table.specs.Reading.{read_named, toks}
use Rattle.vx_table.proofs.table.ServiceTable.read_named.Given as goal

abbrev pub invariant-loop-row : goal.invariant-loop-row
invariant-loop-row g l = read_named (map row_of (drop l.row-index l.row-items)) l.name (toks l.args) ≡ read_named (map row_of l.row-items) l.name (toks l.args)
