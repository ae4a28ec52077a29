use Rattle.std.proofs.Common.{◌≡◌, ◌++◌, drop, map}
use Rattle.std.specs.List.{AllByRecursion}
use Rattle.vx_record.specs.Runs.{born_from}
use Rattle.vx_procs.specs.Fresh.{IsFresh}
use Rattle.vx_procs.specs.View.{process}
use Rattle.vx_procs.proofs.born.first_procs.Given as goal

abbrev pub invariant-loop-place : goal.invariant-loop-place
invariant-loop-place g l = record {
  procs : map process l.procs.items ++ born_from l.place (drop l.place l.decls) ≡ born_from 0 l.decls;
  fresh : AllByRecursion (IsFresh l.decls) l.procs.items;
}
