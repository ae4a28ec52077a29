use Rattle.std.proofs.Common.{◌≡◌, ◌++◌, map, take}
use Rattle.vx_script.specs.Script.{ended_lines, fault_line}
use Rattle.vx_script.proofs.print_unit.print_faults.Given as goal

abbrev pub invariant-loop-n : goal.invariant-loop-n
invariant-loop-n l = l.out ≡ l.fn.out ++ ended_lines (map (fault_line l.name) (take l.n-index l.faults))
