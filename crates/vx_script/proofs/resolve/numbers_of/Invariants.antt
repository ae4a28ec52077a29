use Rattle.std.proofs.Common.{◌≡◌, flat_map, take}
use Rattle.vx_script.specs.Resolving.{fault_if}
use Rattle.vx_script.proofs.resolve.numbers_of.Given as goal

abbrev pub invariant-loop-fault : goal.invariant-loop-fault
invariant-loop-fault l = l.numbers.items ≡ flat_map (fault_if l.name) (take l.fault-index l.faults)
