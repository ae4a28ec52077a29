use Rattle.std.proofs.Common.{◌≡◌, drop, map}
use Rattle.vx_procs.specs.Digest.{mix_processes}
use Rattle.vx_procs.specs.View.{process}
use Rattle.vx_procs.proofs.digest.mix_procs.Given as goal

abbrev pub invariant-loop-proc : goal.invariant-loop-proc
invariant-loop-proc g l = mix_processes l.mixed (map process (drop l.proc-index l.procs)) ≡ mix_processes l.digest (map process l.procs)
