use Rattle.std.proofs.Common.{◌≡◌, ◌+◌, drop}
use Rattle.vx_base.specs.Channels.{free_from}
use Rattle.vx_chans.proofs.chans.least_free.Given as goal

abbrev pub invariant-loop-place : goal.invariant-loop-place
invariant-loop-place l = free_from (1 + l.place) (drop l.place l.rows) ≡ free_from 1 l.rows
