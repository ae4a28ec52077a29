use Rattle.std.proofs.Common.{◌≡◌, ◌+◌, drop, nat_lt}
use Rattle.std.specs.List.{find}
use Rattle.vx_base.specs.Channels.{reached_from}
use Rattle.vx_chans.proofs.chans.next_of_mode.Given as goal

abbrev pub invariant-loop-place : goal.invariant-loop-place
invariant-loop-place l =
    find (λ n. nat_lt l.after n) (reached_from (1 + l.place) l.mode (drop l.place l.rows)) ≡
    find (λ n. nat_lt l.after n) (reached_from 1 l.mode l.rows)
