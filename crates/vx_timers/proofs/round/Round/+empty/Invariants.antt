use Rattle.vx_timers.proofs.round.Round.+empty.Given as goal

-- the places
abbrev pub decreases-empty : goal.decreases-empty
decreases-empty l = l.places
