-- What some words ask for.
use Rattle.std.proofs.Common.{◌≡◌, [], ◌∷◌, Some, None, refl}
use Rattle.std.specs.Prelude.{codes}
use Rattle.vx_words.specs.Crew.{crew_of}
use Rattle.vx_words.specs.Words.{command_of}
use Rattle.vx_words.specs.declared.command.Command.TheVariants.{Sim, Explore}

usual_sim : command_of (codes "sim" ∷ []) ≡ Some (Sim (record { seed = 0; limit = 10000 }))
usual_sim = refl

sim_in_any_order : command_of (codes "sim" ∷ codes "--limit" ∷ codes "30" ∷ codes "--seed" ∷ codes "0" ∷ []) ≡ Some (Sim (record { seed = 0; limit = 30 }))
sim_in_any_order = refl

limit_twice : command_of (codes "sim" ∷ codes "--limit" ∷ codes "30" ∷ codes "--limit" ∷ codes "30" ∷ []) ≡ None
limit_twice = refl

limit_zero : command_of (codes "sim" ∷ codes "--limit" ∷ codes "0" ∷ []) ≡ None
limit_zero = refl

limit_beyond : command_of (codes "explore" ∷ codes "--limit" ∷ codes "100001" ∷ []) ≡ None
limit_beyond = refl

usual_states : command_of (codes "explore" ∷ codes "--limit" ∷ codes "100000" ∷ []) ≡ Some (Explore (record { limit = 100000; states = 100000 }))
usual_states = refl

run_by_two : crew_of (codes "run" ∷ codes "--cpus" ∷ codes "2" ∷ []) ≡ Some (record { cpus = 2; limit = 10000 })
run_by_two = refl
