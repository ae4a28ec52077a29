-- How deep processes are.
use Rattle.std.proofs.Common.{ℕ, zero, suc, ◌≤◌, List, [], ◌∷◌, slice_index_or, slice_set, arith}
use Rattle.std.proofs.lemmas.Bool.Decides.{nat_tests}
use Rattle.vx_record.specs.State.{Process, nobody}
use Rattle.vx_procs.specs.Words.{deepest, depth}

-- no process is deeper than the deepest
pub at_most : (prs : List Process) (i : ℕ) → depth (slice_index_or prs i nobody) ≤ deepest prs
at_most [] i = omega arith
at_most (pr ∷ prs) zero = grind (arith, nat_tests)
at_most (pr ∷ prs) (suc i) = let rest = at_most prs i in grind (arith, nat_tests)

-- one that becomes no deeper leaves that
pub deepest_set : (prs : List Process) (i : ℕ) (pr : Process) → depth pr ≤ depth (slice_index_or prs i nobody) → deepest (slice_set prs i pr) ≤ deepest prs
deepest_set [] i pr less = omega arith
deepest_set (x ∷ prs) zero pr less = grind (arith, nat_tests)
deepest_set (x ∷ prs) (suc i) pr less = let rest = deepest_set prs i pr less in grind (arith, nat_tests)
