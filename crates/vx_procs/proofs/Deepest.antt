-- How deep the processes of two lists are.
use Rattle.std.proofs.Common.{◌≡◌, ℕ, ◌+◌, ◌*◌, List, [], ◌∷◌, ◌++◌, drop, arith, sym, ap, ◌∙◌}
use Rattle.std.proofs.lemmas.Bool.Decides.{nat_tests}
use Rattle.vx_record.specs.State.{Process}
use Rattle.vx_procs.specs.Own.{block_of}
use Rattle.vx_procs.specs.Words.{deeper, deepest, depth}
use Rattle.vx_procs.proofs.Blocks.{block_first}

pub deeper_assoc : (a b c : ℕ) → deeper a (deeper b c) ≡ deeper (deeper a b) c
deeper_assoc a b c = grind (arith, nat_tests)

pub deepest_append : (xs ys : List Process) → deepest (xs ++ ys) ≡ deeper (deepest xs) (deepest ys)
deepest_append [] ys = grind (arith, nat_tests)
deepest_append (x ∷ xs) ys = ap (deeper (depth x)) (deepest_append xs ys) ∙ deeper_assoc (depth x) (deepest xs) (deepest ys)

-- the deepest so far and from a block on, with that block gone over
pub deepest_next : (b most : ℕ) (prs : List Process) → deeper (deeper most (deepest (block_of b prs))) (deepest (drop (32 * (b + 1)) prs)) ≡ deeper most (deepest (drop (32 * b) prs))
deepest_next b most prs =
    sym (deeper_assoc most (deepest (block_of b prs)) (deepest (drop (32 * (b + 1)) prs)))
    ∙ ap (deeper most) (sym (ap deepest (block_first b prs) ∙ deepest_append (block_of b prs) (drop (32 * (b + 1)) prs)))
