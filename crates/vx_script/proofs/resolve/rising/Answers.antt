use Rattle.std.proofs.Common.{◌∙◌}
use Rattle.std.proofs.lemmas.List.Sorted.{IsNonDecreasingBy-from_sort}
use Rattle.vx_script.proofs.Rises.{sorted_is_rising}
use Rattle.vx_script.proofs.resolve.rising.Goals as goal

pub returns : goal.returns
returns c = c.from_vec.ensures ∙ sorted_is_rising c.args.numbers.items _ c.sort_unstable.ensures.permutation (IsNonDecreasingBy-from_sort (λ n. n) _ c.sort_unstable.ensures.sorted)
