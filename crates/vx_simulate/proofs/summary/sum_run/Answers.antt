use Rattle.std.proofs.Common.{◌∙◌, ap, List, ℕ, ◌++◌}
use Rattle.vx_simulate.specs.Summed.{summary}
use Rattle.vx_simulate.proofs.Summing.{is_summed}
use Rattle.vx_simulate.proofs.summary.sum_run.Goals as goal

pub returns : goal.returns
returns c =
    is_summed c.args.exec.now.state.system c.args.options c.args.exec.now c.tally_run.new.exec c.in_ok-tally.tally c.in_ok-tally.end c.print_summary.new.out c.requires.within c.requires.opened c.in_ok-tally.ensures
    (c.in_ok-print_summary.ensures ∙ ap (λ (xs : List ℕ). xs ++ summary c.in_ok-tally.tally c.in_ok-tally.end) c.new-text.ensures)
