use Rattle.std.proofs.Common.{List, ℕ, ◌++◌, ap, ◌∙◌}
use Rattle.vx_endings.specs.Text.{answer_text}
use Rattle.vx_endings.specs.Worst.{worst_end}
use Rattle.vx_commands.proofs.Exploring.{are_endings}
use Rattle.vx_commands.specs.Explored.{cut, told}
use Rattle.vx_commands.proofs.survey.tell_endings.Goals as goal

pub returns-in-Told : goal.returns-in-Told
returns-in-Told c =
    let limit = c.args.scope.limit in
    let states = c.args.scope.states in
    rw c.from.ensures (told c.worst_end.result c.print_answer.new.out (record {
      rows = c.in-Told.rows.items;
      endings = are_endings c.args.system limit c.in-Told.rows.items c.requires.within (rw c.in-Told.is at c.in_ok-answer.ensures.told);
      worst = c.worst_end.ensures ∙ ap worst_end c.as_slice.ensures.value;
      spells = c.in_ok-print_answer.ensures ∙ (ap (λ (t : List ℕ). t ++ answer_text limit states c.in_ok-answer.answer) c.new-text.ensures ∙ ap (answer_text limit states) c.in-Told.is);
    }))

pub returns-in-Cut : goal.returns-in-Cut
returns-in-Cut c =
    let limit = c.args.scope.limit in
    let states = c.args.scope.states in
    cut c.print_answer.new.out (record {
      wide = rw c.in-Cut.is at c.in_ok-answer.ensures.cut;
      spells = c.in_ok-print_answer.ensures ∙ (ap (λ (t : List ℕ). t ++ answer_text limit states c.in_ok-answer.answer) c.new-text.ensures ∙ ap (answer_text limit states) c.in-Cut.is);
    })
