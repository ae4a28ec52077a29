use Rattle.std.proofs.Common.{◌∙◌, ap, map}
use Rattle.vx_script.specs.Steps.{unit_names, with_inputs, with_line_if}
use Rattle.vx_script.proofs.MovedLines.{one_more, same_names}
use Rattle.vx_script.proofs.resolve.units_of.Goals as goal

pub add_line-requires : goal.add_line-requires
add_line-requires c = ap unit_names c.loop-input.invariant ∙ same_names (with_inputs c.loop-input.yielded c.args.parts.now) c.args.parts.now.units

pub loop-input-preserved : goal.loop-input-preserved
loop-input-preserved c =
    c.in_ok-add_line.ensures ∙ ap (map (with_line_if c.in-Some.input)) c.loop-input.invariant
    ∙ one_more c.in-Some.input c.loop-input.yielded c.args.parts.now c.args.parts.now.units
