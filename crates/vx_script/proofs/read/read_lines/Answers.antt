use Rattle.std.proofs.Common.{◌<◌, ◌∙◌, ap, arith, length-drop, length, refl}
use Rattle.std.proofs.lemmas.Grind.{common_steps}
use Rattle.std.proofs.lemmas.Result.{err_from_is_err_and}
use Rattle.vx_script.proofs.Cutting.{after_line, stopped_line, no_line}
use Rattle.vx_script.proofs.read.read_lines.Goals as goal

pub loop-rest-init : goal.loop-rest-init
loop-rest-init c = record { one = omega arith; few = omega arith; same = refl }

pub next_line-requires : goal.next_line-requires
next_line-requires c = omega (arith, c.first_line.ensures.within, c.loop-rest.invariant.one, c.loop-rest.invariant.few, c.requires)

pub overflow_add-len : goal.overflow_add-len
overflow_add-len c = omega (arith, c.line_len-len.ensures.within, c.loop-rest.invariant.one, c.loop-rest.invariant.few, c.requires)

pub loop-rest-preserved : goal.loop-rest-preserved
loop-rest-preserved c =
    let rest = c.loop-rest.rest.now in
    let pos : 0 < length rest = grind (arith, common_steps, c.is_empty.ensures, c.loop-rest-test.true) in
    record {
      one = omega (arith, c.loop-rest.invariant.one);
      few = omega (arith, c.loop-rest.invariant.few, pos, simp length-drop at (ap length c.bytes_behind-rest.ensures));
      same = after_line c.loop-rest.line c.line_len-len.result c.loop-rest.reading _ rest c.bytes_behind-rest.result.now c.first_line.result.now pos c.line_len-len.ensures.len c.first_line.ensures.line c.bytes_behind-rest.ensures c.in_ok-next_line.ensures ∙ c.loop-rest.invariant.same;
    }

pub returns-in_err-next_line : goal.returns-in_err-next_line
returns-in_err-next_line c =
    let rest = c.loop-rest.rest.now in
    let pos : 0 < length rest = grind (arith, common_steps, c.is_empty.ensures, c.loop-rest-test.true) in
    let p = err_from_is_err_and c.from_residual.result c.from_residual.ensures.1 in
    rw (p.1, ← c.loop-rest.invariant.same) (rw p.2 (stopped_line _ c.loop-rest.line c.loop-rest.reading rest c.first_line.result.now pos c.first_line.ensures.line c.in_err-next_line.ensures))

pub returns : goal.returns
returns c = rw (← c.loop-rest.invariant.same, no_line c.loop-rest.line c.loop-rest.reading c.loop-rest.rest.now (grind (arith, common_steps, c.is_empty.ensures, c.loop-rest-test.false))) c.closed.ensures
