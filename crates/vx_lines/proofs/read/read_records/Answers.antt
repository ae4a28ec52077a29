use Rattle.std.proofs.Common.{◌≡◌, ◌+◌, ◌<◌, ◌≤◌, true, false, None, Some, drop, take, length, refl, sym, ap, ◌∙◌, arith, length-drop, drop-drop}
use Rattle.std.proofs.lemmas.List.{take_rest}
use Rattle.vx_lines.specs.Cutting.{fed_len}
use Rattle.vx_lines.specs.ReadRecords.{is_of_record, read_line, read_lines, fed_lines}
use Rattle.vx_lines.proofs.Cutting.{ended, bad, read_on, begins, begun, len_some}
use Rattle.vx_lines.proofs.read.read_records.Goals as goal

pub returns-then-not-branch-clause-read : goal.returns-then-not-branch-clause-read
returns-then-not-branch-clause-read c =
    let at = c.loop-alloc.at in
    let whole = c.args.text.now in
    let same = take_rest whole at in
    let line : is_of_record (drop at whole) ≡ true = rw same at (sym c.loop-alloc-test.ensures) in
    let len : c.fed_len-len.result ≡ fed_len (drop at whole) = rw same at c.fed_len-len.ensures.len in
    let none : None ≡ read_line c.args.units.now c.loop-alloc.reading (take c.fed_len-len.result (drop at whole)) = sym (rw (same, c.if-not-branch.true) at c.in_ok-read_line.ensures) in
    begins c.args.units.now c.args.line whole ∙ sym c.loop-alloc.invariant.read ∙ bad c.args.units.now c.loop-alloc.line at c.fed_len-len.result c.loop-alloc.reading (drop at whole) line len none

pub returns-clause-read : goal.returns-clause-read
returns-clause-read c =
    let at = c.loop-alloc.at in
    let whole = c.args.text.now in
    let over : is_of_record (drop at whole) ≡ false = rw (take_rest whole at) at (sym c.loop-alloc-test.ensures) in
    begins c.args.units.now c.args.line whole ∙ sym c.loop-alloc.invariant.read ∙ ended c.args.units.now c.loop-alloc.line at c.loop-alloc.reading (drop at whole) over ∙ rw c.in_ok-turn_to.ensures refl

pub loop-alloc-preserved : goal.loop-alloc-preserved
loop-alloc-preserved c =
    let at = c.loop-alloc.at in
    let whole = c.args.text.now in
    let text = drop at whole in
    let next = c.read_line.new.reading in
    let same = take_rest whole at in
    let line : is_of_record text ≡ true = rw same at (sym c.loop-alloc-test.ensures) in
    let len : c.fed_len-len.result ≡ fed_len text = rw same at c.fed_len-len.ensures.len in
    let within : c.fed_len-len.result ≤ length text = rw same at c.fed_len-len.ensures.within in
    let read : Some next ≡ read_line c.args.units.now c.loop-alloc.reading (take c.fed_len-len.result text) = sym (rw (same, c.if-not-branch.false) at c.in_ok-read_line.ensures) in
    let long : 0 < c.fed_len-len.result = rw len (len_some text (begun text line)) in
    record {
      rows = c.loop-alloc.invariant.rows;
      within = omega (arith, c.loop-alloc.invariant.within, within, length-drop at whole);
      lines = omega (arith, c.loop-alloc.invariant.lines, long);
      read = ap (λ z. read_lines c.args.units.now (c.loop-alloc.line + 1) (at + c.fed_len-len.result) next (fed_lines z)) (sym (drop-drop c.fed_len-len.result at whole)) ∙ read_on c.args.units.now c.loop-alloc.line at c.fed_len-len.result c.loop-alloc.reading next text line len within read ∙ c.loop-alloc.invariant.read;
    }
