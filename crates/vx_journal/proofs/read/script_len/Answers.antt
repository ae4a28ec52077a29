use Rattle.std.proofs.Common.{◌≡◌, ◌+◌, ◌<◌, ◌≤◌, true, false, drop, take, length, sym, ap, ◌∙◌, arith, length-drop, drop-drop}
use Rattle.std.proofs.lemmas.List.{drop_all, take_rest}
use Rattle.vx_lines.specs.Cutting.{fed_len}
use Rattle.vx_lines.specs.ReadRecords.{fed_lines}
use Rattle.vx_journal.proofs.ScriptPart.{begins, found, over, passed}
use Rattle.vx_journal.specs.ReadJournal.{is_journal_line, len_before}
use Rattle.vx_journal.proofs.read.script_len.Goals as goal

pub loop-at-init : goal.loop-at-init
loop-at-init c = record { within = omega arith; len = sym (begins c.args.text.now) }

pub returns-then-starts_with-clause-len : goal.returns-then-starts_with-clause-len
returns-then-starts_with-clause-len c =
    let at = c.loop-at.at in
    let whole = c.args.text.now in
    let same = take_rest whole at in
    let some : 0 < length (drop at whole) = omega (arith, c.loop-at-test.true, length-drop at whole) in
    let len : c.fed_len-len.result ≡ fed_len (drop at whole) = rw same at c.fed_len-len.ensures.len in
    let line : is_journal_line (take c.fed_len-len.result (drop at whole)) ≡ true = rw same at (sym c.starts_with.ensures.value ∙ c.if-starts_with.true) in
    sym (found at c.fed_len-len.result (drop at whole) some len line) ∙ c.loop-at.invariant.len

pub loop-at-preserved : goal.loop-at-preserved
loop-at-preserved c =
    let at = c.loop-at.at in
    let whole = c.args.text.now in
    let same = take_rest whole at in
    let some : 0 < length (drop at whole) = omega (arith, c.loop-at-test.true, length-drop at whole) in
    let len : c.fed_len-len.result ≡ fed_len (drop at whole) = rw same at c.fed_len-len.ensures.len in
    let within : c.fed_len-len.result ≤ length (drop at whole) = rw same at c.fed_len-len.ensures.within in
    let line : is_journal_line (take c.fed_len-len.result (drop at whole)) ≡ false = rw same at (sym c.starts_with.ensures.value ∙ c.if-starts_with.false) in
    record {
      within = omega (arith, c.loop-at.invariant.within, within, length-drop at whole);
      len = ap (λ z. len_before (at + c.fed_len-len.result) (fed_lines z)) (sym (drop-drop c.fed_len-len.result at whole)) ∙ passed at c.fed_len-len.result (drop at whole) some len within line ∙ c.loop-at.invariant.len;
    }

pub returns-clause-len : goal.returns-clause-len
returns-clause-len c =
    let at = c.loop-at.at in
    sym (ap (λ z. len_before at (fed_lines z)) (drop_all at c.args.text.now c.loop-at-test.false) ∙ over at) ∙ c.loop-at.invariant.len
