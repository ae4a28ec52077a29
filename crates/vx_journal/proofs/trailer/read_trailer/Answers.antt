use Rattle.std.proofs.Common.{◌≡◌, ◌+◌, ◌<◌, ◌≤◌, None, Some, drop, take, length, sym, ap, ◌∙◌, arith, length-drop, drop-drop}
use Rattle.std.proofs.lemmas.List.{drop_all, take_rest}
use Rattle.vx_lines.specs.Cutting.{fed_len}
use Rattle.vx_lines.proofs.Cutting.{len_some}
use Rattle.vx_lines.specs.ReadRecords.{fed_lines}
use Rattle.vx_journal.proofs.TrailerPart.{bad, begins, over, read_on}
use Rattle.vx_journal.specs.TrailerLines.{ends_at, place_after, trailer_lines_from}
use Rattle.vx_journal.proofs.trailer.read_trailer.Goals as goal

pub loop-at-init : goal.loop-at-init
loop-at-init c = record { within = omega arith; lines = omega arith; read = sym (begins c.args.units.now c.args.line c.args.text.now) }

pub returns-in_default : goal.returns-in_default
returns-in_default c =
    let at = c.loop-at.at in
    let whole = c.args.text.now in
    let same = take_rest whole at in
    let some : 0 < length (drop at whole) = omega (arith, c.loop-at-test.true, length-drop at whole) in
    let len : c.fed_len-len.result ≡ fed_len (drop at whole) = rw same at c.fed_len-len.ensures.len in
    let none : None ≡ place_after c.args.units.now c.loop-at.place (take c.fed_len-len.result (drop at whole)) = rw same at (sym c.in_default.is ∙ c.in_ok-next.ensures) in
    sym c.loop-at.invariant.read ∙ bad c.args.units.now c.loop-at.number c.fed_len-len.result c.loop-at.place (drop at whole) some len none

pub loop-at-preserved : goal.loop-at-preserved
loop-at-preserved c =
    let at = c.loop-at.at in
    let whole = c.args.text.now in
    let same = take_rest whole at in
    let some : 0 < length (drop at whole) = omega (arith, c.loop-at-test.true, length-drop at whole) in
    let len : c.fed_len-len.result ≡ fed_len (drop at whole) = rw same at c.fed_len-len.ensures.len in
    let within : c.fed_len-len.result ≤ length (drop at whole) = rw same at c.fed_len-len.ensures.within in
    let long : 0 < c.fed_len-len.result = rw len (len_some (drop at whole) some) in
    let next : Some c.in-Some.next ≡ place_after c.args.units.now c.loop-at.place (take c.fed_len-len.result (drop at whole)) = rw same at (sym c.in-Some.is ∙ c.in_ok-next.ensures) in
    record {
      within = omega (arith, c.loop-at.invariant.within, within, length-drop at whole);
      lines = omega (arith, c.loop-at.invariant.lines, long);
      read = ap (λ z. trailer_lines_from c.args.units.now (c.loop-at.number + 1) c.in-Some.next (fed_lines z)) (sym (drop-drop c.fed_len-len.result at whole)) ∙ read_on c.args.units.now c.loop-at.number c.fed_len-len.result c.loop-at.place c.in-Some.next (drop at whole) some len next ∙ c.loop-at.invariant.read;
    }

pub returns-in-Some-part_at : goal.returns-in-Some-part_at
returns-in-Some-part_at c =
    let units = c.args.units.now in
    let number = c.loop-at.number in
    let place = c.loop-at.place in
    sym c.loop-at.invariant.read ∙ ap (λ z. trailer_lines_from units number place (fed_lines z)) (drop_all c.loop-at.at c.args.text.now c.loop-at-test.false) ∙ over units number place ∙ ap (ends_at number) (sym c.part_at.ensures ∙ c.in-Some-part_at.is)

pub returns-in-None : goal.returns-in-None
returns-in-None c =
    let units = c.args.units.now in
    let number = c.loop-at.number in
    let place = c.loop-at.place in
    sym c.loop-at.invariant.read ∙ ap (λ z. trailer_lines_from units number place (fed_lines z)) (drop_all c.loop-at.at c.args.text.now c.loop-at-test.false) ∙ over units number place ∙ ap (ends_at number) (sym c.part_at.ensures ∙ c.in-None.is)
