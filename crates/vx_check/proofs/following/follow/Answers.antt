use Rattle.std.proofs.Common.{◌≡◌, ◌+◌, ◌<◌, ◌≤◌, ℕ, List, true, false, None, Some, Option, drop, take, length, refl, sym, subst, ◌∙◌, arith, length-drop}
use Rattle.std.proofs.lemmas.List.{take_rest}
use Rattle.vx_record.specs.Types.{UnitDecl}
use Rattle.vx_lines.specs.Cutting.{fed_len}
use Rattle.vx_lines.specs.ReadRecords.{is_of_record, read_line}
use Rattle.vx_lines.proofs.Cutting.{begun, len_some}
use Rattle.vx_check.proofs.Lines.{IsAt, at_bad, at_end, at_first, at_next, at_units, few_counted}
use Rattle.vx_check.specs.Following.{FollowsLine, IsWrong}
use Rattle.vx_check.specs.declared.course.Progress.{Progress}
use Rattle.vx_check.proofs.following.follow.Goals as goal

pub loop-alloc-init : goal.loop-alloc-init
loop-alloc-init c = record {
  rows = c.service_table-table.ensures.rows;
  within = omega arith;
  lines = omega arith;
  counts = omega arith;
  few = c.requires.few;
  there = at_first c.args.exec.now.state c.args.exec.now _ c.args.line c.args.text.now c.requires.fresh refl;
}

pub returns-in_default-clause-follows : goal.returns-in_default-clause-follows
returns-in_default-clause-follows c =
    let l = c.loop-alloc in
    let s = c.args.exec.now.state in
    let whole = c.args.text.now in
    let same = take_rest whole l.at in
    let line : is_of_record (drop l.at whole) ≡ true = rw same at (sym c.loop-alloc-test.ensures) in
    let len : c.fed_len-len.result ≡ fed_len (drop l.at whole) = rw same at c.fed_len-len.ensures.len in
    let there = l.invariant.there in
    let cut : List ℕ = take c.fed_len-len.result (drop l.at whole) in
    let none : FollowsLine s c.read_line.new.exec None (read_line l.exec.state.system.units there.reading cut) = subst (λ (z : Option Progress). FollowsLine s c.read_line.new.exec z (read_line l.exec.state.system.units there.reading cut)) c.in_default.is (rw same at (c.in_ok-next.ensures.follows s there.reading there.following)) in
    at_bad s l.exec c.read_line.new.exec l.progress l.line l.at c.fed_len-len.result c.args.line whole cut there line len refl none

pub returns-clause-follows : goal.returns-clause-follows
returns-clause-follows c =
    let l = c.loop-alloc in
    let s = c.args.exec.now.state in
    let whole = c.args.text.now in
    let over : is_of_record (drop l.at whole) ≡ false = rw (take_rest whole l.at) at (sym c.loop-alloc-test.ensures) in
    at_end s l.exec l.progress l.line l.at c.args.line whole _ l.invariant.there over refl refl c.first_wrong_of.ensures.right (λ n is. subst (λ (k : ℕ). IsWrong k l.progress.course n) c.taken.ensures (c.first_wrong_of.ensures.wrong n is))

pub loop-alloc-preserved : goal.loop-alloc-preserved
loop-alloc-preserved c =
    let l = c.loop-alloc in
    let s = c.args.exec.now.state in
    let whole = c.args.text.now in
    let same = take_rest whole l.at in
    let line : is_of_record (drop l.at whole) ≡ true = rw same at (sym c.loop-alloc-test.ensures) in
    let len : c.fed_len-len.result ≡ fed_len (drop l.at whole) = rw same at c.fed_len-len.ensures.len in
    let within : c.fed_len-len.result ≤ length (drop l.at whole) = rw same at c.fed_len-len.ensures.within in
    let long : 0 < c.fed_len-len.result = rw len (len_some (drop l.at whole) (begun (drop l.at whole) line)) in
    let there = l.invariant.there in
    let cut : List ℕ = take c.fed_len-len.result (drop l.at whole) in
    let next : FollowsLine s c.read_line.new.exec (Some c.in-Some.next) (read_line l.exec.state.system.units there.reading cut) = subst (λ (z : Option Progress). FollowsLine s c.read_line.new.exec z (read_line l.exec.state.system.units there.reading cut)) c.in-Some.is (rw same at (c.in_ok-next.ensures.follows s there.reading there.following)) in
    let on : IsAt s c.read_line.new.exec c.in-Some.next (l.line + 1) (l.at + c.fed_len-len.result) c.args.line whole = at_next s l.exec c.read_line.new.exec l.progress c.in-Some.next l.line l.at c.fed_len-len.result c.args.line whole cut there line len within refl next in
    let count = few_counted _ c.in-Some.next l.progress.count c.in-Some.is c.in_ok-next.ensures.within in
    let units = at_units s l.exec l.progress l.line l.at c.args.line whole there ∙ sym (at_units s c.read_line.new.exec c.in-Some.next (l.line + 1) (l.at + c.fed_len-len.result) c.args.line whole on) in
    record {
      rows = l.invariant.rows;
      within = omega (arith, l.invariant.within, within, length-drop l.at whole);
      lines = omega (arith, l.invariant.lines, long);
      counts = omega (arith, l.invariant.counts, count, long);
      few = subst (λ (us : List UnitDecl). length us ≤ 32) units l.invariant.few;
      there = on;
    }
