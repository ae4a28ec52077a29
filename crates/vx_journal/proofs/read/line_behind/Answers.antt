use Rattle.std.proofs.Common.{◌≡◌, ◌+◌, ℕ, drop, slice_index_or, sym, ap, ◌∙◌, arith}
use Rattle.vx_journal.proofs.LineBehind.{apart, fed, on, one_line, over, short, unfed}
use Rattle.vx_journal.specs.ReadJournal.{line_behind, next_line}
use Rattle.vx_journal.proofs.read.line_behind.Goals.{then-i-text-via-then-i-text, then-i-text-via-else-i-text+then-text-i, then-b-eq10, else-b-eq10}
use Rattle.vx_journal.proofs.read.line_behind.Goals as goal

pub returns-then-i-text-clause-read : goal.returns-then-i-text-clause-read
returns-then-i-text-clause-read c =
    let number = c.loop-i.number in
    let i = c.loop-i.i in
    sym c.loop-i.invariant.read ∙ elim c.then-i-text.branch [
      | then-i-text-via-then-i-text w ↦ short number i c.args.front.now c.args.text.now c.loop-i-test.true w.if-i-text.true
      | then-i-text-via-else-i-text+then-text-i w ↦ apart number i c.args.front.now c.args.text.now c.loop-i-test.true w.if-i-text.false w.if-text-i.true
    ]

pub loop-i-preserved : goal.loop-i-preserved
loop-i-preserved c =
    let number = c.loop-i.number in
    let i = c.loop-i.i in
    let b : ℕ = slice_index_or c.args.front.now i 0 in
    let next : c.if-b-eq10.number ≡ next_line number b = elim c.if-b-eq10.branch [
      | then-b-eq10 w ↦ fed number b c.if-b-eq10.number w.if-b-eq10.true w.number-is
      | else-b-eq10 w ↦ unfed number b c.if-b-eq10.number w.if-b-eq10.false w.number-is
    ] in
    let most = one_line number b in
    record {
      lines = omega (arith, next, most, c.loop-i.invariant.lines);
      there = omega (arith, c.if-i-text.false);
      read = ap (λ (n : ℕ). line_behind n (drop (i + 1) c.args.front.now) (drop (i + 1) c.args.text.now)) next ∙ on number i c.args.front.now c.args.text.now c.loop-i-test.true c.if-i-text.false c.if-text-i.false ∙ c.loop-i.invariant.read;
    }

pub returns-clause-read : goal.returns-clause-read
returns-clause-read c = sym c.loop-i.invariant.read ∙ over c.loop-i.number c.loop-i.i c.args.front.now c.args.text.now c.loop-i-test.false
