use Rattle.std.proofs.Common.{◌≡◌, length, sym, ap, ◌∙◌, arith, ◌-◌, ◌++◌, ◌∷◌, [], take, drop, append-nil, Ok, subst}
use Rattle.std.proofs.lemmas.List.{length-take, length-drop}
use Rattle.vx_text.specs.Lex.{with_front, lex, token_at, IsReading, IsToken}
use Rattle.vx_text.specs.declared.first.First.TheVariants.{End, Gap, Found, Bad}
use Rattle.vx_text.proofs.Order.{in_order-later, in_order-more, all_more, is_token}
use Rattle.vx_text.proofs.Turns.{fails, turn, turn_end, after_token, after_gap}
use Rattle.vx_text.proofs.reading.tokens.Goals as goal

pub returns-in-End-clause-gives : goal.returns-in-End-clause-gives
returns-in-End-clause-gives c =
    let front = c.loop-at.found.items in
    sym c.loop-at.invariant.same ∙ ap (with_front front) (turn c.loop-at.at c.args.line.now End c.loop-at-test.true (sym c.in-End.is ∙ c.in_ok-stands_first.ensures.first)) ∙ ap Ok (append-nil front)

pub returns-in-End-clause-order : goal.returns-in-End-clause-order
returns-in-End-clause-order c = in_order-later c.loop-at.found.items 0 c.loop-at.at (length c.args.line.now) c.loop-at.invariant.within c.loop-at.invariant.order

pub loop-at-preserved-in-Gap : goal.loop-at-preserved-in-Gap
loop-at-preserved-in-Gap c =
    let at = c.loop-at.at in
    let line = c.args.line.now in
    let front = c.loop-at.found.items in
    record {
      within = omega arith;
      same = ap (with_front front) (sym (turn at line Gap c.loop-at-test.true (sym c.in-Gap.is ∙ c.in_ok-stands_first.ensures.first) ∙ after_gap at line)) ∙ c.loop-at.invariant.same;
      slices = c.loop-at.invariant.slices;
      order = in_order-later front 0 at _ (omega arith) c.loop-at.invariant.order;
    }

pub loop-at-preserved : goal.loop-at-preserved
loop-at-preserved c =
    let at = c.loop-at.at in
    let line = c.args.line.now in
    let len = c.in-Found.len in
    let front = c.loop-at.found.items in
    let token = token_at at c.in-Found.tok len in
    let e : c.push.new.self.items ≡ front ++ token ∷ [] = c.in_ok-push-in-Found.ensures.items in
    let rest = take (length line - at) (drop at line) in
    let is = sym c.in-Found.is ∙ c.in_ok-stands_first.ensures.first in
    let reading : IsReading rest (Found c.in-Found.tok len) = subst (IsReading rest) c.in-Found.is c.in_ok-stands_first.ensures.reading in
    record {
      within = omega (arith, reading.1, length-take (length line - at) (drop at line), length-drop at line);
      same = rw e (after_token front token at len line reading.0) ∙ ap (with_front front) (sym (turn at line (Found c.in-Found.tok len) c.loop-at-test.true is)) ∙ c.loop-at.invariant.same;
      slices = rw e (all_more (IsToken line) front token c.loop-at.invariant.slices (is_token line at len c.in-Found.tok reading.2));
      order = rw e (in_order-more front 0 at token c.loop-at.invariant.order (omega arith) (omega (arith, reading.0)));
    }

pub returns-in-Bad-clause-gives : goal.returns-in-Bad-clause-gives
returns-in-Bad-clause-gives c =
    let at = c.loop-at.at in
    fails c.in-Bad.fail (lex c.args.line.now) (sym c.loop-at.invariant.same ∙ ap (with_front c.loop-at.found.items) (turn at c.args.line.now (Bad c.in-Bad.fail) c.loop-at-test.true (sym c.in-Bad.is ∙ c.in_ok-stands_first.ensures.first)))

pub returns-clause-gives : goal.returns-clause-gives
returns-clause-gives c =
    let front = c.loop-at.found.items in
    sym c.loop-at.invariant.same ∙ ap (with_front front) (turn_end c.loop-at.at c.args.line.now c.loop-at-test.false) ∙ ap Ok (append-nil front)

pub returns-clause-order : goal.returns-clause-order
returns-clause-order c = in_order-later c.loop-at.found.items 0 c.loop-at.at (length c.args.line.now) c.loop-at.invariant.within c.loop-at.invariant.order
