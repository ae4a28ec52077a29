use Rattle.std.proofs.Common.{◌+◌, ◌-◌, take, arith, ◌∙◌}
use Rattle.std.proofs.lemmas.List.{take_more_set}
use Rattle.vx_table.specs.Cutting.{left}
use Rattle.vx_table.proofs.Steps.{args_of-front, finished, no_param, a_param, params_end, stepped, still_unused}
use Rattle.vx_table.proofs.read.read_args.Goals as goal

pub returns-in_default : goal.returns-in_default
returns-in_default c =
    let k = c.loop-k.k in
    let args = c.loop-k.args in
    let none = no_param c.args.params.now k (omega (arith, c.told-params, c.loop-k-test.true)) c.in_default.is in
    c.finish.ensures ∙ finished args (take k args) (k + 1) (left c.loop-k.at c.args.tokens.now) _ (args_of-front k (9 - k) args c.loop-k.invariant.unused) (rw none at c.loop-k.invariant.same)

pub loop-k-preserved : goal.loop-k-preserved
loop-k-preserved c =
    let k = c.loop-k.k in
    let args = c.loop-k.args in
    let a = c.in_ok-args.field-0 in
    let p = c.param.result in
    let some = a_param c.args.params.now k c.in-Some.slot p (omega (arith, c.told-params, c.loop-k-test.true)) c.in-Some.is c.param.ensures in
    record {
      within = c.after-at.ensures.within;
      unused = still_unused args k a c.loop-k.invariant.unused;
      same = rw (take_more_set args k a (omega arith)) (stepped (take k args) a k p _ _ (left c.loop-k.at c.args.tokens.now) _ _ _ c.in_ok-args.ensures c.piece.ensures c.after-at.ensures.left some c.loop-k.invariant.same);
    }

pub returns : goal.returns
returns c =
    let k = c.loop-k.k in
    let args = c.loop-k.args in
    let none = params_end c.args.params.now k (omega (arith, c.told-params, c.loop-k-test.false)) in
    c.finish-2.ensures ∙ finished args (take k args) (k + 1) (left c.loop-k.at c.args.tokens.now) _ (args_of-front k (9 - k) args c.loop-k.invariant.unused) (rw none at c.loop-k.invariant.same)
