use Rattle.std.proofs.Common.{◌∙◌, map, arith}
use Rattle.std.proofs.lemmas.List.{length-map}
use Rattle.vx_image.proofs.KeptStmts.{stmts_kept, have_kept, stmts_and_one, have_and_one}
use Rattle.vx_base.proofs.Results.{on_err_too}
use Rattle.vx_image.specs.Terms.{OfArg}
use Rattle.vx_image.proofs.stmts.Stmts.push_args.Goals as goal

pub returns-in_err-push_all-clause-err : goal.returns-in_err-push_all-clause-err
returns-in_err-push_all-clause-err c = on_err_too c.from_residual-in_err-push_all.result (stmts_kept _ c.push_all.new.self _ c.self.invariant c.push_all.ensures.kept ∙ c.self.view_is)

pub invariant_of-self-in_err-push : goal.invariant_of-self-in_err-push
invariant_of-self-in_err-push c = rw (c.in_err-push.ensures.items) (have_kept _ c.push_all.new.self _ c.self.invariant c.push_all.ensures.kept)

pub returns-in_err-push-clause-err : goal.returns-in_err-push-clause-err
returns-in_err-push-clause-err c = on_err_too c.from_residual-in_err-push.result (rw (c.in_err-push.ensures.items) (stmts_kept _ c.push_all.new.self _ c.self.invariant c.push_all.ensures.kept ∙ c.self.view_is))

pub invariant_of-self-2 : goal.invariant_of-self-2
invariant_of-self-2 c =
    let few = c.requires in
    let many = length-map c.args.args.now OfArg in
    rw (c.in_ok-push.ensures.items) (have_and_one _ c.push_all.new.self (map OfArg c.args.args.now) _ _ c.self.invariant c.in_ok-push_all.ensures.ok (c.in_ok-start.ensures ∙ c.len.ensures) (omega (arith, few, many)))

pub returns-clause-ok : goal.returns-clause-ok
returns-clause-ok c =
    let few = c.requires in
    let many = length-map c.args.args.now OfArg in
    rw (c.in_ok-push.ensures.items, ← c.self.view_is) (stmts_and_one _ c.push_all.new.self (map OfArg c.args.args.now) _ _ c.self.invariant c.in_ok-push_all.ensures.ok (c.in_ok-start.ensures ∙ c.len.ensures) (omega (arith, few, many)))
