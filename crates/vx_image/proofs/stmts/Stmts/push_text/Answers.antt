use Rattle.std.proofs.Common.{◌∙◌, ◌∷◌, [], refl}
use Rattle.vx_image.proofs.KeptStmts.{stmts_kept, have_and_one}
use Rattle.vx_base.proofs.Results.{on_err_too}
use Rattle.vx_image.proofs.KeptTerms.{begins_longer}
use Rattle.vx_image.specs.Terms.{OfText}
use Rattle.vx_image.proofs.stmts.Stmts.push_text.Goals as goal

pub returns-in_err-push-clause-err : goal.returns-in_err-push-clause-err
returns-in_err-push-clause-err c = on_err_too c.from_residual-in_err-push.result (rw (c.in_err-push.ensures.items) (stmts_kept _ c.push_text.new.self _ c.self.invariant (begins_longer _ _ (OfText c.args.text.now ∷ []) c.in_ok-push_text.ensures.ok) ∙ c.self.view_is))

pub invariant_of-self-2 : goal.invariant_of-self-2
invariant_of-self-2 c = rw (c.in_ok-push.ensures.items) (have_and_one _ c.push_text.new.self (OfText c.args.text.now ∷ []) _ _ c.self.invariant c.in_ok-push_text.ensures.ok (c.in_ok-start.ensures ∙ c.len.ensures) refl)
