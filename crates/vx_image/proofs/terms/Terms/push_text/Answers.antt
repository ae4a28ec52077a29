use Rattle.std.proofs.Common.{◌∙◌}
use Rattle.vx_base.proofs.Results.{on_err_too}
use Rattle.vx_image.proofs.KeptTerms.{terms_kept, still_there}
use Rattle.vx_image.proofs.terms.Terms.push_text.Goals as goal

pub returns-in_err-packed-clause-err : goal.returns-in_err-packed-clause-err
returns-in_err-packed-clause-err c = on_err_too c.from_residual.result (terms_kept _ c.pack_text.new.texts _ c.self.invariant c.pack_text.ensures.kept ∙ c.self.view_is)

pub invariant_of-self-in_err-push : goal.invariant_of-self-in_err-push
invariant_of-self-in_err-push c = rw (c.in_err-push.ensures.items) (still_there _ c.pack_text.new.texts _ c.self.invariant c.pack_text.ensures.kept)

pub returns-in_err-push-clause-err : goal.returns-in_err-push-clause-err
returns-in_err-push-clause-err c = on_err_too c.from_residual-in_err-push.result (rw (c.in_err-push.ensures.items) (terms_kept _ c.pack_text.new.texts _ c.self.invariant c.pack_text.ensures.kept ∙ c.self.view_is))
