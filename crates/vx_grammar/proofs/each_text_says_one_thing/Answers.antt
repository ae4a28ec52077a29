use Rattle.vx_grammar.proofs.Returned.{some, one_fault, not_both}
use Rattle.vx_grammar.proofs.Whole.{at_most_one}
use Rattle.vx_grammar.proofs.each_text_says_one_thing.Goals as goal

pub returns-clause-some : goal.returns-clause-some
returns-clause-some c = some

pub returns-clause-one_system : goal.returns-clause-one_system
returns-clause-one_system c = at_most_one

pub returns-clause-one_fault : goal.returns-clause-one_fault
returns-clause-one_fault c = one_fault

pub returns-clause-not_both : goal.returns-clause-not_both
returns-clause-not_both c = not_both
