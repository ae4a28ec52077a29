use Rattle.std.proofs.Common.{◌∙◌}
use Rattle.vx_words.proofs.Listed.{all_read, is_read, none_read}
use Rattle.vx_words.proofs.places.places_in.Goals as goal

pub returns-then-not-is_list-clause-places : goal.returns-then-not-is_list-clause-places
returns-then-not-is_list-clause-places c = none_read c.args.word.now c.is_list.result c.is_list.ensures c.if-not-is_list.true

pub returns-in_err-places-clause-no_memory : goal.returns-in_err-places-clause-no_memory
returns-in_err-places-clause-no_memory c = is_read c.args.word.now c.is_list.result c.from_residual.result c.is_list.ensures c.if-not-is_list.false

pub returns-clause-places : goal.returns-clause-places
returns-clause-places c = all_read c.args.word.now c.is_list.result c.from_vec.result c.is_list.ensures c.if-not-is_list.false (c.from_vec.ensures ∙ c.in_ok-places.ensures)
