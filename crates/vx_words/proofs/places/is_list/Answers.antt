use Rattle.std.proofs.Common.{rules, tests}
use Rattle.std.proofs.lemmas.Iterator.Search.{all_from_yields_List}
use Rattle.std.proofs.lemmas.Iterator.Splits.{YieldsList-from_slice_split}
use Rattle.vx_words.specs.Listing.{is_place}
use Rattle.vx_words.specs.Places.{is_comma}
use Rattle.vx_words.proofs.places.is_list.Goals as goal

pub returns : goal.returns
returns c =
    all_from_yields_List is_place _ _ _ c.all.ensures.ran
    (YieldsList-from_slice_split _ is_comma c.args.word.now c.split.ensures.rest c.split.ensures.done c.split.ensures.closure (λ x r q k. search (rules, tests)))
    (λ x b q k. search (rules, tests))
