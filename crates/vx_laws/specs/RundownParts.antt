-- Parts of the law of rundown that are proved by themselves: a process that is gone rests, and nothing is left of it.
use Rattle.std.specs.Prelude.{List, [], Bool, true, not}
use Rattle.vx_base.specs.declared.effects.Effect.TheVariants as effect
use Rattle.vx_base.specs.declared.record.Event.TheVariants as event
use Rattle.vx_record.specs.Types.{Rec}
use Rattle.vx_laws.specs.Items.{Item, Head, Did, flat, at_each}
use Rattle.vx_laws.specs.Lives.{new_life}
use Rattle.vx_laws.specs.RundownLaw.{is_gone, is_of_nobody_gone, nothing_left}

-- nothing is opened for a process that is gone, no wake for it, and it has no event
abbrev pub stays : List Item → Item → List Item → Bool
stays past (Did (effect.Open id kind p mode n)) rest = is_of_nobody_gone past (new_life past kind p mode n)
stays past (Head (event.Run p) a) rest = not (is_gone past p)
stays past (Head (event.Ast p) a) rest = not (is_gone past p)
stays past (Head (event.Rdn p) a) rest = not (is_gone past p)
stays past x rest = true

-- this part alone
abbrev pub gone_rest : List Rec → Bool
gone_rest recs = at_each stays [] (flat recs)

-- when a process is gone, none of its ids is open, and no wake is for it
abbrev pub leaves : List Item → Item → List Item → Bool
leaves past (Did (effect.Gone p)) rest = nothing_left past p
leaves past x rest = true

-- this part alone
abbrev pub leaves_none : List Rec → Bool
leaves_none recs = at_each leaves [] (flat recs)
