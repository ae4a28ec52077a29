-- The name of a channel's device, after a number was answered.
use Rattle.std.proofs.Common.{◌≡◌, ℕ, Bool, true, false, cond, List, Option, Some, None, refl, ◌∙◌}
use Rattle.std.specs.Option.{option_or}

pub named_on : (b : Bool) (name : List ℕ) (new old d called : Option (List ℕ)) → new ≡ cond b (Some name) old → Some name ≡ called → old ≡ d → new ≡ cond b (option_or called d) d
named_on true name new old d called e s o = e ∙ rw (← s) refl
named_on false name new old d called e s o = e ∙ o

pub unnamed_on : (b : Bool) (old d called : Option (List ℕ)) → called ≡ None → old ≡ d → old ≡ cond b (option_or called d) d
unnamed_on true old d called n o = rw n o
unnamed_on false old d called n o = o
