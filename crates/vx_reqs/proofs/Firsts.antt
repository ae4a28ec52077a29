-- The first place that holds what is looked for.
use Rattle.std.proofs.Common.{◌≡◌, ℕ, ◌<◌, Bool, List, Option, None, Some, IfSome, is_some, get_or, length, position, refl, set, sym, ap, ◌∙◌}
use Rattle.std.specs.List.{find, list_any}
use Rattle.vx_base.specs.Lists.{amend}
use Rattle.vx_record.specs.Types.{Id, Request}
use Rattle.vx_base.proofs.First.{amend_at, found_at, none_at}
use Rattle.vx_reqs.specs.Places.{Place, holds, live}
use Rattle.vx_reqs.proofs.Live.{any_found, found_live, request_of}
use Rattle.std.proofs.lemmas.List.{get_or_default}

-- a place, so that there is one
abbrev pub some_place : Place
some_place = let i : Id = record { 0 = 0 } in record { id = i; request = None }

-- it is changed
pub set_found : (p : Request → Bool) (g : Place → Place) (xs : List Place) (i : ℕ) (new : List Place) → Some i ≡ position (holds p) xs → ((d : Place) → new ≡ set xs i (g (get_or xs i d))) → new ≡ amend (holds p) g xs
set_found p g xs i new place after = after some_place ∙ amend_at (holds p) g xs i some_place (g (get_or xs i some_place)) place refl

-- what it is
pub place_found : (q : Place → Bool) (xs : List Place) (i : ℕ) → i < length xs → Some i ≡ position q xs → Some (get_or xs i some_place) ≡ find q xs
place_found q xs i within place = found_at q xs i (get_or xs i some_place) place (get_or_default xs i some_place (get_or xs i some_place) within)

-- the request that stands there
pub request_found : (p : Request → Bool) (xs : List Place) (i : ℕ) (o : Option Request) → i < length xs → Some i ≡ position (holds p) xs → ((d : Place) → o ≡ (get_or xs i d).request) → o ≡ find p (live xs)
request_found p xs i o within place is = is some_place ∙ ap request_of (place_found (holds p) xs i within place) ∙ sym (found_live p xs)

-- whether there is one
pub is_placed : (q : Place → Bool) (xs : List Place) (o : Option ℕ) → o ≡ position q xs → IfSome o (λ i. i < length xs) → is_some o ≡ list_any q xs
is_placed q xs None place within = sym (any_found q xs ∙ ap is_some (sym (none_at q xs place).0))
is_placed q xs (Some i) place within = ap is_some (place_found q xs i within place) ∙ sym (any_found q xs)
