-- Requests in a slab, each under the key that its place has.
use Rattle.std.specs.Prelude.{ℕ, ◌≡◌, ◌≤◌, ◌≢◌, Bool, List, [], ◌∷◌, Option, Some, None, IfSome, length, map, is_some}
use Rattle.std.specs.List.{AllByRecursion}
use Rattle.slab.specs.Slab.{Slab, ContainsKey, get, slab_len}
use Rattle.vx_record.specs.Types.{Request}
use Rattle.vx_reqs.specs.Places.{Place, live}
use Rattle.vx_reqs.specs.declared.slot.Slot.{Slot as SlotOf}

-- the request under a key, if there is one
abbrev pub request_under : Slab Request → Option ℕ → Option Request
request_under slab None = None
request_under slab (Some key) = get slab key

abbrev pub place_of : Slab Request → SlotOf → Place
place_of slab slot = record { id = slot.id; request = request_under slab slot.key }

abbrev pub places_of : Slab Request → List SlotOf → List Place
places_of slab slots = map (place_of slab) slots

abbrev pub has_key : SlotOf → Bool
has_key slot = is_some slot.key

-- a place has another key, or none
abbrev pub IsOther : ℕ → SlotOf → Type 0
IsOther key slot = slot.key ≢ Some key

-- each key has a request, and no other place has it
abbrev pub AreKeys : Slab Request → List SlotOf → Type 0
AreKeys slab [] = Unit {0}
AreKeys slab (x ∷ xs) = IfSome x.key (λ key. ContainsKey slab key × AllByRecursion (IsOther key) xs) × AreKeys slab xs

-- what places and their slab keep: each request has its place, and there is room for so many in both
pub record AreHeld (slots : List SlotOf) (slab : Slab Request) (room space : ℕ) : Type 0 where
  pub keys : AreKeys slab slots
  pub count : slab_len slab ≡ length (live (places_of slab slots))
  pub within : room ≤ space
  pub held : room ≤ slab.capacity
