-- Requests in the places where they were accepted.
use Rattle.std.specs.Prelude.{ℕ, ◌+◌, ◌<◌, ◌≤◌, ◌≡◌, ◌≢◌, get_or, List, [], ◌∷◌, ◌++◌, Bool, false, IsTrue, Option, None, is_some, option_map, option_to_list, IfSome}
use Rattle.std.specs.List.{AllByRecursion}
use Rattle.vx_record.specs.Types.{BoxNo, Id, Request, UnitNo}
use Rattle.vx_base.specs.Queues.{is_served_by, waits_for}
use Rattle.vx_record.specs.Mailboxes.{waits_at}
use Rattle.vx_base.specs.Lists.{is_some_and}

-- the id of the request that was accepted there, and the request while it is outstanding
pub record Place : Type 0 where
  pub id : Id
  pub request : Option Request

-- a request stands there, and passes
abbrev pub holds : (Request → Bool) → Place → Bool
holds p place = is_some_and p place.request

-- a request stands there
abbrev pub is_held : Place → Bool
is_held place = is_some place.request

-- the place that the request has left
abbrev pub emptied : Place → Place
emptied place = record place { request = None }

-- the place with its request, if it has one, changed
abbrev pub changed : (Request → Request) → Place → Place
changed f place = record place { request = option_map f place.request }

-- the requests that stand in places, in order
abbrev pub live : List Place → List Request
live [] = []
live (x ∷ xs) = option_to_list x.request ++ live xs

-- the request that stands there has the place's id
abbrev pub IsOwn : Place → Type 0
IsOwn place = IfSome place.request (λ r. r.req.id.0 ≡ place.id.0)

-- the ids rise, from `low` on, and stay below `next`
abbrev pub Rises : ℕ → List Place → ℕ → Type 0
Rises low [] next = low ≤ next
Rises low (x ∷ xs) next = IsOwn x × (low ≤ x.id.0) × Rises (x.id.0 + 1) xs next

-- no request waits there for the unit below the number `from`, and the unit serves none there but with the id `served`
pub record Keeps (u : UnitNo) (from served : ℕ) (x : Place) : Type 0 where
  pub waits : x.id.0 < from → holds (waits_for u) x ≡ false
  pub serves : x.id.0 ≢ served → holds (is_served_by u) x ≡ false

abbrev pub AllKeep : UnitNo → ℕ → ℕ → List Place → Type 0
AllKeep u from served [] = Unit {0}
AllKeep u from served (x ∷ xs) = Keeps u from served x × AllKeep u from served xs

-- the ids rise, and each unit's numbers tell where its requests are
pub record IsOrdered (next : ℕ) (from served : List ℕ) (places : List Place) : Type 0 where
  pub rises : Rises 0 places next
  pub units : (u : UnitNo) → u.0 < 32 → AllKeep u (get_or from u.0 0) (get_or served u.0 0) places

-- the same, if it is said to be so
abbrev pub OrderedIf : Bool → ℕ → List ℕ → List ℕ → List Place → Type 0
OrderedIf rising next from served places = IsTrue rising → IsOrdered next from served places

-- no read waits there at the mailbox below the number `from`
abbrev pub IsFrom : BoxNo → ℕ → Place → Type 0
IsFrom b from x = x.id.0 < from → holds (waits_at b) x ≡ false

-- each mailbox's number tells where its reads are
abbrev pub AreFrom : List ℕ → List Place → Type 0
AreFrom from places = (b : BoxNo) → b.0 < 64 → AllByRecursion (IsFrom b (get_or from b.0 0)) places

-- what is known of the places of requests
pub record IsKept (places : List Place) (rising : Bool) (next : ℕ) (from served reads : List ℕ) : Type 0 where
  pub order : OrderedIf rising next from served places
  pub waiting : AreFrom reads places
