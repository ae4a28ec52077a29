-- The reads that may wait at boxes, in lists by their names.
use Rattle.std.specs.Prelude.{◌≡◌, ℕ, List, [], ◌∷◌, Bool, true, false, ◌&&◌, ◌==◌, not, nat_lt, if◌then◌else◌, Option, Some, None, nat_eq}
use Rattle.std.specs.HashMap.{get}
use Rattle.std.specs.List.{list_any}
use Rattle.vx_record.specs.Types.{Id, Opened}
use Rattle.vx_laws.specs.Boxes.{reads_at}
use Rattle.vx_laws.specs.Items.{Item, is_id}
use Rattle.vx_laws.specs.Lives.{life, is_request}
use Rattle.vx_judge.specs.BoxLists.{listed}
use Rattle.vx_judge.specs.Requests.{reads_in}
use Rattle.vx_judge.specs.declared.asked.Asked.{Asked}
use Rattle.vx_judge.specs.declared.box_lists.BoxLists.{BoxLists}
use Rattle.vx_judge.specs.declared.life.Life.{Life}
use Rattle.vx_judge.specs.declared.lives.Lives.{Lives}
use Rattle.vx_judge.specs.declared.requests.Requests.{Requests}
use Rattle.vx_base.specs.Lists.{is_some_and}

abbrev pub has_request : Option Life → Bool
has_request None = false
has_request (Some l) = is_request l.kind && l.body

abbrev pub is_outstanding_in : Lives → Id → Bool
is_outstanding_in t id = has_request (get nat_eq t.map id.0)

-- it waits at the box
abbrev pub waits_in : Lives → Requests → List ℕ → Id → Bool
waits_in t u name id = is_outstanding_in t id && reads_in u name id

-- each READ of a box that the past leaves outstanding is in the box's list
abbrev pub HasReads : BoxLists Id → List Item → Type 0
HasReads t past = (name : List ℕ) (id : Id) → is_some_and (reads_at name) (life past id) ≡ true → list_any (is_id id) (listed t name) ≡ true

-- The least of a list that passes.

abbrev pub lesser : Option Id → Option Id → Option Id
lesser None b = b
lesser (Some a) None = Some a
lesser (Some a) (Some b) = if nat_lt b.0 a.0 then Some b else Some a

abbrev pub if_passes : (Id → Bool) → Id → Option Id
if_passes test id = if test id then Some id else None

abbrev pub least_of : (Id → Bool) → List Id → Option Id
least_of test [] = None
least_of test (id ∷ ids) = lesser (if_passes test id) (least_of test ids)

-- ids count from 1
abbrev pub counted_wait : Lives → Requests → List ℕ → Id → Bool
counted_wait t u name id = not (id.0 == 0) && waits_in t u name id

-- the box at which an id waits that is opened
abbrev pub box_of : Opened → Asked → Option (List ℕ)
box_of kind a = if is_request kind && a.waits then a.device else None
