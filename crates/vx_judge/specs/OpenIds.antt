-- The ids of which something may still be open, in one list.
use Rattle.std.specs.Prelude.{◌≡◌, List, Bool, true, false, ◌||◌, Option, Some, None, nat_eq}
use Rattle.std.specs.HashMap.{get}
use Rattle.std.specs.List.{list_any}
use Rattle.vx_record.specs.Types.{Id}
use Rattle.vx_laws.specs.Items.{Item, is_id}
use Rattle.vx_laws.specs.Lives.{life, is_open}
use Rattle.vx_judge.specs.declared.life.Life.{Life}
use Rattle.vx_judge.specs.declared.lives.Lives.{Lives}
use Rattle.vx_base.specs.Lists.{is_some_and}

abbrev pub has_open : Option Life → Bool
has_open None = false
has_open (Some l) = l.body || l.routine

abbrev pub is_open_in : Lives → Id → Bool
is_open_in t id = has_open (get nat_eq t.map id.0)

-- each id of which the past leaves something open is in the list
abbrev pub HasOpen : List Id → List Item → Type 0
HasOpen ids past = (id : Id) → is_some_and is_open (life past id) ≡ true → list_any (is_id id) ids ≡ true
