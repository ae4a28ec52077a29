-- What boxes store, in lists by their names.
use Rattle.std.specs.Prelude.{◌≡◌, ℕ, List}
use Rattle.vx_laws.specs.Boxes.{Stored, stored}
use Rattle.vx_laws.specs.Items.{Item}
use Rattle.vx_judge.specs.BoxLists.{listed}
use Rattle.vx_judge.specs.declared.box_lists.BoxLists.{BoxLists}

abbrev pub AreStored : BoxLists Stored → List Item → Type 0
AreStored t past = (name : List ℕ) → listed t name ≡ stored past name
