-- Lists by the names of boxes.
use Rattle.std.specs.Prelude.{ℕ, List, [], bytes_eq, option_map, unwrap_or}
use Rattle.std.specs.HashMap.{get}
use Rattle.vx_judge.specs.declared.box_lists.BoxLists.{BoxLists}

abbrev pub listed : {T : Type 0} → BoxLists T → List ℕ → List T
listed t name = unwrap_or (option_map (λ v. v.items) (get bytes_eq t.map name)) []
