-- Units of different names.
use Rattle.std.proofs.Common.{◌≡◌, ◌∙◌, true, false, List, [], ◌∷◌, ◌++◌, None, Result, Ok, Err, OnOk, OnErr, bytes_eq, ap}
use Rattle.vx_image.specs.declared.unit.UnitDecl.{UnitDecl}
use Rattle.vx_image.specs.WellFormed.{is_among, are_distinct}
use Rattle.vx_script.specs.Places.{unit_place}
use Rattle.vx_script.specs.Steps.{unit_names}
use Rattle.vx_script.proofs.Appended.{distinct_push}
use Rattle.std.proofs.lemmas.List.{map_push}
use Rattle.vx_base.proofs.Any.{no_position, any_map}

-- one unit more, of a new name
pub one_more : (units : List UnitDecl) (u : UnitDecl) → are_distinct (unit_names units) ≡ true → unit_place u.name units ≡ None
    → are_distinct (unit_names (units ++ u ∷ [])) ≡ true
one_more units u h new =
    let name = λ (v : UnitDecl). v.name in
    let absent : is_among u.name (unit_names units) ≡ false =
    any_map (bytes_eq u.name) name units ∙ no_position (λ (v : UnitDecl). bytes_eq u.name v.name) units new in
    ap are_distinct (map_push name units u) ∙ distinct_push (unit_names units) u.name h absent

-- one more, or none if memory ran out
pub still_distinct : {E : Type 0} (r : Result (Unit {0}) E) (old new : List UnitDecl) (u : UnitDecl) → are_distinct (unit_names old) ≡ true
    → unit_place u.name old ≡ None → OnOk r (new ≡ old ++ u ∷ []) → OnErr r (new ≡ old) → are_distinct (unit_names new) ≡ true
still_distinct (Ok _) old new u h absent ok err = ap (λ (units : List UnitDecl). are_distinct (unit_names units)) ok ∙ one_more old u h absent
still_distinct (Err _) old new u h absent ok err = ap (λ (units : List UnitDecl). are_distinct (unit_names units)) err ∙ h
