-- Where names stand in lists, and numbers in rising order.
use Rattle.std.specs.Prelude.{ℕ, ◌==◌, ◌&&◌, Bool, nat_lt, List, [], ◌∷◌, Option, position, bytes_eq, if◌then◌else◌}
use Rattle.vx_image.specs.declared.image.Image.{Image}
use Rattle.vx_image.specs.declared.image.Label.{Label}
use Rattle.vx_image.specs.declared.unit.UnitDecl.{UnitDecl}

abbrev pub unit_place : List ℕ → List UnitDecl → Option ℕ
unit_place name units = position (λ u. bytes_eq name u.name) units

abbrev pub image_place : List ℕ → List Image → Option ℕ
image_place name images = position (λ i. bytes_eq name i.name) images

abbrev pub label_place : List ℕ → List Label → Option ℕ
label_place name labels = position (λ l. bytes_eq name l.name) labels

abbrev pub is_line_unit : List ℕ → UnitDecl → Bool
is_line_unit name u = bytes_eq name u.name && (u.blocks == 0)

-- a number in its place among rising ones
abbrev pub in_place : ℕ → List ℕ → List ℕ
in_place n [] = n ∷ []
in_place n (m ∷ ms) = if nat_lt n m then n ∷ m ∷ ms else m ∷ in_place n ms

abbrev pub rising : List ℕ → List ℕ
rising [] = []
rising (n ∷ ns) = in_place n (rising ns)
