-- The shapes of a picture in SVG, and what stands in a text of it.
use Rattle.std.specs.Prelude.{ℕ, Bool, ◌+◌, ◌-◌, ◌*◌, ◌==◌, nat_le, ◌&&◌, not, List, [], ◌∷◌, ◌++◌, codes, decimal, flat_map, if◌then◌else◌}

-- A byte of a text. What would end a text or an attribute is named, and what is not printed is a dot.

abbrev pub is_printed : ℕ → Bool
is_printed b = nat_le 32 b && nat_le b 126

unfoldable pub escaped_byte : ℕ → List ℕ
escaped_byte b =
    if b == 38 then codes "&amp;" else if b == 60 then codes "&lt;" else if b == 62 then codes "&gt;" else
    if b == 34 then codes "&quot;" else if b == 10 then codes "&#10;" else if is_printed b then b ∷ [] else codes "."

abbrev pub escaped : List ℕ → List ℕ
escaped text = flat_map escaped_byte text

-- a byte that ends neither a text nor an attribute
abbrev pub is_inert : ℕ → Bool
is_inert b = is_printed b && (not (b == 60) && (not (b == 62) && not (b == 34)))

-- Where things stand, in units of which a row has 18.

-- where row n begins, ends, and has its middle and its line of text
abbrev pub top : ℕ → ℕ
top n = 18 * n + 40

abbrev pub bottom : ℕ → ℕ
bottom n = 18 * n + 58

abbrev pub middle : ℕ → ℕ
middle n = 18 * n + 49

abbrev pub base : ℕ → ℕ
base n = 18 * n + 53

-- Shapes.

-- an attribute, behind the end of the one before
unfoldable pub attribute : List ℕ → ℕ → List ℕ
attribute name n = name ++ (decimal n ++ codes "\"")

-- a bar of a class
unfoldable pub bar : List ℕ → ℕ → ℕ → ℕ → List ℕ
bar class x from until =
    codes "<rect class=\"" ++ (class ++ (attribute (codes "\" width=\"9\" x=\"") x ++ (attribute (codes " y=\"") from ++ (attribute (codes " height=\"") (until - from) ++ codes "/>\n"))))

unfoldable pub point : ℕ → ℕ → List ℕ
point x y = decimal x ++ 32 ∷ decimal y

-- the start of a path of a class at a point
unfoldable pub path_start : List ℕ → ℕ → ℕ → List ℕ
path_start class x y = codes "<path class=\"" ++ (class ++ (codes "\" d=\"M" ++ point x y))

-- a line of a class, from one point to another
unfoldable pub stroke : List ℕ → ℕ → ℕ → ℕ → ℕ → List ℕ
stroke class x y to_x to_y = path_start class x y ++ (codes "L" ++ (point to_x to_y ++ codes "\"/>\n"))

-- the start of a text of a class at a point
unfoldable pub text_start : List ℕ → ℕ → ℕ → List ℕ
text_start class x y = codes "<text class=\"" ++ (class ++ (attribute (codes "\" x=\"") x ++ (attribute (codes " y=\"") y ++ codes ">")))

-- a text of a class at a point
unfoldable pub label : List ℕ → ℕ → ℕ → List ℕ → List ℕ
label class x y text = text_start class x y ++ (escaped text ++ codes "</text>\n")

-- what a pointer shows
unfoldable pub title : List ℕ → List ℕ
title text = codes "<title>" ++ (escaped text ++ codes "</title>")

-- a text that shows another to a pointer
unfoldable pub titled : List ℕ → ℕ → ℕ → List ℕ → List ℕ → List ℕ
titled class x y text shown = text_start class x y ++ (escaped text ++ (title shown ++ codes "</text>\n"))

-- a figure of a class, drawn from a point on, that shows a text to a pointer
unfoldable pub figure : List ℕ → ℕ → ℕ → List ℕ → List ℕ → List ℕ
figure class x y shape shown = path_start class x y ++ (shape ++ (codes "\">" ++ (title shown ++ codes "</path>\n")))
