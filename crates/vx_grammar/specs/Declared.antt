-- What lines declare, one after another.
use Rattle.std.specs.Prelude.{◌≡◌, ℕ, ◌+◌, ◌<◌, ◌==◌, false, List, [], ◌∷◌, ◌++◌, length, Option, None, if◌then◌else◌}
use Rattle.vx_image.specs.WellFormed.{is_among}
use Rattle.vx_grammar.specs.Grammar.{Said, Names, Does, Item, OfUnit, OfInput, OfFault, OfImage, OfProcess}

-- An image: its labels so far, and the number of its statements.
pub record DeclaredImage : Type 0 where
  pub name : List ℕ
  pub labels : List (List ℕ)
  pub stmts : ℕ

-- What lines declare: names, those of line units apart too, FAULT lines as their number and unit, the images that are ended, and
-- the image that is not.
pub record Declared : Type 0 where
  pub units : List (List ℕ)
  pub line_units : List (List ℕ)
  pub images : List (List ℕ)
  pub processes : List (List ℕ)
  pub faults : List (List ℕ)
  pub ended : List DeclaredImage
  pub image : Option DeclaredImage

abbrev pub nothing_declared : Declared
nothing_declared = record { units = []; line_units = []; images = []; processes = []; faults = []; ended = []; image = None }

-- an item declares nothing that is declared already, and there is room for it
abbrev pub IsNew : Declared → Item → Type 0
IsNew d (OfUnit name blocks) = (is_among name d.units ≡ false) × (length d.units < 32)
IsNew d (OfInput unit text) = Unit {0}
IsNew d (OfFault unit number) = is_among (number ∷ unit) d.faults ≡ false
IsNew d (OfImage i) = (is_among i.name d.images ≡ false) × (length d.images < 256)
IsNew d (OfProcess p) = (is_among p.name d.processes ≡ false) × (length d.processes < 1000)

-- a line unit has no blocks
abbrev pub line_name : List ℕ → ℕ → List (List ℕ)
line_name name blocks = if blocks == 0 then name ∷ [] else []

abbrev pub and_item : Declared → Item → Declared
and_item d (OfUnit name blocks) = record d { units = d.units ++ name ∷ []; line_units = d.line_units ++ line_name name blocks }
and_item d (OfInput unit text) = d
and_item d (OfFault unit number) = record d { faults = d.faults ++ (number ∷ unit) ∷ [] }
and_item d (OfImage i) = record d { images = d.images ++ i.name ∷ [] }
and_item d (OfProcess p) = record d { processes = d.processes ++ p.name ∷ [] }

-- the same of what a line of an image says
abbrev pub IsNewIn : DeclaredImage → Said → Type 0
IsNewIn o (Names label) = is_among label o.labels ≡ false
IsNewIn o (Does s) = o.stmts < 10000

abbrev pub and_said : DeclaredImage → Said → DeclaredImage
and_said o (Names label) = record o { labels = o.labels ++ label ∷ [] }
and_said o (Does s) = record o { stmts = o.stmts + 1 }
