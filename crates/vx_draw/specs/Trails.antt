-- The trails of what has an id: a line from each place where it was told to the next.
use Rattle.std.specs.Prelude.{ℕ, ◌-◌, ◌==◌, nat_lt, Bool, false, List, [], ◌∷◌, ◌++◌, length, if◌then◌else◌, slice_index_or, slice_set}
use Rattle.vx_base.specs.declared.mode.Mode.{Mode}
use Rattle.vx_base.specs.declared.mode.Mode.TheVariants.{User}
use Rattle.vx_base.specs.declared.number.Id.{Id}
use Rattle.vx_draw.specs.Shapes.{stroke}
use Rattle.vx_draw.specs.declared.trails.Tale.{Tale}
use Rattle.vx_draw.specs.declared.trails.Tale.TheVariants as tale
use Rattle.vx_draw.specs.declared.trails.Trail.{Trail}

abbrev pub no_trail : Trail
no_trail = record { x = 0; y = 0; mode = User; forces = false }

-- ids begin at 1
abbrev pub trail_at : List Trail → Id → Trail
trail_at trails id = slice_index_or trails (id.0 - 1) no_trail

-- a line from where an id was last told to where it is told now, if that is further down
abbrev pub line_on : List ℕ → ℕ → ℕ → Trail → List ℕ
line_on class x y trail = if nat_lt trail.y y then stroke class trail.x trail.y x y else []

-- ids rise by one, so the next has its trail behind the others
abbrev pub opened : ℕ → ℕ → Id → Mode → Bool → List Trail → List Trail
opened x y id mode forces trails = if (id.0 - 1) == length trails then trails ++ record { x = x; y = y; mode = mode; forces = forces } ∷ [] else trails

abbrev pub followed_text : List ℕ → ℕ → ℕ → Id → List Trail → List ℕ
followed_text class x y id trails = if nat_lt (id.0 - 1) (length trails) then line_on class x y (trail_at trails id) else []

abbrev pub followed : ℕ → ℕ → Id → List Trail → List Trail
followed x y id trails = if nat_lt (id.0 - 1) (length trails) then slice_set trails (id.0 - 1) (record (trail_at trails id) { x = x; y = y }) else trails

-- what is drawn if something is told of an id
abbrev pub tale_text : List ℕ → ℕ → ℕ → Tale → List Trail → List ℕ
tale_text class x y tale.Nothing trails = []
tale_text class x y (tale.Opened id mode forces) trails = []
tale_text class x y (tale.Again id) trails = followed_text class x y id trails

abbrev pub told : ℕ → ℕ → Tale → List Trail → List Trail
told x y tale.Nothing trails = trails
told x y (tale.Opened id mode forces) trails = opened x y id mode forces trails
told x y (tale.Again id) trails = followed x y id trails
