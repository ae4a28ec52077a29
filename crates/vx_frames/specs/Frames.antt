-- The frames of a process, the top first.
use Rattle.std.specs.Prelude.{ℕ, List, [], ◌∷◌, Bool, true, ◌&&◌, ◌||◌, not, Option}
use Rattle.std.specs.List.{list_all}
use Rattle.vx_base.specs.Modes.{reaches}
use Rattle.vx_base.specs.declared.frame.Frame.{Frame}
use Rattle.vx_base.specs.declared.frame.Wait.{Wait}
use Rattle.vx_base.specs.declared.mode.Mode.{Mode}
use Rattle.vx_base.specs.Frames.{is_ast}

-- the frames, and how many there is room for in all
pub record Stack : Type 0 where
  pub items : List Frame
  pub capacity : ℕ

-- the top frame goes on at a statement, and waits for something or for nothing
abbrev pub gone_on : ℕ → Option Wait → List Frame → List Frame
gone_on pc wait [] = []
gone_on pc wait (f ∷ fs) = record f { pc = pc; wait = wait } ∷ fs

-- a frame may be put on others: it is not further out than their top
abbrev pub may_stand_on : Frame → List Frame → Bool
may_stand_on f [] = true
may_stand_on f (g ∷ fs) = reaches g.mode f.mode

-- from the bottom to the top, modes never go outward
abbrev pub goes_inward : List Frame → Bool
goes_inward [] = true
goes_inward (f ∷ fs) = may_stand_on f fs && goes_inward fs

-- each active AST is of this mode or further out
abbrev pub is_inmost : Mode → List Frame → Bool
is_inmost m fs = list_all (λ f. not (is_ast f.kind) || reaches f.mode m) fs
