-- The queued ASTs of one process.
use Rattle.std.specs.Prelude.{ℕ, List, Option, Some, None}
use Rattle.std.specs.List.{find}
use Rattle.vx_base.specs.Lists.{less}
use Rattle.vx_base.specs.Pieces.{Queued, Enables}
use Rattle.vx_base.specs.Queues.{is_of_mode, deliverable}
use Rattle.vx_base.specs.declared.mode.Mode.{Mode}

-- The queued ASTs in order of queuing, which modes have delivery enabled, and how many ASTs there is room for in all.
pub record Queue : Type 0 where
  pub items : List Queued
  pub enables : Enables
  pub capacity : ℕ

-- the list without an AST that is the first of its mode
abbrev pub less_first_like : Option Queued → List Queued → List Queued
less_first_like None asts = asts
less_first_like (Some q) asts = less (is_of_mode q.mode) asts

-- the list without the AST that may start, which is the first of its mode
abbrev pub less_deliverable : Enables → Mode → Option Mode → List Queued → List Queued
less_deliverable enables current active asts = less_first_like (deliverable enables current active asts) asts

-- the first AST of a mode, if there is a mode
abbrev pub first_in : Option Mode → List Queued → Option Queued
first_in None asts = None
first_in (Some m) asts = find (is_of_mode m) asts
