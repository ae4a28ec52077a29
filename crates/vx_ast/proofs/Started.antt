-- The AST that may start is the first of its mode.
use Rattle.std.proofs.Common.{◌≡◌, nat_eq, List, Option, Some, None, ap, sym, ◌∙◌, refl}
use Rattle.std.proofs.lemmas.Bool.{eqb-true}
use Rattle.std.specs.List.{find}
use Rattle.vx_base.specs.Lists.{less}
use Rattle.vx_base.specs.Modes.{rank}
use Rattle.vx_base.specs.Pieces.{Queued, Enables}
use Rattle.vx_base.specs.Queues.{is_of_mode, deliverable}
use Rattle.vx_base.specs.declared.mode.Mode.{Mode}
use Rattle.vx_ast.specs.Queue.{less_first_like, less_deliverable, first_in}
use Rattle.vx_base.proofs.First.{found_passes, less_none}

less_found : (m : Mode) (r : Option Queued) (asts : List Queued) → find (is_of_mode m) asts ≡ r → less_first_like r asts ≡ less (is_of_mode m) asts
less_found m None asts e = sym (less_none (is_of_mode m) asts e)
less_found m (Some q) asts e = ap (λ r. less (λ (a : Queued). nat_eq (rank a.mode) r) asts) (eqb-true _ _ (found_passes (is_of_mode m) asts q e))

pub less_started : (enables : Enables) (current : Mode) (active : Option Mode) (asts : List Queued) (m : Mode) → deliverable enables current active asts ≡ first_in (Some m) asts → less (is_of_mode m) asts ≡ less_deliverable enables current active asts
less_started enables current active asts m e = sym (ap (λ r. less_first_like r asts) e ∙ less_found m (find (is_of_mode m) asts) asts refl)
