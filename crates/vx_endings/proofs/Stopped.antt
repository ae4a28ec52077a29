-- A run that stops has ended as it says.
use Rattle.std.proofs.Common.{◌≡◌, ℕ, ◌+◌, ◌≤◌, List, [], ◌∷◌, Bool, Some, refl, arith, ◌⊎◌, inl, inr}
use Rattle.std.proofs.lemmas.Bool.Decides.{nat_tests}
use Rattle.vx_record.specs.Types.{End, Event}
use Rattle.vx_record.specs.Events.{enabled}
use Rattle.vx_record.specs.Runs.{are_deleted, end_of, end_with}
use Rattle.vx_record.specs.State.{State}
use Rattle.vx_endings.specs.Endings.{end_at, end_by}

ended_by : (limit taken : ℕ) (deleted : Bool) (es : List Event) (end : End) → end_with limit taken deleted es ≡ Some end → end_by deleted es ≡ end
ended_by limit taken deleted [] end ended = cc
ended_by limit taken deleted (e ∷ es) end ended = grind (arith, nat_tests, ended)

pub ended_at : (limit taken : ℕ) (s : State) (end : End) → end_of limit taken s ≡ Some end → end_at s ≡ end
ended_at limit taken s end ended = ended_by limit taken (are_deleted s) (enabled s) end ended

stopped_by : (limit taken : ℕ) (deleted : Bool) (es : List Event) → (limit ≤ taken) ⊎ (es ≡ []) → end_with limit taken deleted es ≡ Some (end_by deleted es)
stopped_by limit taken deleted [] stops = refl
stopped_by limit taken deleted (e ∷ es) (inl reached) = grind (arith, nat_tests, reached)
stopped_by limit taken deleted (e ∷ es) (inr none) = absurd (cc)

pub stopped_at : (limit taken : ℕ) (s : State) → (limit ≤ taken) ⊎ (enabled s ≡ []) → end_of limit taken s ≡ Some (end_at s)
stopped_at limit taken s stops = stopped_by limit taken (are_deleted s) (enabled s) stops

-- before the limit a run has ended only if nothing is enabled
none_by : (limit taken : ℕ) (deleted : Bool) (es : List Event) (end : End) → taken + 1 ≤ limit → end_with limit taken deleted es ≡ Some end → es ≡ []
none_by limit taken deleted [] end below ended = refl
none_by limit taken deleted (e ∷ es) end below ended = absurd (grind (arith, nat_tests, ended))

pub none_enabled : (limit taken : ℕ) (s : State) (end : End) → taken + 1 ≤ limit → end_of limit taken s ≡ Some end → enabled s ≡ []
none_enabled limit taken s end below ended = none_by limit taken (are_deleted s) (enabled s) end below ended
