-- What the front of a unit tells of the list.
use Rattle.std.proofs.Common.{◌≡◌, List, Bool, true, false, cond, Some, None, refl, ap, is_some, sym, ◌∙◌}
use Rattle.std.specs.List.{find, list_any}
use Rattle.vx_base.specs.Lists.{amend}
use Rattle.vx_record.specs.Types.{Request, UnitNo}
use Rattle.vx_base.specs.Queues.{front, in_service, is_served_by, waits_for}
use Rattle.vx_reqs.specs.Requests.{begun}
use Rattle.vx_reqs.proofs.Live.{any_found}
use Rattle.vx_record.specs.Requests.{taken_up}
use Rattle.vx_base.proofs.First.{amend_nowhere}

-- it serves one
pub front_busy : (u : UnitNo) (rs : List Request) (r : Request) → Some r ≡ in_service u rs → None ≡ front u rs
front_busy u rs r serves =
    let any : list_any (is_served_by u) rs ≡ true = any_found (is_served_by u) rs ∙ sym (ap is_some serves) in
    sym (ap (λ (b : Bool). cond b None (find (waits_for u) rs)) any)

-- it serves none
pub front_free : (u : UnitNo) (rs : List Request) → None ≡ in_service u rs → find (waits_for u) rs ≡ front u rs
front_free u rs serves =
    let any : list_any (is_served_by u) rs ≡ false = any_found (is_served_by u) rs ∙ sym (ap is_some serves) in
    sym (ap (λ (b : Bool). cond b None (find (waits_for u) rs)) any)

-- nothing is taken
pub begun_none : (u : UnitNo) (rs : List Request) → None ≡ front u rs → rs ≡ begun u rs
begun_none u rs none =
    elim (list_any (is_served_by u) rs) as (λ b. None ≡ cond b None (find (waits_for u) rs) → rs ≡ cond b rs (amend (waits_for u) taken_up rs)) [
      | true ↦ λ is. refl
      | false ↦ λ is. amend_nowhere (waits_for u) taken_up rs is
    ] none

-- the first that waits is taken, and none was served
pub begun_some : (u : UnitNo) (rs : List Request) (r : Request) → Some r ≡ front u rs → (list_any (is_served_by u) rs ≡ false) × (amend (waits_for u) taken_up rs ≡ begun u rs)
begun_some u rs r some =
    elim (list_any (is_served_by u) rs) as (λ b. Some r ≡ cond b None (find (waits_for u) rs) → (b ≡ false) × (amend (waits_for u) taken_up rs ≡ cond b rs (amend (waits_for u) taken_up rs))) [
      | true ↦ λ is. absurd (cc)
      | false ↦ λ is. (refl, refl)
    ] some
