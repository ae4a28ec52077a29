-- What a seed chooses is a run of the machine, and it has an end.
use Rattle.std.proofs.Common.{◌≡◌, ℕ, zero, suc, ◌+◌, ◌<◌, ◌≤◌, List, [], ◌∷◌, Bool, if◌then◌else◌, length, Some, Contains, refl, sym, ap, subst, ◌∙◌, arith}
use Rattle.std.proofs.lemmas.Bool.Decides.{nat_tests}
use Rattle.vx_record.specs.Types.{End, Event, Rec, System}
use Rattle.vx_base.specs.declared.record.End.TheVariants.{Done, Hung, Limit}
use Rattle.vx_record.specs.State.{State}
use Rattle.vx_record.specs.Events.{enabled, step}
use Rattle.vx_record.specs.Runs.{AreSteps, IsRun, after_from, are_deleted, choose, chosen, chosen_from, end_after, end_of, end_with, first, next_seed, pick, picked, record_of}
use Rattle.vx_base.proofs.Lists.{any_default}

-- records that are at most n steps of the machine from a state on, behind so many that were taken, and end there
record EndsFrom (limit taken n : ℕ) (s : State) (recs : List Rec) : Type 0 where
  few : length recs ≤ n
  steps : AreSteps s recs
  end : End
  ended : end_of limit (taken + length recs) (after_from s recs) ≡ Some end

pick_there : (x : ℕ) (e : Event) (es : List Event) → Contains (e ∷ es) (pick x e es)
pick_there x e es =
    let i = picked (next_seed x) (length (e ∷ es)) in
    let within : i < length (e ∷ es) = omega arith in
    (i, within, any_default (e ∷ es) i (pick x e es) e within)

-- at the limit a run has ended
ended_with : (limit taken : ℕ) (deleted : Bool) (es : List Event) → limit ≤ taken → (end : End) × (end_with limit taken deleted es ≡ Some end)
ended_with limit taken deleted [] reached = (if deleted then Done else Hung, refl)
ended_with limit taken deleted (e ∷ es) reached = (Limit, grind (arith, nat_tests, reached))

at_limit : (limit taken : ℕ) (s : State) → limit ≤ taken → EndsFrom limit taken 0 s []
at_limit limit taken s reached =
    let h = ended_with limit (taken + 0) (are_deleted s) (enabled s) (omega arith) in
    record { few = omega arith; steps = tt; end = h.0; ended = h.1 }

-- one record more, if an event is enabled
one_more : (limit taken n : ℕ) (s : State) (x : ℕ) (es : List Event) → enabled s ≡ es → ((e : Event) → EndsFrom limit (taken + 1) n (step s e).after (chosen_from n (step s e).after (next_seed x))) → EndsFrom limit taken (suc n) s (choose s x es (λ t y e. record_of t e ∷ chosen_from n (step t e).after y))
one_more limit taken n s x [] is rest = record { few = omega arith; steps = tt; end = if are_deleted s then Done else Hung; ended = ap (λ es. end_with limit (taken + 0) (are_deleted s) es) is }
one_more limit taken n s x (e ∷ es) is rest =
    let f : Event = pick x e es in
    let behind = rest f in
    let recs : List Rec = chosen_from n (step s f).after (next_seed x) in
    let counted : taken + length (record_of s f ∷ recs) ≡ (taken + 1) + length recs = omega arith in
    record {
      few = omega (arith, behind.few);
      steps = (record { enabled = subst (λ (fs : List Event). Contains fs f) (sym is) (pick_there x e es); answer = refl; effects = refl }, behind.steps);
      end = behind.end;
      ended = ap (λ (k : ℕ). end_of limit k (after_from (step s f).after recs)) counted ∙ behind.ended;
    }

ends_from : (limit taken n : ℕ) (s : State) (x : ℕ) → limit ≡ taken + n → EndsFrom limit taken n s (chosen_from n s x)
ends_from limit taken zero s x is = at_limit limit taken s (omega arith)
ends_from limit taken (suc n) s x is = one_more limit taken n s x (enabled s) refl (λ e. ends_from limit (taken + 1) n (step s e).after (next_seed x) (omega arith))

-- a chosen run within the bound is a run of the machine
pub chosen_is_run : (system : System) (seed limit : ℕ) → limit ≤ 100000 → IsRun system (chosen system seed limit)
chosen_is_run system seed limit within =
    let h = ends_from limit 0 limit (first system) seed (omega arith) in
    record { few = omega (arith, h.few); steps = h.steps }

-- and it has an end
pub chosen_ends : (system : System) (seed limit : ℕ) → (end : End) × (end_after system (chosen system seed limit) limit ≡ Some end)
chosen_ends system seed limit =
    let h = ends_from limit 0 limit (first system) seed (omega arith) in
    let recs : List Rec = chosen system seed limit in
    let counted : length recs ≡ 0 + length recs = omega arith in
    (h.end, ap (λ (k : ℕ). end_of limit k (after_from (first system) recs)) counted ∙ h.ended)
