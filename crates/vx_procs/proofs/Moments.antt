-- The moment of the next tick: the least due time.
use Rattle.std.proofs.Common.{◌≡◌, ℕ, ◌≤◌, List, [], ◌∷◌, Option, Some, None, IfSome, nat_le, option_map, refl, sym, subst, ◌∙◌, arith}
use Rattle.std.specs.List.{AllByRecursion}
use Rattle.std.proofs.lemmas.Bool.{leb-true, leb-false}
use Rattle.vx_record.specs.Types.{Timer}
use Rattle.vx_base.specs.Queues.{least_due, sooner}
use Rattle.vx_record.specs.State.{State}
use Rattle.vx_record.specs.Timers.{due_time, next_time}
use Rattle.vx_record.proofs.Lists.{all_weaker, either, either_by}
use Rattle.vx_procs.specs.Held.{IsOwn}
use Rattle.vx_procs.specs.Ready.{IsMoment}

-- none is due before it

none_left : (ts : List Timer) → least_due ts ≡ None → ts ≡ []
none_left [] e = refl
none_left (t ∷ ts) e = absurd (cc)

sooner_ahead : (s : State) (t : Timer) (o : Option Timer) (ts : List Timer) → (o ≡ None → ts ≡ []) → AllByRecursion (λ u. due_time o s ≤ u.due) ts → AllByRecursion (λ u. (sooner t o).due ≤ u.due) (t ∷ ts)
sooner_ahead s t None ts none h = let e = none refl in rw e (omega arith, tt)
sooner_ahead s t (Some v) ts none h =
    either_by (λ (x : Timer). AllByRecursion (λ (u : Timer). x.due ≤ u.due) (t ∷ ts)) (nat_le t.due v.due) t v
    (λ is. let le = leb-true t.due v.due is in (omega arith, all_weaker (λ (u : Timer). v.due ≤ u.due) (λ (u : Timer). t.due ≤ u.due) (λ u k. omega (arith, le, k)) ts h))
    (λ is. let gt = leb-false t.due v.due is in (omega (arith, gt), h))

least_ahead : (s : State) (ts : List Timer) → AllByRecursion (λ u. due_time (least_due ts) s ≤ u.due) ts
least_ahead s [] = tt
least_ahead s (t ∷ ts) = sooner_ahead s t (least_due ts) ts (none_left ts) (least_ahead s ts)

-- and it is one of them

sooner_own : (P : Timer → Type 0) (t : Timer) (o : Option Timer) → P t → IfSome o P → P (sooner t o)
sooner_own P t None h k = h
sooner_own P t (Some v) h k = either P (nat_le t.due v.due) t v h k

least_own : (P : Timer → Type 0) (ts : List Timer) → AllByRecursion P ts → IfSome (least_due ts) P
least_own P [] h = tt
least_own P (t ∷ ts) h = sooner_own P t (least_due ts) h.0 (least_own P ts h.1)

moment_at : (s : State) (o : Option Timer) → IfSome o (IsOwn s) → AllByRecursion (λ u. due_time o s ≤ u.due) s.timers → IsMoment s (due_time o s)
moment_at s None own ahead = record { forward = omega arith; soon = omega arith; ahead = ahead }
moment_at s (Some t) own ahead = record { forward = own.ahead; soon = own.soon; ahead = ahead }

moment : (s : State) → AllByRecursion (IsOwn s) s.timers → IsMoment s (next_time s)
moment s own = moment_at s (least_due s.timers) (least_own (IsOwn s) s.timers own) (least_ahead s s.timers)

-- as the code finds it

due_some : (s : State) (o : Option Timer) (n : ℕ) → Some n ≡ option_map (λ t. t.due) o → due_time o s ≡ n
due_some s None n e = absurd (cc)
due_some s (Some t) n e = let same : n ≡ t.due = cc in sym same

due_none : (s : State) (o : Option Timer) → None ≡ option_map (λ t. t.due) o → due_time o s ≡ s.time
due_none s None e = refl
due_none s (Some t) e = absurd (cc)

pub moment_some : (s : State) (n : ℕ) → Some n ≡ option_map (λ t. t.due) (least_due s.timers) → AllByRecursion (IsOwn s) s.timers → IsMoment s n
moment_some s n e own = subst (IsMoment s) (due_some s (least_due s.timers) n e) (moment s own)

pub moment_none : (s : State) (n : ℕ) → None ≡ option_map (λ t. t.due) (least_due s.timers) → n ≡ s.time → AllByRecursion (IsOwn s) s.timers → IsMoment s n
moment_none s n e now own = subst (IsMoment s) (due_none s (least_due s.timers) e ∙ sym now) (moment s own)
