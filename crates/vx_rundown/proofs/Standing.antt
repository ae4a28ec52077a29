-- What of a process follows from a state whose references stand: no two of its queued ASTs have one id, and no two of its exit handlers.
use Rattle.std.proofs.Common.{◌≡◌, ℕ, zero, suc, ◌-◌, ◌<◌, ◌≤◌, List, [], ◌∷◌, ◌==◌, not, true, false, IsTrue, None, length, slice_index_or, refl, arith}
use Rattle.std.specs.List.{list_any}
use Rattle.std.proofs.lemmas.Bool.{and_from, eq-eqb, not_from_false}
use Rattle.std.proofs.lemmas.Bool.Decides.{nat_tests}
use Rattle.vx_base.specs.Flags.{one}
use Rattle.vx_base.specs.Lists.{tally, total}
use Rattle.vx_record.specs.Types.{Alarm, Effect, Handler, Id, Pid, Queued}
use Rattle.vx_base.specs.Pieces.{OfTimer, OfWake}
use Rattle.vx_record.specs.Sound.{AlarmStands, IsSound, ground, process_bears}
use Rattle.vx_record.specs.State.{State, IsProcess, nobody, process_at}
use Rattle.vx_record.proofs.Base.{Base}
use Rattle.vx_record.proofs.Firm.{firm, sound_of}
use Rattle.vx_record.proofs.Lists.{all_weaker}
use Rattle.vx_record.proofs.Moves.{IsAlarmMade, MovesBy}
use Rattle.vx_record.proofs.OwnIds.{moves_own, own_of, owned}
use Rattle.vx_record.proofs.References.{moves_stand}
use Rattle.vx_procs.specs.Words.{handlers_have_own_ids, have_own, have_own_ids}

-- Ids.

-- how many of these have an id
abbrev bearing : {A : Type 0} → (A → Id) → ℕ → List A → ℕ
bearing key id xs = tally (λ x. (key x).0 == id) xs

none_bears : {A : Type 0} (key : A → Id) (id : ℕ) (xs : List A) → bearing key id xs ≤ 0 → list_any (λ y. id == (key y).0) xs ≡ false
none_bears key id [] none = refl
none_bears key id (x ∷ xs) none = let rest = none_bears key id xs in grind (arith, nat_tests)

own_from : {A : Type 0} (key : A → Id) (xs : List A) → ((id : ℕ) → bearing key id xs ≤ 1) → IsTrue (have_own key xs)
own_from key [] few = refl
own_from key (x ∷ xs) few =
    let here = few (key x).0 in
    let one_here : one ((key x).0 == (key x).0) ≡ 1 = rw (eq-eqb (key x).0 (key x).0 refl) refl in
    let none = none_bears key (key x).0 xs (omega (arith, here, one_here)) in
    and_from (not (list_any (λ y. (key x).0 == (key y).0) xs)) (have_own key xs) (not_from_false _ none) (own_from key xs (λ id. let all = few id in omega (arith, all)))

in_total : {A : Type 0} (f : A → ℕ) (xs : List A) (i : ℕ) (d : A) → i < length xs → f (slice_index_or xs i d) ≤ total f xs
in_total f [] i d within = absurd (omega arith)
in_total f (x ∷ xs) zero d within = omega arith
in_total f (x ∷ xs) (suc i) d within = let rest = in_total f xs i d (omega arith) in omega (arith, rest)

borne_once : (s : State) (p : Pid) → IsSound s → IsProcess s p → (id : ℕ) → process_bears id (process_at s p) ≤ 1
borne_once s p sound made id =
    let single = sound.own_ids.single id in
    let here = in_total (process_bears id) s.procs (p.0 - 1) nobody (omega (arith, made.above, made.within)) in
    omega (arith, single, here)

pub own_ids_at : (s : State) (p : Pid) → IsSound s → IsProcess s p → IsTrue (have_own_ids (process_at s p).asts)
own_ids_at s p sound made = own_from (λ (q : Queued). q.id) (process_at s p).asts (λ id. let once = borne_once s p sound made id in omega (arith, once))

pub own_handlers_at : (s : State) (p : Pid) → IsSound s → IsProcess s p → IsTrue (handlers_have_own_ids (process_at s p).handlers)
own_handlers_at s p sound made = own_from (λ (h : Handler). h.id) (process_at s p).handlers (λ id. let once = borne_once s p sound made id in omega (arith, once))

-- Moves of the machine keep it.

alarm_made : (s : State) (p : Pid) (a : Alarm) → AlarmStands (ground s) p a → IsAlarmMade s a
alarm_made s p (OfTimer efn reqid mode tag) h = tt
alarm_made s p (OfWake target repeat) h = h

pub base_of : (s : State) → IsSound s → Base s
base_of s h = grind (arith, all_weaker, alarm_made)

pub sound_moved : (s t : State) (es : List Effect) → MovesBy true s None es t None → IsSound s → IsSound t
sound_moved s t es moves h = grind (arith, sound_of, moves_stand, firm, owned, moves_own, own_of)
