-- Entries that fire: one after another, as the machine has them and as the code takes them.
use Rattle.std.proofs.Common.{◌≡◌, ℕ, ◌+◌, ◌<◌, ◌≤◌, ◌-◌, List, [], ◌∷◌, ◌++◌, Bool, true, false, cond, ◌==◌, length, length-set, Option, Some, None, is_some, refl, ap, sym, subst, ◌∙◌, arith}
use Rattle.std.specs.List.{AllByRecursion, filter, find}
use Rattle.std.proofs.lemmas.Bool.{eqb-false, leb-true, false_from_ne_true}
use Rattle.vx_base.proofs.Lists.{not_some}
use Rattle.vx_base.specs.Lists.{amend, less}
use Rattle.vx_record.specs.Types.{Alarm, Cell, Effect, Entry, Mode, Pid, Queued, Timer}
use Rattle.vx_base.specs.Pieces.{OfTimer, OfWake}
use Rattle.vx_base.specs.declared.effects.Cell.TheVariants.{Local, Common}
use Rattle.vx_base.specs.declared.effects.Effect.TheVariants as effect
use Rattle.vx_record.specs.State.{Process, State, IsProcess, change, process_at}
use Rattle.vx_record.specs.Control.{with_wake}
use Rattle.vx_record.specs.Flags.{cell, flag_where_named}
use Rattle.vx_record.specs.Parts.{Part, and_then, each, nothing, tells}
use Rattle.vx_record.specs.Sound.{AreOrdered, timer_id}
use Rattle.vx_record.specs.Timers.{after_wake, due_again, fire, fired, is_due, que_timer, this_timer}
use Rattle.vx_record.proofs.Lists.{all_amend, all_less, either, either_by, ordered_amend, ordered_less}
use Rattle.vx_timers.specs.Seen.{falls_of}
use Rattle.vx_timers.specs.declared.due.Falls.{Falls}
use Rattle.vx_timers.specs.declared.due.Falls.TheVariants as falls
use Rattle.vx_procs.specs.Words.{moved_on, put_off_first, timer_ast, with_queued_if, without_timer}
use Rattle.vx_procs.specs.Kernel.{Acts, Fits, Kernel}
use Rattle.vx_procs.proofs.Firsts.{amend_like, filter_found, filter_none, less_same}
use Rattle.vx_procs.proofs.Rest.{IsDoing, acted, doing_begun, doing_end, doing_on, doing_room, told_none}
use Rattle.vx_procs.proofs.Changed.{none_changed}
use Rattle.vx_ctl.specs.Firing.{AreFiring, due_part, falls_part, fired_first, firing, told_ast, woken_off}

-- One timer.

-- a flag and a timer's end, in either order
flag_apart : (s : State) (o : Option Cell) (ts : List Timer) → (flag_where_named (record s { timers = ts }) o true).after ≡ record (flag_where_named s o true).after { timers = ts }
flag_apart s None ts = refl
flag_apart s (Some (Local p n)) ts = refl
flag_apart s (Some (Common g n k)) ts = refl

flag_told : (s : State) (o : Option Cell) (ts : List Timer) → (flag_where_named (record s { timers = ts }) o true).effects ≡ (flag_where_named s o true).effects
flag_told s None ts = refl
flag_told s (Some c) ts = refl

pub flag_timers : (s : State) (o : Option Cell) → (flag_where_named s o true).after.timers ≡ s.timers
flag_timers s None = refl
flag_timers s (Some (Local p n)) = refl
flag_timers s (Some (Common g n k)) = refl

flag_next : (s : State) (o : Option Cell) → (flag_where_named s o true).after.next ≡ s.next
flag_next s None = refl
flag_next s (Some (Local p n)) = refl
flag_next s (Some (Common g n k)) = refl

-- what is queued at the end
queued_end : (b : State) (ts : List Timer) (now : ℕ) (t : Timer) (efn reqid : ℕ) (mode : Mode) (tag : Option Entry) → t.what ≡ OfTimer efn reqid mode tag → ts ≡ less (is_due now) b.timers → que_timer (record b { timers = ts }) t mode tag ≡ told_ast (timer_ast t) (moved_on b now (Some t))
queued_end b ts now t efn reqid mode None what out =
    ap (λ (us : List Timer). nothing (record b { timers = us })) out ∙ (ap nothing (sym (none_changed (without_timer (is_due now) b) t.p)) ∙ queued_none what)
  where
    queued_none : t.what ≡ OfTimer efn reqid mode None → nothing (change (without_timer (is_due now) b) t.p (λ x. x)) ≡ told_ast (timer_ast t) (moved_on b now (Some t))
    queued_none what = rw what refl
queued_end b ts now t efn reqid mode (Some tag) what out = rw (what, out) refl

-- the machine's wake is the code's
wake_off : (s : State) (now : ℕ) (t : Timer) (target : Pid) (repeat : ℕ) → t.what ≡ OfWake target repeat → AreOrdered timer_id 0 s.next s.timers → find (is_due now) s.timers ≡ Some t → after_wake s t repeat ≡ woken_off s now repeat
wake_off s now t target repeat what order found =
    both_ways (repeat == 0)
    (ap (λ (ts : List Timer). record s { timers = ts }) (less_same timer_id (is_due now) 0 s.next s.timers t order found) ∙ (ended what ∙ ap (moved_on s now) (sym found)))
    (ap (λ (ts : List Timer). record s { timers = ts }) (amend_like timer_id (is_due now) (due_again repeat) 0 s.next s.timers t order found))
  where
    both_ways : {x y u v : State} (b : Bool) → x ≡ u → y ≡ v → cond b x y ≡ cond b u v
    both_ways true e f = e
    both_ways false e f = f

    ended : t.what ≡ OfWake target repeat → without_timer (is_due now) s ≡ moved_on s now (Some t)
    ended what = rw what (sym (none_changed (without_timer (is_due now) s) t.p))

-- the machine's firing of the first that is due is the code's
fired_as : (s : State) (now : ℕ) (t : Timer) (a : Alarm) → t.what ≡ a → AreOrdered timer_id 0 s.next s.timers → find (is_due now) s.timers ≡ Some t → fired s t a ≡ fired_first s now (Some t)
fired_as s now t (OfWake target repeat) what order found =
    ap (λ (u : State). let x : Part = tells (effect.Fire t.id) (change u target (with_wake true)) in x) (wake_off s now t target repeat what order found)
    ∙ ap (λ f. let x : Part = and_then (tells (effect.Fire t.id) s) (λ a. falls_part a now t f) in x) (sym (ap falls_of what))
fired_as s now t (OfTimer efn reqid mode tag) what order found =
    let ts = less (this_timer t.id) s.timers in
    let o = cell s t.p efn in
    let b = (flag_where_named s o true).after in
    let out : ts ≡ less (is_due now) b.timers = less_same timer_id (is_due now) 0 s.next s.timers t order found ∙ ap (less (is_due now)) (sym (flag_timers s o)) in
    let flags = (flag_where_named s o true).effects in
    let join : List Effect → Part → Part = λ told x. record { effects = (effect.Fire t.id ∷ told) ++ x.effects; after = x.after } in
    ap (λ told. join told (que_timer (flag_where_named (record s { timers = ts }) o true).after t mode tag)) (flag_told s o ts)
    ∙ (ap (λ (u : State). join flags (que_timer u t mode tag)) (flag_apart s o ts)
    ∙ (ap (join flags) (queued_end b ts now t efn reqid mode tag what out)
    ∙ ap (λ f. let x : Part = and_then (tells (effect.Fire t.id) s) (λ a. falls_part a now t f) in x) (sym (ap falls_of what))))

queued_timers : (o : Option Queued) (u : State) → (told_ast o u).after ≡ u
queued_timers None u = refl
queued_timers (Some q) u = refl

-- the entries after it: without the one that fired, or with it so many ticks later
fired_by : (P : List Timer → Type 0) (s : State) (now : ℕ) (t : Timer) → find (is_due now) s.timers ≡ Some t → P (less (is_due now) s.timers) → ((n : ℕ) → (n == 0) ≡ false → P (amend (is_due now) (due_again n) s.timers)) → (f : Falls) → P (falls_part s now t f).after.timers
fired_by P s now t found ended later (falls.Timer efn) =
    let o = cell s t.p efn in
    let b = (flag_where_named s o true).after in
    subst P (sym (ap (λ (u : State). u.timers) (queued_timers (timer_ast t) (moved_on b now (Some t))) ∙ ap (less (is_due now)) (flag_timers s o))) ended
fired_by P s now t found ended later (falls.Wake target repeat) =
    either_by (λ (u : State). P u.timers) (repeat == 0) (moved_on s now (find (is_due now) s.timers)) (put_off_first now repeat s)
    (λ _. subst (λ (o : Option Timer). P (moved_on s now o).timers) (sym found) ended) (later repeat)

-- what neither the next id nor the time is changed by
fired_still : {A : Type 0} (key : State → A) → ((u : State) (ts : List Timer) (ps : List Process) → key (record u { procs = ps; timers = ts }) ≡ key u) → ((s : State) (o : Option Cell) → key (flag_where_named s o true).after ≡ key s) → (s : State) (now : ℕ) (t : Timer) → find (is_due now) s.timers ≡ Some t → (f : Falls) → key (falls_part s now t f).after ≡ key s
fired_still key same flag s now t found (falls.Timer efn) =
    let o = cell s t.p efn in
    let b = (flag_where_named s o true).after in
    ap key (queued_timers (timer_ast t) (moved_on b now (Some t))) ∙ (same b (moved_on b now (Some t)).timers (moved_on b now (Some t)).procs ∙ flag s o)
fired_still key same flag s now t found (falls.Wake target repeat) =
    let u = woken_off s now repeat in
    same u u.timers (change u target (with_wake true)).procs ∙ either (λ (v : State). key v ≡ key s) (repeat == 0) (moved_on s now (find (is_due now) s.timers)) (put_off_first now repeat s)
    (subst (λ (o : Option Timer). key (moved_on s now o) ≡ key s) (sym found) (same s (moved_on s now (Some t)).timers (moved_on s now (Some t)).procs)) (same s (put_off_first now repeat s).timers s.procs)

flag_time : (s : State) (o : Option Cell) → (flag_where_named s o true).after.time ≡ s.time
flag_time s None = refl
flag_time s (Some (Local p n)) = refl
flag_time s (Some (Common g n k)) = refl

pub fired_next : (s : State) (now : ℕ) (t : Timer) → find (is_due now) s.timers ≡ Some t → (fired_first s now (Some t)).after.next ≡ s.next
fired_next s now t found = fired_still (λ (u : State). u.next) (λ u ts ps. refl) flag_next s now t found (falls_of t.what)

fired_time : (s : State) (now : ℕ) (t : Timer) → find (is_due now) s.timers ≡ Some t → (fired_first s now (Some t)).after.time ≡ s.time
fired_time s now t found = fired_still (λ (u : State). u.time) (λ u ts ps. refl) flag_time s now t found (falls_of t.what)

-- one that is put off is no longer due
later_filter : (now n : ℕ) → (n == 0) ≡ false → (xs : List Timer) → AllByRecursion (λ t. now ≤ t.due) xs → filter (is_due now) (amend (is_due now) (due_again n) xs) ≡ filter (is_due now) (less (is_due now) xs)
later_filter now n some [] h = refl
later_filter now n some (x ∷ xs) h =
    let test = is_due now in
    let f = due_again n in
    elim (is_due now x) as (λ b. filter test (cond b (f x ∷ xs) (x ∷ amend test f xs)) ≡ filter test (cond b xs (x ∷ less test xs))) [
      | true ↦
          let isnt : is_due now (f x) ≡ false = false_from_ne_true (is_due now (f x)) (λ due. let le = leb-true (x.due + n) now due in let above = eqb-false n 0 some in omega (arith, le, h.0, above)) in
          ap (λ b. cond b (f x ∷ filter test xs) (filter test xs)) isnt
      | false ↦ ap (λ zs. cond (is_due now x) (x ∷ zs) zs) (later_filter now n some xs h.1)
    ]

pub fired_filter : (s : State) (now : ℕ) (t : Timer) → AllByRecursion (λ u. now ≤ u.due) s.timers → find (is_due now) s.timers ≡ Some t → filter (is_due now) (fired_first s now (Some t)).after.timers ≡ filter (is_due now) (less (is_due now) s.timers)
fired_filter s now t ahead found =
    let left = filter (is_due now) (less (is_due now) s.timers) in
    fired_by (λ ts. filter (is_due now) ts ≡ left) s now t found refl (λ n some. later_filter now n some s.timers ahead) (falls_of t.what)

-- All of them.

pub fired_more : (s : State) (now : ℕ) (t : Timer) → AreFiring now s → find (is_due now) s.timers ≡ Some t → due_part now s ≡ and_then (fired_first s now (Some t)) (due_part now)
fired_more s now t h found =
    let first = fired_as s now t t.what refl h.order found in
    let rest = filter (is_due now) (less (is_due now) s.timers) in
    let here = fired_first s now (Some t) in
    ap (λ xs. each fire xs s) (filter_found (is_due now) s.timers t found)
    ∙ (ap (λ (x : Part). and_then x (each fire rest)) first
    ∙ ap (λ (us : List Timer). let x : Part = and_then here (each fire us) in x) (sym (fired_filter s now t h.ahead found)))

pub fired_none : (s : State) (now : ℕ) → find (is_due now) s.timers ≡ None → due_part now s ≡ nothing s
fired_none s now none = ap (λ xs. each fire xs s) (filter_none (is_due now) s.timers none)

pub firing_after : (s : State) (now : ℕ) (t : Timer) → AreFiring now s → find (is_due now) s.timers ≡ Some t → AreFiring now (fired_first s now (Some t)).after
firing_after s now t h found =
    let next = fired_next s now t found in
    record {
      order = rw next (fired_by (λ ts. AreOrdered timer_id 0 s.next ts) s now t found (ordered_less timer_id (is_due now) 0 s.next s.timers h.order) (λ n some. ordered_amend timer_id (is_due now) (due_again n) (λ x. refl) 0 s.next s.timers h.order) (falls_of t.what));
      ahead = fired_by (λ ts. AllByRecursion (λ (u : Timer). now ≤ u.due) ts) s now t found (all_less (λ (u : Timer). now ≤ u.due) (is_due now) s.timers h.ahead) (λ n some. all_amend (λ (u : Timer). now ≤ u.due) (is_due now) (due_again n) (λ x le. omega (arith, le)) s.timers h.ahead) (falls_of t.what);
      time = fired_time s now t found ∙ h.time;
      counted = h.counted;
    }

-- The loop: what is left to fire.
pub record IsFiring (now : ℕ) (first k : Kernel) : Type 0 where
  pub doing : IsDoing (due_part now first.state) first (due_part now k.state) k
  pub timers : AreFiring now k.state

pub firing_begun : (now : ℕ) (k : Kernel) → AreFiring now k.state → Fits k (due_part now k.state).effects → IsFiring now k k
firing_begun now k timers room = record { doing = doing_begun (due_part now k.state) k room; timers = timers }

found_some : (o : Option Timer) → true ≡ is_some o → (t : Timer) × (o ≡ Some t)
found_some None e = absurd (cc)
found_some (Some t) e = (t, refl)

firing_at : (s : State) (now : ℕ) (o : Option Timer) → find (is_due now) s.timers ≡ o → firing s now ≡ fired_first s now o
firing_at s now o found = ap (fired_first s now) found

room_by : (k first : Kernel) (now : ℕ) (o : Option Timer) → find (is_due now) k.state.timers ≡ o → IsFiring now first k → Fits k (fired_first k.state now o).effects
room_by k first now None found h = omega (arith, h.doing.room)
room_by k first now (Some t) found h = doing_room (due_part now first.state) first k (due_part now k.state) (fired_first k.state now (Some t)) (due_part now) (fired_more k.state now t h.timers found) h.doing

pub firing_room : (now : ℕ) (first k : Kernel) → IsFiring now first k → Fits k (firing k.state now).effects
firing_room now first k h = room_by k first now (find (is_due now) k.state.timers) refl h

firing_on : (now : ℕ) (first k l : Kernel) (t : Timer) → find (is_due now) k.state.timers ≡ Some t → IsFiring now first k → l ≡ acted k (fired_first k.state now (Some t)) → IsFiring now first l
firing_on now first k l t found h did = record {
  doing = doing_on (due_part now first.state) first k l (due_part now k.state) (fired_first k.state now (Some t)) (due_part now) (fired_more k.state now t h.timers found) did h.doing;
  timers = subst (λ (x : Kernel). AreFiring now x.state) (sym did) (firing_after k.state now t h.timers found);
}

pub firing_more : (now : ℕ) (first k l : Kernel) → true ≡ is_some (find (is_due now) k.state.timers) → IsFiring now first k → Acts (firing k.state now) k l → IsFiring now first l
firing_more now first k l some h did =
    let at = found_some (find (is_due now) k.state.timers) some in
    firing_on now first k l at.0 at.1 h (did ∙ ap (acted k) (firing_at k.state now (Some at.0) at.1))

pub firing_fewer : (now : ℕ) (first k l : Kernel) → true ≡ is_some (find (is_due now) k.state.timers) → IsFiring now first k → Acts (firing k.state now) k l → length (filter (is_due now) l.state.timers) < length (filter (is_due now) k.state.timers)
firing_fewer now first k l some h did =
    let at = found_some (find (is_due now) k.state.timers) some in
    let there : filter (is_due now) l.state.timers ≡ filter (is_due now) (less (is_due now) k.state.timers) =
    ap (λ (x : Kernel). filter (is_due now) x.state.timers) did ∙ (ap (λ (x : Part). filter (is_due now) x.after.timers) (firing_at k.state now (Some at.0) at.1) ∙ fired_filter k.state now at.0 h.timers.ahead at.1) in
    let here = filter_found (is_due now) k.state.timers at.0 at.1 in
    omega (arith, ap (λ (ts : List Timer). length ts) there, ap (λ (ts : List Timer). length ts) here)

pub firing_end : (now : ℕ) (first k l : Kernel) → false ≡ is_some (find (is_due now) k.state.timers) → IsFiring now first k → Acts (firing k.state now) k l → Acts (due_part now first.state) first l
firing_end now first k l none h did =
    let at = not_some (find (is_due now) k.state.timers) (sym none) in
    doing_end (due_part now first.state) first k l (due_part now k.state) (fired_none k.state now at) (did ∙ (ap (acted k) (firing_at k.state now None at) ∙ sym (told_none k))) h.doing

-- processes are there still when a wake is off
off_made : (s : State) (now : ℕ) (o : Option Timer) (q : Pid) → IsProcess s q → IsProcess (moved_on s now o) q
off_made s now None q made = made
off_made s now (Some t) q made = record { above = made.above; within = omega (arith, made.within, length-set s.procs (t.p.0 - 1) (with_queued_if (timer_ast t) (process_at s t.p))) }

pub woken_made : (s : State) (now repeat : ℕ) (q : Pid) → IsProcess s q → IsProcess (woken_off s now repeat) q
woken_made s now repeat q made = either (λ (u : State). IsProcess u q) (repeat == 0) (moved_on s now (find (is_due now) s.timers)) (put_off_first now repeat s) (off_made s now (find (is_due now) s.timers) q made) made
