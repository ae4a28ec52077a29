-- What is enabled: each process has one event or none, and so has each unit, and time.
use Rattle.std.proofs.Common.{◌≡◌, ℕ, zero, suc, ◌+◌, ◌-◌, ◌<◌, ◌≤◌, List, [], ◌∷◌, ◌++◌, length, length-append, drop, IsTrue, Option, Some, None, IsSome, Contains, option_to_list, slice_get, slice_index_or, nat_lt, ◌⊎◌, inl, inr, Bool, true, false, refl, sym, ap, subst, ◌∙◌, arith}
use Rattle.std.proofs.Math.ListN.{drop_of_length-le}
use Rattle.std.proofs.lemmas.Bool.{cases_eq, leb-true}
use Rattle.std.proofs.lemmas.Bool.Decides.{nat_tests}
use Rattle.std.proofs.lemmas.List.{drop_more}
use Rattle.std.specs.List.{AllByRecursion, find}
use Rattle.vx_record.specs.Types.{DeviceUnit, Event, Frame, Pid, Timer, UnitNo, Wait}
use Rattle.vx_base.specs.Queues.{front, in_service}
use Rattle.vx_base.specs.declared.record.Event.TheVariants as event
use Rattle.vx_record.specs.State.{Process, State, IsProcess, process_at, no_unit, pid}
use Rattle.vx_record.specs.Events.{enabled, process_events, processes_from, tick_events, unit_events, units_from}
use Rattle.vx_record.specs.Runs.{next_seed, picked}
use Rattle.vx_record.specs.Sound.{WaitStands, WaitsStand}
use Rattle.vx_record.proofs.Changes.{stands_at}
use Rattle.vx_record.proofs.Lists.{all_append, all_at}
use Rattle.vx_exec.specs.Leases.{is_open}
use Rattle.vx_exec.specs.Picks.{picked_event}
use Rattle.vx_exec.specs.Ready.{HasOwner}
use Rattle.vx_exec.specs.Sound.{IsWhole}
use Rattle.vx_base.specs.Lists.{first}

-- Each event that is enabled is the one of its process or its unit, or time's.

-- it is the event of a process or of a unit that is there, or time's, if there are timers
abbrev pub IsAbled : State → Event → Type 0
IsAbled s (event.Run p) = IsProcess s p × (process_events s p ≡ event.Run p ∷ [])
IsAbled s (event.Ast p) = IsProcess s p × (process_events s p ≡ event.Ast p ∷ [])
IsAbled s (event.Rdn p) = IsProcess s p × (process_events s p ≡ event.Rdn p ∷ [])
IsAbled s event.Tick = 0 < length s.timers
IsAbled s (event.Beg u) = (u.0 < length s.units) × (unit_events s u ≡ event.Beg u ∷ [])
IsAbled s (event.Don u) = (u.0 < length s.units) × (unit_events s u ≡ event.Don u ∷ [])

process_abled : (s : State) (p : Pid) → IsProcess s p → AllByRecursion (IsAbled s) (process_events s p)
process_abled s p made = grind arith

processes_abled : (s : State) (n : ℕ) (prs : List Process) → 1 ≤ n → n + length prs ≡ 1 + length s.procs → AllByRecursion (IsAbled s) (processes_from s n prs)
processes_abled s n [] above e = tt
processes_abled s n (pr ∷ prs) above e = let rest = processes_abled s (n + 1) prs (omega arith) (omega arith) in grind (arith, all_append, process_abled)

tick_abled : (s : State) (ts : List Timer) → length ts ≤ length s.timers → AllByRecursion (IsAbled s) (tick_events ts)
tick_abled s ts few = grind arith

-- a unit has one of three lists of events
unit_abled : (s : State) (u : UnitNo) → u.0 < length s.units → AllByRecursion (IsAbled s) (unit_events s u)
unit_abled s u there = grind arith

units_abled : (s : State) (n : ℕ) (us : List DeviceUnit) → n + length us ≡ length s.units → AllByRecursion (IsAbled s) (units_from s n us)
units_abled s n [] e = tt
units_abled s n (u ∷ us) e = all_append (IsAbled s) (unit_events s (record { 0 = n })) (units_from s (n + 1) us) (unit_abled s (record { 0 = n }) (omega (arith, e))) (units_abled s (n + 1) us (omega (arith, e)))

-- the events of units and of time
abbrev later : State → List Event
later s = units_from s 0 s.units ++ tick_events s.timers

pub all_abled : (s : State) → AllByRecursion (IsAbled s) (enabled s)
all_abled s = grind (arith, all_append, processes_abled, units_abled, tick_abled)

pub abled_of : (s : State) (e : Event) → Contains (enabled s) e → IsAbled s e
abled_of s e there = subst (IsAbled s) there.2 (all_at (IsAbled s) (enabled s) there.0 e (all_abled s) there.1)

-- a process that can be run down has no frame

idle_of : (s : State) (p : Pid) → process_events s p ≡ event.Rdn p ∷ [] → (process_at s p).frames ≡ []
idle_of s p e = grind arith

-- a unit that begins a service has a front request, and one that ends a service serves one

begs_at : (s : State) (u : UnitNo) → unit_events s u ≡ event.Beg u ∷ [] → IsSome (front u s.requests)
begs_at s u e = grind arith

ends_at : (s : State) (u : UnitNo) → unit_events s u ≡ event.Don u ∷ [] → IsSome (in_service u s.requests)
ends_at s u e = grind arith

owner_of : (s : State) (e : Event) → IsAbled s e → HasOwner s e
owner_of s (event.Run p) h = h.0
owner_of s (event.Ast p) h = h.0
owner_of s (event.Rdn p) h = record { made = h.0; idle = idle_of s p h.1 }
owner_of s event.Tick h = tt
owner_of s (event.Beg u) h = begs_at s u h.1
owner_of s (event.Don u) h = ends_at s u h.1

pub enabled_owned : (s : State) (e : Event) → Contains (enabled s) e → HasOwner s e
enabled_owned s e there = owner_of s e (abled_of s e there)

-- And the one of a process or a unit that is there is enabled.

in_left : (xs ys : List Event) (e : Event) → Contains xs e → Contains (xs ++ ys) e
in_left [] ys e h = absurd (omega (arith, h.1))
in_left (x ∷ xs) ys e (zero, within, is) = (zero, omega arith, is)
in_left (x ∷ xs) ys e (suc i, within, is) = let rest = in_left xs ys e (i, omega (arith, within), is) in (suc rest.0, omega (arith, rest.1), rest.2)

in_right : (xs ys : List Event) (e : Event) → Contains ys e → Contains (xs ++ ys) e
in_right [] ys e h = h
in_right (x ∷ xs) ys e h = let rest = in_right xs ys e h in (suc rest.0, omega (arith, rest.1), rest.2)

in_processes : (s : State) (n : ℕ) (prs : List Process) (p : Pid) (e : Event) → n ≤ p.0 → p.0 < n + length prs → process_events s p ≡ e ∷ [] → Contains (processes_from s n prs) e
in_processes s n [] p e above within is = absurd (omega (arith, above, within))
in_processes s n (pr ∷ prs) p e above within is =
    elim (cases_eq n p.0) [
      | inl same ↦
          let here : process_events s (pid n) ≡ e ∷ [] = ap (λ (i : ℕ). process_events s (pid i)) same ∙ is in
          in_left (process_events s (pid n)) (processes_from s (n + 1) prs) e (rw here (zero, omega arith, refl))
      | inr other ↦ in_right (process_events s (pid n)) (processes_from s (n + 1) prs) e (in_processes s (n + 1) prs p e (omega (arith, above, other)) (omega (arith, within)) is)
    ]

in_tick : (ts : List Timer) → 0 < length ts → Contains (tick_events ts) event.Tick
in_tick [] some = absurd (omega (arith, some))
in_tick (t ∷ ts) some = (zero, omega arith, refl)

in_units : (s : State) (n : ℕ) (us : List DeviceUnit) (u : UnitNo) (e : Event) → n ≤ u.0 → u.0 < n + length us → unit_events s u ≡ e ∷ [] → Contains (units_from s n us) e
in_units s n [] u e above within is = absurd (omega (arith, above, within))
in_units s n (x ∷ us) u e above within is =
    elim (cases_eq n u.0) [
      | inl same ↦
          let here : unit_events s (record { 0 = n }) ≡ e ∷ [] = ap (λ (i : ℕ). unit_events s (record { 0 = i })) same ∙ is in
          in_left (unit_events s (record { 0 = n })) (units_from s (n + 1) us) e (rw here (zero, omega arith, refl))
      | inr other ↦ in_right (unit_events s (record { 0 = n })) (units_from s (n + 1) us) e (in_units s (n + 1) us u e (omega (arith, above, other)) (omega (arith, within)) is)
    ]

pub process_enabled : (s : State) (p : Pid) (e : Event) → IsProcess s p → process_events s p ≡ e ∷ [] → Contains (enabled s) e
process_enabled s p e made is = in_left (processes_from s 1 s.procs) (later s) e (in_processes s 1 s.procs p e made.above (omega (arith, made.within)) is)

unit_enabled : (s : State) (u : UnitNo) (e : Event) → u.0 < length s.units → unit_events s u ≡ e ∷ [] → Contains (enabled s) e
unit_enabled s u e there is =
    in_right (processes_from s 1 s.procs) (later s) e (in_left (units_from s 0 s.units) (tick_events s.timers) e (in_units s 0 s.units u e (omega arith) (omega (arith, there)) is))

pub tick_enabled : (s : State) → 0 < length s.timers → Contains (enabled s) event.Tick
tick_enabled s some = grind (arith, in_right, in_tick)

-- The test of one event.

pub own_iff : (s : State) (p : Pid) (e asked : Event) (b : Bool) → (e ≡ event.Run p) ⊎ ((e ≡ event.Ast p) ⊎ (e ≡ event.Rdn p)) → asked ≡ e → (IsTrue b → IsProcess s p) → (IsTrue b → process_events s p ≡ asked ∷ []) → (IsProcess s p → process_events s p ≡ asked ∷ [] → IsTrue b) → (IsTrue b → Contains (enabled s) e) × (Contains (enabled s) e → IsTrue b)
own_iff s p e asked b is same made has only =
    let list : asked ∷ [] ≡ e ∷ [] = ap (λ (x : Event). x ∷ []) same in
    (λ t. process_enabled s p e (made t) (has t ∙ list), λ there. let able = abled_of s e there in let own : IsProcess s p × (process_events s p ≡ e ∷ []) = grind arith in only own.0 (own.1 ∙ sym list))

pub tick_iff : (s : State) (e : Event) (n : ℕ) → e ≡ event.Tick → n ≡ length s.timers → (IsTrue (nat_lt 0 n) → Contains (enabled s) e) × (Contains (enabled s) e → IsTrue (nat_lt 0 n))
tick_iff s e n is count = (
  λ t. let some : 0 < n = grind (arith, nat_tests, t) in rw is (tick_enabled s (omega (arith, some, count))),
  λ there. let some : 0 < length s.timers = subst (IsAbled s) is (abled_of s e there) in let more : 0 < n = omega (arith, some, count) in grind (arith, nat_tests, more),
)

pub unit_iff : (s : State) (u : UnitNo) (e asked : Event) (b : Bool) → (e ≡ event.Beg u) ⊎ (e ≡ event.Don u) → asked ≡ e → (IsTrue b → u.0 < length s.units) → (IsTrue b → unit_events s u ≡ asked ∷ []) → (u.0 < length s.units → unit_events s u ≡ asked ∷ [] → IsTrue b) → (IsTrue b → Contains (enabled s) e) × (Contains (enabled s) e → IsTrue b)
unit_iff s u e asked b is same there has only =
    let list : asked ∷ [] ≡ e ∷ [] = ap (λ (x : Event). x ∷ []) same in
    (λ t. unit_enabled s u e (there t) (has t ∙ list), λ able. let abled = abled_of s e able in let own : (u.0 < length s.units) × (unit_events s u ≡ e ∷ []) = grind arith in only own.0 (own.1 ∙ sym list))

-- Loops over processes.

pub waits_at : (s : State) (p : Pid) → IsProcess s p → IsWhole s → WaitsStand (process_at s p).frames
waits_at s p made whole = (stands_at s p whole.sound made).waits

-- the events of the units from one on: those of the first, and the rest

pub units_now : (s : State) (place : ℕ) → place < length s.units → units_from s place (drop place s.units) ≡ unit_events s (record { 0 = place }) ++ units_from s (place + 1) (drop (place + 1) s.units)
units_now s place within = ap (λ (us : List DeviceUnit). units_from s place us) (drop_more s.units place no_unit within)

pub procs_step : (s : State) (place : ℕ) → place < length s.procs → drop place s.procs ≡ process_at s (pid (place + 1)) ∷ drop (place + 1) s.procs
procs_step s place within = grind (arith, drop_more)

-- The wait of the top frame.

pub top_fits : (fs : List Frame) (f : Frame) (w : Wait) → WaitsStand fs → first fs ≡ Some f → f.wait ≡ Some w → WaitStands w
top_fits [] f w fits top waits = absurd (cc)
top_fits (g ∷ fs) f w fits top waits = grind arith

-- Picks.

get_some : {A : Type 0} (xs : List A) (i : ℕ) (d : A) → i < length xs → slice_get xs i ≡ Some (slice_index_or xs i d)
get_some [] i d within = absurd (omega arith)
get_some (x ∷ xs) zero d within = refl
get_some (x ∷ xs) (suc i) d within = get_some xs i d (omega arith)

pub pick_there : (x : ℕ) (es : List Event) → 0 < length es → slice_get es (picked (next_seed x) (length es)) ≡ picked_event x es
pick_there x [] some = absurd (omega arith)
pick_there x (e ∷ es) some = get_some (e ∷ es) (picked (next_seed x) (length (e ∷ es))) e (omega arith)

-- Counting events, and looking for the one at a place.

pub count_step : (now here later : List Event) (count n all : ℕ) → now ≡ here ++ later → n ≡ length here → count + length now ≡ all → count + n + length later ≡ all
count_step now here later count n all split is so_far = omega (arith, ap (λ (es : List Event). length es) split, length-append here later, is, so_far)

-- the events of the units from one on, with others behind

abbrev pub later_units : State → ℕ → List Event → List Event
later_units s place ys = units_from s place (drop place s.units) ++ ys

pub some_unit : (s : State) (ys : List Event) (place : ℕ) (e : Event) → place < length s.units → option_to_list (Some e) ≡ unit_events s (record { 0 = place }) → later_units s place ys ≡ e ∷ later_units s (place + 1) ys
some_unit s ys place e within is = rw (units_now s place within, ← is) refl

pub no_unit_event : (s : State) (ys : List Event) (place : ℕ) → place < length s.units → option_to_list None ≡ unit_events s (record { 0 = place }) → later_units s place ys ≡ later_units s (place + 1) ys
no_unit_event s ys place within is = rw (units_now s place within, ← is) refl

pub some_step : (now later : List Event) (left after : ℕ) (e : Event) (found : Option Event) → now ≡ e ∷ later → ¬ (left ≡ 0) → after ≡ left - 1 → slice_get now left ≡ found → slice_get later after ≡ found
some_step now later zero after e found is other one so_far = absurd (other refl)
some_step now later (suc n) after e found is other one so_far = let same : after ≡ n = omega arith in rw (same, ← so_far, is) refl

pub some_here : (now later : List Event) (left : ℕ) (e : Event) (found : Option Event) → now ≡ e ∷ later → left ≡ 0 → slice_get now left ≡ found → Some e ≡ found
some_here now later left e found is none so_far = rw (← so_far, is, none) refl

pub none_step : (now later : List Event) (left after : ℕ) (found : Option Event) → now ≡ later → after ≡ left → slice_get now left ≡ found → slice_get later after ≡ found
none_step now later left after found is same so_far = cc

pub past_units : (s : State) (ys : List Event) (place left : ℕ) (found : Option Event) → length s.units ≤ place → slice_get (later_units s place ys) left ≡ found → slice_get ys left ≡ found
past_units s ys place left found past so_far = ap (λ (us : List DeviceUnit). slice_get (units_from s place us ++ ys) left) (sym (drop_of_length-le s.units past)) ∙ so_far

-- there are 32 units at most
pub few_units : (s : State) → IsWhole s → length s.units ≤ 32
few_units s whole = omega (arith, whole.sound.units, leb-true (length s.system.units) 32 whole.formed.few_units)

-- The first event that ends no service.

pub open_unit : (s : State) (ys : List Event) (place : ℕ) (e : Event) (found : Option Event) → place < length s.units → option_to_list (Some e) ≡ unit_events s (record { 0 = place }) → is_open e ≡ true → find is_open (later_units s place ys) ≡ found → Some e ≡ found
open_unit s ys place e found within is opens so_far = rw (← so_far, some_unit s ys place e within is, opens) refl

pub closed_unit : (s : State) (ys : List Event) (place : ℕ) (e : Event) (found : Option Event) → place < length s.units → option_to_list (Some e) ≡ unit_events s (record { 0 = place }) → is_open e ≡ false → find is_open (later_units s place ys) ≡ found → find is_open (later_units s (place + 1) ys) ≡ found
closed_unit s ys place e found within is ends so_far = rw (← so_far, some_unit s ys place e within is, ends) refl

pub no_open_unit : (s : State) (ys : List Event) (place : ℕ) (found : Option Event) → place < length s.units → option_to_list None ≡ unit_events s (record { 0 = place }) → find is_open (later_units s place ys) ≡ found → find is_open (later_units s (place + 1) ys) ≡ found
no_open_unit s ys place found within is so_far = rw (← so_far, no_unit_event s ys place within is) refl

pub past_open_units : (s : State) (place : ℕ) (found : Option Event) → length s.units ≤ place → find is_open (later_units s place (tick_events s.timers)) ≡ found → slice_get (tick_events s.timers) 0 ≡ found
past_open_units s place found past so_far = grind (arith, drop_of_length-le)
