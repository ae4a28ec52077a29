-- What an event does to the state: how many processes there are then, how many ids they open, and how much they tell.
use Rattle.std.proofs.Common.{◌≡◌, ℕ, ◌+◌, ◌≤◌, List, ◌∷◌, Bool, length, length-set, ap, ◌*◌, arith, slice_index_or, []}
use Rattle.std.specs.List.{filter}
use Rattle.vx_record.specs.Types.{DeviceUnit, Effect, Pid, UnitNo}
use Rattle.vx_record.specs.State.{Process, State, process_at, change, no_unit, unit_at}
use Rattle.vx_record.specs.Parts.{Outcome}
use Rattle.vx_procs.specs.Words.{deepest}

pub filter_few : {A : Type 0} (p : A → Bool) (xs : List A) → length (filter p xs) ≤ length xs
filter_few p [] = omega arith
filter_few p (x ∷ xs) = let rest = filter_few p xs in grind arith

-- from s to t: no process comes or goes, no id is opened, and units stay as they are
pub record Stays (s t : State) : Type 0 where
  pub procs : length t.procs ≡ length s.procs
  pub next : t.next ≡ s.next
  pub units : t.units ≡ s.units

-- no process goes, and there are 1,000 at most; at most one id is opened; no unit makes more than one service; and so many effects are
-- told at most
pub record Goes (bound : ℕ) (s t : State) (told : List Effect) : Type 0 where
  pub grows : length s.procs ≤ length t.procs
  pub within : length s.procs ≤ 1000 → length t.procs ≤ 1000
  pub later : s.next ≤ t.next
  pub soon : t.next ≤ s.next + 1
  pub services : (u : UnitNo) → (unit_at t u).services ≤ (unit_at s u).services + 1
  pub few : length told ≤ bound

-- how much a process tells at most if it runs
abbrev pub run_most : State → Pid → ℕ
run_most s p = deepest s.procs + length (process_at s p).frames + length s.timers + length (process_at s p).handlers + 6 * length s.requests + 2 * length s.attention + 15

abbrev pub GoesBy : {A : Type 0} → Pid → State → Outcome A → Type 0
GoesBy p s o = Goes (run_most s p) s o.after o.effects

pub stays_changed : (s : State) (q : Pid) (f : Process → Process) → Stays s (change s q f)
stays_changed s q f = grind (arith, length-set {A = Process})

-- units that are the same have made as many services
same_services : (s t : State) → t.units ≡ s.units → (u : UnitNo) → (unit_at t u).services ≤ (unit_at s u).services + 1
same_services s t same u = omega (arith, ap (λ (us : List DeviceUnit). (slice_index_or us u.0 no_unit).services) same)

pub goes_stays : (bound : ℕ) (s t : State) (told : List Effect) → Stays s t → length told ≤ bound → Goes bound s t told
goes_stays bound s t told k few = let services = same_services s t k.units in grind arith

pub goes_more : {s t : State} {told : List Effect} (m n : ℕ) → m ≤ n → Goes m s t told → Goes n s t told
goes_more m n more h = grind arith

-- behind what stays
pub stays_goes : {s t u : State} {told : List Effect} (m n : ℕ) → Stays s t → m ≤ n → Goes m t u told → Goes n s u told
stays_goes {s} {t} {u} {told} m n a more b = grind arith
