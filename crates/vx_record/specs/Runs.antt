-- Runs: the first state, records one after another, the end, and the run that a seed chooses.
use Rattle.std.specs.Prelude.{◌≡◌, ℕ, zero, suc, ◌+◌, ◌*◌, ◌/◌, ◌%◌, ◌≤◌, nat_le, List, [], ◌∷◌, Bool, ◌==◌, if◌then◌else◌, Option, Some, None, Contains, length, map, replicate, slice_index_or, ⊤}
use Rattle.std.specs.List.{list_all}
use Rattle.vx_record.specs.Types.{End, Event, ProcDecl, Rec, System}
use Rattle.vx_base.specs.declared.record.End.TheVariants.{Done, Hung, Limit}
use Rattle.vx_image.specs.Units.{first_unit}
use Rattle.vx_record.specs.State.{Process, State}
use Rattle.vx_record.specs.Control.{new_process, is_deleted}
use Rattle.vx_record.specs.Events.{enabled, step}

-- The first state: the processes that are there from the start, in script order; nothing opened; time 0.

abbrev pub born_of : ℕ → ProcDecl → Process
born_of place d = new_process place d.group d.member d.privs d.mode

-- those of the declarations from this place on
abbrev pub born_from : ℕ → List ProcDecl → List Process
born_from place [] = []
born_from place (d ∷ ds) = if d.start then born_of place d ∷ born_from (place + 1) ds else born_from (place + 1) ds

abbrev pub first : System → State
first system = record {
  system = system;
  time = 0;
  next = 1;
  procs = born_from 0 system.decls;
  common = record { clusters = []; associations = [] };
  requests = [];
  timers = [];
  attention = [];
  boxes = replicate 64 None;
  units = map first_unit system.units;
}

-- Runs.

-- one record is the machine's on this state
pub record IsStep (s : State) (rec : Rec) : Type 0 where
  pub enabled : Contains (enabled s) rec.event
  pub answer : rec.answer ≡ (step s rec.event).answer
  pub effects : rec.effects ≡ (step s rec.event).effects

-- records are the machine's from this state on, one after another
abbrev pub AreSteps : State → List Rec → Type 0
AreSteps s [] = ⊤
AreSteps s (r ∷ rs) = IsStep s r × AreSteps (step s r.event).after rs

-- a run of a system has at most 100,000 records
pub record IsRun (system : System) (recs : List Rec) : Type 0 where
  pub few : length recs ≤ 100000
  pub steps : AreSteps (first system) recs

-- the state after records
abbrev pub after_from : State → List Rec → State
after_from s [] = s
after_from s (r ∷ rs) = after_from (step s r.event).after rs

abbrev pub after : System → List Rec → State
after system recs = after_from (first system) recs

-- The end: nothing is enabled, and every process is deleted or not; or something is, and there are as many records as the
-- limit.

abbrev pub are_deleted : State → Bool
are_deleted s = list_all is_deleted s.procs

abbrev pub end_with : ℕ → ℕ → Bool → List Event → Option End
end_with limit taken deleted [] = Some (if deleted then Done else Hung)
end_with limit taken deleted (e ∷ es) = if nat_le limit taken then Some Limit else None

abbrev pub end_of : ℕ → ℕ → State → Option End
end_of limit taken s = end_with limit taken (are_deleted s) (enabled s)

abbrev pub end_after : System → List Rec → ℕ → Option End
end_after system recs limit = end_of limit (length recs) (after system recs)

-- The chosen run: at each step the seed picks among the enabled events. Seed 0 stays 0, and always picks the first.

abbrev pub next_seed : ℕ → ℕ
next_seed x = if x == 0 then 0 else (x * 6364136223846793005 + 1442695040888963407) % 18446744073709551616

-- the index of the event that is picked of n, by the seed as it is after the pick
abbrev pub picked : ℕ → ℕ → ℕ
picked x n = (x / 8589934592) % n

abbrev pub record_of : State → Event → Rec
record_of s e = record { event = e; answer = (step s e).answer; effects = (step s e).effects }

abbrev pub pick : ℕ → Event → List Event → Event
pick x e es = slice_index_or (e ∷ es) (picked (next_seed x) (length (e ∷ es))) e

-- the rest of the run from a record on, if there are events
abbrev pub choose : State → ℕ → List Event → (State → ℕ → Event → List Rec) → List Rec
choose s x [] go = []
choose s x (e ∷ es) go = go s (next_seed x) (pick x e es)

-- at most n records more
abbrev pub chosen_from : ℕ → State → ℕ → List Rec
chosen_from zero s x = []
chosen_from (suc n) s x = choose s x (enabled s) (λ t y e. record_of t e ∷ chosen_from n (step t e).after y)

-- the run that a seed chooses, with at most as many records as the limit
abbrev pub chosen : System → ℕ → ℕ → List Rec
chosen system seed limit = chosen_from limit (first system) seed
