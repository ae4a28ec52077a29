-- What the frames of each process wait for, in tables: how many frames a process has, and what they wait for by their places
-- from the bottom.
use Rattle.std.specs.Prelude.{◌≡◌, ℕ, zero, suc, List, [], ◌∷◌, map, Option, unwrap_or, nat_eq}
use Rattle.std.specs.HashMap.{get}
use Rattle.vx_record.specs.Types.{Pid, Wait}
use Rattle.vx_laws.specs.Items.{Item}
use Rattle.vx_laws.specs.Agrees.{waited}
use Rattle.vx_laws.specs.Frames.{awaited}
use Rattle.vx_judge.specs.Pairs.{pair_eq}
use Rattle.vx_judge.specs.declared.waits.Waits.{Waits}

abbrev pub count_in : Waits → Pid → ℕ
count_in t p = unwrap_or (get nat_eq t.counts p.0) 1

abbrev pub wait_at : Waits → Pid → ℕ → Option Wait
wait_at t p n = get pair_eq t.asked (p.0, n)

-- those at the lowest n places, the top one first
abbrev pub waits_below : (ℕ → Option Wait) → ℕ → List (Option Wait)
waits_below wait zero = []
waits_below wait (suc n) = wait n ∷ waits_below wait n

abbrev pub waits_in : Waits → Pid → List (Option Wait)
waits_in t p = waits_below (wait_at t p) (count_in t p)

-- they are those that the past leaves
abbrev pub AreAwaited : Waits → List Item → Type 0
AreAwaited t past = (p : Pid) → waits_in t p ≡ map waited (awaited past p)
