-- What is kept of the places, and what is seen of them, as entries come and go.
use Rattle.std.proofs.Common.{◌≡◌, ℕ, ◌+◌, ◌-◌, ◌<◌, ◌≤◌, List, Option, Some, None, length, map, slice_index_or, slice_set, ap, sym, ◌∙◌, arith, subst}
use Rattle.std.proofs.lemmas.List.{length-set, length_push}
use Rattle.vx_record.specs.Types.{Timer}
use Rattle.vx_base.specs.Roomy.{Roomy, with_items}
use Rattle.vx_timers.specs.Places.{entries, IsFree, IsKept, time_of}
use Rattle.vx_timers.proofs.Entries.{entries_put, free_set, length_changed, length_taken, used_before}

-- What is seen.

abbrev seen : List (Option Timer) → ℕ → Roomy Timer
seen places room = record { items = entries places; capacity = room }

pub seen_changed : (f : List Timer → List Timer) (places after : List (Option Timer)) (room : ℕ) (v : Roomy Timer) → seen places room ≡ v → entries after ≡ f (entries places) → seen after room ≡ with_items v (f v.items)
seen_changed f places after room v is e = ap (λ (ts : List Timer). let x : Roomy Timer = record { items = ts; capacity = room } in x) e ∙ ap (λ (x : Roomy Timer). with_items x (f x.items)) is

pub seen_same : (f : List Timer → List Timer) (places : List (Option Timer)) (room : ℕ) (v : Roomy Timer) → seen places room ≡ v → entries places ≡ f (entries places) → v ≡ with_items v (f v.items)
seen_same f places room v is e = sym is ∙ seen_changed f places places room v is e

-- What is kept.

pub kept_taken : (places after : List (Option Timer)) (times times' : List (Option ℕ)) (used count room i : ℕ) (t : Timer) → IsKept places times used count room → slice_index_or places i None ≡ Some t → after ≡ slice_set places i None → times' ≡ map time_of after → IsKept after times' used (count - 1) room
kept_taken places after times times' used count room i t h there is timed =
    let long = ap length is ∙ length-set places i None in
    let fewer = length_taken places i t there in
    let P : List (Option Timer) → Type 0 = IsFree used in
    record {
      timed = timed;
      free = subst P (sym is) (free_set used places i None (used_before used places i t there h.free) h.free);
      within = omega (arith, long, h.within);
      counted = omega (arith, h.counted, fewer, ap (λ (xs : List (Option Timer)). length (entries xs)) is);
      wide = omega (arith, long, h.wide);
    }

pub kept_changed : (places after : List (Option Timer)) (times times' : List (Option ℕ)) (used count room i : ℕ) (t u : Timer) → IsKept places times used count room → slice_index_or places i None ≡ Some t → after ≡ slice_set places i (Some u) → times' ≡ map time_of after → IsKept after times' used count room
kept_changed places after times times' used count room i t u h there is timed =
    let long = ap length is ∙ length-set places i (Some u) in
    let P : List (Option Timer) → Type 0 = IsFree used in
    record {
      timed = timed;
      free = subst P (sym is) (free_set used places i (Some u) (used_before used places i t there h.free) h.free);
      within = omega (arith, long, h.within);
      counted = h.counted ∙ sym (ap (λ (xs : List (Option Timer)). length (entries xs)) is ∙ length_changed places i t u there);
      wide = omega (arith, long, h.wide);
    }

pub kept_put : (places after : List (Option Timer)) (times' : List (Option ℕ)) (count room i : ℕ) (u : Timer) → count ≡ length (entries places) → room ≤ length places → i < length places → IsFree i places → after ≡ slice_set places i (Some u) → times' ≡ map time_of after → IsKept after times' (i + 1) (count + 1) room
kept_put places after times' count room i u counted wide within free is timed =
    let long = ap length is ∙ length-set places i (Some u) in
    let put = ap entries is ∙ entries_put places i u within free in
    let P : List (Option Timer) → Type 0 = IsFree (i + 1) in
    record {
      timed = timed;
      free = subst P (sym is) (free_set (i + 1) places i (Some u) (omega arith) (λ k h. free k (omega (arith, h))));
      within = omega (arith, long, within);
      counted = omega (arith, counted, ap length put, length_push (entries places) u);
      wide = omega (arith, long, wide);
    }
