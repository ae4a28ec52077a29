-- Events of processes, block by block.
use Rattle.std.proofs.Common.{◌≡◌, ℕ, zero, suc, ◌+◌, ◌-◌, ◌*◌, ◌/◌, ◌%◌, ◌<◌, ◌≤◌, List, [], ◌∷◌, ◌++◌, inl, inr, length, length-append, length-drop, length-take, min, drop, take, Option, Some, option_to_list, slice_get, true, refl, sym, ap, ◌∙◌, arith}
use Rattle.std.proofs.Math.ListN.{drop_of_length-le}
use Rattle.std.proofs.Math.Nat.{add-zero}
use Rattle.std.proofs.lemmas.Bool.{cases_lt}
use Rattle.std.proofs.lemmas.Grind.{div_ceil_times}
use Rattle.std.proofs.lemmas.List.{append_assoc, drop_more, drop-drop, length-take-le, take-append-drop, nil_from_length}
use Rattle.std.specs.List.{AllByRecursion, find}
use Rattle.vx_base.proofs.Lists.{get_front}
use Rattle.vx_record.specs.Types.{Event, Pid}
use Rattle.vx_record.specs.State.{Process, State, IsProcess, nobody, pid}
use Rattle.vx_record.specs.Events.{process_events, processes_from}
use Rattle.vx_record.proofs.Lists.{all_append}
use Rattle.vx_procs.specs.Own.{block_of}
use Rattle.vx_exec.specs.Blocks.{events_from, events_in}
use Rattle.vx_exec.specs.Leases.{is_open}
use Rattle.vx_exec.specs.Sound.{IsWhole}
use Rattle.vx_exec.proofs.Enabled.{some_here}

-- How many blocks there are, and how long one is.

pub blocks_cover : (n : ℕ) → n ≤ 32 * (n / 32 + min 1 (n % 32))
blocks_cover n = omega (arith, (div_ceil_times n 32 (omega arith)).0)

pub few_blocks : (n : ℕ) → n ≤ 1000 → n / 32 + min 1 (n % 32) ≤ 32
few_blocks n few = omega (arith, (div_ceil_times n 32 (omega arith)).1)

pub block_length : (b : ℕ) (prs : List Process) → min 32 (length prs - 32 * b) ≡ length (block_of b prs)
block_length b prs = sym (length-take 32 (drop (32 * b) prs) ∙ ap (λ (n : ℕ). min 32 n) (length-drop (32 * b) prs))

pub in_block : (s : State) (b place : ℕ) → place < length (block_of b s.procs) → IsProcess s (pid (32 * b + 1 + place))
in_block s b place within =
    let short : length (block_of b s.procs) ≤ length s.procs - 32 * b = omega (arith, block_length b s.procs) in
    record { above = omega arith; within = omega (arith, within, short) }

-- One block, and those behind it.

from_append : (s : State) (n : ℕ) (xs ys : List Process) → processes_from s n (xs ++ ys) ≡ processes_from s n xs ++ processes_from s (n + length xs) ys
from_append s n [] ys = ap (λ (m : ℕ). processes_from s m ys) (sym (add-zero n))
from_append s n (x ∷ xs) ys =
    let moved : n + 1 + length xs ≡ n + length (x ∷ xs) = omega arith in
    let here = process_events s (pid n) in
    ap (λ (es : List Event). here ++ es) (from_append s (n + 1) xs ys ∙ ap (λ (m : ℕ). processes_from s (n + 1) xs ++ processes_from s m ys) moved)
    ∙ sym (append_assoc here (processes_from s (n + 1) xs) (processes_from s (n + length (x ∷ xs)) ys))

-- the last block may be short, and then nothing is behind it
next_block : (s : State) (m : ℕ) (xs : List Process) → processes_from s (m + 1 + length (take 32 xs)) (drop 32 xs) ≡ processes_from s (m + 32 + 1) (drop 32 xs)
next_block s m xs =
    elim (cases_lt (length xs) 32) [
      | inl short ↦
          let few : length xs ≤ 32 = omega (arith, short) in
          let end : drop 32 xs ≡ [] = drop_of_length-le xs few in
          rw end refl
      | inr full ↦
          let next : m + 1 + length (take 32 xs) ≡ m + 32 + 1 = omega (arith, length-take-le 32 xs full) in
          ap (λ (n : ℕ). processes_from s n (drop 32 xs)) next
    ]

pub blocks_now : (s : State) (b : ℕ) → events_from s b ≡ events_in s b ++ events_from s (b + 1)
blocks_now s b =
    let xs = drop (32 * b) s.procs in
    let next : 32 * b + 32 ≡ 32 * (b + 1) = omega arith in
    ap (λ (prs : List Process). processes_from s (32 * b + 1) prs) (sym (take-append-drop 32 xs))
    ∙ (from_append s (32 * b + 1) (take 32 xs) (drop 32 xs)
    ∙ ap (λ (es : List Event). events_in s b ++ es)
    (next_block s (32 * b) xs
    ∙ (ap (λ (prs : List Process). processes_from s (32 * b + 32 + 1) prs) (drop-drop 32 (32 * b) s.procs)
    ∙ ap (λ (n : ℕ). processes_from s (n + 1) (drop n s.procs)) next)))

pub past_blocks : (s : State) (b : ℕ) → length s.procs ≤ 32 * b → events_from s b ≡ []
past_blocks s b past = ap (λ (prs : List Process). processes_from s (32 * b + 1) prs) (drop_of_length-le s.procs past)

-- How many events there are.

few_events : (s : State) (p : Pid) → length (process_events s p) ≤ 1
few_events s p = grind arith

few_from : (s : State) (n : ℕ) (prs : List Process) → length (processes_from s n prs) ≤ length prs
few_from s n [] = omega arith
few_from s n (pr ∷ prs) = omega (arith, length-append (process_events s (pid n)) (processes_from s (n + 1) prs), few_events s (pid n), few_from s (n + 1) prs)

pub few_in : (s : State) (b : ℕ) → length (events_in s b) ≤ 32
few_in s b = omega (arith, few_from s (32 * b + 1) (block_of b s.procs), block_length b s.procs)

pub few_of_all : (s : State) → IsWhole s → length (processes_from s 1 s.procs) ≤ 1000
few_of_all s whole = omega (arith, few_from s 1 s.procs, whole.few)

pub blocks_counted : (s : State) (b count all : ℕ) → length s.procs ≤ 32 * b → count + length (events_from s b) ≡ all → count ≡ all
blocks_counted s b count all past so_far = omega (arith, so_far, ap (λ (es : List Event). length es) (past_blocks s b past))

-- In a block, one process further.

abbrev pub rest_in : State → ℕ → ℕ → List Event
rest_in s b place = processes_from s (32 * b + 1 + place) (drop place (block_of b s.procs))

pub rest_now : (s : State) (b place : ℕ) → place < length (block_of b s.procs) → rest_in s b place ≡ process_events s (pid (32 * b + 1 + place)) ++ rest_in s b (place + 1)
rest_now s b place within =
    let next : 32 * b + 1 + place + 1 ≡ 32 * b + 1 + (place + 1) = omega arith in
    ap (λ (prs : List Process). processes_from s (32 * b + 1 + place) prs) (drop_more (block_of b s.procs) place nobody within)
    ∙ ap (λ (n : ℕ). process_events s (pid (32 * b + 1 + place)) ++ processes_from s n (drop (place + 1) (block_of b s.procs))) next

rest_end : (s : State) (b place : ℕ) → length (block_of b s.procs) ≤ place → rest_in s b place ≡ []
rest_end s b place past = ap (λ (prs : List Process). processes_from s (32 * b + 1 + place) prs) (drop_of_length-le (block_of b s.procs) past)

pub count_end : (s : State) (b place count : ℕ) → length (block_of b s.procs) ≤ place → count + length (rest_in s b place) ≡ length (events_in s b) → count ≡ length (events_in s b)
count_end s b place count past so_far = omega (arith, so_far, ap (λ (es : List Event). length es) (rest_end s b place past))

-- behind the first of two lists
get_right : (xs ys : List Event) (i left : ℕ) → i ≡ length xs + left → slice_get (xs ++ ys) i ≡ slice_get ys left
get_right [] ys i left is = ap (λ (n : ℕ). slice_get ys n) (omega (arith, is))
get_right (x ∷ xs) ys zero left is = absurd (omega (arith, is))
get_right (x ∷ xs) ys (suc i) left is = get_right xs ys i left (omega (arith, is))

-- The event at a place of a block: what is left is the rest, and the place counts from there.
pub record IsSeeking (all now : List Event) (i left : ℕ) : Type 0 where
  pub found : slice_get now left ≡ slice_get all i
  pub passed : length all + left ≡ length now + i

pub seek_past : (s : State) (b place : ℕ) (i left n after : ℕ) → place < length (block_of b s.procs) → n ≡ length (process_events s (pid (32 * b + 1 + place))) → left ≡ n + after → IsSeeking (events_in s b) (rest_in s b place) i left → IsSeeking (events_in s b) (rest_in s b (place + 1)) i after
seek_past s b place i left n after within is passed so_far = grind (arith, rest_now, get_right, length-append)

pub seek_here : (s : State) (b place : ℕ) (i left : ℕ) (e : Event) → place < length (block_of b s.procs) → option_to_list (Some e) ≡ process_events s (pid (32 * b + 1 + place)) → left ≡ 0 → IsSeeking (events_in s b) (rest_in s b place) i left → slice_get (events_in s b) i ≡ Some e
seek_here s b place i left e within is none so_far = grind (arith, rest_now, some_here)

pub seek_end : (s : State) (b place : ℕ) (i left : ℕ) → length (block_of b s.procs) ≤ place → IsSeeking (events_in s b) (rest_in s b place) i left → i ≡ length (events_in s b) + left
seek_end s b place i left past so_far = omega (arith, so_far.passed, ap (λ (es : List Event). length es) (rest_end s b place past))

-- One block further, with the events of units and of time behind.

abbrev pub from_block : State → ℕ → List Event → List Event
from_block s b ys = events_from s b ++ ys

from_now : (s : State) (b : ℕ) (ys : List Event) → from_block s b ys ≡ events_in s b ++ from_block s (b + 1) ys
from_now s b ys = ap (λ (es : List Event). es ++ ys) (blocks_now s b) ∙ append_assoc (events_in s b) (events_from s (b + 1)) ys

from_end : (s : State) (b : ℕ) (ys : List Event) → length s.procs ≤ 32 * b → from_block s b ys ≡ ys
from_end s b ys past = ap (λ (es : List Event). es ++ ys) (past_blocks s b past)

pub block_has : (s : State) (b : ℕ) (ys : List Event) (left : ℕ) (e : Event) (found : Option Event) → slice_get (events_in s b) left ≡ Some e → slice_get (from_block s b ys) left ≡ found → Some e ≡ found
block_has s b ys left e found has so_far = sym (get_front (events_in s b) (from_block s (b + 1) ys) left e has) ∙ (ap (λ (es : List Event). slice_get es left) (sym (from_now s b ys)) ∙ so_far)

pub block_passed : (s : State) (b : ℕ) (ys : List Event) (left behind : ℕ) (found : Option Event) → left ≡ length (events_in s b) + behind → slice_get (from_block s b ys) left ≡ found → slice_get (from_block s (b + 1) ys) behind ≡ found
block_passed s b ys left behind found is so_far = sym (get_right (events_in s b) (from_block s (b + 1) ys) left behind is) ∙ (ap (λ (es : List Event). slice_get es left) (sym (from_now s b ys)) ∙ so_far)

pub blocks_passed : (s : State) (b : ℕ) (ys : List Event) (left : ℕ) (found : Option Event) → length s.procs ≤ 32 * b → slice_get (from_block s b ys) left ≡ found → slice_get ys left ≡ found
blocks_passed s b ys left found past so_far = ap (λ (es : List Event). slice_get es left) (sym (from_end s b ys past)) ∙ so_far

-- The first event that ends no service: an event of a process ends none.

opens_of : (s : State) (p : Pid) → AllByRecursion (λ (e : Event). is_open e ≡ true) (process_events s p)
opens_of s p = grind arith

opens_from : (s : State) (n : ℕ) (prs : List Process) → AllByRecursion (λ (e : Event). is_open e ≡ true) (processes_from s n prs)
opens_from s n [] = tt
opens_from s n (pr ∷ prs) = all_append (λ (e : Event). is_open e ≡ true) (process_events s (pid n)) (processes_from s (n + 1) prs) (opens_of s (pid n)) (opens_from s (n + 1) prs)

first_opens : (xs ys : List Event) (e : Event) → AllByRecursion (λ (e : Event). is_open e ≡ true) xs → slice_get xs 0 ≡ Some e → find is_open (xs ++ ys) ≡ Some e
first_opens [] ys e all is = absurd (cc)
first_opens (x ∷ xs) ys e all is = rw all.0 is

pub block_opens : (s : State) (b : ℕ) (ys : List Event) (e : Event) (found : Option Event) → slice_get (events_in s b) 0 ≡ Some e → find is_open (from_block s b ys) ≡ found → Some e ≡ found
block_opens s b ys e found has so_far = sym (first_opens (events_in s b) (from_block s (b + 1) ys) e (opens_from s (32 * b + 1) (block_of b s.procs)) has) ∙ (ap (find is_open) (sym (from_now s b ys)) ∙ so_far)

pub block_closed : (s : State) (b : ℕ) (ys : List Event) (behind : ℕ) (found : Option Event) → 0 ≡ length (events_in s b) + behind → find is_open (from_block s b ys) ≡ found → find is_open (from_block s (b + 1) ys) ≡ found
block_closed s b ys behind found is so_far = grind (arith, nil_from_length, from_now)

pub blocks_closed : (s : State) (b : ℕ) (ys : List Event) (found : Option Event) → length s.procs ≤ 32 * b → find is_open (from_block s b ys) ≡ found → find is_open ys ≡ found
blocks_closed s b ys found past so_far = ap (find is_open) (sym (from_end s b ys past)) ∙ so_far
