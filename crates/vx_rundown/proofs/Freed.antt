-- The channels of a mode and outer ones are freed, the first of them at a time, each with its mailbox if that goes with it.
use Rattle.std.proofs.Common.{◌≡◌, ℕ, suc, ◌+◌, ◌-◌, ◌<◌, ◌≤◌, List, [], ◌∷◌, Bool, true, false, nat_lt, length, slice_index_or, slice_set, Option, Some, None, IsTrue, is_some, arith, refl, ap, sym, subst, ◌∙◌}
use Rattle.std.specs.List.{find}
use Rattle.std.proofs.lemmas.Bool.Decides.{nat_tests}
use Rattle.vx_base.specs.Channels.{channel_at, channels_of, is_channel_number, is_reached, next_of_mode, reached_from}
use Rattle.vx_record.specs.Types.{Channel, Mode, Pid}
use Rattle.vx_record.specs.Channels.{free_channel, swept_box, with_channel}
use Rattle.vx_record.specs.Parts.{Part, and_then, each}
use Rattle.vx_record.specs.Rundown.{free_one, keeps_busy}
use Rattle.vx_record.specs.Sound.{ChannelStands, ground}
use Rattle.vx_record.specs.State.{Process, State, process_at, change}
use Rattle.vx_record.proofs.Cancelled.{free_channel_moves}
use Rattle.vx_record.proofs.Changes.{stands_at}
use Rattle.vx_record.proofs.Firm.{firm}
use Rattle.vx_record.proofs.Freeing.{IsFreeing as AreFreed, IsReleased, freed_on, freeing_first, freeing_row}
use Rattle.vx_record.proofs.Lists.{all_get, either_by, none_passes}
use Rattle.vx_procs.specs.Kernel.{Acts, Fits, Kernel, with_state}
use Rattle.vx_procs.proofs.Rest.{IsDoing, doing_begun, doing_end, doing_on, doing_room}
use Rattle.vx_rundown.specs.Leaving.{IsDrained, IsLeaving}
use Rattle.vx_io.proofs.Changed.{process_there}
use Rattle.vx_rundown.proofs.Left.{Follows, change_follows, follows_still, follows_then, leaving_acted, leaving_by}

-- Numbers.

-- the first of a list
abbrev first_of : List ℕ → Option ℕ
first_of [] = None
first_of (n ∷ ns) = Some n

-- numbers from 1 on are above 0
first_reached : (m : Mode) (j : ℕ) (rows : List (Option Channel)) → find (λ n. nat_lt 0 n) (reached_from (j + 1) m rows) ≡ first_of (reached_from (j + 1) m rows)
first_reached m j [] = refl
first_reached m j (row ∷ rows) = let rest = first_reached m (j + 1) rows in grind (arith, nat_tests)

-- A reached channel is one of the rows, and is assigned; freed, the others are left.
pub record IsReachedAt (m : Mode) (j n : ℕ) (ns : List ℕ) (rows : List (Option Channel)) : Type 0 where
  pub above : j ≤ n
  pub within : n < j + length rows
  pub there : is_some (slice_index_or rows (n - j) None) ≡ true
  pub rest : reached_from j m (slice_set rows (n - j) None) ≡ ns

reached_some : (m : Mode) (row : Option Channel) → is_reached m row ≡ true → is_some row ≡ true
reached_some m row e = grind arith

reached_at : (m : Mode) (j n : ℕ) (ns : List ℕ) (rows : List (Option Channel)) → reached_from j m rows ≡ n ∷ ns → IsReachedAt m j n ns rows
reached_at m j n ns [] e = absurd (cc)
reached_at m j n ns (row ∷ rows) e = either_by (λ xs. xs ≡ n ∷ ns → IsReachedAt m j n ns (row ∷ rows)) (is_reached m row) (j ∷ reached_from (j + 1) m rows) (reached_from (j + 1) m rows) here (λ is found. behind is (reached_at m (j + 1) n ns rows found)) e
  where
    here : is_reached m row ≡ true → j ∷ reached_from (j + 1) m rows ≡ n ∷ ns → IsReachedAt m j n ns (row ∷ rows)
    here is found =
        let same : j ≡ n = cc in
        let at : n - j ≡ 0 = omega (arith, same) in
        record { above = omega (arith, same); within = omega (arith, same); there = rw at (reached_some m row is); rest = rw at (cc) }

    behind : is_reached m row ≡ false → IsReachedAt m (j + 1) n ns rows → IsReachedAt m j n ns (row ∷ rows)
    behind is h =
        let at : n - j ≡ suc (n - (j + 1)) = omega (arith, h.above) in
        record { above = omega (arith, h.above); within = omega (arith, h.within); there = rw at h.there; rest = rw (at, is) h.rest }

-- what was found next is the first
pub found_first : (m : Mode) (n : ℕ) (rows : List (Option Channel)) → Some n ≡ next_of_mode m 0 rows → (ns : List ℕ) × (channels_of m rows ≡ n ∷ ns)
found_first m n rows found = cases (channels_of m rows) (found ∙ first_reached m 0 rows)
  where
    cases : (xs : List ℕ) → Some n ≡ first_of xs → (ns : List ℕ) × (xs ≡ n ∷ ns)
    cases [] e = absurd (cc)
    cases (x ∷ xs) e = (xs, grind arith)

pub found_none : (m : Mode) (rows : List (Option Channel)) → None ≡ next_of_mode m 0 rows → channels_of m rows ≡ []
found_none m rows found = cases (channels_of m rows) (found ∙ first_reached m 0 rows)
  where
    cases : (xs : List ℕ) → None ≡ first_of xs → xs ≡ []
    cases xs e = grind arith

-- Freeing.

swept_follows : (rows : Bool) (s : State) (row : Option Channel) → Follows rows s (swept_box s row).after
swept_follows rows s None = follows_still
swept_follows rows s (Some ch) = grind arith

free_follows : (s : State) (p : Pid) (n : ℕ) → Follows false s (free_channel s p n).after
free_follows s p n =
    follows_then (change_follows s p (with_channel n None) (record { decl = refl; frames = refl; channels = λ e. absurd (cc); asts = omega arith })) (swept_follows false (change s p (with_channel n None)) (channel_at (process_at s p).channels n))

-- no request and no attention entry is on a channel of a mode that is drained
leaving_freed : (k : Kernel) (p : Pid) (m : Mode) (n : ℕ) (ns : List ℕ) → AreFreed k.state p m (n ∷ ns) → IsLeaving k p → IsLeaving (with_state k (free_channel k.state p n).after) p
leaving_freed k p m n ns free h = leaving_by (free_channel_moves k.state p n (λ e i. freeing_row k.state p m n ns free i)) (free_follows k.state p n) h

abbrev pub free_all : Pid → Mode → State → Part
free_all p m s = each (free_one p) (channels_of m (process_at s p).channels) s

freed_each : (p : Pid) (m : Mode) (ns : List ℕ) (k : Kernel) → AreFreed k.state p m ns → IsLeaving k p → IsLeaving (with_state k (each (free_one p) ns k.state).after) p
freed_each p m [] k free h = h
freed_each p m (n ∷ ns) k free h = freed_each p m ns (with_state k (free_channel k.state p n).after) (freed_on k.state p m n ns free) (leaving_freed k p m n ns free h)

-- what is drained, in the words of the machine's proofs and back

released : (s : State) (p : Pid) (m : Mode) → IsDrained s p m → IsReleased s p m
released s p m h = record { phase = h.phase; idle = none_passes (keeps_busy p m) s.requests h.idle }

pub leaving_channels : (p : Pid) (m : Mode) (k : Kernel) → IsDrained k.state p m → IsLeaving k p → IsLeaving (with_state k (free_all p m k.state).after) p
leaving_channels p m k drained h = freed_each p m (channels_of m (process_at k.state p).channels) k (freeing_first k.state p m h.made (released k.state p m drained)) h

-- The loop.
pub record IsFreeing (p : Pid) (m : Mode) (first k : Kernel) : Type 0 where
  pub leaving : IsLeaving k p
  pub released : IsReleased k.state p m
  pub doing : IsDoing (free_all p m first.state) first (free_all p m k.state) k

pub freeing_begun : (p : Pid) (m : Mode) (k : Kernel) → IsLeaving k p → IsDrained k.state p m → Fits k (free_all p m k.state).effects → IsFreeing p m k k
freeing_begun p m k h drained room = record { leaving = h; released = released k.state p m drained; doing = doing_begun (free_all p m k.state) k room }

-- the channel that was found next, and those behind it
pub record IsNext (p : Pid) (m : Mode) (k : Kernel) (n : ℕ) (ns : List ℕ) : Type 0 where
  pub are : channels_of m (process_at k.state p).channels ≡ n ∷ ns
  pub free : AreFreed k.state p m (n ∷ ns)
  pub at : IsReachedAt m 1 n ns (process_at k.state p).channels

pub next_here : (p : Pid) (m : Mode) (k : Kernel) (n : ℕ) → IsLeaving k p → IsReleased k.state p m → Some n ≡ next_of_mode m 0 (process_at k.state p).channels → (ns : List ℕ) × IsNext p m k n ns
next_here p m k n h free found = grind (arith, found_first, freeing_first, reached_at)

pub freeing_number : (p : Pid) (m : Mode) (first k : Kernel) (n : ℕ) → IsFreeing p m first k → Some n ≡ next_of_mode m 0 (process_at k.state p).channels → IsTrue (is_channel_number n)
freeing_number p m first k n h found = grind (arith, next_here, freeing_row, firm)

pub freeing_stands : (p : Pid) (k : Kernel) (n : ℕ) → IsLeaving k p → ChannelStands (ground k.state) (channel_at (process_at k.state p).channels n)
freeing_stands p k n h = all_get (ChannelStands (ground k.state)) (process_at k.state p).channels (n - 1) None tt (stands_at k.state p h.sound h.made).channels

-- those behind it are what is left
left_behind : (p : Pid) (m : Mode) (k : Kernel) (n : ℕ) (ns : List ℕ) → IsLeaving k p → IsNext p m k n ns → channels_of m (process_at (free_channel k.state p n).after p).channels ≡ ns
left_behind p m k n ns h next =
    let s = k.state in
    let a = change s p (with_channel n None) in
    let swept = (swept_follows true a (channel_at (process_at s p).channels n)).channels refl p in
    ap (channels_of m) (swept ∙ ap (λ (pr : Process). pr.channels) (process_there s p (with_channel n None) h.made)) ∙ next.at.rest

free_first : (p : Pid) (m : Mode) (first k : Kernel) (n : ℕ) → IsFreeing p m first k → Some n ≡ next_of_mode m 0 (process_at k.state p).channels → free_all p m k.state ≡ and_then (free_channel k.state p n) (free_all p m)
free_first p m first k n h found = grind (arith, next_here, left_behind)

pub freeing_room : (p : Pid) (m : Mode) (first k : Kernel) (n : ℕ) → IsFreeing p m first k → Some n ≡ next_of_mode m 0 (process_at k.state p).channels → Fits k (free_channel k.state p n).effects
freeing_room p m first k n h found = doing_room (free_all p m first.state) first k (free_all p m k.state) (free_channel k.state p n) (free_all p m) (free_first p m first k n h found) h.doing

pub freeing_more : (p : Pid) (m : Mode) (first k l : Kernel) (n : ℕ) → IsFreeing p m first k → Some n ≡ next_of_mode m 0 (process_at k.state p).channels → Acts (free_channel k.state p n) k l → IsFreeing p m first l
freeing_more p m first k l n h found did =
    let next = next_here p m k n h.leaving h.released found in
    let part = free_channel k.state p n in
    record {
      leaving = leaving_acted k part did (leaving_freed k p m n next.0 next.1.free h.leaving);
      released = subst (λ (x : Kernel). IsReleased x.state p m) (sym did) (freed_on k.state p m n next.0 next.1.free).released;
      doing = doing_on (free_all p m first.state) first k l (free_all p m k.state) part (free_all p m) (free_first p m first k n h found) did h.doing;
    }

-- fewer are reached
pub freeing_fewer : (p : Pid) (m : Mode) (first k l : Kernel) (n : ℕ) → IsFreeing p m first k → Some n ≡ next_of_mode m 0 (process_at k.state p).channels → Acts (free_channel k.state p n) k l → length (channels_of m (process_at l.state p).channels) < length (channels_of m (process_at k.state p).channels)
freeing_fewer p m first k l n h found did = grind (arith, next_here, left_behind)

pub freeing_end : (p : Pid) (m : Mode) (first k : Kernel) → IsFreeing p m first k → None ≡ next_of_mode m 0 (process_at k.state p).channels → Acts (free_all p m first.state) first k
freeing_end p m first k h none = grind (arith, doing_end, found_none)
