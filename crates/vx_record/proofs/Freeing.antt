-- The channels of a mode that is drained are freed: nothing hangs on them.
use Rattle.std.proofs.Common.{◌≡◌, ℕ, zero, suc, ◌+◌, ◌-◌, ◌<◌, ◌≤◌, List, [], ◌∷◌, true, false, ◌==◌, ◌&&◌, nat_le, length, Option, Some, None, get_or, set, refl, sym, ap, ◌∙◌, arith, subst, get_or-set_same}
use Rattle.std.proofs.Math.ListN.{length-set}
use Rattle.std.proofs.lemmas.Bool.{and_parts, and_from, eqb-true, le-leb, false_from_ne_true, both_ways}
use Rattle.std.specs.List.{AllByRecursion}
use Rattle.vx_base.specs.Channels.{channel_at, is_reached, reached_from, channels_of}
use Rattle.vx_base.specs.Modes.{reaches}
use Rattle.vx_record.specs.Types.{Attention, Channel, Device, Mode, Phase, Pid, Queued}
use Rattle.vx_base.specs.declared.frame.Phase.TheVariants as phase
use Rattle.vx_base.specs.declared.request.Device.TheVariants as device
use Rattle.vx_record.specs.State.{Process, State, IsProcess, process_at, change, nobody}
use Rattle.vx_record.specs.Parts.{each}
use Rattle.vx_record.specs.Charges.{is_same}
use Rattle.vx_record.specs.Channels.{with_channel, swept_box, free_channel}
use Rattle.vx_record.specs.Cancel.{is_request_on, is_attention_on}
use Rattle.vx_record.specs.Rundown.{in_phase, keeps_busy, free_one, drop_ast, release, without_ast}
use Rattle.vx_record.specs.Sound.{ground, process_of, IsRooted, RequestStands, is_drained, AttentionStands}
use Rattle.vx_record.proofs.Firm.{IsFirm}
use Rattle.vx_record.proofs.Lists.{either_by, all_weaker, all_both}
use Rattle.vx_record.proofs.Ground.{at_set}
use Rattle.vx_record.proofs.Changes.{firm_at}
use Rattle.vx_record.proofs.SoundChannels.{is_on_box, IsClear}
use Rattle.vx_record.proofs.Fits.{field_same}
use Rattle.vx_record.proofs.Moves.{IsRow}

reached_rows : (k : ℕ) (m : Mode) (rows : List (Option Channel)) → AllByRecursion (λ n. (k ≤ n) × (n < k + length rows) × (is_reached m (get_or rows (n - k) None) ≡ true)) (reached_from k m rows)
reached_rows k m [] = tt
reached_rows k m (row ∷ rows) =
    let P = λ (n : ℕ). (k ≤ n) × (n < k + length (row ∷ rows)) × (is_reached m (get_or (row ∷ rows) (n - k) None) ≡ true) in
    let rest = reached_rows (k + 1) m rows in
    let more = all_weaker (λ n. (k + 1 ≤ n) × (n < (k + 1) + length rows) × (is_reached m (get_or rows (n - (k + 1)) None) ≡ true)) P (λ n h. further n h) (reached_from (k + 1) m rows) rest in
    either_by (AllByRecursion P) (is_reached m row) (k ∷ reached_from (k + 1) m rows) (reached_from (k + 1) m rows) (λ e. ((omega arith, omega arith, first e), more)) (λ e. more)
  where
    further : (n : ℕ) → (k + 1 ≤ n) × (n < (k + 1) + length rows) × (is_reached m (get_or rows (n - (k + 1)) None) ≡ true) → (k ≤ n) × (n < k + length (row ∷ rows)) × (is_reached m (get_or (row ∷ rows) (n - k) None) ≡ true)
    further n h = let place : n - k ≡ suc (n - (k + 1)) = omega (arith, h.0) in (omega (arith, h.0), omega (arith, h.1), rw place h.2)

    first : is_reached m row ≡ true → is_reached m (get_or (row ∷ rows) (k - k) None) ≡ true
    first e = let place : k - k ≡ zero = omega arith in rw place e

pub RowReached : Mode → Option Channel → Type 0
RowReached m None = Unit {0}
RowReached m (Some ch) = reaches ch.mode m ≡ true

row_reached : (m : Mode) (o : Option Channel) → is_reached m o ≡ true → RowReached m o
unfolding RowReached
row_reached m None e = tt
row_reached m (Some ch) e = e

swept_procs : (s : State) (o : Option Channel) → (swept_box s o).after.procs ≡ s.procs
swept_procs s o = grind arith

swept_requests : (s : State) (o : Option Channel) → (swept_box s o).after.requests ≡ s.requests
swept_requests s o = grind arith

freed_procs : (s : State) (p : Pid) (n : ℕ) → (free_channel s p n).after.procs ≡ set s.procs (p.0 - 1) (with_channel n None (process_at s p))
freed_procs s p n = swept_procs (change s p (with_channel n None)) (channel_at (process_at s p).channels n)

freed_seat : (R : Process → Process → Type 0) → ((x : Process) → R x x) → (s : State) (p : Pid) (n : ℕ) → R (process_at s p) (with_channel n None (process_at s p)) → R (process_at s p) (process_at (free_channel s p n).after p)
freed_seat R same s p n k =
    subst (λ (ps : List Process). R (process_at s p) (get_or ps (p.0 - 1) nobody)) (sym (freed_procs s p n))
    (at_set R same s.procs (p.0 - 1) (p.0 - 1) (with_channel n None (process_at s p)) nobody k)

-- a number of a channel that is free, or of the mode or an outer one
pub IsFreed : State → Pid → Mode → ℕ → Type 0
IsFreed s p m n = (1 ≤ n) × (n ≤ length (process_at s p).channels) × RowReached m (channel_at (process_at s p).channels n)

-- a mode is drained of which nothing is busy
pub record IsReleased (s : State) (p : Pid) (m : Mode) : Type 0 where
  pub phase : (process_at s p).phase ≡ phase.Draining m
  pub idle : AllByRecursion (λ r. keeps_busy p m r ≡ false) s.requests

pub record IsFreeing (s : State) (p : Pid) (m : Mode) (ns : List ℕ) : Type 0 where
  pub made : IsProcess s p
  pub released : IsReleased s p m
  pub rows : AllByRecursion (IsFreed s p m) ns

pub freeing_first : (s : State) (p : Pid) (m : Mode) → IsProcess s p → IsReleased s p m → IsFreeing s p m (channels_of m (process_at s p).channels)
unfolding IsFreed
freeing_first s p m made k = grind (arith, all_weaker, get_or, IsFreed, row_reached, reached_rows)

-- what is on a channel that the mode reaches is of that mode or an outer one
row_of : (s : State) (p q : Pid) (m : Mode) (n k : ℕ) (ch : Channel) → RowReached m (channel_at (process_at s p).channels n) → channel_at (process_of (ground s) q).channels k ≡ Some ch → (is_same q p && (k == n)) ≡ true → reaches ch.mode m ≡ true
unfolding RowReached
row_of s p q m n k ch row c e = grind arith

clear_request : (s : State) (p : Pid) (m : Mode) (n : ℕ) (q : Pid) (k : ℕ) (mode : Mode) (d : Device) → RowReached m (channel_at (process_at s p).channels n) → IsRooted (ground s) q k mode d → (is_same q p && reaches mode m) ≡ false → (is_on_box d && (is_same q p && (k == n))) ≡ true → ⊥
clear_request s p m n q k mode (device.Unit u) row c idle e = cc
clear_request s p m n q k mode (device.Mailbox b) row c idle e = both_ways (is_same q p && reaches mode m) idle (and_from (is_same q p) (reaches mode m) (and_parts (is_same q p) (k == n) e).0 (row_of s p q m n k (record { device = device.Mailbox b; mode = mode }) row c.row e))

clear_attention : (s : State) (p : Pid) (m : Mode) (n : ℕ) (a : Attention) → (process_at s p).phase ≡ phase.Draining m → RowReached m (channel_at (process_at s p).channels n) → AttentionStands (ground s) a → is_attention_on p n a ≡ true → ⊥
clear_attention s p m n a drained row k e =
    let one : a.p.0 ≡ p.0 = eqb-true a.p.0 p.0 (and_parts (is_same a.p p) (a.chan == n) e).0 in
    let ph : (process_of (ground s) a.p).phase ≡ phase.Draining m = ap (λ (i : ℕ). (get_or s.procs (i - 1) nobody).phase) one ∙ drained in
    let going : is_drained (phase.Draining m) k.channel_mode ≡ false = subst (λ (x : Phase). is_drained x k.channel_mode ≡ false) ph k.going in
    both_ways (reaches k.channel_mode m) going (row_of s p a.p m n a.chan (record { device = device.Mailbox a.box; mode = k.channel_mode }) row k.channel.row e)

pub freeing_row : (s : State) (p : Pid) (m : Mode) (n : ℕ) (ns : List ℕ) → IsFreeing s p m (n ∷ ns) → IsFirm s → IsRow s p n None
unfolding IsFreed
freeing_row s p m n ns f h =
    let row = f.rows.0.2 in
    let clear : IsClear s p n = record {
      requests = all_weaker (λ r. RequestStands (ground s) r × (keeps_busy p m r ≡ false)) (λ r. (is_on_box r.req.device && is_request_on p n r) ≡ false)
          (λ r k. false_from_ne_true _ (clear_request s p m n r.req.p r.req.chan r.req.chan_mode r.req.device row k.0.rooted k.1)) s.requests
          (all_both (RequestStands (ground s)) (λ r. keeps_busy p m r ≡ false) s.requests h.requests f.released.idle);
      attention = all_weaker (AttentionStands (ground s)) (λ a. is_attention_on p n a ≡ false) (λ a k. false_from_ne_true _ (clear_attention s p m n a f.released.phase row k)) s.attention h.attention;
    } in
    let many = (firm_at s p h f.made).numbers in
    (f.made, (and_from (nat_le 1 n) (nat_le n 64) (le-leb 1 n f.rows.0.0) (le-leb n 64 (omega (arith, f.rows.0.1, many))), clear))

row_freed : (m : Mode) (x : Process) (n k : ℕ) → RowReached m (channel_at x.channels k) → RowReached m (channel_at (with_channel n None x).channels k)
unfolding RowReached
row_freed m x n k r = at_set (λ (a b : Option Channel). RowReached m a → RowReached m b) (λ a e. e) x.channels (n - 1) (k - 1) None None (λ e. tt) r

is_freed_after : (s : State) (p : Pid) (m : Mode) (n k : ℕ) → IsFreed s p m k → IsFreed (free_channel s p n).after p m k
unfolding IsFreed
is_freed_after s p m n k e = (
  e.0,
  freed_seat (λ (x y : Process). k ≤ length x.channels → k ≤ length y.channels) (λ x r. r) s p n (λ r. let size = length-set (process_at s p).channels (n - 1) None in omega (arith, r, size)) e.1,
  freed_seat (λ (x y : Process). RowReached m (channel_at x.channels k) → RowReached m (channel_at y.channels k)) (λ x r. r) s p n (row_freed m (process_at s p) n k) e.2,
)

pub freed_on : (s : State) (p : Pid) (m : Mode) (n : ℕ) (ns : List ℕ) → IsFreeing s p m (n ∷ ns) → IsFreeing (free_channel s p n).after p m ns
freed_on s p m n ns f =
    let t = (free_channel s p n).after in
    let size : length t.procs ≡ length s.procs = ap length (freed_procs s p n) ∙ length-set s.procs (p.0 - 1) (with_channel n None (process_at s p)) in
    let made : IsProcess t p = record { above = f.made.above; within = omega (arith, size, f.made.within) } in
    let drained = freed_seat (λ (x y : Process). x.phase ≡ phase.Draining m → y.phase ≡ phase.Draining m) (λ x e. e) s p n (λ e. e) f.released.phase in
    let idle = subst (AllByRecursion (λ r. keeps_busy p m r ≡ false)) (sym (swept_requests (change s p (with_channel n None)) (channel_at (process_at s p).channels n))) f.released.idle in
    let rows = all_weaker (IsFreed s p m) (IsFreed t p m) (is_freed_after s p m n) ns f.rows.1 in
    record { made = made; released = record { phase = drained; idle = idle }; rows = rows }

-- A release leaves the frames of the process.

each_free_frames : (p : Pid) (ns : List ℕ) (s : State) → (process_at s p).frames ≡ [] → (process_at (each (free_one p) ns s).after p).frames ≡ []
each_free_frames p [] s e = e
each_free_frames p (n ∷ ns) s e = each_free_frames p ns (free_channel s p n).after (freed_seat (λ (x y : Process). x.frames ≡ [] → y.frames ≡ []) (λ x r. r) s p n (λ r. r) e)

each_drop_frames : (p : Pid) (qs : List Queued) (s : State) → (process_at s p).frames ≡ [] → (process_at (each (drop_ast p) qs s).after p).frames ≡ []
each_drop_frames p [] s e = e
each_drop_frames p (q ∷ qs) s e = each_drop_frames p qs (drop_ast p s q).after (field_same (λ (pr : Process). pr.frames) (without_ast q.id) s p p refl ∙ e)

pub released_frames : (s : State) (p : Pid) (m : Mode) → (process_at s p).frames ≡ [] → (process_at (release s p m).after p).frames ≡ []
released_frames s p m e = grind (arith, each_drop_frames, each_free_frames)

pub phase_at : (s : State) (p : Pid) (ph : Phase) → IsProcess s p → (process_at (change s p (in_phase ph)) p).phase ≡ ph
phase_at s p ph made = ap (λ (x : Process). x.phase) (get_or-set_same s.procs (p.0 - 1) (in_phase ph (process_at s p)) nobody (omega (arith, made.above, made.within)))
