-- What cancelling does to the lists of a process: each request that is cancelled queues one AST at most, and all else becomes no more.
use Rattle.std.proofs.Common.{◌≡◌, ℕ, ◌+◌, ◌≤◌, List, ◌∷◌, Bool, length, length-set, Option, None, refl, ◌*◌, arith, nat_le, [], ◌&&◌, ◌==◌, not}
use Rattle.std.specs.List.{filter}
use Rattle.std.proofs.lemmas.Bool.Decides.{nat_tests}
use Rattle.vx_record.specs.Types.{Attention, Channel, Device, Mode, Pid, Request}
use Rattle.vx_base.specs.declared.cond.Cond.TheVariants.{Cancel}
use Rattle.vx_base.specs.Lists.{amend, tally}
use Rattle.vx_base.specs.Channels.{channels_of, reached_from, channel_at}
use Rattle.vx_base.specs.Flags.{one}
use Rattle.vx_record.specs.State.{State, process_at}
use Rattle.vx_record.specs.Parts.{each}
use Rattle.vx_record.specs.Charges.{is_same}
use Rattle.vx_record.specs.Rundown.{cancel_one}
use Rattle.vx_record.specs.Finish.{ending, this_request}
use Rattle.vx_record.specs.Cancel.{cancel_channel, cancel_request, drop_attention, is_attention_on, is_request_on, mark_part, with_abort, withdraw}
use Rattle.vx_record.specs.Channels.{free_channel, swept_box, with_channel}
use Rattle.vx_record.proofs.Lists.{either}
use Rattle.vx_procs.proofs.Firsts.{less_few}
use Rattle.vx_exec.proofs.Ends.{Ends, Falls, changed_falls, each_falls, ends_more, falls_more, falls_then, finish_falls, still_falls}
use Rattle.vx_record.proofs.OwnIds.{tally_less}

mark_falls : (p : Pid) (s : State) (r : Request) → Falls p 1 6 s (mark_part s r)
mark_falls p s r = let on = λ (c : ℕ). amend_few (is_request_on p c) (this_request r.req.id) with_abort (λ x. refl) s.requests in grind (arith, amend_length {A = Request})
  where
    amend_few : {A : Type 0} (test p : A → Bool) (f : A → A) → ((x : A) → test (f x) ≡ test x) → (xs : List A) → tally test (amend p f xs) ≤ tally test xs
    amend_few test p f same [] = omega arith
    amend_few test p f same (x ∷ xs) = let rest = amend_few test p f same xs in grind (arith, same x)

    amend_length : {A : Type 0} (p : A → Bool) (f : A → A) (xs : List A) → length (amend p f xs) ≤ length xs
    amend_length p f [] = omega arith
    amend_length p f (x ∷ xs) = let rest = amend_length p f xs in grind arith

cut_falls : (p : Pid) (s : State) (r : Request) (d : Device) → Falls p 0 1 s (withdraw s r d)
cut_falls p s r d = grind arith

request_falls : (p : Pid) (s : State) (r : Request) → Falls p 1 6 s (cancel_request s r)
request_falls p s r =
    either (Falls p 1 6 s) r.served _ _ (either (Falls p 1 6 s) (not r.marked) _ _ (mark_falls p s r) (still_falls p 1 6 s))
    (falls_then 0 1 1 5 (cut_falls p s r r.req.device) (finish_falls p _ r (ending Cancel 0 0 [])))

-- attention entries end
drop_falls : (p : Pid) (s : State) (a : Attention) → Falls p 0 1 s (drop_attention s a)
drop_falls p s a = grind (arith, less_few {A = Attention}, tally_less {A = Attention})

filter_tally : {A : Type 0} (test : A → Bool) (xs : List A) → length (filter test xs) ≤ tally test xs
filter_tally test [] = omega arith
filter_tally test (x ∷ xs) = let rest = filter_tally test xs in grind arith

-- a channel of a process: all its requests and attention entries there
on_falls : (p : Pid) (s : State) (chan : ℕ) → Falls p (tally (is_request_on p chan) s.requests) (6 * tally (is_request_on p chan) s.requests + tally (is_attention_on p chan) s.attention) s (cancel_channel s p chan)
on_falls p s chan =
    let rs = filter (is_request_on p chan) s.requests in
    let t = (each cancel_request rs s).after in
    let a : Falls p (length rs) (6 * length rs) s (each cancel_request rs s) = each_falls p 1 6 cancel_request (request_falls p) rs s (omega arith) (omega arith) in
    let xs = filter (is_attention_on p chan) t.attention in
    let none_more = a.waiting chan in
    let few = filter_tally (is_request_on p chan) s.requests in
    let fewer = filter_tally (is_attention_on p chan) t.attention in
    let b : Falls p 0 (length xs) t (each drop_attention xs t) = each_falls p 0 1 drop_attention (drop_falls p) xs t (omega arith) (omega arith) in
    falls_more (length rs + 0) _ (6 * length rs + length xs) _ (omega (arith, few)) (omega (arith, few, fewer, none_more)) (falls_then (length rs) 0 (6 * length rs) (length xs) a b)

pub tally_length : {A : Type 0} (test : A → Bool) (xs : List A) → tally test xs ≤ length xs
tally_length test [] = omega arith
tally_length test (x ∷ xs) = let rest = tally_length test xs in grind arith

pub channel_ends : (s : State) (p : Pid) (chan : ℕ) → Ends (6 * length s.requests + length s.attention) s (cancel_channel s p chan)
channel_ends s p chan = ends_more _ _ (omega (arith, tally_length (is_request_on p chan) s.requests, tally_length (is_attention_on p chan) s.attention)) (on_falls p s chan).ends

-- a channel is freed, and its mailbox may go
swept_falls : (p : Pid) (s : State) (row : Option Channel) → Falls p 0 1 s (swept_box s row)
swept_falls p s row = grind arith

pub free_falls : (p : Pid) (s : State) (n : ℕ) → Falls p 0 1 s (free_channel s p n)
free_falls p s n = falls_then 0 0 0 1 (changed_falls p p 0 s (with_channel n None) [] (grind (arith, length-set {A = Option Channel}))) (swept_falls p _ (channel_at (process_at s p).channels n))

-- What is owned by a process is on one of its channels; so much is on some channels.

abbrev IsOn : Type 0 → Type 0
IsOn A = ℕ → A → Bool

abbrev listed : {A : Type 0} → IsOn A → List A → List ℕ → ℕ
listed on xs [] = 0
listed on xs (n ∷ ns) = tally (on n) xs + listed on xs ns

listed_less : {A : Type 0} (on : IsOn A) (xs later : List A) (ns : List ℕ) → ((n : ℕ) → tally (on n) later ≤ tally (on n) xs) → listed on later ns ≤ listed on xs ns
listed_less on xs later [] fewer = omega arith
listed_less on xs later (n ∷ ns) fewer = omega (arith, fewer n, listed_less on xs later ns fewer)

channels_fall : (p : Pid) (ns : List ℕ) (s : State) → Falls p (listed (is_request_on p) s.requests ns) (6 * listed (is_request_on p) s.requests ns + listed (is_attention_on p) s.attention ns) s (each (cancel_one p) ns s)
channels_fall p [] s = still_falls p _ _ s
channels_fall p (n ∷ ns) s =
    let one = on_falls p s n in
    let t = (cancel_channel s p n).after in
    let fewer = listed_less (is_request_on p) s.requests t.requests ns one.on in
    let waiting = listed_less (is_attention_on p) s.attention t.attention ns one.waiting in
    falls_more _ _ _ _ (omega (arith, fewer)) (omega (arith, fewer, waiting)) (falls_then _ _ _ _ one (channels_fall p ns t))

-- The channels of a mode have different numbers, so nothing is counted twice.

-- what is owned is on a channel, and on a channel from a number on
abbrev on_of : {A : Type 0} → (A → Bool) → (A → ℕ) → IsOn A
on_of own chan n x = own x && (chan x == n)

abbrev from_of : {A : Type 0} → (A → Bool) → (A → ℕ) → IsOn A
from_of own chan j x = own x && nat_le j (chan x)

tally_split : {A : Type 0} (own : A → Bool) (chan : A → ℕ) (j : ℕ) (xs : List A) → tally (on_of own chan j) xs + tally (from_of own chan (j + 1)) xs ≤ tally (from_of own chan j) xs
tally_split own chan j [] = omega arith
tally_split own chan j (x ∷ xs) =
    let here : one (chan x == j) + one (nat_le (j + 1) (chan x)) ≤ one (nat_le j (chan x)) = grind (arith, nat_tests) in
    let rest = tally_split own chan j xs in
    grind arith

listed_from : {A : Type 0} (own : A → Bool) (chan : A → ℕ) (m : Mode) (xs : List A) (j : ℕ) (rows : List (Option Channel)) → listed (on_of own chan) xs (reached_from j m rows) ≤ tally (from_of own chan j) xs
listed_from own chan m xs j [] = omega arith
listed_from own chan m xs j (row ∷ rows) =
    let rest = listed_from own chan m xs (j + 1) rows in
    let both = tally_split own chan j xs in
    grind arith

listed_few : {A : Type 0} (own : A → Bool) (chan : A → ℕ) (m : Mode) (xs : List A) (rows : List (Option Channel)) → listed (on_of own chan) xs (channels_of m rows) ≤ length xs
listed_few own chan m xs rows = omega (arith, listed_from own chan m xs 1 rows, tally_length (from_of own chan 1) xs)

-- the channels of a mode and outer ones: each request and each attention entry once at most
pub mode_falls : (p : Pid) (m : Mode) (s : State) → Falls p (length s.requests) (6 * length s.requests + length s.attention) s (each (cancel_one p) (channels_of m (process_at s p).channels) s)
mode_falls p m s =
    let rows = (process_at s p).channels in
    let few = listed_few (λ (r : Request). is_same r.req.p p) (λ r. r.req.chan) m s.requests rows in
    let fewer = listed_few (λ (a : Attention). is_same a.p p) (λ a. a.chan) m s.attention rows in
    falls_more _ _ _ _ few (omega (arith, few, fewer)) (channels_fall p (channels_of m rows) s)
