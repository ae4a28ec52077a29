-- What a process asked on its channels of a mode is cancelled, channel after channel; and rundown can rely on what it did before.
use Rattle.std.proofs.Common.{◌≡◌, ◌≢◌, ◌==◌, ℕ, ◌+◌, ◌-◌, ◌<◌, ◌≤◌, List, [], ◌∷◌, true, not, ◌&&◌, nat_lt, length, length-append, length-set, get_or-set_other, Option, Some, None, is_some, inl, inr, refl, ap, sym, subst, ◌∙◌, arith}
use Rattle.std.specs.List.{AllByRecursion, filter, find}
use Rattle.std.proofs.lemmas.Bool.{cases_eq, eq-eqb}
use Rattle.std.proofs.lemmas.Bool.Decides.{nat_tests}
use Rattle.vx_base.specs.Channels.{channels_of, is_reached, next_of_mode, reached_from}
use Rattle.vx_base.specs.Flags.{one}
use Rattle.vx_record.specs.Types.{Cell, Channel, Device, Id, Mode, Pid, Promised, Queued, Req, Request, Status}
use Rattle.vx_base.specs.declared.cond.Cond.TheVariants.{Cancel}
use Rattle.vx_base.specs.declared.effects.Cell.TheVariants.{Common, Local}
use Rattle.vx_base.specs.declared.effects.Effect.TheVariants as effect
use Rattle.vx_base.specs.declared.request.Device.TheVariants as device
use Rattle.vx_record.proofs.Cancelled.{cancel_channel_moves, withdraw_requests, still_has}
use Rattle.vx_record.proofs.Finds.{all_found, ordered_filter}
use Rattle.vx_record.proofs.Fits.{field_same}
use Rattle.vx_record.proofs.Ground.{at_set}
use Rattle.vx_record.proofs.Lists.{all_both, all_filter, all_from, all_weaker, either, ordered_from}
use Rattle.vx_record.proofs.Moves.{HasRequest}
use Rattle.vx_record.specs.Asts.{charged_ast}
use Rattle.vx_record.specs.Cancel.{cancel_channel, cancel_request, cancelled_request, drop_attention, is_attention_on, is_request_on, mark_part, with_abort, withdraw}
use Rattle.vx_record.specs.Charges.{bears_ast}
use Rattle.vx_record.specs.Finish.{Ending, buf_part, done_flag_part, ending, finish, iosb_part, is_read, put_status, status_of, this_request, with_stored_bytes, with_stored_status}
use Rattle.vx_record.specs.Flags.{cell, flag_where_named, with_local_flag}
use Rattle.vx_record.specs.Parts.{Part, and_then, each, nothing, tells}
use Rattle.vx_record.specs.Rundown.{cancel_one}
use Rattle.vx_record.specs.Sound.{AreOrdered, IsSound, RequestStands, ground, request_id}
use Rattle.vx_record.specs.State.{Process, State, IsProcess, nobody, process_at}
use Rattle.vx_io.proofs.QueuedFirst.{finish_same}
use Rattle.vx_procs.specs.Kernel.{Acts, Fits, Kernel, with_state}
use Rattle.vx_procs.specs.Ready.{owed}
use Rattle.vx_procs.specs.Requests.{ended, promised_ast, request_ast}
use Rattle.vx_procs.specs.Words.{with_queued_if}
use Rattle.vx_procs.proofs.Booked.{tally-less}
use Rattle.vx_procs.proofs.Firsts.{filter_none}
use Rattle.vx_procs.proofs.Rest.{IsDoing, doing_begun, doing_end, doing_on, doing_room}
use Rattle.vx_rundown.specs.Leaving.{IsLeaving}
use Rattle.vx_rundown.proofs.Left.{Follows, IsLess, attention_follows, change_follows, each_follows, follows_still, follows_then, leaving_acted, leaving_by, made_then, others_follow}
use Rattle.vx_rundown.proofs.Standing.{base_of, sound_moved}
use Rattle.vx_base.proofs.First.{found_passes}
use Rattle.vx_record.proofs.OwnIds.{tally_amend}

-- A request finishes: its AST is owed no more, and is queued.

queued_same : {T : Type 0} (g : Process → T) → ((q : Queued) (pr : Process) → g (with_queued_if (Some q) pr) ≡ g pr) → (o : Option Queued) (pr : Process) → g (with_queued_if o pr) ≡ g pr
queued_same g same None pr = refl
queued_same g same (Some q) pr = same q pr

queued_few : (id : Id) (o : Option Promised) (pr : Process) → length (with_queued_if (promised_ast id o) pr).asts ≤ length pr.asts + one (is_some o)
queued_few id None pr = omega arith
queued_few id (Some ast) pr = omega (arith, length-append pr.asts (charged_ast id ast.mode ast.tag ∷ []))

-- the process of the request, with one AST more that was promised; and any other
ended_owed : (s : State) (r : Request) (q : Pid) → IsProcess s r.req.p → HasRequest s r → IsProcess s q → owed (ended s r) q ≤ owed s q
ended_owed s r q made has also =
    let taken = tally-less (bears_ast q) (this_request r.req.id) s.requests r has in
    let f = with_queued_if (request_ast r) in
    elim (cases_eq r.req.p.0 q.0) [
      | inl same ↦
          let bears : bears_ast q r ≡ is_some r.ast = ap (λ b. b && is_some r.ast) (eq-eqb r.req.p.0 q.0 same) in
          let few = at_set (λ (x y : Process). length y.asts ≤ length x.asts + one (is_some r.ast)) (λ x. omega arith) s.procs (r.req.p.0 - 1) (q.0 - 1) (f (process_at s r.req.p)) nobody (queued_few r.req.id r.ast (process_at s r.req.p)) in
          omega (arith, taken, few, ap one bears)
      | inr other ↦
          let apart : q.0 - 1 ≢ r.req.p.0 - 1 = λ e. other (omega (arith, made.above, also.above, e)) in
          let its = ap (λ (pr : Process). length pr.asts) (get_or-set_other s.procs (r.req.p.0 - 1) (q.0 - 1) (f (process_at s r.req.p)) nobody apart) in
          omega (arith, taken, its)
    ]

ended_follows : (s : State) (r : Request) → IsProcess s r.req.p → HasRequest s r → Follows true s (ended s r)
ended_follows s r made has =
    let p = r.req.p in
    let o = request_ast r in
    let pr = process_at s p in
    let f = with_queued_if o in
    record {
      system = refl;
      many = length-set s.procs (p.0 - 1) (f pr);
      decl = λ q. field_same (λ (x : Process). x.decl) f s p q (queued_same (λ (x : Process). x.decl) (λ a x. refl) o pr);
      frames = λ q. field_same (λ (x : Process). x.frames) f s p q (queued_same (λ (x : Process). x.frames) (λ a x. refl) o pr);
      channels = λ e q. field_same (λ (x : Process). x.channels) f s p q (queued_same (λ (x : Process). x.channels) (λ a x. refl) o pr);
      owed = λ q also. ended_owed s r q made has also;
    }

buffer_follows : (s : State) (r : Req) (e : Ending) → Follows true s (buf_part s r e).after
buffer_follows s r e =
    either (λ (x : Part). Follows true s x.after) (is_read r.func && nat_lt 0 e.0.count) _ (nothing s)
    (change_follows s r.p (with_stored_bytes r.buf e.0.bytes) (record { decl = refl; frames = refl; channels = λ f. refl; asts = omega arith })) follows_still

status_follows : (s : State) (p : Pid) (i : ℕ) (status : Status) → Follows true s (iosb_part s p i status).after
status_follows s p i status =
    either (λ (x : Part). Follows true s x.after) (not (i == 0)) (put_status s p i status) (nothing s)
    (change_follows s p (with_stored_status i status) (record { decl = refl; frames = refl; channels = λ f. refl; asts = omega arith })) follows_still

flag_less : (n : ℕ) (pr : Process) → IsLess true pr (with_local_flag n true pr)
flag_less n pr = grind arith

flag_follows : (s : State) (o : Option Cell) → Follows true s (flag_where_named s o true).after
flag_follows s None = follows_still
flag_follows s (Some (Local q n)) = change_follows s q (with_local_flag n true) (flag_less n (process_at s q))
flag_follows s (Some (Common group name n)) = others_follow refl refl (λ q. omega arith)

finish_follows : (s : State) (r : Request) (e : Ending) → IsProcess s r.req.p → HasRequest s r → Follows true s (finish s r e).after
finish_follows s r e made has =
    let a = ended s r in
    let b = (buf_part a r.req e).after in
    let c = (iosb_part b r.req.p r.req.iosb (status_of e)).after in
    let d = (done_flag_part c r.req).after in
    let all = follows_then (follows_then (follows_then (ended_follows s r made has) (buffer_follows a r.req e)) (status_follows b r.req.p r.req.iosb (status_of e))) (flag_follows c (cell c r.req.p r.req.efn)) in
    subst (λ (x : Part). Follows true s x.after) (finish_same s r e made) (either (λ (x : Part). Follows true s x.after) (is_some r.ast) (tells (effect.Que r.req.id) d) (nothing d) all all)

-- A request is cancelled.

withdraw_follows : (s : State) (r : Request) (d : Device) → Follows true s (withdraw s r d).after
withdraw_follows s r (device.Unit u) = follows_still
withdraw_follows s r (device.Mailbox b) = grind arith

-- a request that is withdrawn is there still
withdraw_has : (s : State) (x y : Request) (d : Device) → HasRequest s y → HasRequest (withdraw s x d).after y
withdraw_has s x y d has = subst (λ (rs : List Request). find (this_request y.req.id) rs ≡ Some y) (sym (withdraw_requests s x d)) has

mark_follows : (s : State) (r : Request) → Follows true s (mark_part s r).after
mark_follows s r = others_follow refl refl (λ q. let same = tally_amend (bears_ast q) (this_request r.req.id) with_abort (λ x. refl) s.requests in omega (arith, same))

request_follows : (s : State) (r : Request) → IsProcess s r.req.p → HasRequest s r → Follows true s (cancel_request s r).after
request_follows s r made has =
    let first = withdraw_follows s r r.req.device in
    let cancelled = follows_then first (finish_follows (withdraw s r r.req.device).after r (ending Cancel 0 0 []) (made_then first made) (withdraw_has s r r r.req.device has)) in
    either (λ (x : Part). Follows true s x.after) r.served _ (cancelled_request s r)
    (either (λ (x : Part). Follows true s x.after) (not r.marked) (mark_part s r) (nothing s) (mark_follows s r) follows_still) cancelled

-- a request that stands among those of the state, of a process that is there
abbrev IsOf : State → Request → Type 0
IsOf s r = IsProcess s r.req.p × HasRequest s r

requests_follow : (low high : ℕ) (rs : List Request) (s : State) → AreOrdered request_id low high rs → AllByRecursion (IsOf s) rs → Follows true s (each cancel_request rs s).after
requests_follow low high [] s order those = follows_still
requests_follow low high (r ∷ rs) s order those =
    let t = (cancel_request s r).after in
    let first = request_follows s r those.0.0 those.0.1 in
    let later = all_both (IsOf s) (λ y. request_id r + 1 ≤ request_id y) rs those.1 (all_from request_id (request_id r + 1) high rs order.1) in
    let rest = all_weaker (λ y. IsOf s y × (request_id r + 1 ≤ request_id y)) (IsOf t) (λ y k. (made_then first k.0.0, still_has s r y k.1 k.0.1)) rs later in
    follows_then first (requests_follow (request_id r + 1) high rs t order.1 rest)

-- A channel is cancelled: all of its requests, and then all of its attention entries.

channel_follows : (s : State) (p : Pid) (n : ℕ) → IsSound s → Follows true s (cancel_channel s p n).after
channel_follows s p n sound =
    let test = is_request_on p n in
    let rs = filter test s.requests in
    let a = (each cancel_request rs s).after in
    let owners = all_weaker (RequestStands (ground s)) (λ r. IsProcess s r.req.p) (λ r h. h.made) s.requests sound.requests in
    let those = all_both (λ r. IsProcess s r.req.p) (HasRequest s) s.requests owners (all_found request_id 0 s.next s.requests sound.request_ids) in
    let first = requests_follow 0 s.next rs s (ordered_filter request_id test 0 s.next s.requests sound.request_ids) (all_filter (IsOf s) test s.requests those) in
    follows_then first (each_follows drop_attention attention_follows (filter (is_attention_on p n) a.attention) a)

pub leaving_cancelled : (p : Pid) (n : ℕ) (k : Kernel) → IsLeaving k p → IsLeaving (with_state k (cancel_channel k.state p n).after) p
leaving_cancelled p n k h = leaving_by (cancel_channel_moves k.state p n (base_of k.state h.sound)) (channel_follows k.state p n h.sound) h

pub leaving_cancels : (p : Pid) (ns : List ℕ) (k : Kernel) → IsLeaving k p → IsLeaving (with_state k (each (cancel_one p) ns k.state).after) p
leaving_cancels p [] k h = h
leaving_cancels p (n ∷ ns) k h = leaving_cancels p ns (with_state k (cancel_channel k.state p n).after) (leaving_cancelled p n k h)

pub cancels_follow : (p : Pid) (ns : List ℕ) (s : State) → IsSound s → Follows true s (each (cancel_one p) ns s).after
cancels_follow p [] s sound = follows_still
cancels_follow p (n ∷ ns) s sound =
    let a = cancel_channel s p n in
    follows_then (channel_follows s p n sound) (cancels_follow p ns a.after (sound_moved s a.after a.effects (cancel_channel_moves s p n (base_of s sound)) sound))

-- The channels of a mode that come after a number.

abbrev pub channels_behind : Mode → ℕ → List (Option Channel) → List ℕ
channels_behind m after rows = filter (λ n. nat_lt after n) (channels_of m rows)

-- numbers that rise

rises_from : (j : ℕ) (m : Mode) (rows : List (Option Channel)) → AreOrdered (λ n. n) j (j + length rows) (reached_from j m rows)
rises_from j m [] = omega arith
rises_from j m (row ∷ rows) =
    let rest : AreOrdered (λ n. n) (j + 1) (j + length (row ∷ rows)) (reached_from (j + 1) m rows) = let high : j + length (row ∷ rows) ≡ j + 1 + length rows = omega arith in rw high (rises_from (j + 1) m rows) in
    either (AreOrdered (λ n. n) j (j + length (row ∷ rows))) (is_reached m row) (j ∷ reached_from (j + 1) m rows) (reached_from (j + 1) m rows) (omega arith, rest)
    (ordered_from (λ n. n) (j + 1) j (j + length (row ∷ rows)) (reached_from (j + 1) m rows) (omega arith) rest)

all_behind : (after low high : ℕ) (ns : List ℕ) → after < low → AreOrdered (λ n. n) low high ns → filter (λ n. nat_lt after n) ns ≡ ns
all_behind after low high [] below h = refl
all_behind after low high (x ∷ xs) below h = let rest = all_behind after (x + 1) high xs (omega (arith, below, h.0)) h.1 in grind (arith, nat_tests)

-- those after a number are the next, and those after that
behind_next : (after low high n : ℕ) (ns : List ℕ) → AreOrdered (λ n. n) low high ns → find (λ n. nat_lt after n) ns ≡ Some n → filter (λ n. nat_lt after n) ns ≡ n ∷ filter (λ k. nat_lt n k) ns
behind_next after low high n [] h found = absurd (cc)
behind_next after low high n (x ∷ xs) h found =
    let rest = behind_next after (x + 1) high n xs h.1 in
    let passes = found_passes (λ k. nat_lt after k) xs n in
    let all : nat_lt after x ≡ true → filter (λ n. nat_lt after n) xs ≡ xs = λ past. all_behind after (x + 1) high xs (grind (arith, nat_tests, past)) h.1 in
    let later = all_behind x (x + 1) high xs (omega arith) h.1 in
    grind (arith, nat_tests)

-- The loop.

abbrev pub cancel_all : Pid → Mode → State → Part
cancel_all p m s = each (cancel_one p) (channels_of m (process_at s p).channels) s

abbrev cancel_behind : Pid → Mode → ℕ → State → Part
cancel_behind p m after s = each (cancel_one p) (channels_behind m after (process_at s p).channels) s

pub record IsCancelling (p : Pid) (m : Mode) (first : Kernel) (after : ℕ) (k : Kernel) : Type 0 where
  pub leaving : IsLeaving k p
  pub doing : IsDoing (cancel_all p m first.state) first (cancel_behind p m after k.state) k

pub cancelling_begun : (p : Pid) (m : Mode) (k : Kernel) → IsLeaving k p → Fits k (cancel_all p m k.state).effects → IsCancelling p m k 0 k
cancelling_begun p m k h room =
    let rows = (process_at k.state p).channels in
    let all : channels_behind m 0 rows ≡ channels_of m rows = all_behind 0 1 (1 + length rows) (channels_of m rows) (omega arith) (rises_from 1 m rows) in
    record { leaving = h; doing = subst (λ ns. IsDoing (cancel_all p m k.state) k (each (cancel_one p) ns k.state) k) (sym all) (doing_begun (cancel_all p m k.state) k room) }

-- the next, and those behind it
next_first : (p : Pid) (m : Mode) (after n : ℕ) (s : State) → IsSound s → Some n ≡ next_of_mode m after (process_at s p).channels → cancel_behind p m after s ≡ and_then (cancel_channel s p n) (cancel_behind p m n)
next_first p m after n s sound found =
    let rows = (process_at s p).channels in
    let t = (cancel_channel s p n).after in
    let split = behind_next after 1 (1 + length rows) n (channels_of m rows) (rises_from 1 m rows) (sym found) in
    let same : (process_at t p).channels ≡ rows = (channel_follows s p n sound).channels refl p in
    ap (λ ns. each (cancel_one p) ns s) split ∙ ap (λ (rs : List (Option Channel)). and_then (cancel_channel s p n) (each (cancel_one p) (channels_behind m n rs))) (sym same)

pub cancelling_room : (p : Pid) (m : Mode) (first k : Kernel) (after n : ℕ) → IsCancelling p m first after k → Some n ≡ next_of_mode m after (process_at k.state p).channels → Fits k (cancel_channel k.state p n).effects
cancelling_room p m first k after n h found =
    doing_room (cancel_all p m first.state) first k (cancel_behind p m after k.state) (cancel_channel k.state p n) (cancel_behind p m n) (next_first p m after n k.state h.leaving.sound found) h.doing

pub cancelling_more : (p : Pid) (m : Mode) (first k l : Kernel) (after n : ℕ) → IsCancelling p m first after k → Some n ≡ next_of_mode m after (process_at k.state p).channels → Acts (cancel_channel k.state p n) k l → IsCancelling p m first n l
cancelling_more p m first k l after n h found did = record {
  leaving = leaving_acted k (cancel_channel k.state p n) did (leaving_cancelled p n k h.leaving);
  doing = doing_on (cancel_all p m first.state) first k l (cancel_behind p m after k.state) (cancel_channel k.state p n) (cancel_behind p m n) (next_first p m after n k.state h.leaving.sound found) did h.doing;
}

-- fewer are behind the next
pub cancelling_fewer : (p : Pid) (m : Mode) (k l : Kernel) (after n : ℕ) → IsLeaving k p → Some n ≡ next_of_mode m after (process_at k.state p).channels → Acts (cancel_channel k.state p n) k l → length (channels_behind m n (process_at l.state p).channels) < length (channels_behind m after (process_at k.state p).channels)
cancelling_fewer p m k l after n h found did =
    let rows = (process_at k.state p).channels in
    let split = behind_next after 1 (1 + length rows) n (channels_of m rows) (rises_from 1 m rows) (sym found) in
    let same : (process_at l.state p).channels ≡ rows = ap (λ (x : Kernel). (process_at x.state p).channels) did ∙ (channel_follows k.state p n h.sound).channels refl p in
    omega (arith, ap length split, ap (λ (rs : List (Option Channel)). length (channels_behind m n rs)) same)

pub cancelling_end : (p : Pid) (m : Mode) (first k : Kernel) (after : ℕ) → IsCancelling p m first after k → None ≡ next_of_mode m after (process_at k.state p).channels → Acts (cancel_all p m first.state) first k
cancelling_end p m first k after h none = grind (arith, doing_end, filter_none)
