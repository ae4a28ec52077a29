-- What services share, as sequences of moves: flags, clusters, ends of requests, mailboxes, and requests.
use Rattle.std.proofs.Common.{◌≡◌, ℕ, List, [], ◌∷◌, Bool, true, false, cond, not, ◌==◌, ◌&&◌, nat_lt, Option, Some, None, Result, Ok, Err, is_some, refl, ◌∙◌, ◌+◌, ◌≤◌, ◌++◌, IfSome, ap, arith, subst, get_or}
use Rattle.std.specs.List.{filter, find, list_any, AllByRecursion}
use Rattle.vx_record.specs.Types.{Association, Attention, BoxNo, Cell, Channel, Cluster, Cond, Device, Effect, Entry, Func, Id, Msg, Need, Pid, Promised, Request, Status, Wait}
use Rattle.vx_base.specs.Pieces.{cleared}
use Rattle.vx_base.specs.declared.cond.Cond.TheVariants.{EndOfFile}
use Rattle.vx_base.specs.declared.effects.Cell.TheVariants.{Local, Common}
use Rattle.vx_base.specs.declared.frame.Wait.TheVariants as wait
use Rattle.vx_base.specs.declared.request.Device.TheVariants as device
use Rattle.vx_base.specs.declared.request.Func.TheVariants.{ReadAttn, WrtAttn}
use Rattle.vx_record.specs.State.{State, process_at, change, current, Process, IsProcess, limits_of, no_decl}
use Rattle.vx_record.specs.Parts.{Part, Outcome, nothing, each, part_if, and_then, followed_by}
use Rattle.vx_record.specs.Charges.{moved_bytes, request_need, exceeds, ast_need, is_direct, is_attention, charge}
use Rattle.vx_record.specs.Flags.{cell, flag_part, flag_where_named, at_named, at_flag, refused_wait, wait_condition, awaited_at, awaited, waits_on, with_wait, with_local_flag, with_cell}
use Rattle.vx_record.specs.Finish.{Ending, ending, is_read, fin_part, buf_part, status_of, iosb_part, done_flag_part, done_ast_part, finish, finish_found, this_request, with_stored_status}
use Rattle.vx_record.specs.Mailboxes.{mailbox_at, is_waiting_func, waits_at, mput_part, mget_part, message_of, read_ending, write_ending, received, write_done, is_attention_at, fire_attention, call_attention, store_message, hand_over, write_box, take_message, read_box, is_answered_now, attend, this_attention}
use Rattle.vx_record.specs.Channels.{channel_test}
use Rattle.vx_record.specs.Cancel.{is_attention_on, drop_attention}
use Rattle.vx_record.specs.Requests.{is_bad, device_test, on_channel, on_cell, attention_set, Asked, request_test, new_request, opened_request, cleared_part, begun_on, transfer, new_attention, attention_opened, done_at_once, attention_on, asked_of, accepted, qio_tested, qiow_tested}
use Rattle.vx_record.proofs.Lists.{either, either_by, all_weaker, all_both, all_filter, all_find, all_from, ordered_more}
use Rattle.std.proofs.lemmas.Bool.{eq-eqb, eqb-true, ltb-true}
use Rattle.std.specs.Prelude.{option_map}
use Rattle.vx_base.specs.Clusters.{Common as Clusters, Change, dissociated, associated, marked_at, is_used, is_user, is_association}
use Rattle.vx_base.specs.Lists.{less}
use Rattle.vx_base.specs.declared.effects.Effect.TheVariants as effect
use Rattle.vx_base.specs.declared.effects.Opened.TheVariants as opened
use Rattle.vx_record.specs.Timers.{mode_of_ast}
use Rattle.vx_record.specs.Asts.{charged_ast}
use Rattle.vx_record.specs.Sound.{AreOrdered, request_id, timer_id, attention_id, ground, RequestStands, AttentionStands, WaitStands}
use Rattle.std.proofs.lemmas.Slice.Eq.{bytes_eq-Decides}
use Rattle.vx_base.specs.Quotas.{together, is_within}
use Rattle.vx_record.proofs.Moves.{Loose, passed, IsAt, IsSetWhere, promised_by, loosed, IsCellMade, IsSilent, is_clusters, IsNew, IsNewAttention, HasRequest, HasTimer, HasAttention, none, skip, both, quiet, bytes, status, flag, que, open_request, fin, mput, mget, open_attention, attention_fires, end_attention, MovesBy, PartBy, OutcomeBy, Answers, IsTame, calm}
use Rattle.vx_record.proofs.Changes.{Quiet, with_wait_quiet}
use Rattle.vx_record.proofs.Fits.{field_same, seated_then, cell_seated, status_seated, IsFit, fit_seated, fit_request, fit_attention}
use Rattle.vx_record.proofs.Base.{Base, made_more, moves_keep}
use Rattle.vx_record.proofs.Finds.{other_id, find_less, all_found, ordered_filter}
use Rattle.vx_base.proofs.First.{found_passes}

-- Stages.

at_more : (j k : ℕ) (l : Option Loose) → j ≤ k → IsAt j l → IsAt k l
at_more j k None h e = tt
at_more j k (Some x) h e = omega (arith, h, e)

passed_at : (k : ℕ) (l : Option Loose) → IsAt k (passed k l)
passed_at k None = tt
passed_at k (Some x) = omega arith

pub set_where : (l : Option Loose) → IsSetWhere l true
set_where None = tt
set_where (Some x) = refl

-- Joining moves.

-- the state is in order, and the process is there
pub record Here (s : State) (p : Pid) : Type 0 where
  pub base : Base s
  pub made : IsProcess s p

pub here_after : {refs : Bool} (s : State) (p : Pid) (l : Option Loose) (es : List Effect) (t : State) (m : Option Loose) → MovesBy refs s l es t m → Here s p → Here t p
here_after s p l es t m k h = let kept = moves_keep s l es t m k h.base in record { base = kept.base; made = made_more s t p kept.more h.made }

-- one part and then another, on the state that it leaves
pub part_then : {refs : Bool} (s : State) (p : Pid) (l m n : Option Loose) (a : Part) (f : State → Part) → Here s p → MovesBy refs s l a.effects a.after m → (Here a.after p → MovesBy refs a.after m (f a.after).effects (f a.after).after n) → MovesBy refs s l (and_then a f).effects (and_then a f).after n
part_then s p l m n a f h k g = both s a.after (f a.after).after l m n a.effects (f a.after).effects k (g (here_after s p l a.effects a.after m k h))

-- the same if the state alone matters
pub based_then : {refs : Bool} (s : State) (a : Part) (f : State → Part) → Base s → PartBy refs s a → (Base a.after → PartBy refs a.after (f a.after)) → PartBy refs s (and_then a f)
based_then s a f h k g = both s a.after (f a.after).after None None None a.effects (f a.after).effects k (g (moves_keep s None a.effects a.after None k h).base)

pub outcome_then : {refs : Bool} {A : Type 0} (s : State) (a : Part) (f : State → Outcome A) → Base s → PartBy refs s a → (Base a.after → OutcomeBy refs a.after (f a.after)) → OutcomeBy refs s (followed_by a f)
outcome_then s a f h k g = both s a.after (f a.after).after None None None a.effects (f a.after).effects k (g (moves_keep s None a.effects a.after None k h).base)

-- either of two
pub part_either : {refs : Bool} (s : State) (l m : Option Loose) (b : Bool) (x y : Part) → MovesBy refs s l x.effects x.after m → MovesBy refs s l y.effects y.after m → MovesBy refs s l (cond b x y).effects (cond b x y).after m
part_either {refs} s l m b x y h k = either (λ (a : Part). MovesBy refs s l a.effects a.after m) b x y h k

pub part_by : {refs : Bool} (s : State) (l m : Option Loose) (b : Bool) (x y : Part) → (b ≡ true → MovesBy refs s l x.effects x.after m) → MovesBy refs s l y.effects y.after m → MovesBy refs s l (cond b x y).effects (cond b x y).after m
part_by {refs} s l m b x y h k = either_by (λ (a : Part). MovesBy refs s l a.effects a.after m) b x y h (λ f. k)

above_zero : (i : ℕ) → not (i == 0) ≡ true → 1 ≤ i
above_zero i e = grind arith

pub outcome_either : {refs : Bool} {A : Type 0} (s : State) (b : Bool) (x y : Outcome A) → OutcomeBy refs s x → OutcomeBy refs s y → OutcomeBy refs s (cond b x y)
outcome_either {refs} s b x y h k = either (OutcomeBy refs s) b x y h k

pub moves_if : {refs : Bool} (s : State) (l : Option Loose) (test : Bool) (part : Part) → MovesBy refs s l part.effects part.after l → MovesBy refs s l (part_if test part s).effects (part_if test part s).after l
moves_if s l test part k = part_either s l l test part (nothing s) k (none s l)

-- one for each of a list
pub each_free : {refs : Bool} {A : Type 0} (f : State → A → Part) → ((t : State) (x : A) → PartBy refs t (f t x)) → (xs : List A) (s : State) → PartBy refs s (each f xs s)
each_free f k [] s = none s None
each_free f k (x ∷ xs) s = let a = f s x in both s a.after (each f xs a.after).after None None None a.effects (each f xs a.after).effects (k s x) (each_free f k xs a.after)

-- if each relies on what the others leave
pub each_moves : {refs : Bool} {A : Type 0} (key : A → ℕ) (f : State → A → Part) (P : State → A → Type 0) → ((t : State) (x : A) → Base t → P t x → PartBy refs t (f t x)) → ((t : State) (x y : A) → P t x → key x + 1 ≤ key y → P t y → P (f t x).after y) → (low high : ℕ) (xs : List A) (s : State) → AreOrdered key low high xs → AllByRecursion (P s) xs → Base s → PartBy refs s (each f xs s)
each_moves key f P go keep low high [] s o k h = none s None
each_moves {A} key f P go keep low high (x ∷ xs) s o k h =
    let a = f s x in
    let one = go s x h k.0 in
    let rest : AllByRecursion (P a.after) xs = all_weaker (λ (y : A). (key x + 1 ≤ key y) × P s y) (P a.after) (λ y l. keep s x y k.0 l.0 l.1) xs (all_both (λ (y : A). key x + 1 ≤ key y) (P s) xs (all_from key (key x + 1) high xs o.1) k.1) in
    both s a.after (each f xs a.after).after None None None a.effects (each f xs a.after).effects one
    (each_moves key f P go keep (key x + 1) high xs a.after o.1 rest (moves_keep s None a.effects a.after None one h).base)

-- Silent changes.

-- a change of nothing that references are on is tame
pub tamely : {refs : Bool} (s : State) (p : Pid) (f : Process → Process) → Quiet (process_at s p) (f (process_at s p)) → Answers refs s (IsTame s p f)
tamely s p f q e h = calm f (record { going = λ m r. rw q.phase r; idle = λ r. rw q.phase (q.idle r); waits = q.waits })

-- Flags.

-- a cluster that somebody has associated is used
used_by : (p : Pid) (k : ℕ) (xs : List Association) (a : Association) → find (is_association p k) xs ≡ Some a → list_any (is_user a.group a.name) xs ≡ true
used_by p k [] a e = cc
used_by p k (x ∷ xs) a e =
    let rest = used_by p k xs a in
    let same = eq-eqb a.group a.group refl in
    let alike = (bytes_eq-Decides a.name a.name).1 refl in
    grind arith

pub cell_made : (s : State) (p : Pid) (efn : ℕ) → IsProcess s p → IfSome (cell s p efn) (IsCellMade s)
cell_made s p efn m = grind (arith, either_by, ltb-true, used_by)

pub named_flag : {refs : Bool} (s : State) (l : Option Loose) (o : Option Cell) (on : Bool) → IfSome o (IsCellMade s) → IsAt 2 l → IsSetWhere l on → MovesBy refs s l (flag_where_named s o on).effects (flag_where_named s o on).after (passed 3 l)
named_flag s l None on k at set_on = skip s l 3 (at_more 2 3 l (omega arith) at)
named_flag s l (Some c) on k at set_on = flag s l c on k at set_on

pub at_flag_moves : {refs : Bool} {A : Type 0} (s : State) (p : Pid) (efn : ℕ) (refuse : Cond → Outcome A) (go : Cell → Outcome A) → IsProcess s p → ((c : Cond) → OutcomeBy refs s (refuse c)) → ((c : Cell) → IsCellMade s c → OutcomeBy refs s (go c)) → OutcomeBy refs s (at_flag s p efn refuse go)
at_flag_moves {refs} s p efn refuse go m f g =
    outcome_either s (nat_lt 127 efn) _ _ (f _)
    ((elim (cell s p efn) as (λ (o : Option Cell). IfSome o (IsCellMade s) → OutcomeBy refs s (at_named refuse go o)) [ None ↦ λ k. f _ | Some c ↦ λ k. g c k ]) (cell_made s p efn m))

pub waited : {refs : Bool} (s : State) (p : Pid) (w : Option Wait) → (refs ≡ true → IfSome w WaitStands) → IsSilent refs s p (with_wait w)
waited s p w k = record { decl = refl; enables = refl; asts = refl; channels = refl; handlers = refl; cluster_0 = refl; cluster_1 = refl; statuses = refl; tame = λ e h. tamely s p (with_wait w) (with_wait_quiet w (process_at s p) (k e)) e h }

pub awaited_moves : {refs : Bool} (s : State) (p : Pid) (w : Wait) → (refs ≡ true → WaitStands w) → OutcomeBy refs s (awaited s p w)
awaited_moves {refs} s p w k = elim (wait_condition s p w) as (λ (o : Option Cond). OutcomeBy refs s (awaited_at s p w o)) [ None ↦ quiet s None p (with_wait (Some w)) (waited s p (Some w) k) | Some c ↦ none s None ]

pub waits_moves : {refs : Bool} (s : State) (p : Pid) (efn : ℕ) (w : Wait) → IsProcess s p → (refs ≡ true → WaitStands w) → OutcomeBy refs s (at_flag s p efn (refused_wait s) (waits_on s p w))
waits_moves s p efn w m is = at_flag_moves s p efn (refused_wait s) (waits_on s p w) m (λ c. none s None) (λ c k. awaited_moves s p w is)

-- Common clusters.

abbrev Only : Change → Type 0
Only c = AllByRecursion (λ x. is_clusters x ≡ true) c.effects

only_either : (b : Bool) (x y : Change) → Only x → Only y → Only (cond b x y)
only_either b x y h k = either Only b x y h k

pub dissociated_only : (c : Clusters) (p : Pid) (k : ℕ) → Only (dissociated c p k)
dissociated_only c p k = grind arith

pub associated_only : (c : Clusters) (p : Pid) (k g : ℕ) (n : List ℕ) (perm : Bool) → Only (associated c p k g n perm)
associated_only c p k g n perm = grind arith

pub marked_at_only : (c : Clusters) (o : Option Cluster) → Only (marked_at c o)
marked_at_only c None = tt
marked_at_only c (Some cl) = only_either (not cl.permanent) _ _ tt (only_either (is_used c cl.group cl.name) _ _ tt (refl, tt))

-- Finish and mailboxes.

done_ast_moves : {refs : Bool} (s : State) (r : Request) (o : Option Promised) → IsProcess s r.req.p → MovesBy refs s (passed 3 (passed 2 (passed 1 (option_map (promised_by r) o)))) (done_ast_part s r.req o).effects (done_ast_part s r.req o).after None
done_ast_moves s r None m = none s None
done_ast_moves s r (Some ast) m = que s r.req.p (charged_ast r.req.id ast.mode ast.tag) 3 m

pub finish_moves : {refs : Bool} (s : State) (r : Request) (e : Ending) → HasRequest s r → Base s → PartBy refs s (finish s r e)
finish_moves {refs} s r e has h =
    let p = r.req.p in
    let l = loosed r in
    let l1 = passed 1 l in
    let l2 = passed 2 l1 in
    let l3 = passed 3 l2 in
    let at : IsAt 0 l = elim r.ast as (λ (o : Option Promised). IsAt 0 (option_map (promised_by r) o)) [ None ↦ tt | Some ast ↦ omega arith ] in
    let b = λ (a : State). buf_part a r.req e in
    let i = λ (a : State). iosb_part a p r.req.iosb (status_of e) in
    let d = λ (a : State). done_flag_part a r.req in
    let q = λ (a : State). done_ast_part a r.req r.ast in
    let here : Here s p = record { base = h; made = all_find (λ (x : Request). IsProcess s x.req.p) (this_request r.req.id) s.requests r h.request_owners has } in
    let one = fin_part s r.req.id e.0.cond in
    let two = and_then one b in
    let three = and_then two i in
    let four = and_then three d in
    let first : MovesBy refs s None one.effects one.after l = fin s r e.0.cond has in
    let second : MovesBy refs s None two.effects two.after l1 = part_then s p None l l1 one b here first (λ k. part_either one.after l l1 (is_read r.req.func && nat_lt 0 e.0.count) _ (nothing one.after) (bytes one.after l p r.req.buf e.0.bytes at) (skip one.after l 1 (at_more 0 1 l (omega arith) at))) in
    let third : MovesBy refs s None three.effects three.after l2 = part_then s p None l1 l2 two i here second (λ k. part_by two.after l1 l2 (not (r.req.iosb == 0)) _ (nothing two.after) (λ t. status two.after l1 p r.req.iosb (status_of e) k.made (passed_at 1 l) (above_zero r.req.iosb t)) (skip two.after l1 2 (at_more 1 2 l1 (omega arith) (passed_at 1 l)))) in
    let fourth : MovesBy refs s None four.effects four.after l3 = part_then s p None l2 l3 three d here third (λ k. named_flag three.after l2 (cell three.after p r.req.efn) true (cell_made three.after p r.req.efn k.made) (passed_at 2 l1) (set_where l2)) in
    part_then s p None l3 None four q here fourth (λ k. done_ast_moves four.after r r.ast k.made)

id_is : (s : State) (id : Id) (r : Request) → find (this_request id) s.requests ≡ Some r → HasRequest s r
id_is s id r e = grind (arith, eqb-true, found_passes)

write_done_moves : {refs : Bool} (s : State) (m : Msg) → Base s → PartBy refs s (write_done s m)
write_done_moves {refs} s m h =
    (elim (find (this_request m.id) s.requests) as (λ (o : Option Request). find (this_request m.id) s.requests ≡ o → PartBy refs s (finish_found s o (write_ending m))) [
      | None ↦ λ is. none s None
      | Some r ↦ λ is. finish_moves s r (write_ending m) (id_is s m.id r is) h
    ]) refl

received_moves : {refs : Bool} (s : State) (b : BoxNo) (m : Msg) (r : Request) → HasRequest s r → Base s → PartBy refs s (received s b m r)
received_moves s b m r has h = based_then s (mget_part s b m r.req.id) (λ a. finish a r (read_ending r.req m m.body)) h (mget s b m r.req.id) (λ k. finish_moves (mget_part s b m r.req.id).after r (read_ending r.req m m.body) has k)

-- an item that is found by another test is found by its id
pub requests_found : (s : State) → Base s → AllByRecursion (HasRequest s) s.requests
requests_found s h = all_found request_id 0 s.next s.requests h.requests

pub timers_found : (s : State) → Base s → AllByRecursion (HasTimer s) s.timers
timers_found s h = all_found timer_id 0 s.next s.timers h.timers

attention_found : (s : State) → Base s → AllByRecursion (HasAttention s) s.attention
attention_found s h = all_found attention_id 0 s.next s.attention h.attention

has_found : (s : State) (p : Request → Bool) (r : Request) → find p s.requests ≡ Some r → Base s → HasRequest s r
has_found s p r e h = all_find (HasRequest s) p s.requests r (requests_found s h) e

-- Attention entries.

fire_attention_moves : {refs : Bool} (s : State) (a : Attention) → Base s → HasAttention s a → PartBy refs s (fire_attention s a)
fire_attention_moves s a h has =
    let made : IsProcess s a.p = all_find (λ (x : Attention). IsProcess s x.p) (this_attention a.id) s.attention a h.attention_owners has in
    let here : Here s a.p = record { base = h; made = made } in
    let one = drop_attention s a in
    both s one.after _ None (Some (record { p = a.p; ast = charged_ast a.id a.mode a.tag; stage = 2 })) None (effect.Fire a.id ∷ []) (effect.Que a.id ∷ []) (attention_fires s a has) (que one.after a.p (charged_ast a.id a.mode a.tag) 2 made)

other_attention : (s : State) (x y : Attention) → attention_id x + 1 ≤ attention_id y → HasAttention s y → find (this_attention y.id) (less (this_attention x.id) s.attention) ≡ Some y
other_attention s x y h e = find_less (this_attention x.id) (this_attention y.id) s.attention y (λ z. other_id z.id.0 x.id.0 y.id.0 (λ same. omega arith)) e

call_attention_moves : {refs : Bool} (s : State) (b : BoxNo) (func : Func) → Base s → PartBy refs s (call_attention s b func)
call_attention_moves s b func h =
    each_moves attention_id fire_attention HasAttention fire_attention_moves (λ t x y hx l e. other_attention t x y l e) 0 s.next (filter (is_attention_at b func) s.attention) s
    (ordered_filter attention_id (is_attention_at b func) 0 s.next s.attention h.attention) (all_filter (HasAttention s) (is_attention_at b func) s.attention (attention_found s h)) h

pub drop_attentions_moves : {refs : Bool} (s : State) (p : Pid) (n : ℕ) → Base s → PartBy refs s (each drop_attention (filter (is_attention_on p n) s.attention) s)
drop_attentions_moves s p n h =
    each_moves attention_id drop_attention HasAttention (λ t a k has. end_attention t a has) (λ t x y hx l e. other_attention t x y l e) 0 s.next (filter (is_attention_on p n) s.attention) s
    (ordered_filter attention_id (is_attention_on p n) 0 s.next s.attention h.attention) (all_filter (HasAttention s) (is_attention_on p n) s.attention (attention_found s h)) h

store_message_moves : {refs : Bool} (s : State) (b : BoxNo) (m : Msg) → Base s → PartBy refs s (store_message s b m)
store_message_moves s b m h = based_then s (part_if (not m.held) (write_done s m) s) (λ a. call_attention a b WrtAttn) h (moves_if s None (not m.held) (write_done s m) (write_done_moves s m h)) (λ k. call_attention_moves _ b WrtAttn k)

hand_over_moves : {refs : Bool} (s : State) (b : BoxNo) (m : Msg) (o : Option Request) → find (waits_at b) s.requests ≡ o → Base s → PartBy refs s (hand_over s b m o)
hand_over_moves s b m None e h = store_message_moves s b m h
hand_over_moves s b m (Some r) e h = based_then s (received s b m r) (λ a. write_done a m) h (received_moves s b m r (has_found s (waits_at b) r e h) h) (λ k. write_done_moves (received s b m r).after m k)

write_box_moves : {refs : Bool} (s : State) (b : BoxNo) (m : Msg) → Base s → PartBy refs s (write_box s b m)
write_box_moves s b m h = let a = (mput_part s b m).after in based_then s (mput_part s b m) (λ a. hand_over a b m (find (waits_at b) a.requests)) h (mput s b m) (λ k. hand_over_moves a b m (find (waits_at b) a.requests) refl k)

take_message_moves : {refs : Bool} (s : State) (b : BoxNo) (r : Request) (ms : List Msg) → HasRequest s r → Base s → PartBy refs s (take_message s b r ms)
take_message_moves s b r [] has h =
    let e = ending EndOfFile 0 0 [] in
    let part = part_if (not (is_waiting_func r.req.func)) (finish s r e) s in
    based_then s part (λ a. call_attention a b ReadAttn) h (moves_if s None (not (is_waiting_func r.req.func)) (finish s r e) (finish_moves s r e has h)) (λ k. call_attention_moves part.after b ReadAttn k)
take_message_moves s b r (m ∷ ms) has h =
    let a = (received s b m r).after in
    based_then s (received s b m r) (λ a. part_if m.held (write_done a m) a) h (received_moves s b m r has h) (λ k. moves_if a None m.held (write_done a m) (write_done_moves a m k))

-- Requests.

last_of : {A : Type 0} (P : A → Type 0) (xs : List A) (x : A) → AllByRecursion P (xs ++ x ∷ []) → P x
last_of P [] x k = k.0
last_of P (y ∷ ys) x k = last_of P ys x k.1

-- what was appended last is found by its id, if all others have lesser ones
newest : {A : Type 0} (key : A → ℕ) (low high : ℕ) (xs : List A) (x : A) → key x ≡ high → AreOrdered key low high xs → find (λ z. key z == key x) (xs ++ x ∷ []) ≡ Some x
newest key low high xs x e h = last_of (λ y. find (λ z. key z == key y) (xs ++ x ∷ []) ≡ Some y) xs x (all_found key low (high + 1) (xs ++ x ∷ []) (ordered_more key low high xs x e h))

-- there is room for a request
abbrev pub HasRoom : State → Pid → Asked → Channel → Type 0
HasRoom s p q ch = exceeds s p (request_need s ch.device q.func (is_some q.ast) q.len) ≡ false

pub need_as : (s t : State) (dev : Device) (func : Func) (b : Bool) (len : ℕ) → t.system ≡ s.system → request_need t dev func b len ≡ request_need s dev func b len
need_as s t (device.Unit u) func b len e = rw e refl
need_as s t (device.Mailbox c) func b len e = refl

new_is : (s : State) (p : Pid) (q : Asked) (ch : Channel) → IsProcess s p → is_attention q.func ≡ false → HasRoom s p q ch → IsNew s p (mode_of_ast (current s p) q.ast) (new_request s p q ch)
new_is s p q ch m plain room = grind arith

pub opened_request_moves : {refs : Bool} (s : State) (p : Pid) (q : Asked) (ch : Channel) → IsProcess s p → is_attention q.func ≡ false → HasRoom s p q ch → Answers refs s (RequestStands (ground s) (new_request s p q ch)) → PartBy refs s (opened_request s p q ch)
opened_request_moves {refs} s p q ch m plain room ok =
    either_by (PartBy refs s) (is_direct s ch.device) _ _
    (λ t. open_request s opened.Dio p (mode_of_ast (current s p) q.ast) 0 (new_request s p q ch) (record { is = refl; kind_is = rw t refl; bytes_are = rw t refl }) (new_is s p q ch m plain room) ok)
    (λ f. open_request s opened.Bio p (mode_of_ast (current s p) q.ast) (moved_bytes q.func q.len) (new_request s p q ch) (record { is = refl; kind_is = rw f refl; bytes_are = rw f refl }) (new_is s p q ch m plain room) ok)

opened_requests : (s : State) (p : Pid) (q : Asked) (ch : Channel) → (opened_request s p q ch).after.requests ≡ s.requests ++ new_request s p q ch ∷ []
opened_requests s p q ch = either (λ (x : Part). x.after.requests ≡ s.requests ++ new_request s p q ch ∷ []) (is_direct s ch.device) _ _ refl refl

pub opened_has : (s : State) (p : Pid) (q : Asked) (ch : Channel) → Base s → HasRequest (opened_request s p q ch).after (new_request s p q ch)
opened_has s p q ch h = rw (opened_requests s p q ch) (newest request_id 0 s.next s.requests (new_request s p q ch) refl h.requests)

pub begun_on_moves : {refs : Bool} (s : State) (r : Request) (d : Device) → HasRequest s r → Base s → PartBy refs s (begun_on s r d)
begun_on_moves s r (device.Unit u) has h = none s None
begun_on_moves s r (device.Mailbox b) has h = part_either s None None (is_read r.req.func) (read_box s b r) (write_box s b (message_of r.req)) (take_message_moves s b r (mailbox_at s b).messages has h) (write_box_moves s b (message_of r.req) h)

transfer_moves : {refs : Bool} (s : State) (p : Pid) (q : Asked) (ch : Channel) → IsProcess s p → Base s → is_attention q.func ≡ false → HasRoom s p q ch → (refs ≡ true → IsFit s p q ch) → PartBy refs s (transfer s p q ch)
transfer_moves s p q ch m h plain room fit =
    let r = new_request s p q ch in
    based_then s (opened_request s p q ch) (λ a. begun_on a r ch.device) h (opened_request_moves s p q ch m plain room (λ e k. fit_request s p q ch m (fit e) k)) (λ k. begun_on_moves (opened_request s p q ch).after r ch.device (opened_has s p q ch h) k)

status_moves : {refs : Bool} (s : State) (p : Pid) (i : ℕ) (st : Status) → IsProcess s p → PartBy refs s (iosb_part s p i st)
status_moves s p i st m = part_by s None None (not (i == 0)) _ (nothing s) (λ t. status s None p i st m tt (above_zero i t)) (none s None)

pub iosb_attention : (s : State) (p : Pid) (i : ℕ) (st : Status) → (iosb_part s p i st).after.attention ≡ s.attention
iosb_attention s p i st = either (λ (x : Part). x.after.attention ≡ s.attention) (not (i == 0)) _ (nothing s) refl refl

pub flag_attention : (s : State) (o : Option Cell) (on : Bool) → (flag_where_named s o on).after.attention ≡ s.attention
flag_attention s o on = grind arith

attention_set_moves : {refs : Bool} (s : State) (p : Pid) (q : Asked) (b : BoxNo) (tag : Entry) → Here s p → exceeds s p (ast_need true) ≡ false → Answers refs s (AttentionStands (ground s) (new_attention s p q b tag)) → PartBy refs s (attention_set s p q (new_attention s p q b tag))
attention_set_moves {refs} s p q b tag h room ok =
    let a = new_attention s p q b tag in
    let i = λ (x : State). iosb_part x p q.iosb done_at_once in
    let f = λ (x : State). flag_where_named x (cell x p q.efn) true in
    let g = λ (x : State). attend x a in
    let one = attention_opened s p q a in
    let two = and_then one i in
    let t = two.after in
    let three = f t in
    let new : IsNewAttention s p a = record { made = h.made; id = refl; owner = refl; room = room } in
    let first : PartBy refs s one = open_attention s p (current s p) a new refl ok in
    let second : PartBy refs s two = part_then s p None None None one i h first (λ k. status_moves one.after p q.iosb done_at_once k.made) in
    let there : HasAttention one.after a = newest attention_id 0 s.next s.attention a refl h.base.attention in
    let same : three.after.attention ≡ one.after.attention = flag_attention t (cell t p q.efn) true ∙ iosb_attention one.after p q.iosb done_at_once in
    part_then s p None None None two (λ c. and_then (f c) g) h second
    (λ k. part_then t p None None None three g k (named_flag t None (cell t p q.efn) true (cell_made t p q.efn k.made) tt tt) (λ j. moves_if three.after None (is_answered_now three.after a) (fire_attention three.after a) (fire_attention_moves three.after a j.base (rw same there))))

pub attention_on_moves : {refs : Bool} (s : State) (p : Pid) (q : Asked) (d : Device) (o : Option Entry) → Here s p → exceeds s p (ast_need (is_some o)) ≡ false → ((b : BoxNo) (tag : Entry) → d ≡ device.Mailbox b → o ≡ Some tag → Answers refs s (AttentionStands (ground s) (new_attention s p q b tag))) → PartBy refs s (attention_on s p q d o)
attention_on_moves s p q (device.Unit u) o h room ok = none s None
attention_on_moves s p q (device.Mailbox b) None h room ok = none s None
attention_on_moves s p q (device.Mailbox b) (Some tag) h room ok = attention_set_moves s p q b tag h room (ok b tag refl refl)

-- the room is as it was if neither lists nor limits change

abbrev pub IsChargedAs : State → State → Pid → Type 0
IsChargedAs s t p = (t.system ≡ s.system) × (charge t p ≡ charge s p) × (limits_of t p ≡ limits_of s p)

pub charged_as : (s : State) (q p : Pid) (f : Process → Process) → (f (process_at s q)).asts ≡ (process_at s q).asts → (f (process_at s q)).decl ≡ (process_at s q).decl → IsChargedAs s (change s q f) p
charged_as s q p f qs ds = (refl, rw (field_same (λ (pr : Process). pr.asts) f s q p qs) refl, ap (λ (d : ℕ). (get_or s.system.decls d no_decl).limits) (field_same (λ (pr : Process). pr.decl) f s q p ds))

pub cell_charged_as : (s : State) (p : Pid) (c : Cell) (on : Bool) → IsChargedAs s (with_cell s c on) p
cell_charged_as s p (Local q n) on = charged_as s q p (with_local_flag n on) (either (λ (x : Process). x.asts ≡ (process_at s q).asts) (nat_lt n 32) _ _ refl refl) (either (λ (x : Process). x.decl ≡ (process_at s q).decl) (nat_lt n 32) _ _ refl refl)
cell_charged_as s p (Common g a n) on = (refl, refl, refl)

pub status_charged_as : (s : State) (p q : Pid) (i : ℕ) (st : Status) → IsChargedAs s (iosb_part s q i st).after p
status_charged_as s p q i st = either (λ (x : Part). IsChargedAs s x.after p) (not (i == 0)) _ (nothing s) (charged_as s q p (with_stored_status i st) refl refl) (refl, refl, refl)

pub both_charged_as : (s t u : State) (p : Pid) → IsChargedAs s t p → IsChargedAs t u p → IsChargedAs s u p
both_charged_as s t u p h k = (k.0 ∙ h.0, k.1 ∙ h.1, k.2 ∙ h.2)

pub room_as : (s t : State) (p : Pid) (need : Need) → IsChargedAs s t p → exceeds s p need ≡ false → exceeds t p need ≡ false
room_as s t p need h room = ap (λ (c : Need). not (is_within (together c need) (limits_of t p))) h.1 ∙ (ap (λ (l : Need). not (is_within (together (charge s p) need) l)) h.2 ∙ room)

request_room_as : (s t : State) (p : Pid) (q : Asked) (ch : Channel) → IsChargedAs s t p → HasRoom s p q ch → HasRoom t p q ch
request_room_as s t p q ch h room = grind arith

pub attention_room : (s : State) (p : Pid) (q : Asked) (ch : Channel) → is_attention q.func ≡ true → HasRoom s p q ch → exceeds s p (ast_need (is_some q.ast)) ≡ false
attention_room s p q ch is room = rw is at room

cleared_moves : {refs : Bool} (s : State) (p : Pid) (q : Asked) (c : Cell) → IsCellMade s c → Here s p → PartBy refs s (cleared_part s p q c)
cleared_moves s p q c k h =
    let one = flag_part s c false in
    part_then s p None None None one (λ (x : State). iosb_part x p q.iosb cleared) h (flag s None c false k tt tt) (λ j. status_moves one.after p q.iosb cleared j.made)

cleared_room : (s : State) (p : Pid) (q : Asked) (c : Cell) (ch : Channel) → HasRoom s p q ch → HasRoom (cleared_part s p q c).after p q ch
cleared_room s p q c ch room = grind (arith, request_room_as, both_charged_as, cell_charged_as, status_charged_as)

accepted_moves : {refs : Bool} (s : State) (p : Pid) (q : Asked) (c : Cell) (ch : Channel) → IsCellMade s c → HasRoom s p q ch → (refs ≡ true → IsFit s p q ch) → Here s p → PartBy refs s (accepted s p q c ch)
accepted_moves {refs} s p q c ch k room fit h =
    let two = cleared_part s p q c in
    let t = two.after in
    let second : PartBy refs s two = cleared_moves s p q c k h in
    part_then s p None None None two (λ a. asked_of a p q ch) h second
    (λ j.
    let free : HasRoom t p q ch = cleared_room s p q c ch room in
    let u = (flag_part s c false).after in
    let fits : refs ≡ true → IsFit t p q ch = λ e. fit_seated s t p q ch (seated_then s u t p (cell_seated s p c false) (status_seated u p p q.iosb cleared)) (fit e) in
    either_by (PartBy refs t) (is_attention q.func) (attention_on t p q ch.device q.ast) (transfer t p q ch) (λ y. attention_on_moves t p q ch.device q.ast j (attention_room t p q ch y free) (λ b tag on is e l. fit_attention t p q ch b tag j.made on is (fits e) l)) (λ n. transfer_moves t p q ch j.made j.base n free fits))

-- the cell of an accepted request is one that is there

pub CellOf : State → Pid → Asked → Result (Cell × Channel) Cond → Type 0
CellOf s p q (Err c) = Unit {0}
CellOf s p q (Ok to) = IsCellMade s to.0 × HasRoom s p q to.1

on_channel_cell : (s : State) (p : Pid) (q : Asked) (c : Cell) (r : Result Channel Cond) → IsCellMade s c → CellOf s p q (on_channel (device_test s p q c) r)
unfolding CellOf
on_channel_cell s p q c (Err x) k = tt
on_channel_cell s p q c (Ok ch) k = grind arith

pub tested_cell : (s : State) (p : Pid) (q : Asked) → IsProcess s p → CellOf s p q (request_test s p q)
unfolding CellOf
tested_cell s p q m =
    let P = CellOf s p q in
    either P (is_bad q) _ _ tt (either P (nat_lt 127 q.efn) _ _ tt
    ((elim (cell s p q.efn) as (λ (o : Option Cell). IfSome o (IsCellMade s) → P (on_cell s p q o)) [ None ↦ λ k. tt | Some c ↦ λ k. on_channel_cell s p q c (channel_test s p q.chan) k ]) (cell_made s p q.efn m)))

pub qio_moves : {refs : Bool} (s : State) (p : Pid) (q : Asked) (r : Result (Cell × Channel) Cond) → CellOf s p q r → ((to : Cell × Channel) → r ≡ Ok to → refs ≡ true → IsFit s p q to.1) → Here s p → OutcomeBy refs s (qio_tested s p q r)
unfolding CellOf
qio_moves s p q (Err c) k fit h = none s None
qio_moves s p q (Ok to) k fit h = accepted_moves s p q to.0 to.1 k.0 k.1 (fit to refl) h

pub qiow_moves : {refs : Bool} (s : State) (p : Pid) (q : Asked) (r : Result (Cell × Channel) Cond) → CellOf s p q r → ((to : Cell × Channel) → r ≡ Ok to → refs ≡ true → IsFit s p q to.1) → Here s p → OutcomeBy refs s (qiow_tested s p q r)
unfolding CellOf
qiow_moves s p q (Err c) k fit h = none s None
qiow_moves s p q (Ok to) k fit h = outcome_then s (accepted s p q to.0 to.1) (λ a. awaited a p (wait.Synch q.efn q.iosb)) h.base (accepted_moves s p q to.0 to.1 k.0 k.1 (fit to refl) h) (λ j. awaited_moves (accepted s p q to.0 to.1).after p (wait.Synch q.efn q.iosb) (λ e. (fit to refl e).iosb))

-- what a test accepted
pub cleared_after : {refs : Bool} (s : State) (p : Pid) (q : Asked) (to : Cell × Channel) → request_test s p q ≡ Ok to → Here s p → PartBy refs s (cleared_part s p q to.0)
unfolding CellOf
cleared_after s p q to is h = cleared_moves s p q to.0 (subst (CellOf s p q) is (tested_cell s p q h.made)).0 h

pub accepted_after : {refs : Bool} (s : State) (p : Pid) (q : Asked) (to : Cell × Channel) → request_test s p q ≡ Ok to → (refs ≡ true → IsFit s p q to.1) → Here s p → PartBy refs s (accepted s p q to.0 to.1)
unfolding CellOf
accepted_after s p q to is fit h = grind (arith, CellOf, tested_cell, accepted_moves)

-- there is room for it when its flag and its status block are cleared
pub room_after : (s : State) (p : Pid) (q : Asked) (to : Cell × Channel) → request_test s p q ≡ Ok to → IsProcess s p → HasRoom (cleared_part s p q to.0).after p q to.1
unfolding CellOf
room_after s p q to is made = grind (arith, CellOf, tested_cell, cleared_room)
