-- What a mailbox does for a read, a write and an end of file.
use Rattle.std.proofs.Common.{◌⊎◌, inl, inr, ◌≡◌, ◌≢◌, ℕ, zero, suc, ◌+◌, ◌<◌, List, [], ◌∷◌, ◌++◌, Bool, true, false, not, ◌==◌, ◌&&◌, ◌||◌, nat_lt, length, take, Option, Some, None, map, refl, sym, ap, ◌∙◌, subst, append-nil}
use Rattle.std.proofs.lemmas.Bool.{eq-eqb, eqb-true, and_parts, and_from, cases_eq, or_cases, or_right, both_ways}
use Rattle.std.proofs.lemmas.List.{get_or-set_other}
use Rattle.std.proofs.lemmas.Slice.Eq.{bytes_eq-Decides}
use Rattle.std.specs.List.{AllByRecursion, find, list_any, list_all}
use Rattle.std.specs.Prelude.{option_map, ⊤}
use Rattle.vx_base.specs.Cond.{name_of}
use Rattle.vx_base.specs.Lists.{less, is_some_and}
use Rattle.vx_record.specs.Types.{Body, BoxNo, Cond, Device, Effect, Func, Id, Mailbox, Msg, Pid, Req, Request}
use Rattle.vx_base.specs.declared.cond.Cond.TheVariants.{Cancel as Cancelled, EndOfFile, Normal, BufferOvf}
use Rattle.vx_base.specs.declared.effects.Effect.TheVariants as effect
use Rattle.vx_base.specs.declared.request.Body.TheVariants as body
use Rattle.vx_base.specs.declared.request.Device.TheVariants as device
use Rattle.vx_base.specs.declared.request.Func.TheVariants.{Read, ReadAttn, WrtAttn}
use Rattle.vx_record.proofs.Lists.{either, all_weaker, all_append, all_find, none_any, found_any}
use Rattle.vx_record.specs.Finish.{Ending, ending, is_read, this_request, finish, finish_found}
use Rattle.vx_record.specs.Mailboxes.{mailbox_at, or_no_box, is_box, is_waiting_func, waits_at, this_message, message_of, mput_part, mget_part, read_ending, received, write_done, write_ending, call_attention, store_message, hand_over, write_box, wait_for_message, take_message, read_box}
use Rattle.vx_record.specs.Parts.{Part, nothing, and_then, part_if}
use Rattle.vx_record.specs.Services.{number}
use Rattle.vx_record.specs.Sound.{AreOrdered}
use Rattle.vx_record.specs.State.{State, box_at, with_box}
use Rattle.vx_laws.proofs.Aside.{IsAside, call_aside}
use Rattle.vx_laws.proofs.Boxed.{Origin, Rooted, Boxed, put_there, message_id, some_within, owner_of, origin_of}
use Rattle.vx_laws.proofs.Handed.{got_boxed, less_fewer, put_boxed, is_quiet, BytesTold, finish_told}
use Rattle.vx_laws.proofs.Passing.{Right, Walk, walk_then, walk_aside, walk_nothing, finish_walk, found_walk, IsPlainCall, plain_over, Fewer, fewer_same, IsSingle, single_on, lives_origin, lives_owner, mailbox_is, finish_tail, finish_rest, behind_fin, Serving, serving, finish_fewer}
use Rattle.vx_laws.specs.Agrees.{as_stored, device_title}
use Rattle.vx_laws.specs.Boxes.{Stored, stored, oldest_read, is_at}
use Rattle.vx_laws.specs.Items.{Item, Did, Calling, later, is_cond}
use Rattle.vx_laws.specs.Lives.{Life, life}
use Rattle.vx_laws.specs.MessageLaw.{takes_oldest, told_read, told_reader, counts_right, puts_bytes, read_bytes, read_cond, hands_over, is_taken_by}
use Rattle.vx_laws.specs.StatusLaw.{to_next_fin}
use Rattle.vx_base.proofs.First.{found_passes}

-- A message goes to a read.

take_none : (n : ℕ) → take n [] ≡ (let l : List ℕ = [] in l)
take_none zero = refl
take_none (suc n) = refl

ending_cond : (q : Req) (m : Msg) (b : Body) → (read_ending q m b).0.cond ≡ read_cond q.len b
ending_cond q m body.Eof = refl
ending_cond q m (body.Text bytes) = refl

ending_bytes : (q : Req) (m : Msg) (b : Body) → (read_ending q m b).0.bytes ≡ read_bytes q.len b
ending_bytes q m body.Eof = sym (take_none q.len)
ending_bytes q m (body.Text bytes) = refl

ending_count : (q : Req) (m : Msg) (b : Body) → (read_ending q m b).0.count ≡ length (read_ending q m b).0.bytes
ending_count q m body.Eof = refl
ending_count q m (body.Text bytes) = refl

ending_info : (q : Req) (m : Msg) (b : Body) → (read_ending q m b).1 ≡ m.writer.0
ending_info q m body.Eof = refl
ending_info q m (body.Text bytes) = refl

cond_other : (len : ℕ) (b : Body) → is_cond (read_cond len b) Cancelled ≡ false
cond_other len body.Eof = refl
cond_other len (body.Text bytes) = either (λ (c : Cond). is_cond c Cancelled ≡ false) (nat_lt len (length bytes)) BufferOvf Normal refl refl

pub may_other : (b c : Bool) → b ≡ false → (not b || c) ≡ true
may_other b c e = rw e refl

same_cond : (c d : Cond) → c ≡ d → is_cond c d ≡ true
same_cond c d e = (bytes_eq-Decides (name_of c) (name_of d)).1 (ap name_of e)

told_at : (id : Id) (c : Cond) (l : Life) (call : Calling) (p wp w : Pid) (len : ℕ) (b : Body) (bytes : List ℕ) (es : List Effect) → l.p ≡ p → l.by ≡ Some call → wp ≡ w → number call.call.args.a7 ≡ len → c ≡ read_cond len b → bytes ≡ read_bytes len b → BytesTold (length bytes) w p bytes es → told_reader id wp b (effect.Fin id c ∷ es) l l.by ≡ true
told_at id c l call p wp w len b bytes es owner by writer size is read told =
    let puts : puts_bytes l.p (read_bytes len b) es ≡ true = subst (λ (q : Pid). puts_bytes q (read_bytes len b) es ≡ true) (sym owner) (subst (λ (x : List ℕ). puts_bytes p x es ≡ true) read told.puts) in
    let counts : list_all (counts_right (length (read_bytes len b)) wp) (to_next_fin es) ≡ true =
    subst (λ (q : Pid). list_all (counts_right (length (read_bytes len b)) q) (to_next_fin es) ≡ true) (sym writer) (subst (λ (x : List ℕ). list_all (counts_right (length x) w) (to_next_fin es) ≡ true) read told.counts)
    in
    let body : told_read id l wp len b (effect.Fin id c ∷ es) ≡ true = and_from _ _ (eq-eqb id.0 id.0 refl) (and_from _ _ (same_cond c (read_cond len b) is) (and_from _ _ puts counts)) in
    subst (λ (o : Option Calling). told_reader id wp b (effect.Fin id c ∷ es) l o ≡ true) (sym by) (subst (λ (n : ℕ). told_read id l wp n b (effect.Fin id c ∷ es) ≡ true) (sym size) body)

taken : (past : List Item) (m : Msg) (ms : List Stored) (r : Request) (k : Calling) (title : Option (List ℕ)) (c : Cond) (bytes : List ℕ) (es : List Effect) → owner_of past m.id ≡ Some m.writer → origin_of past r.req.id ≡ Some (record { p = r.req.p; by = Some k; device = title }) → number k.call.args.a7 ≡ r.req.len →
    c ≡ read_cond r.req.len m.body → bytes ≡ read_bytes r.req.len m.body → BytesTold (length bytes) m.writer r.req.p bytes es → takes_oldest past m.id r.req.id (effect.Fin r.req.id c ∷ es) (as_stored m ∷ ms) ≡ true
taken past m ms r k title c bytes es writer is size cond_is read told =
    let g : Origin = record { p = r.req.p; by = Some k; device = title } in
    and_from _ _ (eq-eqb m.id.0 m.id.0 refl)
    (lives_owner (λ x. is_some_and (λ l. told_reader r.req.id x.p m.body (effect.Fin r.req.id c ∷ es) l l.by) (life past r.req.id)) m.writer (life past m.id) writer
    (λ x e. lives_origin (λ l. told_reader r.req.id x.p m.body (effect.Fin r.req.id c ∷ es) l l.by) g (life past r.req.id) is
    (λ l o. told_at r.req.id c l k r.req.p x.p m.writer r.req.len m.body bytes es (ap (λ (y : Origin). y.p) o) (ap (λ (y : Origin). y.by) o) e size cond_is read told)))

pub received_walk : (s : State) (past : List Item) (b : BoxNo) (box : Mailbox) (m : Msg) (ms : List Msg) (r : Request) (more : List Effect) → box_at s b ≡ Some box → box.messages ≡ m ∷ ms → Rooted s past r → is_read r.req.func ≡ true → IsPlainCall past → is_quiet more ≡ true → Boxed s past →
    Walk s past (received s b m r) more
received_walk s past b box m ms r more is first root reads calm quiet h =
    let k = h.boxes b box is in
    let a = mget_part s b m r.req.id in
    let e = read_ending r.req m m.body in
    let x = effect.MGet (mailbox_at s b).name m.id r.req.id in
    let st : stored past (mailbox_at s b).name ≡ as_stored m ∷ map as_stored ms = ap (λ (y : Mailbox). stored past y.name) (mailbox_is s b box is) ∙ (sym k.messages ∙ ap (map as_stored) first) in
    let writer : owner_of past m.id ≡ Some m.writer = (subst (AllByRecursion (λ (y : Msg). owner_of past y.id ≡ Some y.writer)) first k.writers).0 in
    let told = finish_told a.after r e m.writer more reads (ending_count r.req m m.body) (ending_info r.req m m.body) quiet in
    let takes : takes_oldest past m.id r.req.id (effect.Fin r.req.id e.0.cond ∷ (finish_tail a.after r e ++ more)) (as_stored m ∷ map as_stored ms) ≡ true =
    taken past m (map as_stored ms) r root.call (Some (device_title s r.req.device)) e.0.cond e.0.bytes (finish_tail a.after r e ++ more) writer root.is root.len (ending_cond r.req m m.body) (ending_bytes r.req m m.body) told
    in
    let right : Right past x ((finish a.after r e).effects ++ more) = λ rest left. subst (λ (l : List Effect). takes_oldest past m.id r.req.id l (stored past (mailbox_at s b).name) ≡ true) (sym left) (subst (λ (l : List Stored). takes_oldest past m.id r.req.id ((finish a.after r e).effects ++ more) l ≡ true) (sym st) takes) in
    walk_then s past a (λ y. finish y r e) more (record { boxed = got_boxed s b box m r.req.id past is h; lawful = (right, tt); fewer = less_fewer s b m.id })
    (finish_walk a.after (Did x ∷ past) r e more calm (may_other _ _ (ap (λ (y : Cond). is_cond y Cancelled) (ending_cond r.req m m.body) ∙ cond_other r.req.len m.body)) (got_boxed s b box m r.req.id past is h))

quiet_done : (s : State) (o : Option Request) (e : Ending) (more : List Effect) → is_quiet more ≡ true → is_quiet ((finish_found s o e).effects ++ more) ≡ true
quiet_done s None e more k = k
quiet_done s (Some r) e more k = refl

done_walk : (s : State) (past : List Item) (m : Msg) (more : List Effect) → IsPlainCall past → Boxed s past → Walk s past (write_done s m) more
done_walk s past m more calm h = found_walk s past (find (this_request m.id) s.requests) (write_ending m) more calm refl h

-- No message is got.

abbrev pub IsNoGet : Effect → Type 0
IsNoGet (effect.MGet name w r) = ⊥
IsNoGet x = ⊤

aside_no_get : (n : ℕ) (es : List Effect) → AllByRecursion (IsAside n) es → AllByRecursion IsNoGet es
aside_no_get n es h = all_weaker (IsAside n) IsNoGet at es h
  where
    at : (x : Effect) → IsAside n x → IsNoGet x
    at (effect.MGet a b c) e = absurd e
    at x e = tt

finish_no_get : (s : State) (r : Request) (e : Ending) → AllByRecursion IsNoGet (finish s r e).effects
finish_no_get s r e = (tt, aside_no_get (behind_fin s r e).after.next (finish_tail s r e) (finish_rest s r e).effects)

found_no_get : (s : State) (o : Option Request) (e : Ending) → AllByRecursion IsNoGet (finish_found s o e).effects
found_no_get s None e = tt
found_no_get s (Some r) e = finish_no_get s r e

call_no_get : (s : State) (b : BoxNo) (f : Func) → AllByRecursion IsNoGet (call_attention s b f).effects
call_no_get s b f = aside_no_get s.next (call_attention s b f).effects (call_aside s b f).effects

store_no_get : (s : State) (b : BoxNo) (m : Msg) → AllByRecursion IsNoGet (store_message s b m).effects
store_no_get s b m =
    let y = part_if (not m.held) (write_done s m) s in
    all_append IsNoGet y.effects _ (either (λ (x : Part). AllByRecursion IsNoGet x.effects) (not m.held) (write_done s m) (nothing s) (found_no_get s (find (this_request m.id) s.requests) (write_ending m)) tt) (call_no_get y.after b WrtAttn)

hands_none : (name : List ℕ) (w : Id) (es : List Effect) → AllByRecursion IsNoGet es → hands_over name w None es ≡ true
hands_none name w [] h = refl
hands_none name w (effect.MGet a b c ∷ es) h = absurd h.0
hands_none name w (x ∷ es) h = refl

pub taken_none : (id : Id) (es : List Effect) → AllByRecursion IsNoGet es → list_any (is_taken_by id) es ≡ false
taken_none id [] h = refl
taken_none id (effect.MGet a b c ∷ es) h = absurd h.0
taken_none id (x ∷ es) h = taken_none id es h.1

-- Reads.

take_some : (s : State) (past : List Item) (b : BoxNo) (box : Mailbox) (m : Msg) (ms : List Msg) (r : Request) → box_at s b ≡ Some box → box.messages ≡ m ∷ ms → Rooted s past r → is_read r.req.func ≡ true → IsPlainCall past → Boxed s past → Walk s past (take_message s b r (m ∷ ms)) []
take_some s past b box m ms r is first root reads calm h =
    let a = received s b m r in
    let f = λ (x : State). part_if m.held (write_done x m) x in
    let quiet : is_quiet ((f a.after).effects ++ []) ≡ true = either (λ (x : Part). is_quiet (x.effects ++ []) ≡ true) m.held (write_done a.after m) (nothing a.after) (quiet_done a.after (find (this_request m.id) a.after.requests) (write_ending m) [] refl) refl in
    let w = received_walk s past b box m ms r ((f a.after).effects ++ []) is first root reads calm quiet h in
    let there = later past (map Did a.effects) in
    let still = plain_over past a.effects calm in
    walk_then s past a f [] w (either (λ (x : Part). Walk a.after there x []) m.held (write_done a.after m) (nothing a.after) (done_walk a.after there m [] still w.boxed) (walk_nothing a.after there [] w.boxed))

take_wait : (s : State) (past : List Item) (b : BoxNo) (r : Request) → IsPlainCall past → Boxed s past → Walk s past (wait_for_message s b r) []
take_wait s past b r calm h =
    let a = part_if (not (is_waiting_func r.req.func)) (finish s r (ending EndOfFile 0 0 [])) s in
    let more = (call_attention a.after b ReadAttn).effects ++ [] in
    let w : Walk s past a more = either (λ (x : Part). Walk s past x more) (not (is_waiting_func r.req.func)) (finish s r (ending EndOfFile 0 0 [])) (nothing s) (finish_walk s past r (ending EndOfFile 0 0 []) more calm refl h) (walk_nothing s past more h) in
    walk_then s past a (λ x. call_attention x b ReadAttn) [] w (walk_aside a.after (later past (map Did a.effects)) (call_attention a.after b ReadAttn) [] (call_aside a.after b ReadAttn) (plain_over past a.effects calm) w.boxed)

pub wait_no_get : (s : State) (b : BoxNo) (r : Request) → AllByRecursion IsNoGet (wait_for_message s b r).effects
wait_no_get s b r =
    let y = part_if (not (is_waiting_func r.req.func)) (finish s r (ending EndOfFile 0 0 [])) s in
    all_append IsNoGet y.effects _ (either (λ (x : Part). AllByRecursion IsNoGet x.effects) (not (is_waiting_func r.req.func)) (finish s r (ending EndOfFile 0 0 [])) (nothing s) (finish_no_get s r (ending EndOfFile 0 0 [])) tt) (call_no_get y.after b ReadAttn)

-- the requests before the last one, which is new
pub record Newest (s : State) (old : List Request) (r : Request) : Type 0 where
  pub all : s.requests ≡ old ++ r ∷ []
  pub less : less (this_request r.req.id) s.requests ≡ old
  pub single : (c : BoxNo) → list_any (waits_at c) old ≡ true → (mailbox_at s c).messages ≡ []

same_box : (b c : BoxNo) → b.0 ≡ c.0 → b ≡ c
same_box b c e = ap (λ (n : ℕ). let x : BoxNo = record { 0 = n } in x) e

pub last_any : (p : Request → Bool) (old : List Request) (r : Request) → list_any p (old ++ r ∷ []) ≡ true → (list_any p old ≡ true) ⊎ (p r ≡ true)
last_any p [] r e = elim (or_cases (p r) false e) [ inl x ↦ inr x | inr x ↦ absurd (let never : false ≡ true = x in cc) ]
last_any p (y ∷ old) r e = elim (or_cases (p y) (list_any p (old ++ r ∷ [])) e) [ inl x ↦ inl (rw x refl) | inr x ↦ elim (last_any p old r x) [ inl z ↦ inl (or_right (p y) (list_any p old) z) | inr z ↦ inr z ] ]

read_single : (s : State) (b : BoxNo) (r : Request) (old : List Request) → r.req.device ≡ device.Mailbox b → (mailbox_at s b).messages ≡ [] → Newest s old r → IsSingle s
read_single s b r old on none k c e =
    elim (last_any (waits_at c) old r (subst (λ (l : List Request). list_any (waits_at c) l ≡ true) k.all e)) [
      | inl x ↦ k.single c x
      | inr x ↦
          let here : (c.0 == b.0) ≡ true = subst (λ (d : Device). is_box c d ≡ true) on (and_parts (is_box c r.req.device) (is_waiting_func r.req.func) x).0 in
          ap (λ (y : BoxNo). (mailbox_at s y).messages) (same_box c b (eqb-true c.0 b.0 here)) ∙ none
    ]

pub read_serving : (s : State) (past : List Item) (b : BoxNo) (box : Mailbox) (r : Request) (old : List Request) → box_at s b ≡ Some box → r.req.device ≡ device.Mailbox b → Rooted s past r → is_read r.req.func ≡ true → IsPlainCall past → Newest s old r → Boxed s past → Serving past (read_box s b r)
read_serving s past b box r old is on root reads calm new h =
    subst (λ (l : List Msg). Serving past (take_message s b r l)) (sym (ap (λ (y : Mailbox). y.messages) (mailbox_is s b box is))) (by_messages box.messages refl)
  where
    after_take : (m : Msg) (ms : List Msg) → IsSingle (received s b m r).after
    after_take m ms c e =
        let g = (mget_part s b m r.req.id).after in
        let k = finish_rest g r (read_ending r.req m m.body) in
        let waits : list_any (waits_at c) old ≡ true = subst (λ (l : List Request). list_any (waits_at c) l ≡ true) (k.requests ∙ new.less) e in
        (fewer_same (behind_fin g r (read_ending r.req m m.body)).after (received s b m r).after k.requests k.boxes).empty c ((less_fewer s b m.id).empty c (new.single c waits))

    held_fewer : (m : Msg) (ms : List Msg) (t : State) → Fewer t (part_if m.held (write_done t m) t).after
    held_fewer m ms t = either (λ (x : Part). Fewer t x.after) m.held (write_done t m) (nothing t) (found_fewer (find (this_request m.id) t.requests)) (fewer_same t t refl refl)
      where
        found_fewer : (o : Option Request) → Fewer t (finish_found t o (write_ending m)).after
        found_fewer None = fewer_same t t refl refl
        found_fewer (Some q) = finish_fewer t q (write_ending m)

    by_messages : (l : List Msg) → box.messages ≡ l → Serving past (take_message s b r l)
    by_messages [] e = serving s past (wait_for_message s b r) (take_wait s past b r calm h) (read_single s b r old on (ap (λ (y : Mailbox). y.messages) (mailbox_is s b box is) ∙ e) new)
    by_messages (m ∷ ms) e =
        let w = take_some s past b box m ms r is e root reads calm h in
        let t = (received s b m r).after in
        record { boxed = w.boxed; lawful = w.lawful; single = single_on t (take_message s b r (m ∷ ms)).after (held_fewer m ms t) (after_take m ms) }

-- Writes and ends of file.

pub waiting_reads : (f : Func) → is_waiting_func f ≡ true → is_read f ≡ true
waiting_reads Read e = refl
waiting_reads f e = absurd (let never : false ≡ true = e in cc)

-- the mailbox with one message more
abbrev one_more : State → BoxNo → Msg → Mailbox
one_more s b m = record (mailbox_at s b) { messages = (mailbox_at s b).messages ++ m ∷ [] }

other_messages : (s : State) (b c : BoxNo) (o : Option Mailbox) → c.0 ≢ b.0 → mailbox_at (with_box s b o) c ≡ mailbox_at s c
other_messages s b c o apart = ap (λ (x : Option Mailbox). or_no_box x) (get_or-set_other s.boxes b.0 c.0 o None apart)

pub record Writes (s : State) (past : List Item) (b : BoxNo) (box : Mailbox) (r : Request) : Type 0 where
  pub is : box_at s b ≡ Some box
  pub on : r.req.device ≡ device.Mailbox b
  pub root : Rooted s past r
  pub olds : AreOrdered message_id 0 r.req.id.0 box.messages
  pub new : r.req.id.0 + 1 ≡ s.next
  pub oldest : oldest_read past (mailbox_at s b).name ≡ option_map (λ (x : Request). x.req.id) (find (waits_at b) s.requests)
  pub single : IsSingle s

put_walk : (s : State) (past : List Item) (b : BoxNo) (box : Mailbox) (r : Request) (o : Option Request) → find (waits_at b) s.requests ≡ o → Writes s past b box r → Boxed s past → Boxed (mput_part s b (message_of r.req)).after (Did (effect.MPut (mailbox_at s b).name r.req.id (message_of r.req).body) ∷ past)
put_walk s past b box r o e w h =
    put_boxed s b box (message_of r.req) past w.is w.olds w.new (ap (λ (x : Option Origin). option_map (λ y. y.p) x) w.root.is) h

put_right : (s : State) (past : List Item) (b : BoxNo) (box : Mailbox) (r : Request) (o : Option Request) (es : List Effect) → find (waits_at b) s.requests ≡ o → Writes s past b box r → hands_over (mailbox_at s b).name r.req.id (option_map (λ (x : Request). x.req.id) o) es ≡ true →
    Right past (effect.MPut (mailbox_at s b).name r.req.id (message_of r.req).body) es
put_right s past b box r o es e w k =
    let name = (mailbox_at s b).name in
    let g : Origin = record { p = r.req.p; by = Some w.root.call; device = Some (device_title s r.req.device) } in
    let here : is_some_and (λ l. is_at name l.device) (life past r.req.id) ≡ true =
    lives_origin (λ l. is_at name l.device) g (life past r.req.id) w.root.is
    (λ l j. let titled : l.device ≡ Some name = ap (λ (y : Origin). y.device) j ∙ ap (λ (d : Device). Some (device_title s d)) w.on in subst (λ (d : Option (List ℕ)). is_at name d ≡ true) (sym titled) ((bytes_eq-Decides name name).1 refl)) in
    λ rest left.
    subst (λ (l : List Effect). (is_some_and (λ l. is_at name l.device) (life past r.req.id) && hands_over name r.req.id (oldest_read past name) l) ≡ true) (sym left)
    (subst (λ (x : Option Id). (is_some_and (λ l. is_at name l.device) (life past r.req.id) && hands_over name r.req.id x es) ≡ true) (sym (w.oldest ∙ ap (option_map (λ (x : Request). x.req.id)) e)) (and_from _ _ here k))

store_serving : (s : State) (past : List Item) (b : BoxNo) (m : Msg) → IsPlainCall past → IsSingle s → Boxed s past → Serving past (store_message s b m)
store_serving s past b m calm single h =
    let a = part_if (not m.held) (write_done s m) s in
    let more = (call_attention a.after b WrtAttn).effects ++ [] in
    let w : Walk s past a more = either (λ (x : Part). Walk s past x more) (not m.held) (write_done s m) (nothing s) (done_walk s past m more calm h) (walk_nothing s past more h) in
    serving s past (store_message s b m) (walk_then s past a (λ x. call_attention x b WrtAttn) [] w (walk_aside a.after (later past (map Did a.effects)) (call_attention a.after b WrtAttn) [] (call_aside a.after b WrtAttn) (plain_over past a.effects calm) w.boxed)) single

pub write_serving : (s : State) (past : List Item) (b : BoxNo) (box : Mailbox) (r : Request) → Writes s past b box r → IsPlainCall past → Boxed s past → Serving past (write_box s b (message_of r.req))
write_serving s past b box r w calm h = by_reader (find (waits_at b) s.requests) refl
  where
    m : Msg
    m = message_of r.req

    a : Part
    a = mput_part s b (message_of r.req)

    x : Effect
    x = effect.MPut (mailbox_at s b).name r.req.id (message_of r.req).body

    there : box_at (mput_part s b (message_of r.req)).after b ≡ Some (one_more s b (message_of r.req))
    there = put_there s b b (Some (one_more s b (message_of r.req))) refl (some_within s.boxes b.0 box w.is)

    by_reader : (o : Option Request) → find (waits_at b) s.requests ≡ o → Serving past (and_then (mput_part s b (message_of r.req)) (λ y. hand_over y b (message_of r.req) o))
    by_reader None e =
        let put = put_walk s past b box r None e w h in
        let single : IsSingle a.after = λ c k.
        elim (cases_eq c.0 b.0) [
          | inl same ↦ absurd (both_ways (list_any (waits_at b) s.requests) (none_any (waits_at b) s.requests e) (subst (λ (d : BoxNo). list_any (waits_at d) s.requests ≡ true) (same_box c b same) k))
          | inr apart ↦ ap (λ (y : Mailbox). y.messages) (other_messages s b c (Some (one_more s b m)) apart) ∙ w.single c k
        ] in
        let rest = store_serving a.after (Did x ∷ past) b m calm single put in
        let es = (store_message a.after b m).effects in
        record {
          boxed = rest.boxed;
          lawful = (subst (Right past x) (sym (append-nil es)) (put_right s past b box r None es e w (hands_none (mailbox_at s b).name r.req.id es (store_no_get a.after b m))), rest.lawful);
          single = rest.single;
        }
    by_reader (Some q) e =
        let put = put_walk s past b box r (Some q) e w h in
        let empty : (mailbox_at s b).messages ≡ [] = w.single b (found_any (waits_at b) s.requests q e) in
        let first : (one_more s b m).messages ≡ m ∷ [] = ap (λ (l : List Msg). l ++ m ∷ []) empty in
        let name : (mailbox_at a.after b).name ≡ (mailbox_at s b).name = ap (λ (y : Option Mailbox). (or_no_box y).name) there in
        let root = all_find (Rooted a.after (Did x ∷ past)) (waits_at b) s.requests q put.requests e in
        let reads = waiting_reads q.req.func (and_parts (is_box b q.req.device) (is_waiting_func q.req.func) (found_passes (waits_at b) s.requests q e)).1 in
        let t = received a.after b m q in
        let last = write_done t.after m in
        let quiet = quiet_done t.after (find (this_request m.id) t.after.requests) (write_ending m) [] refl in
        let one = received_walk a.after (Did x ∷ past) b (one_more s b m) m [] q (last.effects ++ []) there first root reads calm quiet put in
        let past2 = later (Did x ∷ past) (map Did t.effects) in
        let two = done_walk t.after past2 m [] (plain_over (Did x ∷ past) t.effects calm) one.boxed in
        let both = walk_then a.after (Did x ∷ past) t (λ y. write_done y m) [] one two in
        let es = (and_then t (λ y. write_done y m)).effects in
        let given : hands_over (mailbox_at s b).name r.req.id (Some q.req.id) (es ++ []) ≡ true = and_from _ _ ((bytes_eq-Decides (mailbox_at a.after b).name (mailbox_at s b).name).1 name) (and_from _ _ (eq-eqb r.req.id.0 r.req.id.0 refl) (eq-eqb q.req.id.0 q.req.id.0 refl)) in
        record {
          boxed = both.boxed;
          lawful = (put_right s past b box r (Some q) (es ++ []) e w given, both.lawful);
          single = single_on t.after last.after (found_fewer t.after (find (this_request m.id) t.after.requests)) (received_single q e empty);
        }
      where
        found_fewer : (t : State) (o : Option Request) → Fewer t (finish_found t o (write_ending (message_of r.req))).after
        found_fewer t None = fewer_same t t refl refl
        found_fewer t (Some q) = finish_fewer t q (write_ending (message_of r.req))

        received_single : (q : Request) → find (waits_at b) s.requests ≡ Some q → (mailbox_at s b).messages ≡ [] → IsSingle (received (mput_part s b (message_of r.req)).after b (message_of r.req) q).after
        received_single q e empty c k =
            let u = (mput_part s b (message_of r.req)).after in
            let g = (mget_part u b (message_of r.req) q.req.id).after in
            let f = finish_fewer g q (read_ending q.req (message_of r.req) (message_of r.req).body) in
            f.empty c (at c (f.reads c k))
          where
            at : (c : BoxNo) → list_any (waits_at c) s.requests ≡ true → (mailbox_at (mget_part (mput_part s b (message_of r.req)).after b (message_of r.req) q.req.id).after c).messages ≡ []
            at c k =
                let u = (mput_part s b (message_of r.req)).after in
                let new : Mailbox = record (mailbox_at u b) { messages = less (this_message (message_of r.req).id) (mailbox_at u b).messages } in
                elim (cases_eq c.0 b.0) [
                  | inl same ↦
                      let within : b.0 < length u.boxes = some_within u.boxes b.0 (one_more s b (message_of r.req)) (put_there s b b (Some (one_more s b (message_of r.req))) refl (some_within s.boxes b.0 box w.is)) in
                      let left : (mailbox_at u b).messages ≡ (message_of r.req) ∷ [] = ap (λ (y : Option Mailbox). (or_no_box y).messages) (put_there s b b (Some (one_more s b (message_of r.req))) refl (some_within s.boxes b.0 box w.is)) ∙ ap (λ (l : List Msg). l ++ (message_of r.req) ∷ []) empty in
                      ap (λ (y : Option Mailbox). (or_no_box y).messages) (put_there u b c (Some new) same within) ∙ (ap (less (this_message (message_of r.req).id)) left ∙ rw (eq-eqb r.req.id.0 r.req.id.0 refl) refl)
                  | inr apart ↦ ap (λ (y : Mailbox). y.messages) (other_messages u b c (Some new) apart ∙ other_messages s b c (Some (one_more s b (message_of r.req))) apart) ∙ w.single c k
                ]
