-- Messages are put, handed out and withdrawn as the law of mailboxes asks.
use Rattle.std.proofs.Common.{◌≡◌, ℕ, ◌+◌, List, [], ◌∷◌, ◌++◌, Bool, true, false, cond, not, ◌==◌, ◌&&◌, nat_lt, length, Option, Some, None, map, refl, sym, ap, ◌∙◌, subst, arith}
use Rattle.std.proofs.lemmas.Bool.{eq-eqb, and_from, lt-ltb}
use Rattle.std.proofs.lemmas.List.{map-append}
use Rattle.std.proofs.lemmas.Slice.Eq.{bytes_eq-Decides}
use Rattle.std.specs.List.{AllByRecursion, list_all}
use Rattle.std.specs.Prelude.{bytes_eq, ⊤}
use Rattle.vx_base.specs.Lists.{less}
use Rattle.vx_record.specs.Types.{BoxNo, Cell, Effect, Id, Mailbox, Msg, Pid, Promised, Request, Status}
use Rattle.vx_base.specs.declared.effects.Effect.TheVariants as effect
use Rattle.vx_record.proofs.Ground.{at_set}
use Rattle.vx_record.proofs.Lists.{either, all_append, all_less, ordered_less, ordered_more}
use Rattle.vx_record.specs.Finish.{Ending, is_read, status_of, done_ast_part, iosb_part, with_stored_bytes}
use Rattle.vx_record.specs.Flags.{cell, flag_where_named}
use Rattle.vx_record.specs.Mailboxes.{mailbox_at, this_message, mput_part, mget_part, mcut_part, or_no_box}
use Rattle.vx_record.specs.Parts.{Part, nothing, tells}
use Rattle.vx_record.specs.Sound.{AreOrdered}
use Rattle.vx_record.specs.State.{State, change, box_at, with_box}
use Rattle.vx_laws.proofs.Boxed.{origin_on, Boxed, restock, message_id, origin_of, owner_of}
use Rattle.vx_laws.proofs.Passing.{Fewer, stored_less, mailbox_is, behind_fin, behind_buf, behind_iosb, behind_flag, behind_ast, finish_tail}
use Rattle.vx_laws.proofs.Rows.{not_named}
use Rattle.vx_laws.specs.Agrees.{as_stored, box_stands}
use Rattle.vx_laws.specs.Boxes.{Stored, this_stored, stored}
use Rattle.vx_laws.specs.Items.{Item, Did}
use Rattle.vx_laws.specs.Lives.{device_name}
use Rattle.vx_laws.specs.MessageLaw.{counts_right, puts_bytes}
use Rattle.vx_laws.specs.StatusLaw.{to_next_fin}

-- A message is taken out.

pub less_boxed : (s : State) (b : BoxNo) (box : Mailbox) (w : Id) (past after : List Item) → box_at s b ≡ Some box → ((id : Id) → origin_of after id ≡ origin_of past id) →
    ((p : Pid) (n : ℕ) → device_name after p n ≡ device_name past p n) → ((name : List ℕ) → stored after name ≡ cond (bytes_eq box.name name) (less (this_stored w) (stored past name)) (stored past name)) → ((name : List ℕ) → box_stands after name ≡ box_stands past name) → Boxed s past →
    Boxed (with_box s b (Some (record (mailbox_at s b) { messages = less (this_message w) (mailbox_at s b).messages }))) after
less_boxed s b box w past after is origins devices puts bits h =
    let k = h.boxes b box is in
    let m = mailbox_is s b box is in
    let new : Mailbox = record (mailbox_at s b) { messages = less (this_message w) (mailbox_at s b).messages } in
    restock s b box new past after is (ap (λ (x : Mailbox). x.name) m) origins devices
    (rw m (stored_less w box.messages ∙ (ap (less (this_stored w)) k.messages ∙ sym (puts box.name ∙ rw ((bytes_eq-Decides box.name box.name).1 refl) refl))))
    (λ name differ. puts name ∙ rw (not_named box.name name (λ same. differ (sym same))) refl) bits
    (rw m (ordered_less message_id (this_message w) 0 s.next box.messages k.ids)) (rw m (all_less (λ (x : Msg). owner_of past x.id ≡ Some x.writer) (this_message w) box.messages k.writers)) h

pub got_boxed : (s : State) (b : BoxNo) (box : Mailbox) (m : Msg) (r : Id) (past : List Item) → box_at s b ≡ Some box → Boxed s past → Boxed (mget_part s b m r).after (Did (effect.MGet (mailbox_at s b).name m.id r) ∷ past)
got_boxed s b box m r past is h =
    less_boxed s b box m.id past _ is (λ id. origin_on (Did (effect.MGet (mailbox_at s b).name m.id r)) past id tt) (λ p n. refl) (λ name. ap (λ (x : Mailbox). cond (bytes_eq x.name name) (less (this_stored m.id) (stored past name)) (stored past name)) (mailbox_is s b box is)) (λ name. refl) h

pub cut_boxed : (s : State) (b : BoxNo) (box : Mailbox) (w : Id) (past : List Item) → box_at s b ≡ Some box → Boxed s past → Boxed (mcut_part s b w).after (Did (effect.MCut (mailbox_at s b).name w) ∷ past)
cut_boxed s b box w past is h =
    less_boxed s b box w past _ is (λ id. origin_on (Did (effect.MCut (mailbox_at s b).name w)) past id tt) (λ p n. refl) (λ name. ap (λ (x : Mailbox). cond (bytes_eq x.name name) (less (this_stored w) (stored past name)) (stored past name)) (mailbox_is s b box is)) (λ name. refl) h

pub less_fewer : (s : State) (b : BoxNo) (w : Id) → Fewer s (with_box s b (Some (record (mailbox_at s b) { messages = less (this_message w) (mailbox_at s b).messages })))
less_fewer s b w = record { reads = λ c e. e; empty = λ c e. at c e }
  where
    at : (c : BoxNo) → (mailbox_at s c).messages ≡ [] → (mailbox_at (with_box s b (Some (record (mailbox_at s b) { messages = less (this_message w) (mailbox_at s b).messages }))) c).messages ≡ []
    at c e = at_set (λ (x y : Option Mailbox). (or_no_box x).messages ≡ [] → (or_no_box y).messages ≡ []) (λ x k. k) s.boxes b.0 c.0 (Some (record (mailbox_at s b) { messages = less (this_message w) (mailbox_at s b).messages })) None
        (λ k. ap (less (this_message w)) k) e

-- A message is put.

pub put_boxed : (s : State) (b : BoxNo) (box : Mailbox) (m : Msg) (past : List Item) → box_at s b ≡ Some box → AreOrdered message_id 0 m.id.0 box.messages → m.id.0 + 1 ≡ s.next → owner_of past m.id ≡ Some m.writer → Boxed s past →
    Boxed (mput_part s b m).after (Did (effect.MPut (mailbox_at s b).name m.id m.body) ∷ past)
put_boxed s b box m past is olds new_id writer h =
    let k = h.boxes b box is in
    let same = mailbox_is s b box is in
    let x = Did (effect.MPut (mailbox_at s b).name m.id m.body) in
    let new : Mailbox = record (mailbox_at s b) { messages = (mailbox_at s b).messages ++ m ∷ [] } in
    let puts : (name : List ℕ) → stored (x ∷ past) name ≡ cond (bytes_eq box.name name) (stored past name ++ as_stored m ∷ []) (stored past name) = λ name. ap (λ (y : Mailbox). cond (bytes_eq y.name name) (stored past name ++ as_stored m ∷ []) (stored past name)) same in
    let mine : cond (bytes_eq box.name box.name) (stored past box.name ++ as_stored m ∷ []) (stored past box.name) ≡ stored past box.name ++ as_stored m ∷ [] = rw ((bytes_eq-Decides box.name box.name).1 refl) refl in
    let here : map as_stored (box.messages ++ m ∷ []) ≡ stored (x ∷ past) box.name = map-append as_stored box.messages (m ∷ []) ∙ (ap (λ (l : List Stored). l ++ as_stored m ∷ []) k.messages ∙ sym (puts box.name ∙ mine)) in
    restock s b box new past (x ∷ past) is (ap (λ (y : Mailbox). y.name) same) (λ id. origin_on x past id tt) (λ p n. refl)
    (subst (λ (y : Mailbox). map as_stored (y.messages ++ m ∷ []) ≡ stored (x ∷ past) box.name) (sym same) here)
    (λ name differ. puts name ∙ rw (not_named box.name name (λ e. differ (sym e))) refl) (λ name. refl)
    (rw same (subst (λ (n : ℕ). AreOrdered message_id 0 n (box.messages ++ m ∷ [])) new_id (ordered_more message_id 0 m.id.0 box.messages m refl olds)))
    (rw same (all_append (λ (y : Msg). owner_of past y.id ≡ Some y.writer) box.messages (m ∷ []) k.writers (writer, tt))) h

-- A read takes a message: what stands behind its FIN.

-- nothing, or another FIN
abbrev pub is_quiet : List Effect → Bool
is_quiet [] = true
is_quiet (effect.Fin id c ∷ more) = true
is_quiet es = false

-- behind the place of the bytes
abbrev pub IsRest : ℕ → Pid → Effect → Type 0
IsRest n w (effect.Iosb q i c m info) = counts_right n w (effect.Iosb q i c m info) ≡ true
IsRest n w (effect.Flag c on) = ⊤
IsRest n w (effect.Que id) = ⊤
IsRest n w x = ⊥

puts_none : (n : ℕ) (w q : Pid) (es more : List Effect) → AllByRecursion (IsRest n w) es → is_quiet more ≡ true → puts_bytes q [] (es ++ more) ≡ true
puts_none n w q [] [] h k = refl
puts_none n w q [] (effect.Fin id c ∷ more) h k = refl
puts_none n w q [] (x ∷ more) h k = absurd (let never : false ≡ true = k in cc)
puts_none n w q (effect.Iosb a b c d e ∷ es) more h k = refl
puts_none n w q (effect.Flag a b ∷ es) more h k = refl
puts_none n w q (effect.Que a ∷ es) more h k = refl
puts_none n w q (x ∷ es) more h k = absurd h.0

counts_all : (n : ℕ) (w : Pid) (es more : List Effect) → AllByRecursion (IsRest n w) es → is_quiet more ≡ true → list_all (counts_right n w) (to_next_fin (es ++ more)) ≡ true
counts_all n w [] [] h k = refl
counts_all n w [] (effect.Fin id c ∷ more) h k = refl
counts_all n w [] (x ∷ more) h k = absurd (let never : false ≡ true = k in cc)
counts_all n w (effect.Iosb a b c d e ∷ es) more h k = and_from _ _ h.0 (counts_all n w es more h.1 k)
counts_all n w (effect.Flag a b ∷ es) more h k = counts_all n w es more h.1 k
counts_all n w (effect.Que a ∷ es) more h k = counts_all n w es more h.1 k
counts_all n w (x ∷ es) more h k = absurd h.0

-- the bytes stand there exactly where there are any
pub record BytesTold (n : ℕ) (w q : Pid) (bytes : List ℕ) (es : List Effect) : Type 0 where
  pub puts : puts_bytes q bytes es ≡ true
  pub counts : list_all (counts_right n w) (to_next_fin es) ≡ true

some_bytes : (y : ℕ) (ys : List ℕ) → nat_lt 0 (length (y ∷ ys)) ≡ true
some_bytes y ys = lt-ltb 0 (length (y ∷ ys)) (omega arith)

bytes_told : (n : ℕ) (w p : Pid) (k : ℕ) (bytes : List ℕ) (a b : State) (test : Bool) (rest : Part → List Effect) (more : List Effect) → test ≡ nat_lt 0 (length bytes) → ((x : Part) → AllByRecursion (IsRest n w) (rest x)) → is_quiet more ≡ true →
    let x : Part = cond test (tells (effect.Buf p k bytes) b) (nothing a) in BytesTold n w p bytes (x.effects ++ (rest x ++ more))
bytes_told n w p k bytes a b false rest more is h quiet = at bytes is
  where
    at : (bytes : List ℕ) → false ≡ nat_lt 0 (length bytes) → BytesTold n w p bytes (rest (nothing a) ++ more)
    at [] is = record { puts = puts_none n w p (rest (nothing a)) more (h (nothing a)) quiet; counts = counts_all n w (rest (nothing a)) more (h (nothing a)) quiet }
    at (y ∷ ys) is = absurd (let never : false ≡ true = is ∙ some_bytes y ys in cc)
bytes_told n w p k bytes a b true rest more is h quiet = at bytes is
  where
    at : (bytes : List ℕ) → true ≡ nat_lt 0 (length bytes) → let z = tells (effect.Buf p k bytes) b in BytesTold n w p bytes (effect.Buf p k bytes ∷ (rest z ++ more))
    at [] is = absurd (let never : true ≡ false = is in cc)
    at (y ∷ ys) is = let z = tells (effect.Buf p k (y ∷ ys)) b in record { puts = and_from _ _ (eq-eqb p.0 p.0 refl) ((bytes_eq-Decides (y ∷ ys) (y ∷ ys)).1 refl); counts = counts_all n w (rest z) more (h z) quiet }

iosb_rest : (n : ℕ) (w : Pid) (s : State) (p : Pid) (i : ℕ) (st : Status) → st.count ≡ n → st.info ≡ w.0 → AllByRecursion (IsRest n w) (iosb_part s p i st).effects
iosb_rest n w s p i st c f = either (λ (x : Part). AllByRecursion (IsRest n w) x.effects) (not (i == 0)) _ (nothing s) (and_from (st.count == n) (st.info == w.0) (eq-eqb st.count n c) (eq-eqb st.info w.0 f), tt) tt

flag_rest : (n : ℕ) (w : Pid) (s : State) (o : Option Cell) → AllByRecursion (IsRest n w) (flag_where_named s o true).effects
flag_rest n w s None = tt
flag_rest n w s (Some c) = (tt, tt)

ast_rest : (n : ℕ) (w : Pid) (s : State) (r : Request) (o : Option Promised) → AllByRecursion (IsRest n w) (done_ast_part s r.req o).effects
ast_rest n w s r None = tt
ast_rest n w s r (Some a) = (tt, tt)

-- what a finish tells behind the place of its bytes
abbrev rest_of : Request → Ending → Part → List Effect
rest_of r e x =
    let y = iosb_part x.after r.req.p r.req.iosb (status_of e) in
    let z = flag_where_named y.after (cell y.after r.req.p r.req.efn) true in
    (y.effects ++ z.effects) ++ (done_ast_part z.after r.req r.ast).effects

rest_is : (n : ℕ) (w : Pid) (r : Request) (e : Ending) → e.0.count ≡ n → e.1 ≡ w.0 → (x : Part) → AllByRecursion (IsRest n w) (rest_of r e x)
rest_is n w r e c f x =
    let y = iosb_part x.after r.req.p r.req.iosb (status_of e) in
    let z = flag_where_named y.after (cell y.after r.req.p r.req.efn) true in
    all_append (IsRest n w) (y.effects ++ z.effects) _ (all_append (IsRest n w) y.effects z.effects (iosb_rest n w x.after r.req.p r.req.iosb (status_of e) c f) (flag_rest n w y.after (cell y.after r.req.p r.req.efn))) (ast_rest n w z.after r r.ast)

reads_where : (reads : Bool) (c n : ℕ) → reads ≡ true → c ≡ n → (reads && nat_lt 0 c) ≡ nat_lt 0 n
reads_where reads c n e f = rw (e, f) refl

shift : (a b c d m : List Effect) → (((a ++ b) ++ c) ++ d) ++ m ≡ a ++ (((b ++ c) ++ d) ++ m)
shift [] b c d m = refl
shift (x ∷ a) b c d m = ap (λ (l : List Effect). x ∷ l) (shift a b c d m)

pub finish_told : (s : State) (r : Request) (e : Ending) (w : Pid) (more : List Effect) → is_read r.req.func ≡ true → e.0.count ≡ length e.0.bytes → e.1 ≡ w.0 → is_quiet more ≡ true → BytesTold (length e.0.bytes) w r.req.p e.0.bytes (finish_tail s r e ++ more)
finish_told s r e w more reads count info quiet =
    let a = (behind_fin s r e).after in
    let told = bytes_told (length e.0.bytes) w r.req.p r.req.buf e.0.bytes a (change a r.req.p (with_stored_bytes r.req.buf e.0.bytes)) (is_read r.req.func && nat_lt 0 e.0.count) (rest_of r e) more
    (reads_where (is_read r.req.func) e.0.count (length e.0.bytes) reads count) (rest_is (length e.0.bytes) w r e count info) quiet in
    subst (λ (l : List Effect). BytesTold (length e.0.bytes) w r.req.p e.0.bytes l) (sym (shift (behind_buf s r e).effects (behind_iosb s r e).effects (behind_flag s r e).effects (behind_ast s r e).effects more)) told
