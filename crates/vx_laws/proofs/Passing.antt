-- What a part of a record does to mailboxes: what agrees goes on, and each effect is as the law of mailboxes asks.
use Rattle.std.proofs.Common.{◌≡◌, ℕ, List, [], ◌∷◌, ◌++◌, Bool, true, false, cond, not, ◌==◌, ◌&&◌, ◌||◌, nat_lt, Option, Some, None, map, refl, sym, ap, ◌∙◌, subst, arith, get_or}
use Rattle.std.proofs.lemmas.List.{append_assoc}
use Rattle.std.proofs.lemmas.Slice.Eq.{bytes_eq-Decides}
use Rattle.std.specs.List.{AllByRecursion, list_any}
use Rattle.std.specs.Prelude.{option_map, ⊤}
use Rattle.vx_base.specs.Lists.{less, is_some_and}
use Rattle.vx_record.specs.Types.{BoxNo, Cond, Effect, Id, Mailbox, Msg, Pid, Promised, Request, UnitNo}
use Rattle.vx_base.specs.declared.cond.Cond.TheVariants.{Cancel as Cancelled}
use Rattle.vx_base.specs.declared.effects.Effect.TheVariants as effect
use Rattle.vx_base.specs.declared.request.Device.TheVariants as device
use Rattle.vx_record.proofs.Lists.{either, either_by, all_less, ordered_below, ordered_less}
use Rattle.vx_record.specs.Asts.{charged_ast}
use Rattle.vx_record.specs.Channels.{is_box_of, is_unit_of}
use Rattle.vx_record.specs.Finish.{Ending, is_read, this_request, fin_part, with_stored_bytes, buf_part, status_of, iosb_part, done_ast_part, finish, finish_found}
use Rattle.vx_record.specs.Flags.{cell, flag_where_named}
use Rattle.vx_record.specs.Mailboxes.{mailbox_at, waits_at, this_message, or_no_box}
use Rattle.vx_record.specs.Parts.{Part, nothing, and_then}
use Rattle.vx_record.specs.Sound.{AreOrdered, request_id}
use Rattle.vx_record.specs.State.{State, box_at, no_unit_decl}
use Rattle.vx_laws.proofs.Aside.{IsAside, Aside, PartAside, idle, changed, then, named_flag_aside, status_aside, que_aside}
use Rattle.vx_laws.proofs.Boxed.{any_index, Origin, origin, origin_on, IsThere, Rooted, Boxed, Carried, carry, all_rooted, there_as, title_as, aside_boxed}
use Rattle.vx_laws.proofs.Kept.{later_both}
use Rattle.vx_laws.specs.Agrees.{as_stored, device_title}
use Rattle.vx_laws.specs.Boxes.{this_stored, stored}
use Rattle.vx_laws.specs.Items.{Item, Did, Calling, later, latest_call, effects_to_head, is_cond}
use Rattle.vx_laws.specs.Lives.{Life, life, named_in}
use Rattle.vx_laws.specs.MessageLaw.{handles_messages, is_stored_nowhere}
use Rattle.std.proofs.lemmas.Bool.{false_from_ne_true, or_right, both_ways}
use Rattle.std.proofs.lemmas.List.Folds.{list_any_at}

-- An effect is as the law asks, by what is left of its record.
abbrev pub Right : List Item → Effect → List Effect → Type 0
Right past x left = (rest : List Item) → effects_to_head rest ≡ left → handles_messages past (Did x) rest ≡ true

abbrev pub Lawful : List Item → List Effect → List Effect → Type 0
Lawful past [] more = ⊤
Lawful past (x ∷ xs) more = Right past x (xs ++ more) × Lawful (Did x ∷ past) xs more

pub lawful_both : (past : List Item) (es fs more : List Effect) → Lawful past es (fs ++ more) → Lawful (later past (map Did es)) fs more → Lawful past (es ++ fs) more
lawful_both past [] fs more h k = k
lawful_both past (x ∷ xs) fs more h k = (subst (Right past x) (sym (append_assoc xs fs more)) h.0, lawful_both (Did x ∷ past) xs fs more h.1 k)

pub aside_lawful : (n : ℕ) (es : List Effect) (past : List Item) (more : List Effect) → AllByRecursion (IsAside n) es → Lawful past es more
aside_lawful n [] past more h = tt
aside_lawful n (x ∷ xs) past more h = (at x h.0, aside_lawful n xs (Did x ∷ past) more h.1)
  where
    at : (x : Effect) → IsAside n x → Right past x (xs ++ more)
    at (effect.Open id k p mode m) e = λ rest left. rw e.0 refl
    at (effect.Fin id c) e = absurd e
    at (effect.MPut a b c) e = absurd e
    at (effect.MGet a b c) e = absurd e
    at (effect.MCut a b) e = absurd e
    at (effect.Mbx a b) e = absurd e
    at x e = λ rest left. refl

-- Fewer reads wait, and what was empty is.
pub record Fewer (s t : State) : Type 0 where
  pub reads : (b : BoxNo) → list_any (waits_at b) t.requests ≡ true → list_any (waits_at b) s.requests ≡ true
  pub empty : (b : BoxNo) → (mailbox_at s b).messages ≡ [] → (mailbox_at t b).messages ≡ []

pub fewer_then : (s t u : State) → Fewer s t → Fewer t u → Fewer s u
fewer_then s t u h k = record { reads = λ b e. h.reads b (k.reads b e); empty = λ b e. k.empty b (h.empty b e) }

pub fewer_same : (s t : State) → t.requests ≡ s.requests → t.boxes ≡ s.boxes → Fewer s t
fewer_same s t r b = record { reads = λ c e. ap (λ (l : List Request). list_any (waits_at c) l) (sym r) ∙ e; empty = λ c e. ap (λ (l : List (Option Mailbox)). (or_no_box (get_or l c.0 None)).messages) b ∙ e }

-- No mailbox has both a stored message and a read that waits.
abbrev pub IsSingle : State → Type 0
IsSingle s = (b : BoxNo) → list_any (waits_at b) s.requests ≡ true → (mailbox_at s b).messages ≡ []

pub single_on : (s t : State) → Fewer s t → IsSingle s → IsSingle t
single_on s t k h b e = k.empty b (h b (k.reads b e))

pub record Walk (s : State) (past : List Item) (a : Part) (more : List Effect) : Type 0 where
  pub boxed : Boxed a.after (later past (map Did a.effects))
  pub lawful : Lawful past a.effects more
  pub fewer : Fewer s a.after

pub latest_over : (past : List Item) (es : List Effect) → latest_call (later past (map Did es)) ≡ latest_call past
latest_over past [] = refl
latest_over past (x ∷ xs) = latest_over (Did x ∷ past) xs

abbrev pub IsPlainCall : List Item → Type 0
IsPlainCall past = named_in (latest_call past) ≡ None

pub plain_over : (past : List Item) (es : List Effect) → IsPlainCall past → IsPlainCall (later past (map Did es))
plain_over past es calm = ap (λ (c : Option Calling). named_in c) (latest_over past es) ∙ calm

pub walk_aside : (s : State) (past : List Item) (a : Part) (more : List Effect) → PartAside s a → IsPlainCall past → Boxed s past → Walk s past a more
walk_aside s past a more k calm h = record { boxed = aside_boxed s a.after a.effects past k calm h; lawful = aside_lawful s.next a.effects past more k.effects; fewer = fewer_same s a.after k.requests k.boxes }

pub walk_then : (s : State) (past : List Item) (a : Part) (f : State → Part) (more : List Effect) → Walk s past a ((f a.after).effects ++ more) → Walk a.after (later past (map Did a.effects)) (f a.after) more → Walk s past (and_then a f) more
walk_then s past a f more h k = record {
  boxed = subst (λ (l : List Item). Boxed (f a.after).after l) (sym (later_both past a.effects (f a.after).effects)) k.boxed;
  lawful = lawful_both past a.effects (f a.after).effects more h.lawful k.lawful;
  fewer = fewer_then s a.after (f a.after).after h.fewer k.fewer;
}

pub walk_nothing : (s : State) (past : List Item) (more : List Effect) → Boxed s past → Walk s past (nothing s) more
walk_nothing s past more h = record { boxed = h; lawful = tt; fewer = fewer_same s s refl refl }

-- Finish: its FIN, and what lies aside.

or_more : (a b c : Bool) → (b ≡ true → c ≡ true) → (a || b) ≡ true → (a || c) ≡ true
or_more true b c f h = refl
or_more false b c f h = f h

any_less : {A : Type 0} (p q : A → Bool) (xs : List A) → list_any p (less q xs) ≡ true → list_any p xs ≡ true
any_less p q [] e = e
any_less p q (x ∷ xs) e = either (λ (l : List _). list_any p l ≡ true → (p x || list_any p xs) ≡ true) (q x) xs (x ∷ less q xs) (or_right (p x) (list_any p xs)) (or_more (p x) (list_any p (less q xs)) (list_any p xs) (any_less p q xs)) e

pub buf_aside : (s : State) (r : Request) (e : Ending) → PartAside s (buf_part s r.req e)
buf_aside s r e = either (PartAside s) (is_read r.req.func && nat_lt 0 e.0.count) _ (nothing s) (changed s r.req.p (with_stored_bytes r.req.buf e.0.bytes) _ refl (tt, tt)) (idle s)

pub ast_aside : (s : State) (r : Request) (o : Option Promised) → PartAside s (done_ast_part s r.req o)
ast_aside s r None = idle s
ast_aside s r (Some ast) = que_aside s r.req.p (charged_ast r.req.id ast.mode ast.tag)

-- the states on the way
abbrev pub behind_fin : State → Request → Ending → Part
behind_fin s r e = fin_part s r.req.id e.0.cond

abbrev pub behind_buf : State → Request → Ending → Part
behind_buf s r e = buf_part (behind_fin s r e).after r.req e

abbrev pub behind_iosb : State → Request → Ending → Part
behind_iosb s r e = iosb_part (behind_buf s r e).after r.req.p r.req.iosb (status_of e)

abbrev pub behind_flag : State → Request → Ending → Part
behind_flag s r e = let c = (behind_iosb s r e).after in flag_where_named c (cell c r.req.p r.req.efn) true

abbrev pub behind_ast : State → Request → Ending → Part
behind_ast s r e = done_ast_part (behind_flag s r e).after r.req r.ast

abbrev pub finish_tail : State → Request → Ending → List Effect
finish_tail s r e = (((behind_buf s r e).effects ++ (behind_iosb s r e).effects) ++ (behind_flag s r e).effects) ++ (behind_ast s r e).effects

pub finish_rest : (s : State) (r : Request) (e : Ending) → Aside (behind_fin s r e).after (finish_tail s r e) (finish s r e).after
finish_rest s r e =
    let a = (behind_fin s r e).after in
    let x = behind_buf s r e in
    let y = behind_iosb s r e in
    let z = behind_flag s r e in
    let w = behind_ast s r e in
    then a z.after w.after ((x.effects ++ y.effects) ++ z.effects) w.effects
    (then a y.after z.after (x.effects ++ y.effects) z.effects (then a x.after y.after x.effects y.effects (buf_aside a r e) (status_aside x.after r.req.p r.req.iosb (status_of e))) (named_flag_aside y.after (cell y.after r.req.p r.req.efn) true))
    (ast_aside z.after r r.ast)

-- a FIN may stand here
abbrev pub MayFin : List Item → Id → Cond → Type 0
MayFin past id c = (not (is_cond c Cancelled) || is_some_and (is_stored_nowhere past id) (life past id)) ≡ true

pub fin_boxed : (s : State) (past : List Item) (id : Id) (c : Cond) → Boxed s past → Boxed (fin_part s id c).after (Did (effect.Fin id c) ∷ past)
fin_boxed s past id c h =
    let t = (fin_part s id c).after in
    let after = Did (effect.Fin id c) ∷ past in
    let k : Carried s t past after = record { system = refl; there = there_as s t refl refl; titles = λ d j. title_as s t refl refl d; next = omega arith; origins = λ i j. origin_on (Did (effect.Fin id c)) past i tt; devices = λ p n. refl } in
    carry s t past after k refl (λ p n. refl) (λ name. refl) (λ name. refl) (ordered_less request_id (this_request id) 0 s.next s.requests h.ordered) (all_less (Rooted t after) (this_request id) s.requests (all_rooted s t past after k (λ p n. refl) s.requests h.requests)) h

pub finish_fewer : (s : State) (r : Request) (e : Ending) → Fewer s (finish s r e).after
finish_fewer s r e =
    let a = (behind_fin s r e).after in
    let k = finish_rest s r e in
    fewer_then s a (finish s r e).after (record { reads = λ b j. any_less (waits_at b) (this_request r.req.id) s.requests j; empty = λ b j. j }) (fewer_same a (finish s r e).after k.requests k.boxes)

pub finish_walk : (s : State) (past : List Item) (r : Request) (e : Ending) (more : List Effect) → IsPlainCall past → MayFin past r.req.id e.0.cond → Boxed s past → Walk s past (finish s r e) more
finish_walk s past r e more calm may h =
    let a = (behind_fin s r e).after in
    let x = effect.Fin r.req.id e.0.cond in
    let k = finish_rest s r e in
    record {
      boxed = aside_boxed a (finish s r e).after (finish_tail s r e) (Did x ∷ past) k calm (fin_boxed s past r.req.id e.0.cond h);
      lawful = (λ rest left. may, aside_lawful a.next (finish_tail s r e) (Did x ∷ past) more k.effects);
      fewer = finish_fewer s r e;
    }

pub found_walk : (s : State) (past : List Item) (o : Option Request) (e : Ending) (more : List Effect) → IsPlainCall past → is_cond e.0.cond Cancelled ≡ false → Boxed s past → Walk s past (finish_found s o e) more
found_walk s past None e more calm other h = walk_nothing s past more h
found_walk s past (Some r) e more calm other h = finish_walk s past r e more calm (rw other refl) h

-- What a life tells of its origin.

pub lives_origin : (P : Life → Bool) (g : Origin) (o : Option Life) → option_map origin o ≡ Some g → ((l : Life) → origin l ≡ g → P l ≡ true) → is_some_and P o ≡ true
lives_origin P g None e k = absurd (let never : None ≡ Some g = e in cc)
lives_origin P g (Some l) e k = k l (let same : Some (origin l) ≡ Some g = e in cc)

pub lives_owner : (P : Life → Bool) (p : Pid) (o : Option Life) → option_map (λ x. x.p) (option_map origin o) ≡ Some p → ((l : Life) → l.p ≡ p → P l ≡ true) → is_some_and P o ≡ true
lives_owner P p None e k = absurd (let never : None ≡ Some p = e in cc)
lives_owner P p (Some l) e k = k l (let same : Some l.p ≡ Some p = e in cc)

-- Nothing is stored under the name of a unit.

unit_no_box : (s : State) (past : List Item) (name : List ℕ) → list_any (is_unit_of name) s.system.units ≡ true → Boxed s past → list_any (is_box_of name) s.boxes ≡ false
unit_no_box s past name unit h =
    false_from_ne_true _ (λ e.
    let at = any_index (is_box_of name) s.boxes None e in
    by_box (record { 0 = at.0 }) (get_or s.boxes at.0 None) refl at.1)
  where
    by_box : (b : BoxNo) (o : Option Mailbox) → box_at s b ≡ o → is_box_of name o ≡ true → ⊥
    by_box b None is e = absurd (let never : false ≡ true = e in cc)
    by_box b (Some box) is e =
        let same : box.name ≡ name = (bytes_eq-Decides box.name name).0 e in
        let none : list_any (is_unit_of name) s.system.units ≡ false = subst (λ (n : List ℕ). list_any (is_unit_of n) s.system.units ≡ false) same (h.boxes b box is).unit in
        both_ways _ none unit

pub unit_stores : (s : State) (past : List Item) (u : UnitNo) → IsThere s (device.Unit u) → Boxed s past → stored past (device_title s (device.Unit u)) ≡ []
unit_stores s past u there h =
    let name = device_title s (device.Unit u) in
    h.others name (unit_no_box s past name (list_any_at (is_unit_of name) s.system.units u.0 no_unit_decl there ((bytes_eq-Decides name name).1 refl)) h)

-- A message leaves a mailbox.

pub stored_less : (w : Id) (ms : List Msg) → map as_stored (less (this_message w) ms) ≡ less (this_stored w) (map as_stored ms)
stored_less w [] = refl
stored_less w (m ∷ ms) =
    either_by (λ (l : List Msg). map as_stored l ≡ cond (m.id.0 == w.0) (map as_stored ms) (as_stored m ∷ less (this_stored w) (map as_stored ms))) (m.id.0 == w.0) ms (m ∷ less (this_message w) ms)
    (λ t. rw t refl) (λ f. rw (f, stored_less w ms) refl)

pub mailbox_is : (s : State) (b : BoxNo) (box : Mailbox) → box_at s b ≡ Some box → mailbox_at s b ≡ box
mailbox_is s b box is = ap (λ (o : Option Mailbox). or_no_box o) is

-- one part and then another that is done to the end
pub record Serving (past : List Item) (a : Part) : Type 0 where
  pub boxed : Boxed a.after (later past (map Did a.effects))
  pub lawful : Lawful past a.effects []
  pub single : IsSingle a.after

pub serving : (s : State) (past : List Item) (a : Part) → Walk s past a [] → IsSingle s → Serving past a
serving s past a w k = record { boxed = w.boxed; lawful = w.lawful; single = single_on s a.after w.fewer k }

pub serving_then : (s : State) (past : List Item) (a : Part) (f : State → Part) → Walk s past a ((f a.after).effects ++ []) → Serving (later past (map Did a.effects)) (f a.after) → Serving past (and_then a f)
serving_then s past a f h k = record {
  boxed = subst (λ (l : List Item). Boxed (f a.after).after l) (sym (later_both past a.effects (f a.after).effects)) k.boxed;
  lawful = lawful_both past a.effects (f a.after).effects [] h.lawful k.lawful;
  single = k.single;
}

-- a change with no effect keeps all of it, whatever was called
pub still_boxed : (s t : State) (past : List Item) → Aside s [] t → Boxed s past → Boxed t past
still_boxed s t past k h =
    let c : Carried s t past past = record { system = k.system; there = there_as s t k.system k.boxes; titles = λ d j. title_as s t k.system k.boxes d; next = k.next; origins = λ id below. refl; devices = λ p n. refl } in
    carry s t past past c k.boxes k.rows (λ name. refl) (λ name. refl) (subst (λ (l : List Request). AreOrdered request_id 0 t.next l) (sym k.requests) (ordered_below request_id 0 s.next t.next s.requests k.next h.ordered))
    (subst (λ (l : List Request). AllByRecursion (Rooted t past) l) (sym k.requests) (all_rooted s t past past c k.rows s.requests h.requests)) h

pub serving_still : (past : List Item) (a : Part) (t : State) → Serving past a → Aside a.after [] t → Serving past (record { effects = a.effects; after = t })
serving_still past a t h k = record {
  boxed = still_boxed a.after t (later past (map Did a.effects)) k h.boxed;
  lawful = h.lawful;
  single = single_on a.after t (fewer_same a.after t k.requests k.boxes) h.single;
}
