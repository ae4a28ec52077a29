-- Attention entries that fire or end, the first of them at a time.
use Rattle.std.proofs.Common.{◌≡◌, ◌<◌, List, [], ◌∷◌, Bool, true, length, Option, Some, None, is_some, option_map, refl, ap, sym, subst, ◌∙◌, arith}
use Rattle.std.specs.List.{filter, find}
use Rattle.std.proofs.lemmas.Bool.{eqb-true}
use Rattle.vx_base.proofs.Lists.{some_mapped, none_mapped}
use Rattle.vx_base.specs.Lists.{less}
use Rattle.vx_record.specs.Types.{Attention, Effect, Id}
use Rattle.vx_base.specs.declared.effects.Effect.TheVariants as effect
use Rattle.vx_record.specs.State.{State}
use Rattle.vx_record.specs.Cancel.{drop_attention}
use Rattle.vx_record.specs.Mailboxes.{fire_attention, this_attention}
use Rattle.vx_record.specs.Parts.{Part, and_then, each, tells}
use Rattle.vx_record.specs.Sound.{AreOrdered, attention_id}
use Rattle.vx_record.proofs.Lists.{ordered_less}
use Rattle.vx_procs.specs.Attention.{fired_attention, fired_attention_if, without_attention}
use Rattle.vx_procs.specs.Kernel.{Acts, Fits, Kernel, told, with_state}
use Rattle.vx_procs.proofs.Booked.{length-less}
use Rattle.vx_procs.proofs.Firsts.{filter_found, filter_none, find_same, less_same}
use Rattle.vx_procs.proofs.Rest.{IsDoing, acted, doing_begun, doing_end, doing_on, doing_room}
use Rattle.vx_io.specs.Boxes.{fire_found}
use Rattle.vx_base.proofs.First.{found_passes}

-- What is done with entries, if each goes as it is done.

-- this is done with an entry, which is then out, and the next id stays
pub record Outs (f : State → Attention → Part) : Type 0 where
  pub out : (s : State) (a : Attention) → (f s a).after.attention ≡ less (this_attention a.id) s.attention
  pub next : (s : State) (a : Attention) → (f s a).after.next ≡ s.next

pub fires_out : Outs fire_attention
fires_out = record { out = λ s a. refl; next = λ s a. refl }

pub drops_out : Outs drop_attention
drops_out = record { out = λ s a. refl; next = λ s a. refl }

-- what is left to do
abbrev pub entries_rest : (State → Attention → Part) → (Attention → Bool) → State → Part
entries_rest f test s = each f (filter test s.attention) s

entry_first : (f : State → Attention → Part) → Outs f → (test : Attention → Bool) (s : State) (a : Attention) → AreOrdered attention_id 0 s.next s.attention → find test s.attention ≡ Some a → entries_rest f test s ≡ and_then (f s a) (entries_rest f test)
entry_first f outs test s a order found =
    ap (λ xs. each f xs s) (filter_found test s.attention a found)
    ∙ ap (λ (xs : List Attention). and_then (f s a) (each f xs)) (ap (filter test) (sym (outs.out s a ∙ less_same attention_id test 0 s.next s.attention a order found)))

-- The loop.
pub record AreEnding (f : State → Attention → Part) (test : Attention → Bool) (first k : Kernel) : Type 0 where
  pub order : AreOrdered attention_id 0 k.state.next k.state.attention
  pub doing : IsDoing (entries_rest f test first.state) first (entries_rest f test k.state) k

-- the first entry that passes, by its id
record IsFirst (test : Attention → Bool) (s : State) (id : Id) : Type 0 where
  a : Attention
  found : find test s.attention ≡ Some a
  is : a.id ≡ id
  by_id : find (this_attention id) s.attention ≡ Some a

first_found : (test : Attention → Bool) (s : State) (id : Id) → AreOrdered attention_id 0 s.next s.attention → Some id ≡ option_map (λ a. a.id) (find test s.attention) → IsFirst test s id
first_found test s id order given =
    let found = some_mapped (λ (a : Attention). a.id) (find test s.attention) id (sym given) in
    record {
      a = found.0;
      found = found.1;
      is = found.2;
      by_id = ap (λ (i : Id). find (this_attention i) s.attention) (sym found.2) ∙ find_same attention_id test 0 s.next s.attention found.0 order found.1;
    }

pub entries_begun : (f : State → Attention → Part) (test : Attention → Bool) (k : Kernel) → AreOrdered attention_id 0 k.state.next k.state.attention → Fits k (entries_rest f test k.state).effects → AreEnding f test k k
entries_begun f test k order room = record { order = order; doing = doing_begun (entries_rest f test k.state) k room }

entry_room : (f : State → Attention → Part) → Outs f → (test : Attention → Bool) (first k : Kernel) (id : Id) (h : AreEnding f test first k) (x : IsFirst test k.state id) → Fits k (f k.state x.a).effects
entry_room f outs test first k id h x = doing_room (entries_rest f test first.state) first k (entries_rest f test k.state) (f k.state x.a) (entries_rest f test) (entry_first f outs test k.state x.a h.order x.found) h.doing

entry_on : (f : State → Attention → Part) → Outs f → (test : Attention → Bool) (first k l : Kernel) (id : Id) (h : AreEnding f test first k) (x : IsFirst test k.state id) → l ≡ acted k (f k.state x.a) → AreEnding f test first l
entry_on f outs test first k l id h x did =
    let s = k.state in
    let t = (f s x.a).after in
    let here : AreOrdered attention_id 0 t.next t.attention =
    subst (λ n. AreOrdered attention_id 0 n t.attention) (sym (outs.next s x.a))
    (subst (AreOrdered attention_id 0 s.next) (sym (outs.out s x.a)) (ordered_less attention_id (this_attention x.a.id) 0 s.next s.attention h.order)) in
    record {
      order = subst (λ (y : Kernel). AreOrdered attention_id 0 y.state.next y.state.attention) (sym did) here;
      doing = doing_on (entries_rest f test first.state) first k l (entries_rest f test s) (f s x.a) (entries_rest f test) (entry_first f outs test s x.a h.order x.found) did h.doing;
    }

entry_fewer : (f : State → Attention → Part) → Outs f → (test : Attention → Bool) (k l : Kernel) (id : Id) → AreOrdered attention_id 0 k.state.next k.state.attention → (x : IsFirst test k.state id) → l ≡ acted k (f k.state x.a) → length l.state.attention < length k.state.attention
entry_fewer f outs test k l id order x did =
    let s = k.state in
    let left : l.state.attention ≡ less test s.attention = ap (λ (y : Kernel). y.state.attention) did ∙ (outs.out s x.a ∙ less_same attention_id test 0 s.next s.attention x.a order x.found) in
    let all = length-less test s.attention x.a x.found in
    omega (arith, ap (λ (xs : List Attention). length xs) left, all)

pub entries_end : (f : State → Attention → Part) (test : Attention → Bool) (first k : Kernel) → AreEnding f test first k → None ≡ option_map (λ a. a.id) (find test k.state.attention) → Acts (entries_rest f test first.state) first k
entries_end f test first k h given =
    let none = none_mapped (λ (a : Attention). a.id) (find test k.state.attention) (sym given) in
    doing_end (entries_rest f test first.state) first k k (entries_rest f test k.state) (ap (λ xs. each f xs k.state) (filter_none test k.state.attention none)) refl h.doing

-- Entries fire.

pub fire_room : (test : Attention → Bool) (first k : Kernel) (id : Id) → AreEnding fire_attention test first k → Some id ≡ option_map (λ a. a.id) (find test k.state.attention) → Fits k (fire_found k.state (find (this_attention id) k.state.attention)).effects
fire_room test first k id h given =
    let x = first_found test k.state id h.order given in
    subst (λ (o : Option Attention). Fits k (fire_found k.state o).effects) (sym x.by_id) (entry_room fire_attention fires_out test first k id h x)

fired_as : (test : Attention → Bool) (k l : Kernel) (id : Id) (x : IsFirst test k.state id) → Acts (fire_found k.state (find (this_attention id) k.state.attention)) k l → l ≡ acted k (fire_attention k.state x.a)
fired_as test k l id x did = did ∙ ap (λ (o : Option Attention). acted k (fire_found k.state o)) x.by_id

pub fire_on : (test : Attention → Bool) (first k l : Kernel) (id : Id) → AreEnding fire_attention test first k → Some id ≡ option_map (λ a. a.id) (find test k.state.attention) → Acts (fire_found k.state (find (this_attention id) k.state.attention)) k l → AreEnding fire_attention test first l
fire_on test first k l id h given did =
    let x = first_found test k.state id h.order given in
    entry_on fire_attention fires_out test first k l id h x (fired_as test k l id x did)

pub fire_fewer : (test : Attention → Bool) (first k l : Kernel) (id : Id) → AreEnding fire_attention test first k → Some id ≡ option_map (λ a. a.id) (find test k.state.attention) → Acts (fire_found k.state (find (this_attention id) k.state.attention)) k l → length l.state.attention < length k.state.attention
fire_fewer test first k l id h given did =
    let x = first_found test k.state id h.order given in
    entry_fewer fire_attention fires_out test k l id h.order x (fired_as test k l id x did)

-- Entries end.

drop_part : (test : Attention → Bool) (s : State) (id : Id) (x : IsFirst test s id) → tells (effect.Drop id) (without_attention id s) ≡ drop_attention s x.a
drop_part test s id x = ap (λ (i : Id). tells (effect.Drop i) (without_attention i s)) (sym x.is)

pub drop_room : (test : Attention → Bool) (first k : Kernel) (id : Id) → AreEnding drop_attention test first k → Some id ≡ option_map (λ a. a.id) (find test k.state.attention) → Fits k (effect.Drop id ∷ [])
drop_room test first k id h given =
    let x = first_found test k.state id h.order given in
    subst (λ (y : Part). Fits k y.effects) (sym (drop_part test k.state id x)) (entry_room drop_attention drops_out test first k id h x)

pub drop_on : (test : Attention → Bool) (first k l : Kernel) (id : Id) → AreEnding drop_attention test first k → Some id ≡ option_map (λ a. a.id) (find test k.state.attention) → Acts (tells (effect.Drop id) (without_attention id k.state)) k l → AreEnding drop_attention test first l
drop_on test first k l id h given did =
    let x = first_found test k.state id h.order given in
    entry_on drop_attention drops_out test first k l id h x (did ∙ ap (acted k) (drop_part test k.state id x))

pub drop_fewer : (test : Attention → Bool) (first k l : Kernel) (id : Id) → AreEnding drop_attention test first k → Some id ≡ option_map (λ a. a.id) (find test k.state.attention) → Acts (tells (effect.Drop id) (without_attention id k.state)) k l → length l.state.attention < length k.state.attention
drop_fewer test first k l id h given did =
    let x = first_found test k.state id h.order given in
    entry_fewer drop_attention drops_out test k l id h.order x (did ∙ ap (acted k) (drop_part test k.state id x))

-- One entry, by its id.

abbrev fired_effects : Id → List Effect
fired_effects id = effect.Fire id ∷ effect.Que id ∷ []

pub fired_room : (k l : Kernel) (id : Id) (b : Bool) → b ≡ is_some (find (this_attention id) k.state.attention) → b ≡ true → l ≡ with_state k (fired_attention_if k.state (find (this_attention id) k.state.attention)) → Fits k (fire_found k.state (find (this_attention id) k.state.attention)).effects → Fits l (fired_effects id)
fired_room k l id b given there after room = from (find (this_attention id) k.state.attention) (sym given ∙ there) after room
  where
    from : (o : Option Attention) → is_some o ≡ true → l ≡ with_state k (fired_attention_if k.state o) → Fits k (fire_found k.state o).effects → Fits l (fired_effects id)
    from None f to has = absurd (cc)
    from (Some a) f to has = subst (λ (y : Kernel). Fits y (fired_effects id)) (sym to) (omega (arith, has))

pub fired_done : (k l n : Kernel) (id : Id) (b : Bool) → b ≡ is_some (find (this_attention id) k.state.attention) → b ≡ true → l ≡ with_state k (fired_attention_if k.state (find (this_attention id) k.state.attention)) → n ≡ told l (fired_effects id) → Acts (fire_found k.state (find (this_attention id) k.state.attention)) k n
fired_done k l n id b given there after tells_both = from (find (this_attention id) k.state.attention) refl (sym given ∙ there) after
  where
    from : (o : Option Attention) → find (this_attention id) k.state.attention ≡ o → is_some o ≡ true → l ≡ with_state k (fired_attention_if k.state o) → n ≡ acted k (fire_found k.state o)
    from None found f to = absurd (cc)
    from (Some a) found f to =
        let is : id ≡ a.id = sym (ap (λ i. let y : Id = record { 0 = i } in y) (eqb-true a.id.0 id.0 (found_passes (this_attention id) k.state.attention a found))) in
        tells_both
        ∙ (ap (λ (y : Kernel). told y (fired_effects id)) to
        ∙ ap (λ (i : Id). told (with_state k (fired_attention k.state a)) (fired_effects i)) is)
