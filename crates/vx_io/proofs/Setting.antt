-- An attention entry is set: its part, step after step.
use Rattle.std.proofs.Common.{◌≡◌, List, [], ◌∷◌, ◌++◌, true, ◌==◌, Option, Some, ap, subst, sym, ◌∙◌}
use Rattle.std.specs.List.{find}
use Rattle.vx_record.specs.Types.{Attention, Id, Pid}
use Rattle.vx_record.specs.Finish.{iosb_part}
use Rattle.vx_record.specs.Flags.{cell, flag_where_named}
use Rattle.vx_record.specs.Mailboxes.{attend, this_attention}
use Rattle.vx_record.specs.Parts.{Part, and_then, part_if}
use Rattle.vx_record.specs.Requests.{Asked, attention_opened, attention_set, done_at_once}
use Rattle.vx_record.specs.Sound.{AreOrdered, attention_id}
use Rattle.vx_record.specs.State.{State}
use Rattle.vx_record.proofs.Apart.{flag_attention, iosb_attention}
use Rattle.vx_procs.specs.Kernel.{Acts, Fits, Kernel}
use Rattle.vx_procs.proofs.Rest.{acted, acts_both, room_first, room_second}
use Rattle.vx_io.specs.Boxes.{attend_by, fire_found, is_answered}
use Rattle.vx_io.proofs.Opening.{last_found}

-- The steps so far.

abbrev filling : Pid → Asked → State → Part
filling p q s = iosb_part s p q.iosb done_at_once

abbrev flagging : Pid → Asked → State → Part
flagging p q s = flag_where_named s (cell s p q.efn) true

abbrev attending : Pid → Asked → Attention → State → Part
attending p q a s = and_then (flagging p q s) (λ d. attend d a)

abbrev first_half : State → Pid → Asked → Attention → Part
first_half s p q a = and_then (attention_opened s p q a) (filling p q)

half_done : (k l m : Kernel) (p : Pid) (q : Asked) (a : Attention) → Acts (attention_opened k.state p q a) k l → Acts (filling p q l.state) l m → m ≡ acted k (first_half k.state p q a)
half_done k l m p q a did then = acts_both k l m (attention_opened k.state p q a) (filling p q) did then

entries_there : (k l m n : Kernel) (p : Pid) (q : Asked) (a : Attention) → Acts (attention_opened k.state p q a) k l → Acts (filling p q l.state) l m → Acts (flagging p q m.state) m n → n.state.attention ≡ k.state.attention ++ a ∷ []
entries_there k l m n p q a did then last =
    ap (λ (y : Kernel). y.state.attention) last
    ∙ (flag_attention m.state (cell m.state p q.efn) true
    ∙ (ap (λ (y : Kernel). y.state.attention) then
    ∙ (iosb_attention l.state p q.iosb done_at_once ∙ ap (λ (y : Kernel). y.state.attention) did)))

-- and it fires, if there is already what it asks for
attend_same : (k n : Kernel) (a : Attention) (id : Id) → id ≡ a.id → a.id.0 ≡ k.state.next → AreOrdered attention_id 0 k.state.next k.state.attention → n.state.attention ≡ k.state.attention ++ a ∷ [] → attend_by n.state a.box a.func id ≡ attend n.state a
attend_same k n a id is next order there =
    let t = n.state in
    let last : find (λ (y : Attention). y.id.0 == k.state.next) (k.state.attention ++ a ∷ []) ≡ Some a = last_found attention_id 0 k.state.next k.state.attention a next order in
    let found : find (this_attention a.id) t.attention ≡ Some a =
    ap (λ (xs : List Attention). find (this_attention a.id) xs) there ∙ (ap (λ i. find (λ (y : Attention). y.id.0 == i) (k.state.attention ++ a ∷ [])) next ∙ last) in
    ap (λ (i : Id). attend_by t a.box a.func i) is ∙ ap (λ (o : Option Attention). part_if (is_answered t a.box a.func) (fire_found t o) t) found

pub set_as : (k l m n o : Kernel) (p : Pid) (q : Asked) (a : Attention) (id : Id) → id ≡ a.id → a.id.0 ≡ k.state.next → AreOrdered attention_id 0 k.state.next k.state.attention → Acts (attention_opened k.state p q a) k l → Acts (filling p q l.state) l m → Acts (flagging p q m.state) m n → Acts (attend_by n.state a.box a.func id) n o → Acts (attention_set k.state p q a) k o
set_as k l m n o p q a id is next order did then last ends =
    let same = attend_same k n a id is next order (entries_there k l m n p q a did then last) in
    acts_both k m o (first_half k.state p q a) (attending p q a) (half_done k l m p q a did then)
    (acts_both m n o (flagging p q m.state) (λ d. attend d a) last (ends ∙ ap (acted n) same))

-- there is room for each part if there is room for the whole
pub opened_fits : (k : Kernel) (p : Pid) (q : Asked) (a : Attention) → Fits k (attention_set k.state p q a).effects → Fits k (attention_opened k.state p q a).effects
opened_fits k p q a room = room_first k (attention_opened k.state p q a) (filling p q) (room_first k (first_half k.state p q a) (attending p q a) room)

pub filled_fits : (k l : Kernel) (p : Pid) (q : Asked) (a : Attention) → Acts (attention_opened k.state p q a) k l → Fits k (attention_set k.state p q a).effects → Fits l (filling p q l.state).effects
filled_fits k l p q a did room = room_second k l (attention_opened k.state p q a) (filling p q) did (room_first k (first_half k.state p q a) (attending p q a) room)

behind_half : (k l m : Kernel) (p : Pid) (q : Asked) (a : Attention) → Acts (attention_opened k.state p q a) k l → Acts (filling p q l.state) l m → Fits k (attention_set k.state p q a).effects → Fits m (attending p q a m.state).effects
behind_half k l m p q a did then room = room_second k m (first_half k.state p q a) (attending p q a) (half_done k l m p q a did then) room

pub flagged_fits : (k l m : Kernel) (p : Pid) (q : Asked) (a : Attention) → Acts (attention_opened k.state p q a) k l → Acts (filling p q l.state) l m → Fits k (attention_set k.state p q a).effects → Fits m (flagging p q m.state).effects
flagged_fits k l m p q a did then room = room_first m (flagging p q m.state) (λ d. attend d a) (behind_half k l m p q a did then room)

pub attended_fits : (k l m n : Kernel) (p : Pid) (q : Asked) (a : Attention) (id : Id) → id ≡ a.id → a.id.0 ≡ k.state.next → AreOrdered attention_id 0 k.state.next k.state.attention → Acts (attention_opened k.state p q a) k l → Acts (filling p q l.state) l m → Acts (flagging p q m.state) m n → Fits k (attention_set k.state p q a).effects → Fits n (attend_by n.state a.box a.func id).effects
attended_fits k l m n p q a id is next order did then last room =
    subst (λ (x : Part). Fits n x.effects) (sym (attend_same k n a id is next order (entries_there k l m n p q a did then last)))
    (room_second m n (flagging p q m.state) (λ d. attend d a) last (behind_half k l m p q a did then room))
