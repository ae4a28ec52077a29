-- What is held stays held, as attention entries are opened, fired and dropped.
use Rattle.std.proofs.Common.{◌≡◌, ℕ, ◌+◌, ◌-◌, ◌≤◌, length, length-append, List, [], ◌∷◌, ◌++◌, slice_index_or, Option, Some, IsTrue, true, false, arith, refl, sym, ap, subst, ◌∙◌}
use Rattle.std.specs.List.{AllByRecursion, find}
use Rattle.std.specs.Vec.{with_item}
use Rattle.std.proofs.lemmas.Bool.{eqb-true}
use Rattle.vx_base.specs.Flags.{one}
use Rattle.vx_base.specs.Lists.{less, tally}
use Rattle.vx_record.specs.Types.{Attention, Frame, Id, Need, Pid, Queued}
use Rattle.vx_base.specs.Quotas.{is_within}
use Rattle.vx_base.specs.Roomy.{Roomy, with_items}
use Rattle.vx_base.proofs.First.{found_passes}
use Rattle.vx_record.specs.Asts.{charged_ast, with_queued}
use Rattle.vx_record.specs.Charges.{ast_need, exceeds, is_attention_of, is_charged}
use Rattle.vx_record.specs.Mailboxes.{this_attention}
use Rattle.vx_record.specs.State.{Process, State, IsProcess, change}
use Rattle.vx_record.proofs.Lists.{all_append, all_find, all_less}
use Rattle.vx_quota.specs.Account.{Quotas, charged, released}
use Rattle.vx_procs.specs.Attention.{fired_attention_if, without_attention}
use Rattle.vx_procs.specs.Held.{books_at}
use Rattle.vx_procs.specs.Kernel.{Kernel, Room, with_state}
use Rattle.vx_procs.specs.Ready.{HasSpares}
use Rattle.vx_procs.specs.View.{process, state, kernel, ends, books, books_of, room_of, IsHeld}
use Rattle.vx_procs.specs.declared.procs.Core.TheInside.{Inside}
use Rattle.vx_procs.specs.declared.process.Proc.{Proc}
use Rattle.vx_procs.proofs.Booked.{attention_apart, attention_own, here_by, others_called, spare_used, spared, tally-append, tally-less}
use Rattle.vx_procs.proofs.Changed.{attention_as, held_there, made_in, seen}
use Rattle.vx_procs.proofs.Ops.{IsFreed, booked_here, charged_limits, counts_here, freed_one, left_for, paid, spares_here, spares_in, within_by}

-- An entry is opened.

pub held_called : {R : Type 0} (a : Attention) (c : Inside R) (k : Kernel) (p : Pid) (r new : Proc R) (es : Roomy Attention) → kernel c ≡ k → IsProcess k.state p → HasSpares k → a.p ≡ p → exceeds k.state p (ast_need true) ≡ false → r ≡ slice_index_or c.procs.items (p.0 - 1) r → process new ≡ process r → room_of new ≡ room_of r → new.account ≡ charged r.account (ast_need true) → es ≡ with_items c.attention (c.attention.items ++ a ∷ []) → IsHeld c → IsHeld (record c { procs = with_item c.procs (p.0 - 1) new; attention = es; short = Some p })
held_called a c k p r new es view is_made has own within is e room account put h =
    let s = state c in
    let made = made_in c k p view is_made in
    let spares = spares_in c k view has in
    let was = seen c p r made is in
    let spare_room = spares_here c p r spares made is in
    let counts = counts_here c p r h made is in
    let bill = paid r.account true (λ _. left_for c k p r (ast_need true) view h made is within) in
    let used : new.account.used ≡ (charged r.account (ast_need true)).used = ap (λ (x : Quotas). x.used) account in
    let items : es.items ≡ c.attention.items ++ a ∷ [] = ap (λ (x : Roomy Attention). x.items) put in
    let more : tally (is_attention_of p) es.items ≡ tally (is_attention_of p) c.attention.items + 1 =
    let there = ap (λ (xs : List Attention). tally (is_attention_of p) xs) items in
    omega (arith, there, tally-append (is_attention_of p) c.attention.items (a ∷ []), ap one (attention_own p a own)) in
    held_there c (Some p) p new c.timers.items c.requests.items es.items (ends c) made
    (here_by (record s { attention = es.items }) (Some p) p (process new) c.timers.items (books_of r) (books_of new) made (booked_here c p r h made is).limits
    (ap (λ (x : Process). x.decl) e ∙ ap (λ (x : Process). x.decl) was)
    (omega (arith, spare_room.0, spare_used p, ap (λ (x : Process). length x.frames) e, ap (λ (x : Room). x.frames) room))
    (omega (arith, spare_room.1, spare_used p, ap (λ (x : Process). length x.asts) e, more, ap (λ (x : Room). x.asts) room))
    (ap (λ (x : Quotas). x.limits) account ∙ charged_limits r.account (ast_need true))
    (record {
      ast = omega (arith, ap (λ (n : Need). n.ast) used, bill.ast, counts.ast, more, ap (λ (x : Process). tally is_charged x.asts) e);
      tqe = ap (λ (n : Need). n.tqe) used ∙ (bill.tqe ∙ counts.tqe);
      bio = ap (λ (n : Need). n.bio) used ∙ (bill.bio ∙ counts.bio);
      dio = ap (λ (n : Need). n.dio) used ∙ (bill.dio ∙ counts.dio);
      byt = ap (λ (n : Need). n.byt) used ∙ (bill.byt ∙ counts.byt);
    }))
    (λ q m other.
    let kept = spared c (Some p) q spares m in
    let same : tally (is_attention_of q) es.items ≡ tally (is_attention_of q) c.attention.items =
    let there = ap (λ (xs : List Attention). tally (is_attention_of q) xs) items in
    omega (arith, there, tally-append (is_attention_of q) c.attention.items (a ∷ []), ap one (attention_apart p q a own other)) in
    others_called s c.short (Some p) es.items q (books_at (books c) q) (h.booked q m) kept.0 kept.1 same)
    h.timers h.requests
    (subst (λ (xs : List Attention). AllByRecursion (λ x. IsProcess s x.p) xs) (sym items) (all_append (λ x. IsProcess s x.p) c.attention.items (a ∷ []) h.attention (subst (λ (x : Pid). IsProcess s x) (sym own) made, tt)))
    h.served made

-- An entry is out.

-- its process is there
pub made_called : {R : Type 0} (id : Id) (c : Inside R) (a : Attention) → IsHeld c → Some a ≡ find (this_attention id) c.attention.items → IsProcess (state c) a.p
made_called id c a h found = all_find (λ x. IsProcess (state c) x.p) (this_attention id) c.attention.items a h.attention (sym found)

pub process_called : {R : Type 0} (id : Id) (c : Inside R) (p : Pid) (a : Attention) → IsHeld c → Some a ≡ find (this_attention id) c.attention.items → p ≡ a.p → IsProcess (state c) p
process_called id c p a h found own = subst (λ (x : Pid). IsProcess (state c) x) (sym own) (made_called id c a h found)

fewer : (p : Pid) (id : Id) (xs ys : List Attention) (a : Attention) → Some a ≡ find (this_attention id) xs → p ≡ a.p → ys ≡ less (this_attention id) xs → tally (is_attention_of p) ys + 1 ≡ tally (is_attention_of p) xs
fewer p id xs ys a found own items =
    let there = ap (λ (zs : List Attention). tally (is_attention_of p) zs) items in
    omega (arith, there, tally-less (is_attention_of p) (this_attention id) xs a (sym found), ap one (attention_own p a (sym own)))

-- its AST is charged, and has a place
pub charged_call : {R : Type 0} (id : Id) (c : Inside R) (p : Pid) (a : Attention) (r : Proc R) → IsHeld c → Some a ≡ find (this_attention id) c.attention.items → p ≡ a.p → r ≡ slice_index_or c.procs.items (p.0 - 1) r → 1 ≤ r.account.used.ast
charged_call id c p a r h found own is =
    let counts = counts_here c p r h (process_called id c p a h found own) is in
    omega (arith, counts.ast, fewer p id c.attention.items (less (this_attention id) c.attention.items) a found own refl)

pub within_call : {R : Type 0} (id : Id) (c : Inside R) (p : Pid) (a : Attention) (r : Proc R) → IsHeld c → Some a ≡ find (this_attention id) c.attention.items → p ≡ a.p → r ≡ slice_index_or c.procs.items (p.0 - 1) r → IsTrue (is_within (ast_need true) r.account.used)
within_call id c p a r h found own is = within_by (record { id = a.id; mode = a.mode; tag = a.tag; charged = true }) r.account.used (charged_call id c p a r h found own is)

pub place_called : {R : Type 0} (id : Id) (c : Inside R) (p : Pid) (a : Attention) (r : Proc R) → IsHeld c → Some a ≡ find (this_attention id) c.attention.items → p ≡ a.p → r ≡ slice_index_or c.procs.items (p.0 - 1) r → length (process r).asts + 1 ≤ (room_of r).asts
place_called id c p a r h found own is =
    let made = process_called id c p a h found own in
    let b = booked_here c p r h made is in
    let was = seen c p r made is in
    omega (arith, b.asts, fewer p id c.attention.items (less (this_attention id) c.attention.items) a found own refl, ap (λ (x : Process). length x.asts) was)

-- its process has so many ASTs more, and has been given back the others of the one
held_out : {R : Type 0} (asts back : ℕ) (id : Id) (c : Inside R) (p : Pid) (a : Attention) (r new : Proc R) (es : Roomy Attention) → asts + back ≡ 1 → Some a ≡ find (this_attention id) c.attention.items → p ≡ a.p → es ≡ with_items c.attention (less (this_attention id) c.attention.items) → r ≡ slice_index_or c.procs.items (p.0 - 1) r → (process new).decl ≡ (process r).decl → (process new).frames ≡ (process r).frames → tally is_charged (process new).asts ≡ tally is_charged (process r).asts + asts → length (process new).asts ≡ length (process r).asts + asts → room_of new ≡ room_of r → IsFreed r.account new.account back → IsHeld c → IsHeld (record c { procs = with_item c.procs (p.0 - 1) new; attention = es })
held_out asts back id c p a r new es all found own left is decl frames more longer room freed h =
    let s = state c in
    let made = process_called id c p a h found own in
    let was = seen c p r made is in
    let b = booked_here c p r h made is in
    let counts = counts_here c p r h made is in
    let items : es.items ≡ less (this_attention id) c.attention.items = ap (λ (x : Roomy Attention). x.items) left in
    let gone = fewer p id c.attention.items es.items a found own items in
    held_there c c.short p new c.timers.items c.requests.items es.items (ends c) made
    (here_by (record s { attention = es.items }) c.short p (process new) c.timers.items (books_of r) (books_of new) made b.limits
    (decl ∙ ap (λ (x : Process). x.decl) was)
    (omega (arith, b.frames, ap (λ (xs : List Frame). length xs) frames, ap (λ (x : Process). length x.frames) was, ap (λ (x : Room). x.frames) room))
    (omega (arith, b.asts, all, longer, gone, ap (λ (x : Process). length x.asts) was, ap (λ (x : Room). x.asts) room))
    freed.limits
    (record {
      ast = omega (arith, freed.ast, all, counts.ast, gone, more);
      tqe = freed.tqe ∙ counts.tqe;
      bio = freed.bio ∙ counts.bio;
      dio = freed.dio ∙ counts.dio;
      byt = freed.byt ∙ counts.byt;
    }))
    (λ q m other.
    let bq = h.booked q m in
    let same : tally (is_attention_of q) es.items ≡ tally (is_attention_of q) c.attention.items =
    let there = ap (λ (xs : List Attention). tally (is_attention_of q) xs) items in
    omega (arith, there, tally-less (is_attention_of q) (this_attention id) c.attention.items a (sym found), ap one (attention_apart p q a (sym own) other)) in
    others_called s c.short c.short es.items q (books_at (books c) q) bq bq.frames bq.asts same)
    h.timers h.requests
    (subst (λ (xs : List Attention). AllByRecursion (λ x. IsProcess s x.p) xs) (sym items) (all_less (λ x. IsProcess s x.p) (this_attention id) c.attention.items h.attention))
    h.served h.marked

-- its AST is queued
pub held_fired : {R : Type 0} (q : Queued) (id : Id) (c : Inside R) (p : Pid) (a : Attention) (r new : Proc R) (es : Roomy Attention) → q.charged ≡ true → Some a ≡ find (this_attention id) c.attention.items → p ≡ a.p → es ≡ with_items c.attention (less (this_attention id) c.attention.items) → r ≡ slice_index_or c.procs.items (p.0 - 1) r → process new ≡ with_queued q (process r) → room_of new ≡ room_of r → new.account ≡ r.account → IsHeld c → IsHeld (record c { procs = with_item c.procs (p.0 - 1) new; attention = es })
held_fired q id c p a r new es counted found own left is e room account h =
    let asts = (process r).asts in
    held_out 1 0 id c p a r new es refl found own left is
    (ap (λ (x : Process). x.decl) e) (ap (λ (x : Process). x.frames) e)
    (omega (arith, ap (λ (x : Process). tally is_charged x.asts) e, tally-append is_charged asts (q ∷ []), ap one counted))
    (omega (arith, ap (λ (x : Process). length x.asts) e, length-append asts (q ∷ []))) room
    (subst (λ (x : Quotas). IsFreed r.account x 0) (sym account) (record { ast = omega arith; tqe = refl; bio = refl; dio = refl; byt = refl; limits = refl })) h

-- its charge is given back
pub held_dropped : {R : Type 0} (id : Id) (c : Inside R) (p : Pid) (a : Attention) (r new : Proc R) (es : Roomy Attention) → Some a ≡ find (this_attention id) c.attention.items → p ≡ a.p → es ≡ with_items c.attention (less (this_attention id) c.attention.items) → r ≡ slice_index_or c.procs.items (p.0 - 1) r → process new ≡ process r → room_of new ≡ room_of r → new.account ≡ released r.account (ast_need true) → IsHeld c → IsHeld (record c { procs = with_item c.procs (p.0 - 1) new; attention = es })
held_dropped id c p a r new es found own left is e room account h =
    held_out 0 1 id c p a r new es refl found own left is
    (ap (λ (x : Process). x.decl) e) (ap (λ (x : Process). x.frames) e)
    (omega (arith, ap (λ (x : Process). tally is_charged x.asts) e)) (omega (arith, ap (λ (x : Process). length x.asts) e)) room
    (subst (λ (x : Quotas). IsFreed r.account x 1) (sym account) (freed_one r.account true (charged_call id c p a r h found own is))) h

-- The value if one fires.

-- what was found in the code's list
pub called_in : {R : Type 0} (id : Id) (c : Inside R) (k : Kernel) (o : Option Attention) → kernel c ≡ k → o ≡ find (this_attention id) c.attention.items → o ≡ find (this_attention id) k.state.attention
called_in id c k o view found = found ∙ ap (λ (x : Kernel). find (this_attention id) x.state.attention) view

found_under : (id : Id) (xs : List Attention) (a : Attention) → find (this_attention id) xs ≡ Some a → a.id ≡ id
found_under id xs a found = ap (λ (n : ℕ). let x : Id = record { 0 = n } in x) (eqb-true a.id.0 id.0 (found_passes (this_attention id) xs a found))

pub fired_as : {R : Type 0} (id : Id) (c : Inside R) (k : Kernel) (p : Pid) (a : Attention) (r new : Proc R) (es : Roomy Attention) → kernel c ≡ k → IsHeld c → Some a ≡ find (this_attention id) c.attention.items → p ≡ a.p → r ≡ slice_index_or c.procs.items (p.0 - 1) r → process new ≡ with_queued (charged_ast a.id a.mode a.tag) (process r) → room_of new ≡ room_of r → es ≡ with_items c.attention (less (this_attention id) c.attention.items) → kernel (record c { procs = with_item c.procs (p.0 - 1) new; attention = es }) ≡ with_state k (fired_attention_if k.state (find (this_attention id) k.state.attention))
fired_as id c k p a r new es view h found own is e room left =
    let f = with_queued (charged_ast a.id a.mode a.tag) in
    let made : IsProcess k.state p = subst (λ (x : Kernel). IsProcess x.state p) view (process_called id c p a h found own) in
    let under : a.id ≡ id = found_under id c.attention.items a (sym found) in
    attention_as f (λ (s : State). less (this_attention id) s.attention) c k p r new es view made is e room left
    ∙ (ap (λ (i : Id). with_state k (change (without_attention i k.state) p f)) (sym under)
    ∙ (ap (λ (x : Pid). with_state k (change (without_attention a.id k.state) x f)) own
    ∙ ap (λ (o : Option Attention). with_state k (fired_attention_if k.state o)) (called_in id c k (Some a) view found)))
