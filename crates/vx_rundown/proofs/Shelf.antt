-- Things of a process that end, the first of them at a time: its queued ASTs, and its exit handlers.
use Rattle.std.proofs.Common.{◌≡◌, ◌==◌, ◌<◌, List, [], ◌∷◌, Bool, length, arith, IsTrue, Option, Some, None, option_map, refl, ap, sym, subst, ◌∙◌}
use Rattle.std.specs.List.{filter, find}
use Rattle.std.proofs.lemmas.List.{set-get_or}
use Rattle.vx_base.proofs.Lists.{some_mapped, none_mapped}
use Rattle.vx_base.specs.Lists.{less}
use Rattle.vx_base.proofs.First.{less_none}
use Rattle.vx_record.specs.Types.{Entry, Handler, Id, Mode, Pid, Queued}
use Rattle.vx_base.specs.declared.effects.Effect.TheVariants as effect
use Rattle.vx_base.specs.declared.cond.Cond.TheVariants.{Normal, NoHandler}
use Rattle.vx_record.specs.Parts.{Part, tells, and_then, each}
use Rattle.vx_record.specs.Rundown.{cancel_found, drop_handler}
use Rattle.vx_record.specs.State.{Process, State, IsProcess, process_at, change}
use Rattle.vx_procs.specs.Kernel.{Acts, Does, Fits, Kernel, changed, told, with_state}
use Rattle.vx_procs.specs.Words.{handlers_have_own_ids, have_own}
use Rattle.vx_procs.proofs.Booked.{length-less}
use Rattle.vx_procs.proofs.Firsts.{filter_found, filter_none}
use Rattle.vx_procs.proofs.Own.{less_own, own_less}
use Rattle.vx_procs.proofs.Rest.{IsDoing, acted, doing_begun, doing_end, doing_on, doing_room, told_none}
use Rattle.vx_io.proofs.Changed.{process_there, made_still}
use Rattle.vx_base.specs.Handlers.{is_handler_with}

-- a list that a process has, of things with ids
pub record Shelf (A : Type 0) : Type 1 where
  pub id : A → Id
  pub get : Process → List A
  pub put : List A → Process → Process
  pub got : (xs : List A) (pr : Process) → get (put xs pr) ≡ xs
  pub same : (pr : Process) → put (get pr) pr ≡ pr

abbrev pub asts : Shelf Queued
asts = record { id = λ q. q.id; get = λ pr. pr.asts; put = λ xs pr. record pr { asts = xs }; got = λ xs pr. refl; same = λ pr. refl }

abbrev pub handlers : Shelf Handler
handlers = record { id = λ h. h.id; get = λ pr. pr.handlers; put = λ xs pr. record pr { handlers = xs }; got = λ xs pr. refl; same = λ pr. refl }

-- the process without the first that passes
abbrev pub without : {A : Type 0} → Shelf A → (A → Bool) → Process → Process
without sh test pr = sh.put (less test (sh.get pr)) pr

-- one ends
abbrev pub drop_one : {A : Type 0} → Shelf A → Pid → State → A → Part
drop_one sh p s x = tells (effect.Drop (sh.id x)) (change s p (without sh (λ y. (sh.id y).0 == (sh.id x).0)))

-- and all that pass
abbrev pub drop_all : {A : Type 0} → Shelf A → Pid → (A → Bool) → State → Part
drop_all sh p test s = each (drop_one sh p) (filter test (sh.get (process_at s p))) s

-- the loop
pub record IsDropping {A : Type 0} (sh : Shelf A) (p : Pid) (test : A → Bool) (first k : Kernel) : Type 0 where
  pub made : IsProcess k.state p
  pub own : IsTrue (have_own sh.id (sh.get (process_at k.state p)))
  pub doing : IsDoing (drop_all sh p test first.state) first (drop_all sh p test k.state) k

pub drop_begun : {A : Type 0} (sh : Shelf A) (p : Pid) (test : A → Bool) (k : Kernel) → IsProcess k.state p → IsTrue (have_own sh.id (sh.get (process_at k.state p))) → Fits k (drop_all sh p test k.state).effects → IsDropping sh p test k k
drop_begun sh p test k made own room = record { made = made; own = own; doing = doing_begun (drop_all sh p test k.state) k room }

there_got : {A : Type 0} (sh : Shelf A) (p : Pid) (test : A → Bool) (s : State) → IsProcess s p → sh.get (process_at (change s p (without sh test)) p) ≡ less test (sh.get (process_at s p))
there_got sh p test s made = ap sh.get (process_there s p (without sh test) made) ∙ sh.got (less test (sh.get (process_at s p))) (process_at s p)

drop_first : {A : Type 0} (sh : Shelf A) (p : Pid) (test : A → Bool) (s : State) (x : A) → IsProcess s p → IsTrue (have_own sh.id (sh.get (process_at s p))) → find test (sh.get (process_at s p)) ≡ Some x → drop_all sh p test s ≡ and_then (tells (effect.Drop (sh.id x)) (change s p (without sh test))) (drop_all sh p test)
drop_first sh p test s x made own found =
    let xs = sh.get (process_at s p) in
    let t = change s p (without sh test) in
    let more : State → List _ → Part = λ u ys. and_then (tells (effect.Drop (sh.id x)) u) (each (drop_one sh p) ys) in
    let split : each (drop_one sh p) (filter test xs) s ≡ each (drop_one sh p) (x ∷ filter test (less test xs)) s = ap (λ ys. each (drop_one sh p) ys s) (filter_found test xs x found) in
    let here : change s p (without sh (λ y. (sh.id y).0 == (sh.id x).0)) ≡ t = ap (λ ys. change s p (λ pr. sh.put ys pr)) (less_own sh.id test xs x own found) in
    let left : filter test (less test xs) ≡ filter test (sh.get (process_at t p)) = ap (filter test) (sym (there_got sh p test s made)) in
    split ∙ (ap (λ u. more u (filter test (less test xs))) here ∙ ap (more t) left)

pub drop_room : {A : Type 0} (sh : Shelf A) (p : Pid) (test : A → Bool) (first k l : Kernel) (id : Id) → IsDropping sh p test first k → Some id ≡ option_map sh.id (find test (sh.get (process_at k.state p))) → l ≡ changed k p (without sh test) → Fits l (effect.Drop id ∷ [])
drop_room sh p test first k l id h given there = grind (arith, some_mapped, doing_room, drop_first)

pub drop_more : {A : Type 0} (sh : Shelf A) (p : Pid) (test : A → Bool) (first k l n : Kernel) (id : Id) → IsDropping sh p test first k → Some id ≡ option_map sh.id (find test (sh.get (process_at k.state p))) → l ≡ changed k p (without sh test) → n ≡ told l (effect.Drop id ∷ []) → IsDropping sh p test first n
drop_more sh p test first k l n id h given there tells_it =
    let found = some_mapped sh.id (find test (sh.get (process_at k.state p))) id (sym given) in
    let a : Part = tells (effect.Drop (sh.id found.0)) (change k.state p (without sh test)) in
    let did : n ≡ acted k a = tells_it ∙ (ap (λ (x : Kernel). told x (effect.Drop id ∷ [])) there ∙ ap (λ (i : Id). told (changed k p (without sh test)) (effect.Drop i ∷ [])) (sym found.2)) in
    record {
      made = subst (λ (x : Kernel). IsProcess x.state p) (sym did) (made_still k.state p p (without sh test) h.made);
      own = subst (λ (x : Kernel). IsTrue (have_own sh.id (sh.get (process_at x.state p)))) (sym did) (subst (λ xs. IsTrue (have_own sh.id xs)) (sym (there_got sh p test k.state h.made)) (own_less sh.id test (sh.get (process_at k.state p)) h.own));
      doing = doing_on (drop_all sh p test first.state) first k n (drop_all sh p test k.state) a (drop_all sh p test) (drop_first sh p test k.state found.0 h.made h.own found.1) did h.doing;
    }

pub drop_fewer : {A : Type 0} (sh : Shelf A) (p : Pid) (test : A → Bool) (k l : Kernel) (id : Id) → IsProcess k.state p → Some id ≡ option_map sh.id (find test (sh.get (process_at k.state p))) → l ≡ changed k p (without sh test) → length (sh.get (process_at l.state p)) < length (sh.get (process_at k.state p))
drop_fewer sh p test k l id made given there = grind (arith, some_mapped, length-less, there_got)

-- nothing is taken out if none is found
still : {A : Type 0} (sh : Shelf A) (p : Pid) (test : A → Bool) (s : State) → find test (sh.get (process_at s p)) ≡ None → change s p (without sh test) ≡ s
still sh p test s none = grind (arith, less_none, set-get_or)

pub drop_end : {A : Type 0} (sh : Shelf A) (p : Pid) (test : A → Bool) (first k l : Kernel) → IsDropping sh p test first k → None ≡ option_map sh.id (find test (sh.get (process_at k.state p))) → l ≡ changed k p (without sh test) → Acts (drop_all sh p test first.state) first l
drop_end sh p test first k l h given there = grind (arith, none_mapped, doing_end, filter_none, still)

-- $CANEXH of one.

pub cancel_room : (p : Pid) (m : Mode) (tag : Entry) (k l : Kernel) (id : Id) → Some id ≡ option_map (λ h. h.id) (find (is_handler_with m tag) (process_at k.state p).handlers) → l ≡ changed k p (without handlers (is_handler_with m tag)) → Fits k (cancel_found k.state p (find (is_handler_with m tag) (process_at k.state p).handlers)).effects → Fits l (effect.Drop id ∷ [])
cancel_room p m tag k l id given there room = grind arith

pub cancel_done : (p : Pid) (m : Mode) (tag : Entry) (k l n : Kernel) (id : Id) → IsTrue (handlers_have_own_ids (process_at k.state p).handlers) → Some id ≡ option_map (λ h. h.id) (find (is_handler_with m tag) (process_at k.state p).handlers) → l ≡ changed k p (without handlers (is_handler_with m tag)) → n ≡ told l (effect.Drop id ∷ []) → Does (cancel_found k.state p (find (is_handler_with m tag) (process_at k.state p).handlers)) Normal k n
cancel_done p m tag k l n id own given there tells_it =
    let o = find (is_handler_with m tag) (process_at k.state p).handlers in
    let found = some_mapped (λ (h : Handler). h.id) o id (sym given) in
    let here = ap (λ ys. change k.state p (λ pr. handlers.put ys pr)) (less_own handlers.id (is_handler_with m tag) (process_at k.state p).handlers found.0 own found.1) in
    let acts : n ≡ acted k (drop_handler p k.state found.0) = tells_it ∙ (ap (λ (y : Kernel). told y (effect.Drop id ∷ [])) there ∙ (ap (λ (i : Id). told (changed k p (without handlers (is_handler_with m tag))) (effect.Drop i ∷ [])) (sym found.2) ∙ ap (λ (s : State). told (with_state k s) (effect.Drop found.0.id ∷ [])) (sym here))) in
    subst (λ (x : Option Handler). Does (cancel_found k.state p x) Normal k n) (sym found.1) (record { answers = refl; leaves = acts })

pub cancel_none : (p : Pid) (m : Mode) (tag : Entry) (k l : Kernel) → None ≡ option_map (λ h. h.id) (find (is_handler_with m tag) (process_at k.state p).handlers) → l ≡ k → Does (cancel_found k.state p (find (is_handler_with m tag) (process_at k.state p).handlers)) NoHandler k l
cancel_none p m tag k l given kept = grind (arith, none_mapped, told_none)
