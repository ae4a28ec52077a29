-- No two open things have one id, after each move.
use Rattle.std.proofs.Common.{◌≡◌, ℕ, zero, suc, ◌+◌, ◌-◌, ◌≤◌, List, [], ◌∷◌, ◌++◌, Bool, ◌==◌, nat_lt, Option, Some, None, refl, ap, arith, get_or, set}
use Rattle.std.specs.List.{filter, find}
use Rattle.vx_base.proofs.Lists.{total_push}
use Rattle.vx_base.specs.Lists.{less, amend, tally, total}
use Rattle.vx_record.specs.Types.{Alarm, Attention, Cell, Effect, Handler, Id, Pid, ProcDecl, Promised, Queued, Request, System, Timer}
use Rattle.vx_base.specs.declared.effects.Cell.TheVariants.{Local, Common}
use Rattle.vx_record.specs.State.{Process, State, nobody, process_at, change, past_id}
use Rattle.vx_base.specs.Flags.{one}
use Rattle.vx_record.specs.Parts.{each}
use Rattle.vx_record.specs.Asts.{with_queued}
use Rattle.vx_record.specs.Cancel.{with_abort}
use Rattle.vx_record.specs.Control.{created}
use Rattle.vx_record.specs.Finish.{this_request}
use Rattle.vx_record.specs.Flags.{with_cell, with_local_flag}
use Rattle.vx_record.specs.Mailboxes.{this_attention}
use Rattle.vx_record.specs.Rundown.{with_handler, new_handler, drop_ast, drop_handler, is_ast_reached, this_handler, entering, without_ast, without_handler}
use Rattle.vx_record.specs.Sound.{process_bears, bearers, HaveOwnIds, request_id, timer_id, attention_id}
use Rattle.vx_record.specs.Requests.{begun, taken_up}
use Rattle.vx_record.specs.Runs.{born_from, first}
use Rattle.vx_record.specs.Timers.{this_timer, after_wake}
use Rattle.vx_record.proofs.Lists.{either}
use Rattle.vx_record.proofs.Moves.{Loose, passed, loosed, loosed_timer, MovesBy, both, quiet, newly, open_ast, open_force, que, end_asts, open_handler, end_handlers, enter, open_request, fin, mark, open_attention, attention_fires, end_attention, open_timer, open_wake, timer_fires, end_timer}

-- Lists.

pub tally_less : {A : Type 0} (p q : A → Bool) (xs : List A) → tally p (less q xs) ≤ tally p xs
tally_less p q [] = omega arith
tally_less p q (x ∷ xs) = let rest = tally_less p q xs in either (λ ys. tally p ys ≤ one (p x) + tally p xs) (q x) xs (x ∷ less q xs) (omega arith) (omega (arith, rest))

tally_taken : {A : Type 0} (p q : A → Bool) (xs : List A) (x : A) → find q xs ≡ Some x → tally p xs ≡ one (p x) + tally p (less q xs)
tally_taken p q [] x e = cc
tally_taken p q (y ∷ ys) x e = let rest = tally_taken p q ys x in grind arith

tally_append : {A : Type 0} (p : A → Bool) (xs : List A) (y : A) → tally p (xs ++ y ∷ []) ≡ tally p xs + one (p y)
tally_append p [] y = omega arith
tally_append p (x ∷ xs) y = let rest = tally_append p xs y in omega (arith, rest)

pub tally_amend : {A : Type 0} (p q : A → Bool) (f : A → A) → ((x : A) → p (f x) ≡ p x) → (xs : List A) → tally p (amend q f xs) ≡ tally p xs
tally_amend p q f same [] = refl
tally_amend p q f same (x ∷ xs) = either (λ ys. tally p ys ≡ one (p x) + tally p xs) (q x) (f x ∷ xs) (x ∷ amend q f xs) (rw (same x) refl) (let rest = tally_amend p q f same xs in omega (arith, rest))

total_set : {A : Type 0} (f : A → ℕ) (xs : List A) (i : ℕ) (y d : A) → f d ≡ 0 → total f (set xs i y) + f (get_or xs i d) ≤ total f xs + f y
total_set f [] i y d e = omega (arith, e)
total_set f (x ∷ xs) zero y d e = omega arith
total_set f (x ∷ xs) (suc i) y d e = let rest = total_set f xs i y d e in omega (arith, rest)

pub total_amend : {A : Type 0} (f : A → ℕ) (p : A → Bool) (g : A → A) (xs : List A) → ((x : A) → f (g x) ≡ f x) → total f (amend p g xs) ≡ total f xs
total_amend f p g [] k = refl
total_amend {A} f p g (x ∷ xs) k = either (λ (l : List A). total f l ≡ f x + total f xs) (p x) (g x ∷ xs) (x ∷ amend p g xs) (rw (k x) refl) (rw (total_amend f p g xs k) refl)

-- What bears an id, with what is promised.

abbrev pub loose_bears : Option Loose → ℕ → ℕ
loose_bears None id = 0
loose_bears (Some x) id = one (x.ast.id.0 == id)

passed_bears : (k : ℕ) (l : Option Loose) (id : ℕ) → loose_bears (passed k l) id ≡ loose_bears l id
passed_bears k None id = refl
passed_bears k (Some x) id = refl

-- no id has two bearers, and none from the next on has one
pub record Own (s : State) (l : Option Loose) : Type 0 where
  pub single : (id : ℕ) → bearers s id + loose_bears l id ≤ 1
  pub below : (id : ℕ) → s.next ≤ id → bearers s id + loose_bears l id ≡ 0

-- no more, and no id is opened; or one is opened, for one thing

record Fewer (s : State) (l : Option Loose) (t : State) (m : Option Loose) : Type 0 where
  next : t.next ≡ s.next
  few : (id : ℕ) → bearers t id + loose_bears m id ≤ bearers s id + loose_bears l id

record OneMore (s : State) (l : Option Loose) (t : State) (m : Option Loose) : Type 0 where
  next : t.next ≡ s.next + 1
  few : (id : ℕ) → bearers t id + loose_bears m id ≤ bearers s id + loose_bears l id + one (s.next == id)

fewer_own : {s : State} {l : Option Loose} {t : State} {m : Option Loose} → Fewer s l t m → Own s l → Own t m
fewer_own k h = record { single = λ id. let a = h.single id in let b = k.few id in omega (arith, a, b); below = λ id e. let n = k.next in let a = h.below id (omega (arith, n, e)) in let b = k.few id in omega (arith, a, b) }

more_own : {s : State} {l : Option Loose} {t : State} {m : Option Loose} → OneMore s l t m → Own s l → Own t m
more_own {s} {l} {t} {m} k h = let n = k.next in record { single = λ id. let a = h.single id in let b = h.below id in let c = k.few id in grind arith; below = λ id e. let b = h.below id in let c = k.few id in grind arith }

-- A process changed.

change_bears : (s : State) (p : Pid) (f : Process → Process) (id n : ℕ) → process_bears id (f (process_at s p)) ≤ process_bears id (process_at s p) + n → bearers (change s p f) id ≤ bearers s id + n
change_bears s p f id n k = let e = total_set (process_bears id) s.procs (p.0 - 1) (f (process_at s p)) nobody refl in omega (arith, e, k)

change_fewer : (s : State) (p : Pid) (f : Process → Process) (l : Option Loose) → ((id : ℕ) → process_bears id (f (process_at s p)) ≤ process_bears id (process_at s p)) → Fewer s l (change s p f) l
change_fewer s p f l k = record { next = refl; few = λ id. let e = change_bears s p f id 0 (let a = k id in omega (arith, a)) in omega (arith, e) }

put_fewer : (s : State) (p : Pid) (pr : Process) (l : Option Loose) → pr.asts ≡ (process_at s p).asts → pr.handlers ≡ (process_at s p).handlers → Fewer s l (record s { procs = set s.procs (p.0 - 1) pr }) l
put_fewer s p pr l a b = change_fewer s p (λ x. pr) l (λ id. let e : process_bears id pr ≡ process_bears id (process_at s p) = rw (a, b) refl in omega (arith, e))

passed_fewer : (s t : State) (l : Option Loose) (k : ℕ) → Fewer s l t l → Fewer s l t (passed k l)
passed_fewer s t l k f = record { next = f.next; few = λ id. let a = f.few id in let b = passed_bears k l id in omega (arith, a, b) }

still_fewer : (s t : State) (l : Option Loose) → t.next ≡ s.next → ((id : ℕ) → bearers t id ≡ bearers s id) → Fewer s l t l
still_fewer s t l n k = record { next = n; few = λ id. let a = k id in omega (arith, a) }

cell_fewer : (s : State) (c : Cell) (on : Bool) (l : Option Loose) → Fewer s l (with_cell s c on) l
cell_fewer s (Local p n) on l = let pr = process_at s p in put_fewer s p (with_local_flag n on pr) l (either (λ (x : Process). x.asts ≡ pr.asts) (nat_lt n 32) _ _ refl refl) (either (λ (x : Process). x.handlers ≡ pr.handlers) (nat_lt n 32) _ _ refl refl)
cell_fewer s (Common g n k) on l = still_fewer s (with_cell s (Common g n k) on) l refl (λ id. refl)

drop_ast_fewer : (p : Pid) (s : State) (q : Id) → Fewer s None (change s p (without_ast q)) None
drop_ast_fewer p s q = change_fewer s p (without_ast q) None (λ id. let e = tally_less (λ (x : Queued). x.id.0 == id) (λ (x : Queued). x.id.0 == q.0) (process_at s p).asts in omega (arith, e))

drop_handler_fewer : (p : Pid) (s : State) (q : Id) → Fewer s None (change s p (without_handler q)) None
drop_handler_fewer p s q = change_fewer s p (without_handler q) None (λ id. let e = tally_less (λ (x : Handler). x.id.0 == id) (this_handler q) (process_at s p).handlers in omega (arith, e))

each_asts_own : (p : Pid) (qs : List Queued) (s : State) → Own s None → Own (each (drop_ast p) qs s).after None
each_asts_own p [] s h = h
each_asts_own p (q ∷ qs) s h = each_asts_own p qs (drop_ast p s q).after (fewer_own (drop_ast_fewer p s q.id) h)

each_handlers_own : (p : Pid) (qs : List Handler) (s : State) → Own s None → Own (each (drop_handler p) qs s).after None
each_handlers_own p [] s h = h
each_handlers_own p (q ∷ qs) s h = each_handlers_own p qs (drop_handler p s q).after (fewer_own (drop_handler_fewer p s q.id) h)

-- What is promised bears the id of what ended.

request_loose_bears : (r : Request) (o : Option Promised) (id : ℕ) → loose_bears (loosed (record r { ast = o })) id ≤ one (request_id r == id)
request_loose_bears r o id = grind arith

timer_loose_bears : (t : Timer) (a : Alarm) (id : ℕ) → loose_bears (loosed_timer t a) id ≤ one (timer_id t == id)
timer_loose_bears t a id = grind arith

same_id : {A : Type 0} (key : A → ℕ) (x : A) (n id : ℕ) → key x ≡ n → one (key x == id) ≡ one (n == id)
same_id key x n id e = rw e refl

wake_fewer : (s : State) (t : Timer) (n : ℕ) → Fewer s None (after_wake s t n) None
wake_fewer s t n = grind (arith, either, tally_less, tally_amend)

-- what moves come to that open nothing and end nothing
ruleset fewer = (still_fewer, put_fewer, passed_fewer, cell_fewer, drop_handler_fewer, wake_fewer)

pub moves_own : {refs : Bool} (s : State) (l : Option Loose) (es : List Effect) (t : State) (m : Option Loose) → MovesBy refs s l es t m → Own s l → Own t m
moves_own s l es t m (both x y z a b c fs gs i j) h = moves_own y b gs z c j (moves_own x a fs y b i h)
moves_own s l es t m (quiet x a p f q) h = fewer_own (put_fewer x p (f (process_at x p)) a q.asts q.handlers) h
moves_own s l es t m (newly x a p place idle ok) h = fewer_own (still_fewer x _ a refl (λ id. let e = total_push (process_bears id) x.procs (created x p place) in omega (arith, e))) h
moves_own s l es t m (open_ast x p mode tag made ok) h = more_own (record { next = refl; few = λ id. omega arith }) h
moves_own s l es t m (open_force x p code made) h = more_own (record { next = refl; few = λ id. omega arith }) h
moves_own s l es t m (que x p q stage made) h = fewer_own (record { next = refl; few = λ id. let e = tally_append (λ (y : Queued). y.id.0 == id) (process_at x p).asts q in let f = change_bears x p (with_queued q) id (one (q.id.0 == id)) (omega (arith, e)) in omega (arith, f) }) h
moves_own s l es t m (end_asts x p mode made) h = each_asts_own p (filter (is_ast_reached mode) (process_at x p).asts) x h
moves_own s l es t m (open_handler x p tag made ok) h = more_own (record { next = refl; few = λ id. let f = change_bears (past_id x) p (with_handler (new_handler x p tag)) id (one (x.next == id)) (omega arith) in omega (arith, f) }) h
moves_own s l es t m (end_handlers x p test made) h = each_handlers_own p (filter test (process_at x p).handlers) x h
moves_own s l es t m (enter x p f test d made is ok) h = fewer_own (change_fewer x p (entering f d.id) None (λ id. let e = tally_less (λ (y : Handler). y.id.0 == id) (this_handler d.id) (process_at x p).handlers in omega (arith, e))) h
moves_own s l es t m (open_request x k p mode n r is new ok) h = more_own (record { next = refl; few = λ id. let e = tally_append (λ (y : Request). request_id y == id) x.requests r in let f = same_id request_id r x.next id (ap (λ (i : Id). i.0) new.id) in omega (arith, e, f) }) h
moves_own s l es t m (fin x r c has) h = fewer_own (record { next = refl; few = λ id. let e = tally_taken (λ (y : Request). request_id y == id) (this_request r.req.id) x.requests r has in let f = request_loose_bears r r.ast id in omega (arith, e, f) }) h
moves_own s l es t m (mark x r has free) h = fewer_own (still_fewer x _ None refl (λ id. let e = tally_amend (λ (y : Request). request_id y == id) (this_request r.req.id) with_abort (λ y. refl) x.requests in omega (arith, e))) h
moves_own s l es t m (open_attention x p mode a new at ok) h = more_own (record { next = refl; few = λ id. let e = tally_append (λ (y : Attention). attention_id y == id) x.attention a in let f = same_id attention_id a x.next id (ap (λ (i : Id). i.0) new.id) in omega (arith, e, f) }) h
moves_own s l es t m (attention_fires x a has) h = fewer_own (record { next = refl; few = λ id. let e = tally_taken (λ (y : Attention). attention_id y == id) (this_attention a.id) x.attention a has in omega (arith, e) }) h
moves_own s l es t m (end_attention x a has) h = fewer_own (record { next = refl; few = λ id. let e = tally_less (λ (y : Attention). attention_id y == id) (this_attention a.id) x.attention in omega (arith, e) }) h
moves_own s l es t m (open_timer x p mode a efn reqid n tag new is at ok) h = more_own (record { next = refl; few = λ id. let e = tally_append (λ (y : Timer). timer_id y == id) x.timers a in let f = same_id timer_id a x.next id (ap (λ (i : Id). i.0) new.id) in omega (arith, e, f) }) h
moves_own s l es t m (open_wake x p n a to new is) h = more_own (record { next = refl; few = λ id. let e = tally_append (λ (y : Timer). timer_id y == id) x.timers a in let f = same_id timer_id a x.next id (ap (λ (i : Id). i.0) new.id) in omega (arith, e, f) }) h
moves_own s l es t m (timer_fires x a has is) h = fewer_own (record { next = refl; few = λ id. let e = tally_taken (λ (y : Timer). timer_id y == id) (this_timer a.id) x.timers a has.0 in let f = timer_loose_bears a a.what id in omega (arith, e, f) }) h
moves_own s l es t m (end_timer x a has) h = fewer_own (record { next = refl; few = λ id. let e = tally_less (λ (y : Timer). timer_id y == id) (this_timer a.id) x.timers in omega (arith, e) }) h
moves_own s l es t m k h = fewer_own (search fewer) h

-- A state by itself.

pub own_of : (s : State) → HaveOwnIds s → Own s None
own_of s h = record { single = λ id. let a = h.single id in omega (arith, a); below = λ id e. let a = h.below id e in omega (arith, a) }

pub owned : (s : State) → Own s None → HaveOwnIds s
owned s h = record { single = λ id. let a = h.single id in omega (arith, a); below = λ id e. let a = h.below id e in omega (arith, a) }

pub started_own : (s : State) (p : Pid) (q : Id) → HaveOwnIds s → HaveOwnIds (change s p (without_ast q))
started_own s p q h = owned (change s p (without_ast q)) (fewer_own (drop_ast_fewer p s q) (own_of s h))

pub begun_own : (s : State) (r : Request) → HaveOwnIds s → HaveOwnIds (begun s r)
begun_own s r h = owned (begun s r) (fewer_own (still_fewer s (begun s r) None refl (λ id. let e = tally_amend (λ (y : Request). request_id y == id) (this_request r.req.id) taken_up (λ y. refl) s.requests in omega (arith, e))) (own_of s h))

born_bear : (id place : ℕ) (ds : List ProcDecl) → total (process_bears id) (born_from place ds) ≡ 0
born_bear id place [] = refl
born_bear id place (d ∷ ds) = let rest = born_bear id (place + 1) ds in grind arith

pub first_own : (system : System) → HaveOwnIds (first system)
first_own system = record { single = λ id. let e = born_bear id 0 system.decls in omega (arith, e); below = λ id k. let e = born_bear id 0 system.decls in omega (arith, e) }
