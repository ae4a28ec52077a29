-- What is owed and charged, as ASTs are queued and taken out and timers come and go.
use Rattle.std.proofs.Common.{◌≡◌, ◌≢◌, ℕ, zero, suc, ◌+◌, ◌-◌, ◌≤◌, length, List, [], ◌∷◌, ◌++◌, Bool, true, false, cond, not, ◌==◌, ◌&&◌, map, slice_index_or, slice_set, Option, Some, None, arith, refl, sym, ap, ◌∙◌}
use Rattle.std.specs.List.{find}
use Rattle.std.proofs.lemmas.Bool.{eq-eqb, eqb-true, false_from_ne_true}
use Rattle.std.proofs.lemmas.List.{get_or_append_left, length-map}
use Rattle.vx_base.specs.Flags.{one}
use Rattle.vx_base.specs.Lists.{less, tally}
use Rattle.vx_record.specs.Types.{Attention, Need, Pid, Queued, Timer}
use Rattle.vx_record.specs.State.{Process, State, IsProcess, limits_of, process_at, no_decl}
use Rattle.vx_record.specs.Charges.{charge, bears_ast, is_attention_of, is_same, charged_timer, is_charged, is_timer_of}
use Rattle.vx_procs.specs.Held.{Books, IsBooked, books_at, no_books, spare}
use Rattle.vx_procs.specs.Kernel.{Room, no_room, room_at}
use Rattle.vx_procs.specs.Ready.{HasSpares, owed}
use Rattle.vx_procs.specs.View.{kernel, newcomers, books, books_of, room_of, state}
use Rattle.vx_procs.specs.declared.procs.Core.TheInside.{Inside}
use Rattle.vx_procs.specs.declared.process.Proc.{Proc}
use Rattle.vx_procs.proofs.Changed.{put_there, stands}
use Rattle.vx_base.proofs.Needs.{need_is}

-- Tallies.

pub tally-append : {A : Type 0} (p : A → Bool) (xs ys : List A) → tally p (xs ++ ys) ≡ tally p xs + tally p ys
tally-append p [] ys = omega arith
tally-append p (x ∷ xs) ys = let rest = tally-append p xs ys in omega (arith, rest)

pub tally-less : {A : Type 0} (p test : A → Bool) (xs : List A) (x : A) → find test xs ≡ Some x → tally p (less test xs) + one (p x) ≡ tally p xs
tally-less p test [] x e = absurd (cc)
tally-less p test (y ∷ ys) x e =
    elim (test y) as (λ b. cond b (Some y) (find test ys) ≡ Some x → tally p (cond b ys (y ∷ less test ys)) + one (p x) ≡ one (p y) + tally p ys) [
      | true ↦ λ found. let same : y ≡ x = cc in let e = ap (λ z. one (p z)) same in omega (arith, e)
      | false ↦ λ found. let rest = tally-less p test ys x found in omega (arith, rest)
    ] e

pub length-less : {A : Type 0} (test : A → Bool) (xs : List A) (x : A) → find test xs ≡ Some x → length (less test xs) + 1 ≡ length xs
length-less test [] x e = absurd (cc)
length-less test (y ∷ ys) x e =
    elim (test y) as (λ b. cond b (Some y) (find test ys) ≡ Some x → length (cond b ys (y ∷ less test ys)) + 1 ≡ length (y ∷ ys)) [
      | true ↦ λ found. omega arith
      | false ↦ λ found. let rest = length-less test ys x found in omega (arith, rest)
    ] e

-- Spare places.

pub one_few : (b : Bool) → one b ≤ 1
one_few true = omega arith
one_few false = omega arith

pub spare_few : (short : Option Pid) (q : Pid) → spare short q ≤ 1
spare_few None q = omega arith
spare_few (Some p) q = one_few (not (q.0 == p.0))

pub spare_used : (p : Pid) → spare (Some p) p ≡ 0
spare_used p = let same : (p.0 == p.0) ≡ true = eq-eqb p.0 p.0 refl in ap (λ b. one (not b)) same

rooms_books : {R : Type 0} (xs : List (Proc R)) (i : ℕ) → slice_index_or (map room_of xs) i no_room ≡ (slice_index_or (map books_of xs) i no_books).room
rooms_books [] i = refl
rooms_books (x ∷ xs) zero = refl
rooms_books (x ∷ xs) (suc i) = rooms_books xs i

pub room_books : {R : Type 0} (c : Inside R) (q : Pid) → IsProcess (state c) q → room_at (kernel c) q ≡ (books_at (books c) q).room
room_books c q made =
    get_or_append_left (map room_of c.procs.items) (newcomers c) no_room (q.0 - 1) (omega (arith, stands c q made, length-map c.procs.items room_of)) ∙ rooms_books c.procs.items (q.0 - 1)

-- Amounts.

-- One process.

-- its queued ASTs and its timers, as they are charged and promised
pub record Counts (s : State) (p : Pid) (asts : List Queued) (ts : List Timer) (used : Need) : Type 0 where
  pub ast : used.ast ≡ tally (bears_ast p) s.requests + (tally (is_attention_of p) s.attention + (tally (charged_timer p) ts + tally is_charged asts))
  pub tqe : used.tqe ≡ tally (is_timer_of p) ts
  pub bio : used.bio ≡ (charge s p).bio
  pub dio : used.dio ≡ (charge s p).dio
  pub byt : used.byt ≡ (charge s p).byt

pub counts_of : (s : State) (before : Option Pid) (p : Pid) (b : Books) → IsBooked s before p b → Counts s p (process_at s p).asts s.timers b.account.used
counts_of s before p b h = record {
  ast = ap (λ (n : Need). n.ast) h.used;
  tqe = ap (λ (n : Need). n.tqe) h.used;
  bio = ap (λ (n : Need). n.bio) h.used;
  dio = ap (λ (n : Need). n.dio) h.used;
  byt = ap (λ (n : Need). n.byt) h.used;
}

-- the process that is changed
pub here_by : (s : State) (after : Option Pid) (p : Pid) (pr : Process) (ts : List Timer) (b c : Books) → IsProcess s p → b.account.limits ≡ limits_of s p → pr.decl ≡ (process_at s p).decl → length pr.frames + spare after p ≤ c.room.frames → length pr.asts + (tally (bears_ast p) s.requests + (tally (is_attention_of p) s.attention + tally (charged_timer p) ts)) + spare after p ≤ c.room.asts → c.account.limits ≡ b.account.limits → Counts s p pr.asts ts c.account.used → IsBooked (record s { procs = slice_set s.procs (p.0 - 1) pr; timers = ts }) after p c
here_by s after p pr ts b c made has decl frames asts limits counts =
    let t : State = record s { procs = slice_set s.procs (p.0 - 1) pr; timers = ts } in
    let at = put_there s p pr ts made in
    let queued : (process_at t p).asts ≡ pr.asts = ap (λ (x : Process). x.asts) at in
    record {
      frames = omega (arith, frames, ap (λ (x : Process). length x.frames) at);
      asts = omega (arith, asts, ap (λ (xs : List Queued). length xs) queued);
      used = need_is c.account.used (charge t p)
          (counts.ast ∙ ap (λ (xs : List Queued). tally (bears_ast p) s.requests + (tally (is_attention_of p) s.attention + (tally (charged_timer p) ts + tally is_charged xs))) (sym queued))
          counts.bio counts.dio counts.byt counts.tqe;
      limits = limits ∙ (has ∙ ap (λ (n : ℕ). (slice_index_or s.system.decls n no_decl).limits) (sym (ap (λ (x : Process). x.decl) at ∙ decl)));
    }

-- any other, as timers come and go
pub others_by : (s : State) (before after : Option Pid) (ts : List Timer) (q : Pid) (b : Books) → IsBooked s before q b → length (process_at s q).frames + spare after q ≤ b.room.frames → owed s q + spare after q ≤ b.room.asts → tally (charged_timer q) ts ≡ tally (charged_timer q) s.timers → tally (is_timer_of q) ts ≡ tally (is_timer_of q) s.timers → IsBooked (record s { timers = ts }) after q b
others_by s before after ts q b h frames asts same none =
    let counts = counts_of s before q b h in
    record {
      frames = frames;
      asts = omega (arith, asts, same);
      used = need_is b.account.used (charge (record s { timers = ts }) q) (omega (arith, counts.ast, same)) counts.bio counts.dio counts.byt (counts.tqe ∙ sym none);
      limits = h.limits;
    }

-- the others have their spares still, if p alone has used its own
pub spared : {R : Type 0} (c : Inside R) (after : Option Pid) (q : Pid) → HasSpares (kernel c) → IsProcess (state c) q → (length (process_at (state c) q).frames + spare after q ≤ (books_at (books c) q).room.frames) × (owed (state c) q + spare after q ≤ (books_at (books c) q).room.asts)
spared c after q spares made =
    let has = spares q made in
    let few = spare_few after q in
    (omega (arith, has.frame, few, ap (λ (r : Room). r.frames) (room_books c q made)), omega (arith, has.ast, few, ap (λ (r : Room). r.asts) (room_books c q made)))

-- a timer of p is none of another's
pub apart : (p q : Pid) (b : Bool) → q.0 ≢ p.0 → (is_same p q && b) ≡ false
apart p q b other =
    let e : (p.0 == q.0) ≡ false = false_from_ne_true (p.0 == q.0) (λ same. other (sym (eqb-true p.0 q.0 same))) in
    ap (λ x. x && b) e

-- and an attention entry of p

pub attention_own : (p : Pid) (a : Attention) → a.p ≡ p → is_attention_of p a ≡ true
attention_own p a own = ap (λ (x : Pid). is_same x p) own ∙ eq-eqb p.0 p.0 refl

pub attention_apart : (p q : Pid) (a : Attention) → a.p ≡ p → q.0 ≢ p.0 → is_attention_of q a ≡ false
attention_apart p q a own other = false_from_ne_true (is_attention_of q a) (λ same. other (sym (eqb-true a.p.0 q.0 same) ∙ ap (λ (x : Pid). x.0) own))

-- any other, as attention entries come and go
pub others_called : (s : State) (before after : Option Pid) (es : List Attention) (q : Pid) (b : Books) → IsBooked s before q b → length (process_at s q).frames + spare after q ≤ b.room.frames → owed s q + spare after q ≤ b.room.asts → tally (is_attention_of q) es ≡ tally (is_attention_of q) s.attention → IsBooked (record s { attention = es }) after q b
others_called s before after es q b h frames asts same =
    let counts = counts_of s before q b h in
    record {
      frames = frames;
      asts = omega (arith, asts, same);
      used = need_is b.account.used (charge (record s { attention = es }) q) (omega (arith, counts.ast, same)) counts.bio counts.dio counts.byt counts.tqe;
      limits = h.limits;
    }
