-- What is held stays held, as frames are entered, ASTs queued and taken out, and timers set, fired and dropped.
use Rattle.std.proofs.Common.{◌≡◌, ◌≢◌, ℕ, ◌+◌, ◌-◌, ◌<◌, ◌≤◌, length, length-append, List, [], ◌∷◌, ◌++◌, Bool, true, false, cond, not, ◌==◌, ◌&&◌, slice_index_or, Option, Some, None, IfSome, IsTrue, is_some, arith, refl, sym, ap, subst, ◌∙◌}
use Rattle.std.specs.List.{AllByRecursion, find}
use Rattle.std.specs.Vec.{with_item}
use Rattle.std.proofs.lemmas.Bool.Decides.{nat_tests}
use Rattle.std.proofs.lemmas.Bool.{eq-eqb, eqb-true, leb-true, false_from_ne_true, not-false}
use Rattle.vx_base.specs.Flags.{one}
use Rattle.vx_base.specs.Lists.{amend, less, tally}
use Rattle.vx_record.specs.Types.{Alarm, Frame, Id, Need, Pid, Queued, Timer}
use Rattle.vx_base.specs.Pieces.{OfTimer, OfWake}
use Rattle.vx_base.specs.Roomy.{Roomy, with_items}
use Rattle.vx_base.proofs.First.{less_none}
use Rattle.vx_base.specs.Quotas.{is_within, together}
use Rattle.vx_record.specs.Timers.{at_time, due_again, is_due}
use Rattle.vx_record.specs.State.{Process, State, IsProcess, process_at}
use Rattle.vx_record.specs.Asts.{charged_ast, with_frame, with_queued}
use Rattle.vx_record.specs.Charges.{ast_need, charge, charged_timer, exceeds, is_charged, is_same, is_timer, is_timer_of, takes_ast}
use Rattle.vx_record.proofs.Lists.{all_append, all_find, all_less, all_weaker, either_by}
use Rattle.vx_quota.specs.Account.{Quotas, charged, has_left, released}
use Rattle.vx_procs.specs.Counts.{CountsAsts, freed}
use Rattle.vx_procs.specs.Held.{Books, IsBooked, IsOwn, IsTargetMade, books_at, spare}
use Rattle.vx_procs.specs.Kernel.{IsWithinRoom, Kernel, Room, room_at}
use Rattle.vx_procs.specs.Ready.{HasSpares, IsMoment, promised}
use Rattle.vx_procs.specs.Words.{alarm_ast, alarm_need, deliverable_of, fired_need, have_own_ids, IsWoken, with_queued_if, without_started}
use Rattle.vx_procs.specs.Requests.{IsOwnRequest}
use Rattle.vx_timers.specs.Seen.{falls_of}
use Rattle.vx_procs.specs.View.{process, state, kernel, books, books_of, room_of, IsHeld}
use Rattle.vx_procs.specs.declared.procs.Core.TheInside.{Inside}
use Rattle.vx_procs.specs.declared.process.Proc.{Proc}
use Rattle.vx_procs.proofs.Booked.{Counts, apart, counts_of, here_by, others_by, one_few, room_books, spare_used, spared, tally-append, tally-less}
use Rattle.vx_procs.proofs.Changed.{held_set, made_in, seen, seen_books}
use Rattle.vx_procs.proofs.Own.{find_own}
use Rattle.vx_procs.proofs.Started.{started_found}
use Rattle.vx_record.proofs.OwnIds.{tally_amend}

-- the books of the process that the code reads
pub booked_here : {R : Type 0} (c : Inside R) (p : Pid) (r : Proc R) → IsHeld c → IsProcess (state c) p → r ≡ slice_index_or c.procs.items (p.0 - 1) r → IsBooked (state c) c.short p (books_of r)
booked_here c p r h made is = subst (λ (b : Books). IsBooked (state c) c.short p b) (sym (seen_books c p r made is)) (h.booked p made)

pub spares_in : {R : Type 0} (c : Inside R) (k : Kernel) → kernel c ≡ k → HasSpares k → HasSpares (kernel c)
spares_in c k view spares = subst (λ (x : Kernel). HasSpares x) (sym view) spares

-- there is a spare place of each kind for that process
pub spares_here : {R : Type 0} (c : Inside R) (p : Pid) (r : Proc R) → HasSpares (kernel c) → IsProcess (state c) p → r ≡ slice_index_or c.procs.items (p.0 - 1) r → (length (process r).frames + 1 ≤ (room_of r).frames) × (length (process r).asts + promised (state c) p + 1 ≤ (room_of r).asts)
spares_here c p r spares made is =
    let has = spares p made in
    let was = seen c p r made is in
    let rooms : room_at (kernel c) p ≡ room_of r = room_books c p made ∙ ap (λ (b : Books). b.room) (sym (seen_books c p r made is)) in
    (omega (arith, has.frame, ap (λ (x : Room). x.frames) rooms, ap (λ (x : Process). length x.frames) was), omega (arith, has.ast, ap (λ (x : Room). x.asts) rooms, ap (λ (x : Process). length x.asts) was))

-- what the process is charged, as the code sees it
pub counts_here : {R : Type 0} (c : Inside R) (p : Pid) (r : Proc R) → IsHeld c → IsProcess (state c) p → r ≡ slice_index_or c.procs.items (p.0 - 1) r → Counts (state c) p (process r).asts c.timers.items r.account.used
counts_here c p r h made is =
    subst (λ (x : Process). Counts (state c) p x.asts c.timers.items r.account.used) (sym (seen c p r made is)) (counts_of (state c) c.short p (books_of r) (booked_here c p r h made is))

-- each other process, if p alone used its spares
pub others_spared : {R : Type 0} (c : Inside R) (p : Pid) → HasSpares (kernel c) → (q : Pid) → IsProcess (state c) q → q.0 ≢ p.0 → IsBooked (state c) c.short q (books_at (books c) q) → IsBooked (state c) (Some p) q (books_at (books c) q)
others_spared c p spares q m other b = let kept = spared c (Some p) q spares m in others_by (state c) c.short (Some p) c.timers.items q (books_at (books c) q) b kept.0 kept.1 refl refl

pub held_framed : {R : Type 0} (f : Frame) (c : Inside R) (k : Kernel) (p : Pid) (r new : Proc R) → kernel c ≡ k → IsProcess k.state p → HasSpares k → r ≡ slice_index_or c.procs.items (p.0 - 1) r → process new ≡ with_frame f (process r) → books_of new ≡ books_of r → IsHeld c → IsHeld (record c { procs = with_item c.procs (p.0 - 1) new; short = Some p })
held_framed f c k p r new view is_made has is e same h =
    let made = made_in c k p view is_made in
    let spares = spares_in c k view has in
    let s = state c in
    let was = seen c p r made is in
    let spare_room = spares_here c p r spares made is in
    let queued : (process new).asts ≡ (process r).asts = ap (λ (x : Process). x.asts) e in
    let counts = counts_here c p r h made is in
    held_set c (Some p) p new c.timers.items h made
    (here_by s (Some p) p (process new) c.timers.items (books_of r) (books_of new) made (booked_here c p r h made is).limits
    (ap (λ (x : Process). x.decl) e ∙ ap (λ (x : Process). x.decl) was)
    (omega (arith, spare_room.0, spare_used p, ap (λ (x : Process). length x.frames) e, ap (λ (x : Books). x.room.frames) same))
    (omega (arith, spare_room.1, spare_used p, ap (λ (xs : List Queued). length xs) queued, ap (λ (x : Books). x.room.asts) same))
    (ap (λ (x : Books). x.account.limits) same)
    (subst (λ (n : Need). Counts s p (process new).asts c.timers.items n) (ap (λ (x : Books). x.account.used) (sym same)) (subst (λ (xs : List Queued). Counts s p xs c.timers.items r.account.used) (sym queued) counts)))
    (others_spared c p spares) h.timers made

-- Amounts that are charged and given back.

pub record IsPaid (before after : Need) (n : ℕ) : Type 0 where
  pub ast : after.ast ≡ before.ast + n
  pub tqe : after.tqe ≡ before.tqe
  pub bio : after.bio ≡ before.bio
  pub dio : after.dio ≡ before.dio
  pub byt : after.byt ≡ before.byt

pub charged_limits : (a : Quotas) (need : Need) → (charged a need).limits ≡ a.limits
charged_limits a need = elim (has_left a need) as (λ t. (cond t (record a { used = together a.used need }) a).limits ≡ a.limits) [ true ↦ refl | false ↦ refl ]

pub paid : (a : Quotas) (b : Bool) → (b ≡ true → has_left a (ast_need true) ≡ true) → IsPaid a.used (charged a (ast_need b)).used (one b)
paid a true h =
    let e : (charged a (ast_need true)).used ≡ together a.used (ast_need true) = ap (λ (t : Bool). (cond t (record a { used = together a.used (ast_need true) }) a).used) (h refl) in
    record {
      ast = ap (λ (n : Need). n.ast) e;
      tqe = omega (arith, ap (λ (n : Need). n.tqe) e);
      bio = omega (arith, ap (λ (n : Need). n.bio) e);
      dio = omega (arith, ap (λ (n : Need). n.dio) e);
      byt = omega (arith, ap (λ (n : Need). n.byt) e);
    }
paid a false h =
    elim (has_left a (ast_need false)) as (λ t. IsPaid a.used (cond t (record a { used = together a.used (ast_need false) }) a).used 0) [
      | true ↦ record { ast = refl; tqe = omega arith; bio = omega arith; dio = omega arith; byt = omega arith }
      | false ↦ record { ast = omega arith; tqe = refl; bio = refl; dio = refl; byt = refl }
    ]

-- what exceeds no limit is left
pub left_for : {R : Type 0} (c : Inside R) (k : Kernel) (p : Pid) (r : Proc R) (need : Need) → kernel c ≡ k → IsHeld c → IsProcess (state c) p → r ≡ slice_index_or c.procs.items (p.0 - 1) r → exceeds k.state p need ≡ false → has_left r.account need ≡ true
left_for c k p r need view h made is within =
    let b = booked_here c p r h made is in
    let here : exceeds (state c) p need ≡ false = ap (λ (x : Kernel). exceeds x.state p need) view ∙ within in
    ap (λ (n : Need). is_within (together n need) r.account.limits) b.used ∙ (ap (λ (n : Need). is_within (together (charge (state c) p) need) n) b.limits ∙ not-false _ here)

-- An AST is queued.

pub held_queued : {R : Type 0} (q : Queued) (c : Inside R) (k : Kernel) (p : Pid) (r new : Proc R) → kernel c ≡ k → IsProcess k.state p → HasSpares k → (q.charged ≡ true → exceeds k.state p (ast_need true) ≡ false) → r ≡ slice_index_or c.procs.items (p.0 - 1) r → process new ≡ with_queued q (process r) → room_of new ≡ room_of r → new.account ≡ charged r.account (ast_need q.charged) → IsHeld c → IsHeld (record c { procs = with_item c.procs (p.0 - 1) new; short = Some p })
held_queued q c k p r new view is_made has within is e room account h =
    let made = made_in c k p view is_made in
    let spares = spares_in c k view has in
    let s = state c in
    let was = seen c p r made is in
    let spare_room = spares_here c p r spares made is in
    let queued : (process new).asts ≡ (process r).asts ++ q ∷ [] = ap (λ (x : Process). x.asts) e in
    let counts = counts_here c p r h made is in
    let bill = paid r.account q.charged (λ is_charged. left_for c k p r (ast_need true) view h made is (within is_charged)) in
    let used : new.account.used ≡ (charged r.account (ast_need q.charged)).used = ap (λ (a : Quotas). a.used) account in
    let more : tally is_charged (process new).asts ≡ tally is_charged (process r).asts + (one q.charged + 0) = ap (λ (xs : List Queued). tally is_charged xs) queued ∙ tally-append is_charged (process r).asts (q ∷ []) in
    held_set c (Some p) p new c.timers.items h made
    (here_by s (Some p) p (process new) c.timers.items (books_of r) (books_of new) made (booked_here c p r h made is).limits
    (ap (λ (x : Process). x.decl) e ∙ ap (λ (x : Process). x.decl) was)
    (omega (arith, spare_room.0, spare_used p, ap (λ (x : Process). length x.frames) e, ap (λ (x : Room). x.frames) room))
    (omega (arith, spare_room.1, spare_used p, ap (λ (xs : List Queued). length xs) queued, length-append (process r).asts (q ∷ []), ap (λ (x : Room). x.asts) room))
    (ap (λ (a : Quotas). a.limits) account ∙ charged_limits r.account (ast_need q.charged))
    (record {
      ast = omega (arith, ap (λ (n : Need). n.ast) used, bill.ast, counts.ast, more);
      tqe = ap (λ (n : Need). n.tqe) used ∙ (bill.tqe ∙ counts.tqe);
      bio = ap (λ (n : Need). n.bio) used ∙ (bill.bio ∙ counts.bio);
      dio = ap (λ (n : Need). n.dio) used ∙ (bill.dio ∙ counts.dio);
      byt = ap (λ (n : Need). n.byt) used ∙ (bill.byt ∙ counts.byt);
    }))
    (others_spared c p spares) h.timers made

-- An AST is taken out.

abbrev pub one_of : {A : Type 0} → (A → Bool) → Option A → ℕ
one_of p None = 0
one_of p (Some x) = one (p x)

pub record IsOut {A : Type 0} (p : A → Bool) (o : Option A) (xs ys : List A) : Type 0 where
  pub few : length ys ≤ length xs
  pub counted : tally p ys + one_of p o ≡ tally p xs

pub out_less : {A : Type 0} (p test : A → Bool) (xs : List A) → IsOut p (find test xs) xs (less test xs)
out_less p test [] = record { few = omega arith; counted = refl }
out_less p test (x ∷ xs) =
    let rest = out_less p test xs in
    elim (test x) as (λ b. IsOut p (cond b (Some x) (find test xs)) (x ∷ xs) (cond b xs (x ∷ less test xs))) [
      | true ↦ record { few = omega arith; counted = omega arith }
      | false ↦ record { few = omega (arith, rest.few); counted = omega (arith, rest.counted) }
    ]

pub record IsFreed (before after : Quotas) (n : ℕ) : Type 0 where
  pub ast : after.used.ast + n ≡ before.used.ast
  pub tqe : after.used.tqe ≡ before.used.tqe
  pub bio : after.used.bio ≡ before.used.bio
  pub dio : after.used.dio ≡ before.used.dio
  pub byt : after.used.byt ≡ before.used.byt
  pub limits : after.limits ≡ before.limits

pub freed_one : (a : Quotas) (b : Bool) → one b ≤ a.used.ast → IsFreed a (released a (ast_need b)) (one b)
freed_one a true few = record { ast = omega arith; tqe = omega arith; bio = omega arith; dio = omega arith; byt = omega arith; limits = refl }
freed_one a false few = record { ast = omega arith; tqe = omega arith; bio = omega arith; dio = omega arith; byt = omega arith; limits = refl }

freed_by : (a : Quotas) (o : Option Queued) → one_of is_charged o ≤ a.used.ast → IsFreed a (freed o a) (one_of is_charged o)
freed_by a None few = record { ast = omega arith; tqe = refl; bio = refl; dio = refl; byt = refl; limits = refl }
freed_by a (Some q) few = freed_one a q.charged few

pub held_freed : {R : Type 0} (o : Option Queued) (c : Inside R) (k : Kernel) (p : Pid) (r new : Proc R) → kernel c ≡ k → IsProcess k.state p → r ≡ slice_index_or c.procs.items (p.0 - 1) r → (process new).decl ≡ (process r).decl → length (process new).frames ≤ length (process r).frames → IsOut is_charged o (process r).asts (process new).asts → room_of new ≡ room_of r → new.account ≡ freed o r.account → IsHeld c → IsHeld (record c { procs = with_item c.procs (p.0 - 1) new })
held_freed o c k p r new view is_made is decl frames out room account h =
    let made = made_in c k p view is_made in
    let s = state c in
    let was = seen c p r made is in
    let b = booked_here c p r h made is in
    let counts = counts_here c p r h made is in
    let back = freed_by r.account o (omega (arith, out.counted, counts.ast)) in
    let used : new.account.used ≡ (freed o r.account).used = ap (λ (a : Quotas). a.used) account in
    let owed_there : length (process_at s p).asts ≡ length (process r).asts = ap (λ (x : Process). length x.asts) (sym was) in
    held_set c c.short p new c.timers.items h made
    (here_by s c.short p (process new) c.timers.items (books_of r) (books_of new) made b.limits
    (decl ∙ ap (λ (x : Process). x.decl) was)
    (omega (arith, b.frames, frames, ap (λ (x : Process). length x.frames) was, ap (λ (x : Room). x.frames) room))
    (omega (arith, b.asts, out.few, owed_there, ap (λ (x : Room). x.asts) room))
    (ap (λ (a : Quotas). a.limits) account ∙ back.limits)
    (record {
      ast = omega (arith, ap (λ (n : Need). n.ast) used, back.ast, counts.ast, out.counted);
      tqe = ap (λ (n : Need). n.tqe) used ∙ (back.tqe ∙ counts.tqe);
      bio = ap (λ (n : Need). n.bio) used ∙ (back.bio ∙ counts.bio);
      dio = ap (λ (n : Need). n.dio) used ∙ (back.dio ∙ counts.dio);
      byt = ap (λ (n : Need). n.byt) used ∙ (back.byt ∙ counts.byt);
    }))
    (λ q m other bq. bq) h.timers h.marked

-- what is charged for queued ASTs is charged
pub counted_here : {R : Type 0} (c : Inside R) (k : Kernel) (p : Pid) (r : Proc R) → kernel c ≡ k → IsHeld c → IsProcess k.state p → r ≡ slice_index_or c.procs.items (p.0 - 1) r → CountsAsts r
counted_here c k p r view h is_made is = let counts = counts_here c p r h (made_in c k p view is_made) is in omega (arith, counts.ast)

pub within_by : (q : Queued) (u : Need) → one q.charged ≤ u.ast → IsTrue (is_within (ast_need q.charged) u)
within_by q u few = within_bool q.charged few
  where
    within_bool : (b : Bool) → one b ≤ u.ast → IsTrue (is_within (ast_need b) u)
    within_bool true h = grind (arith, nat_tests)
    within_bool false h = grind (arith, nat_tests)

-- the AST that may start, out of the queue

out_from : (pr : Process) (o : Option Queued) → deliverable_of pr ≡ o → IsTrue (have_own_ids pr.asts) → IsOut is_charged o pr.asts (without_started o pr).asts
out_from pr None e own = record { few = omega arith; counted = omega arith }
out_from pr (Some q) e own =
    let same : Queued → Bool = λ r. r.id.0 == q.id.0 in
    let found = started_found pr q e in
    subst (λ (o : Option Queued). IsOut is_charged o pr.asts (less same pr.asts)) (find_own (λ (r : Queued). r.id) _ pr.asts q own found.1) (out_less is_charged same pr.asts)

pub out_started : (pr : Process) → IsTrue (have_own_ids pr.asts) → IsOut is_charged (deliverable_of pr) pr.asts (without_started (deliverable_of pr) pr).asts
out_started pr own = out_from pr (deliverable_of pr) refl own

pub started_decl : (o : Option Queued) (pr : Process) → (without_started o pr).decl ≡ pr.decl
started_decl None pr = refl
started_decl (Some q) pr = refl

pub started_frames : (o : Option Queued) (pr : Process) → length (without_started o pr).frames ≤ length pr.frames
started_frames None pr = omega arith
started_frames (Some q) pr = omega arith

-- Timers.

charged_own : (p : Pid) (t : Timer) (a : Alarm) → t.p ≡ p → t.what ≡ a → charged_timer p t ≡ takes_ast a
charged_own p t a own what =
    let same : is_same t.p p ≡ true = ap (λ (x : Pid). is_same x p) own ∙ eq-eqb p.0 p.0 refl in
    ap (λ b. b && takes_ast t.what) same ∙ ap takes_ast what

timer_own : (p : Pid) (t : Timer) (a : Alarm) → t.p ≡ p → t.what ≡ a → is_timer_of p t ≡ is_timer a
timer_own p t a own what =
    let same : is_same t.p p ≡ true = ap (λ (x : Pid). is_same x p) own ∙ eq-eqb p.0 p.0 refl in
    ap (λ b. b && is_timer t.what) same ∙ ap is_timer what

charged_apart : (p q : Pid) (t : Timer) → t.p ≡ p → q.0 ≢ p.0 → charged_timer q t ≡ false
charged_apart p q t own other = apart t.p q (takes_ast t.what) (λ same. other (same ∙ ap (λ (x : Pid). x.0) own))

timer_apart : (p q : Pid) (t : Timer) → t.p ≡ p → q.0 ≢ p.0 → is_timer_of q t ≡ false
timer_apart p q t own other = apart t.p q (is_timer t.what) (λ same. other (same ∙ ap (λ (x : Pid). x.0) own))

-- how many ASTs an entry queues as it fires
abbrev pub fired_count : Alarm → ℕ
fired_count (OfTimer efn reqid mode tag) = one (is_some tag)
fired_count (OfWake target repeat) = 0

fired_asts : (id : Id) (a : Alarm) (pr : Process) → (tally is_charged (with_queued_if (alarm_ast id a) pr).asts ≡ tally is_charged pr.asts + fired_count a) × (length (with_queued_if (alarm_ast id a) pr).asts ≡ length pr.asts + fired_count a)
fired_asts id (OfTimer efn reqid mode None) pr = (omega arith, omega arith)
fired_asts id (OfTimer efn reqid mode (Some tag)) pr =
    let q = charged_ast id mode tag in
    (tally-append is_charged pr.asts (q ∷ []), length-append pr.asts (q ∷ []))
fired_asts id (OfWake target repeat) pr = (omega arith, omega arith)

-- What an entry is charged, and what is given back as it ends.

record IsBilled (a : Alarm) (n : Need) : Type 0 where
  ast : n.ast ≡ one (takes_ast a)
  tqe : n.tqe ≡ one (is_timer a)
  bio : n.bio ≡ 0
  dio : n.dio ≡ 0
  byt : n.byt ≡ 0

alarm_billed : (a : Alarm) → IsBilled a (alarm_need a)
alarm_billed (OfTimer efn reqid mode None) = record { ast = refl; tqe = refl; bio = refl; dio = refl; byt = refl }
alarm_billed (OfTimer efn reqid mode (Some tag)) = record { ast = refl; tqe = refl; bio = refl; dio = refl; byt = refl }
alarm_billed (OfWake target repeat) = record { ast = refl; tqe = refl; bio = refl; dio = refl; byt = refl }

record IsBackFor (a : Alarm) (n : Need) : Type 0 where
  ast : n.ast + fired_count a ≡ one (takes_ast a)
  tqe : n.tqe ≡ one (is_timer a)
  bio : n.bio ≡ 0
  dio : n.dio ≡ 0
  byt : n.byt ≡ 0

fired_back : (a : Alarm) → IsBackFor a (fired_need a)
fired_back (OfTimer efn reqid mode None) = record { ast = refl; tqe = refl; bio = refl; dio = refl; byt = refl }
fired_back (OfTimer efn reqid mode (Some tag)) = record { ast = refl; tqe = refl; bio = refl; dio = refl; byt = refl }
fired_back (OfWake target repeat) = record { ast = refl; tqe = refl; bio = refl; dio = refl; byt = refl }

within_need : (n u : Need) → n.ast ≤ u.ast → n.tqe ≤ u.tqe → n.bio ≡ 0 → n.dio ≡ 0 → n.byt ≡ 0 → IsTrue (is_within n u)
within_need n u ast tqe bio dio byt = grind (arith, nat_tests)

pub within_alarm : (a : Alarm) (u : Need) → one (takes_ast a) ≤ u.ast → one (is_timer a) ≤ u.tqe → IsTrue (is_within (alarm_need a) u)
within_alarm a u ast tqe = let bill = alarm_billed a in within_need (alarm_need a) u (omega (arith, bill.ast, ast)) (omega (arith, bill.tqe, tqe)) bill.bio bill.dio bill.byt

pub within_fired : (a : Alarm) (u : Need) → one (takes_ast a) ≤ u.ast → one (is_timer a) ≤ u.tqe → IsTrue (is_within (fired_need a) u)
within_fired a u ast tqe = let back = fired_back a in within_need (fired_need a) u (omega (arith, back.ast, ast)) (omega (arith, back.tqe, tqe)) back.bio back.dio back.byt

pub queued_decl : (o : Option Queued) (pr : Process) → (with_queued_if o pr).decl ≡ pr.decl
queued_decl None pr = refl
queued_decl (Some q) pr = refl

pub queued_frames : (o : Option Queued) (pr : Process) → (with_queued_if o pr).frames ≡ pr.frames
queued_frames None pr = refl
queued_frames (Some q) pr = refl

-- the timer that was found, and the list without it
pub own_timer : {R : Type 0} (test : Timer → Bool) (c : Inside R) (t : Timer) → IsHeld c → Some t ≡ find test c.timers.items → IsOwn (state c) t
own_timer test c t h found = all_find (IsOwn (state c)) test c.timers.items t h.timers (sym found)

-- a timer is out: its process has another AST or not, and has been given back so much
held_out : {R : Type 0} (test : Timer → Bool) (asts : ℕ) (c : Inside R) (p : Pid) (t : Timer) (r new : Proc R) (ts : Roomy Timer) → Some t ≡ find test c.timers.items → t.p ≡ p → ts ≡ with_items c.timers (less test c.timers.items) → r ≡ slice_index_or c.procs.items (p.0 - 1) r → (process new).decl ≡ (process r).decl → (process new).frames ≡ (process r).frames → tally is_charged (process new).asts ≡ tally is_charged (process r).asts + asts → length (process new).asts ≡ length (process r).asts + asts → asts ≤ one (takes_ast t.what) → room_of new ≡ room_of r → new.account.limits ≡ r.account.limits → new.account.used.ast + one (takes_ast t.what) ≡ r.account.used.ast + asts → new.account.used.tqe + one (is_timer t.what) ≡ r.account.used.tqe → new.account.used.bio ≡ r.account.used.bio → new.account.used.dio ≡ r.account.used.dio → new.account.used.byt ≡ r.account.used.byt → IsHeld c → IsHeld (record c { procs = with_item c.procs (p.0 - 1) new; timers = ts })
held_out test asts c p t r new ts found own left is decl frames more longer few room limits ast tqe bio dio byt h =
    let s = state c in
    let its = own_timer test c t h found in
    let made = subst (λ (x : Pid). IsProcess s x) own its.made in
    let was = seen c p r made is in
    let b = booked_here c p r h made is in
    let counts = counts_here c p r h made is in
    let items : ts.items ≡ less test c.timers.items = ap (λ (x : Roomy Timer). x.items) left in
    let charges : tally (charged_timer p) ts.items + one (takes_ast t.what) ≡ tally (charged_timer p) c.timers.items =
    ap (λ (xs : List Timer). tally (charged_timer p) xs + one (takes_ast t.what)) items ∙ (ap (λ b. tally (charged_timer p) (less test c.timers.items) + one b) (sym (charged_own p t t.what own refl)) ∙ tally-less (charged_timer p) test c.timers.items t (sym found)) in
    let timers : tally (is_timer_of p) ts.items + one (is_timer t.what) ≡ tally (is_timer_of p) c.timers.items =
    ap (λ (xs : List Timer). tally (is_timer_of p) xs + one (is_timer t.what)) items ∙ (ap (λ b. tally (is_timer_of p) (less test c.timers.items) + one b) (sym (timer_own p t t.what own refl)) ∙ tally-less (is_timer_of p) test c.timers.items t (sym found)) in
    let queued : length (process_at s p).asts ≡ length (process r).asts = ap (λ (x : Process). length x.asts) (sym was) in
    held_set c c.short p new ts.items h made
    (here_by s c.short p (process new) ts.items (books_of r) (books_of new) made b.limits
    (decl ∙ ap (λ (x : Process). x.decl) was)
    (omega (arith, b.frames, ap (λ (xs : List Frame). length xs) frames, ap (λ (x : Process). length x.frames) was, ap (λ (x : Room). x.frames) room))
    (omega (arith, b.asts, longer, few, charges, queued, ap (λ (x : Room). x.asts) room))
    limits
    (record {
      ast = omega (arith, ast, counts.ast, charges, more);
      tqe = omega (arith, tqe, counts.tqe, timers);
      bio = bio ∙ counts.bio;
      dio = dio ∙ counts.dio;
      byt = byt ∙ counts.byt;
    }))
    (λ q m other bq.
    let same : tally (charged_timer q) ts.items ≡ tally (charged_timer q) c.timers.items =
    let less_charged = tally-less (charged_timer q) test c.timers.items t (sym found) in
    let none : one (charged_timer q t) ≡ 0 = ap one (charged_apart p q t own other) in
    let there = ap (λ (xs : List Timer). tally (charged_timer q) xs) items in
    omega (arith, less_charged, none, there) in
    let none_of : tally (is_timer_of q) ts.items ≡ tally (is_timer_of q) c.timers.items =
    let less_timers = tally-less (is_timer_of q) test c.timers.items t (sym found) in
    let none : one (is_timer_of q t) ≡ 0 = ap one (timer_apart p q t own other) in
    let there = ap (λ (xs : List Timer). tally (is_timer_of q) xs) items in
    omega (arith, less_timers, none, there) in
    others_by s c.short c.short ts.items q (books_at (books c) q) bq bq.frames bq.asts same none_of)
    (subst (λ (xs : List Timer). AllByRecursion (IsOwn s) xs) (sym items) (all_less (IsOwn s) test c.timers.items h.timers)) h.marked

-- the entry is charged
pub charged_tqe : {R : Type 0} (test : Timer → Bool) (c : Inside R) (p : Pid) (t : Timer) (r : Proc R) → IsHeld c → Some t ≡ find test c.timers.items → t.p ≡ p → r ≡ slice_index_or c.procs.items (p.0 - 1) r → one (is_timer t.what) ≤ r.account.used.tqe
charged_tqe test c p t r h found own is =
    let its = own_timer test c t h found in
    let made = subst (λ (x : Pid). IsProcess (state c) x) own its.made in
    let counts = counts_here c p r h made is in
    let timers = tally-less (is_timer_of p) test c.timers.items t (sym found) in
    let same : one (is_timer_of p t) ≡ one (is_timer t.what) = ap one (timer_own p t t.what own refl) in
    omega (arith, counts.tqe, timers, same)

-- and its AST, if it has one
pub charged_one : {R : Type 0} (test : Timer → Bool) (c : Inside R) (p : Pid) (t : Timer) (r : Proc R) → IsHeld c → Some t ≡ find test c.timers.items → t.p ≡ p → r ≡ slice_index_or c.procs.items (p.0 - 1) r → one (takes_ast t.what) ≤ r.account.used.ast
charged_one test c p t r h found own is =
    let its = own_timer test c t h found in
    let made = subst (λ (x : Pid). IsProcess (state c) x) own its.made in
    let counts = counts_here c p r h made is in
    let charges = tally-less (charged_timer p) test c.timers.items t (sym found) in
    let same : one (charged_timer p t) ≡ one (takes_ast t.what) = ap one (charged_own p t t.what own refl) in
    omega (arith, counts.ast, charges, same)

pub held_fired : {R : Type 0} (test : Timer → Bool) (id : Id) (a : Alarm) (c : Inside R) (p : Pid) (t : Timer) (r new : Proc R) (ts : Roomy Timer) → Some t ≡ find test c.timers.items → p ≡ t.p → a ≡ t.what → ts ≡ with_items c.timers (less test c.timers.items) → r ≡ slice_index_or c.procs.items (p.0 - 1) r → process new ≡ with_queued_if (alarm_ast id a) (process r) → room_of new ≡ room_of r → new.account ≡ released r.account (fired_need a) → IsHeld c → IsHeld (record c { procs = with_item c.procs (p.0 - 1) new; timers = ts })
held_fired test id a c p t r new ts found own what left is e room account h =
    let asts = fired_asts id a (process r) in
    let o = alarm_ast id a in
    let back = fired_back a in
    let one_ast : one (takes_ast a) ≡ one (takes_ast t.what) = ap (λ (x : Alarm). one (takes_ast x)) what in
    let one_tqe : one (is_timer a) ≡ one (is_timer t.what) = ap (λ (x : Alarm). one (is_timer x)) what in
    let used = ap (λ (x : Quotas). x.used) account in
    let ready = charged_tqe test c p t r h found (sym own) is in
    let ready_ast = charged_one test c p t r h found (sym own) is in
    held_out test (fired_count a) c p t r new ts found (sym own) left is
    (ap (λ (x : Process). x.decl) e ∙ queued_decl o (process r)) (ap (λ (x : Process). x.frames) e ∙ queued_frames o (process r))
    (ap (λ (x : Process). tally is_charged x.asts) e ∙ asts.0) (ap (λ (x : Process). length x.asts) e ∙ asts.1) (omega (arith, one_ast, back.ast)) room
    (ap (λ (x : Quotas). x.limits) account)
    (omega (arith, ap (λ (n : Need). n.ast) used, one_ast, back.ast, ready_ast))
    (omega (arith, ap (λ (n : Need). n.tqe) used, one_tqe, back.tqe, ready))
    (omega (arith, ap (λ (n : Need). n.bio) used, back.bio)) (omega (arith, ap (λ (n : Need). n.dio) used, back.dio)) (omega (arith, ap (λ (n : Need). n.byt) used, back.byt)) h

-- the process that it wakes is there
pub woken : (n : ℕ) (a : Alarm) → IsTargetMade n a → IsWoken n (falls_of a)
woken n (OfTimer efn reqid mode tag) made = tt
woken n (OfWake target repeat) made = made

-- there is a place for that AST
pub place_free : {R : Type 0} (test : Timer → Bool) (c : Inside R) (p : Pid) (t : Timer) (r : Proc R) → IsHeld c → Some t ≡ find test c.timers.items → t.p ≡ p → r ≡ slice_index_or c.procs.items (p.0 - 1) r → length (process r).asts + one (takes_ast t.what) ≤ (room_of r).asts
place_free test c p t r h found own is =
    let its = own_timer test c t h found in
    let made = subst (λ (x : Pid). IsProcess (state c) x) own its.made in
    let b = booked_here c p r h made is in
    let was = seen c p r made is in
    let charges = tally-less (charged_timer p) test c.timers.items t (sym found) in
    let same : one (charged_timer p t) ≡ one (takes_ast t.what) = ap one (charged_own p t t.what own refl) in
    omega (arith, b.asts, charges, same, ap (λ (x : Process). length x.asts) was)

pub held_dropped : {R : Type 0} (test : Timer → Bool) (c : Inside R) (p : Pid) (t : Timer) (r new : Proc R) (ts : Roomy Timer) → Some t ≡ find test c.timers.items → p ≡ t.p → ts ≡ with_items c.timers (less test c.timers.items) → r ≡ slice_index_or c.procs.items (p.0 - 1) r → process new ≡ process r → room_of new ≡ room_of r → new.account ≡ released r.account (alarm_need t.what) → IsHeld c → IsHeld (record c { procs = with_item c.procs (p.0 - 1) new; timers = ts })
held_dropped test c p t r new ts found own left is e room account h =
    let used = ap (λ (x : Quotas). x.used) account in
    let ready = charged_tqe test c p t r h found (sym own) is in
    let ready_ast = charged_one test c p t r h found (sym own) is in
    let bill = alarm_billed t.what in
    held_out test 0 c p t r new ts found (sym own) left is
    (ap (λ (x : Process). x.decl) e) (ap (λ (x : Process). x.frames) e)
    (omega (arith, ap (λ (x : Process). tally is_charged x.asts) e)) (omega (arith, ap (λ (x : Process). length x.asts) e)) (omega arith) room
    (ap (λ (x : Quotas). x.limits) account)
    (omega (arith, ap (λ (n : Need). n.ast) used, bill.ast, ready_ast))
    (omega (arith, ap (λ (n : Need). n.tqe) used, bill.tqe, ready))
    (omega (arith, ap (λ (n : Need). n.bio) used, bill.bio)) (omega (arith, ap (λ (n : Need). n.dio) used, bill.dio)) (omega (arith, ap (λ (n : Need). n.byt) used, bill.byt)) h

-- if none is found, nothing is taken out
pub same_timers : {A : Type 0} (test : A → Bool) (before after : Roomy A) → None ≡ find test before.items → after ≡ with_items before (less test before.items) → after ≡ before
same_timers test before after none left = left ∙ ap (λ (xs : List _). with_items before xs) (less_none test before.items (sym none))

-- A timer is set.

pub held_timed : {R : Type 0} (t : Timer) (c : Inside R) (k : Kernel) (p : Pid) (r new : Proc R) (ts : Roomy Timer) → kernel c ≡ k → IsProcess k.state p → HasSpares k → t.p ≡ p → IsOwn k.state t → exceeds k.state p (alarm_need t.what) ≡ false → r ≡ slice_index_or c.procs.items (p.0 - 1) r → process new ≡ process r → room_of new ≡ room_of r → new.account ≡ charged r.account (alarm_need t.what) → ts ≡ with_items c.timers (c.timers.items ++ t ∷ []) → IsHeld c → IsHeld (record c { procs = with_item c.procs (p.0 - 1) new; timers = ts; short = Some p })
held_timed t c k p r new ts view is_made has own is_own within is e room account put h =
    let s = state c in
    let need = alarm_need t.what in
    let its : IsOwn s t = subst (λ (x : Kernel). IsOwn x.state t) (sym view) is_own in
    let made = made_in c k p view is_made in
    let spares = spares_in c k view has in
    let was = seen c p r made is in
    let spare_room = spares_here c p r spares made is in
    let counts = counts_here c p r h made is in
    let bill = alarm_billed t.what in
    let items : ts.items ≡ c.timers.items ++ t ∷ [] = ap (λ (x : Roomy Timer). x.items) put in
    let left = left_for c k p r need view h made is within in
    let paid_so : (charged r.account need).used ≡ together r.account.used need = ap (λ (b : Bool). (cond b (record r.account { used = together r.account.used need }) r.account).used) left in
    let used : new.account.used ≡ together r.account.used need = ap (λ (a : Quotas). a.used) account ∙ paid_so in
    let charges : tally (charged_timer p) ts.items ≡ tally (charged_timer p) c.timers.items + one (takes_ast t.what) =
    let more = tally-append (charged_timer p) c.timers.items (t ∷ []) in
    let there = ap (λ (xs : List Timer). tally (charged_timer p) xs) items in
    let same : one (charged_timer p t) ≡ one (takes_ast t.what) = ap one (charged_own p t t.what own refl) in
    omega (arith, more, there, same) in
    let timers : tally (is_timer_of p) ts.items ≡ tally (is_timer_of p) c.timers.items + one (is_timer t.what) =
    let more = tally-append (is_timer_of p) c.timers.items (t ∷ []) in
    let there = ap (λ (xs : List Timer). tally (is_timer_of p) xs) items in
    let same : one (is_timer_of p t) ≡ one (is_timer t.what) = ap one (timer_own p t t.what own refl) in
    omega (arith, more, there, same) in
    let few = one_few (takes_ast t.what) in
    held_set c (Some p) p new ts.items h made
    (here_by s (Some p) p (process new) ts.items (books_of r) (books_of new) made (booked_here c p r h made is).limits
    (ap (λ (x : Process). x.decl) e ∙ ap (λ (x : Process). x.decl) was)
    (omega (arith, spare_room.0, spare_used p, ap (λ (x : Process). length x.frames) e, ap (λ (x : Room). x.frames) room))
    (omega (arith, spare_room.1, spare_used p, ap (λ (x : Process). length x.asts) e, charges, few, ap (λ (x : Room). x.asts) room))
    (ap (λ (a : Quotas). a.limits) account ∙ charged_limits r.account need)
    (record {
      ast = omega (arith, ap (λ (n : Need). n.ast) used, bill.ast, counts.ast, charges, ap (λ (x : Process). tally is_charged x.asts) e);
      tqe = omega (arith, ap (λ (n : Need). n.tqe) used, bill.tqe, counts.tqe, timers);
      bio = omega (arith, ap (λ (n : Need). n.bio) used, bill.bio, counts.bio);
      dio = omega (arith, ap (λ (n : Need). n.dio) used, bill.dio, counts.dio);
      byt = omega (arith, ap (λ (n : Need). n.byt) used, bill.byt, counts.byt);
    }))
    (λ q m other bq.
    let kept = spared c (Some p) q spares m in
    let same : tally (charged_timer q) ts.items ≡ tally (charged_timer q) c.timers.items =
    let more = tally-append (charged_timer q) c.timers.items (t ∷ []) in
    let there = ap (λ (xs : List Timer). tally (charged_timer q) xs) items in
    let none : one (charged_timer q t) ≡ 0 = ap one (charged_apart p q t own other) in
    omega (arith, more, there, none) in
    let none_of : tally (is_timer_of q) ts.items ≡ tally (is_timer_of q) c.timers.items =
    let more = tally-append (is_timer_of q) c.timers.items (t ∷ []) in
    let there = ap (λ (xs : List Timer). tally (is_timer_of q) xs) items in
    let none : one (is_timer_of q t) ≡ 0 = ap one (timer_apart p q t own other) in
    omega (arith, more, there, none) in
    others_by s c.short (Some p) ts.items q (books_at (books c) q) bq kept.0 kept.1 same none_of)
    (subst (λ (xs : List Timer). AllByRecursion (IsOwn s) xs) (sym items) (all_append (IsOwn s) c.timers.items (t ∷ []) h.timers (its, tt))) made

-- An entry is put off.

own_again : (s : State) (now n : ℕ) (ys xs : List Timer) → now ≤ s.time → n < 4294967296 → AllByRecursion (IsOwn s) xs → AllByRecursion (IsOwn (record s { timers = ys })) (amend (is_due now) (due_again n) xs)
own_again s now n ys [] past few h = tt
own_again s now n ys (x ∷ xs) past few h =
    let t : State = record s { timers = ys } in
    let there : (u : Timer) → IsOwn s u → IsOwn t u = λ u o. record { made = o.made; target = o.target; ahead = o.ahead; soon = o.soon } in
    either_by (AllByRecursion (IsOwn t)) (is_due now x) (due_again n x ∷ xs) (x ∷ amend (is_due now) (due_again n) xs)
    (λ due. let by : x.due ≤ now = leb-true x.due now due in (record { made = h.0.made; target = h.0.target; ahead = omega (arith, h.0.ahead); soon = omega (arith, by, past, few) }, all_weaker (IsOwn s) (IsOwn t) there xs h.1))
    (λ _. (there x h.0, own_again s now n ys xs past few h.1))

pub held_later : {R : Type 0} (now n : ℕ) (c : Inside R) (ts : Roomy Timer) → ts ≡ with_items c.timers (amend (is_due now) (due_again n) c.timers.items) → now ≤ c.time → n < 4294967296 → IsHeld c → IsHeld (record c { timers = ts })
held_later now n c ts later past few h =
    let s = state c in
    let items : ts.items ≡ amend (is_due now) (due_again n) c.timers.items = ap (λ (x : Roomy Timer). x.items) later in
    record {
      booked = λ q m.
          let b = h.booked q m in
          others_by s c.short c.short ts.items q (books_at (books c) q) b b.frames b.asts
          (ap (λ (xs : List Timer). tally (charged_timer q) xs) items ∙ tally_amend (charged_timer q) (is_due now) (due_again n) (λ x. refl) c.timers.items)
          (ap (λ (xs : List Timer). tally (is_timer_of q) xs) items ∙ tally_amend (is_timer_of q) (is_due now) (due_again n) (λ x. refl) c.timers.items);
      timers = subst (λ (xs : List Timer). AllByRecursion (IsOwn (record s { timers = ts.items })) xs) (sym items) (own_again s now n ts.items c.timers.items past few h.timers);
      requests = all_weaker (λ r. IsOwnRequest s r.req) (λ r. IsOwnRequest (record s { timers = ts.items }) r.req) (λ r o. record { made = o.made; transfer = o.transfer; device = o.device; iosb = o.iosb; buf = o.buf }) c.requests.items h.requests;
      attention = h.attention;
      served = h.served;
      marked = h.marked;
    }

-- Time moves.

own_then : (s : State) (now : ℕ) (xs : List Timer) → s.time ≤ now → AllByRecursion (λ t. now ≤ t.due) xs → AllByRecursion (IsOwn s) xs → AllByRecursion (IsOwn (at_time s now)) xs
own_then s now [] forward ahead h = tt
own_then s now (x ∷ xs) forward ahead h = (record { made = h.0.made; target = h.0.target; ahead = ahead.0; soon = omega (arith, h.0.soon, forward) }, own_then s now xs forward ahead.1 h.1)

pub held_then : {R : Type 0} (now : ℕ) (c : Inside R) (k : Kernel) → kernel c ≡ k → IsMoment k.state now → IsHeld c → IsHeld (record c { time = now })
held_then now c k view moment h =
    let here : IsMoment (state c) now = subst (λ (x : Kernel). IsMoment x.state now) (sym view) moment in
    record {
      booked = λ q m. let b = h.booked q m in record { frames = b.frames; asts = b.asts; used = b.used; limits = b.limits };
      timers = own_then (state c) now c.timers.items here.forward here.ahead h.timers;
      requests = all_weaker (λ r. IsOwnRequest (state c) r.req) (λ r. IsOwnRequest (at_time (state c) now) r.req) (λ r o. record { made = o.made; transfer = o.transfer; device = o.device; iosb = o.iosb; buf = o.buf }) c.requests.items h.requests;
      attention = h.attention;
      served = h.served;
      marked = h.marked;
    }

-- Room is made.

pub spares_none : {R : Type 0} (c : Inside R) (k : Kernel) → kernel c ≡ k → c.short ≡ None → IsHeld c → HasSpares k
spares_none c k view none h =
    let here : HasSpares (kernel c) = λ q m.
    let b = subst (λ (o : Option Pid). IsBooked (state c) o q (books_at (books c) q)) none (h.booked q m) in
    record { frame = omega (arith, b.frames, ap (λ (x : Room). x.frames) (room_books c q m)); ast = omega (arith, b.asts, ap (λ (x : Room). x.asts) (room_books c q m)) } in
    subst (λ (x : Kernel). HasSpares x) view here

pub held_roomier : {R : Type 0} (c : Inside R) (p : Pid) (r new : Proc R) → IsProcess (state c) p → r ≡ slice_index_or c.procs.items (p.0 - 1) r → process new ≡ process r → new.account ≡ r.account → IsWithinRoom (room_of r) (room_of new) → IsHeld c → IsHeld (record c { procs = with_item c.procs (p.0 - 1) new })
held_roomier c p r new made is e account kept h =
    let s = state c in
    let was = seen c p r made is in
    let b = booked_here c p r h made is in
    let counts = counts_here c p r h made is in
    let queued : length (process_at s p).asts ≡ length (process r).asts = ap (λ (x : Process). length x.asts) (sym was) in
    held_set c c.short p new c.timers.items h made
    (here_by s c.short p (process new) c.timers.items (books_of r) (books_of new) made b.limits
    (ap (λ (x : Process). x.decl) e ∙ ap (λ (x : Process). x.decl) was)
    (omega (arith, b.frames, kept.frames, ap (λ (x : Process). length x.frames) e, ap (λ (x : Process). length x.frames) was))
    (omega (arith, b.asts, kept.asts, queued, ap (λ (x : Process). length x.asts) e))
    (ap (λ (a : Quotas). a.limits) account)
    (subst (λ (a : Quotas). Counts s p (process new).asts c.timers.items a.used) (sym account) (subst (λ (x : Process). Counts s p x.asts c.timers.items r.account.used) (sym e) counts)))
    (λ q m other bq. bq) h.timers h.marked

pub held_mended : {R : Type 0} (c : Inside R) (p : Pid) (r new : Proc R) → c.short ≡ Some p → r ≡ slice_index_or c.procs.items (p.0 - 1) r → process new ≡ process r → new.account ≡ r.account → length (process new).frames + 1 ≤ (room_of new).frames → length (process new).asts + (new.account.used.ast + 1) ≤ (room_of new).asts → IsHeld c → IsHeld (record c { procs = with_item c.procs (p.0 - 1) new; short = None })
held_mended c p r new short is e account frames asts h =
    let s = state c in
    let made : IsProcess s p = subst (λ (o : Option Pid). IfSome o (IsProcess s)) short h.marked in
    let was = seen c p r made is in
    let b = booked_here c p r h made is in
    let counts = counts_here c p r h made is in
    held_set c None p new c.timers.items h made
    (here_by s None p (process new) c.timers.items (books_of r) (books_of new) made b.limits
    (ap (λ (x : Process). x.decl) e ∙ ap (λ (x : Process). x.decl) was)
    frames
    (omega (arith, asts, counts.ast, ap (λ (a : Quotas). a.used.ast) account))
    (ap (λ (a : Quotas). a.limits) account)
    (subst (λ (a : Quotas). Counts s p (process new).asts c.timers.items a.used) (sym account) (subst (λ (x : Process). Counts s p x.asts c.timers.items r.account.used) (sym e) counts)))
    (λ q m other bq.
    let apart_so : (q.0 == p.0) ≡ false = false_from_ne_true (q.0 == p.0) (λ same. other (eqb-true q.0 p.0 same)) in
    let before : spare c.short q ≡ 1 = ap (λ (o : Option Pid). spare o q) short ∙ ap (λ b. one (not b)) apart_so in
    others_by s c.short None c.timers.items q (books_at (books c) q) bq (omega (arith, bq.frames, before)) (omega (arith, bq.asts, before)) refl refl)
    h.timers tt

-- Facts that the code asks.
