-- A process is created: the value after it, and what is held stays held.
use Rattle.std.proofs.Common.{◌≡◌, ◌≢◌, ℕ, ◌+◌, ◌-◌, ◌<◌, length, length-append, List, [], ◌∷◌, ◌++◌, Bool, true, false, cond, nat_lt, map, slice_index_or, Option, Some, None, option_to_list, inl, inr, vec_len, vec_capacity, arith, refl, sym, ap, subst, ◌∙◌}
use Rattle.std.specs.List.{AllByRecursion}
use Rattle.std.proofs.lemmas.Bool.{cases_eq}
use Rattle.std.proofs.lemmas.List.{append-nil, get_or_append_left, length-map, map-append}
use Rattle.std.proofs.Math.Seq.{get_or-append_seam}
use Rattle.vx_base.specs.Flags.{one}
use Rattle.vx_base.specs.Lists.{tally}
use Rattle.vx_record.specs.Types.{Alarm, Attention, Need, Pid, Queued, Request, Timer}
use Rattle.vx_base.specs.Pieces.{OfTimer, OfWake}
use Rattle.vx_base.specs.Quotas.{no_need}
use Rattle.vx_record.specs.State.{Process, State, IsProcess, process_at, nobody, no_decl, pid}
use Rattle.vx_record.specs.Charges.{charge, charged_timer, is_attention_of, is_charged, is_timer, is_timer_of, takes_ast}
use Rattle.vx_record.specs.Control.{created}
use Rattle.vx_record.proofs.Lists.{all_weaker, either}
use Rattle.vx_record.proofs.Ground.{some_weaker}
use Rattle.vx_quota.specs.Account.{Quotas}
use Rattle.vx_procs.specs.Fresh.{IsFresh}
use Rattle.vx_procs.specs.Held.{AreHeld, Books, IsBooked, IsOwn, IsTargetMade, books_at, no_books}
use Rattle.vx_procs.specs.Kernel.{Kernel, Room, with_state}
use Rattle.vx_procs.specs.Ready.{HasNewcomer}
use Rattle.vx_procs.specs.Requests.{IsOwnRequest}
use Rattle.vx_procs.specs.Units.{Ending}
use Rattle.vx_procs.specs.View.{process, state, kernel, ends, newcomers, books, books_of, room_of, IsHeld}
use Rattle.vx_procs.specs.Words.{with_created}
use Rattle.vx_procs.specs.declared.procs.Core.TheInside.{Inside}
use Rattle.vx_procs.specs.declared.process.Proc.{Proc}
use Rattle.vx_procs.proofs.Booked.{apart, attention_apart, spare_few}
use Rattle.vx_procs.proofs.Changed.{booked_quiet}
use Rattle.vx_procs.proofs.Bills.{HasNone, other_charge}
use Rattle.vx_base.proofs.Needs.{need_is}

-- The spare process.

place_by : {R : Type 0} (xs : List (Proc R)) (ys : List Room) (b : Bool) → length (map process xs) < length (map room_of xs ++ cond b ys []) → b ≡ true
place_by xs ys true h = refl
place_by xs ys false h = absurd (omega (arith, h, length-append (map room_of xs) [], length-map xs room_of, length-map xs process))

-- there is a place for it
pub newcomer_place : {R : Type 0} (c : Inside R) (k : Kernel) → kernel c ≡ k → HasNewcomer k → nat_lt (vec_len c.procs) (vec_capacity c.procs) ≡ true
newcomer_place c k view has = place_by c.procs.items (option_to_list c.spare) (nat_lt (vec_len c.procs) (vec_capacity c.procs)) (subst (λ (x : Kernel). HasNewcomer x) (sym view) has)

newcomer_here : {R : Type 0} (c : Inside R) (x : Room) → nat_lt (vec_len c.procs) (vec_capacity c.procs) ≡ true → c.spare ≡ Some x → newcomers c ≡ x ∷ []
newcomer_here c x place is = ap (λ (b : Bool). cond b (option_to_list c.spare) []) place ∙ ap option_to_list is

newcomer_gone : {R : Type 0} (c : Inside R) → c.spare ≡ None → newcomers c ≡ []
newcomer_gone c gone = either (λ (rs : List Room). rs ≡ []) (nat_lt (vec_len c.procs) (vec_capacity c.procs)) (option_to_list c.spare) [] (ap option_to_list gone) refl

-- The value.

pub created_as : {R : Type 0} (c d : Inside R) (k : Kernel) (p : Pid) (place : ℕ) (r : Proc R) (x : Room) → kernel c ≡ k → HasNewcomer k → c.spare ≡ Some x → d.procs.items ≡ c.procs.items ++ r ∷ [] → d.spare ≡ None → process r ≡ created k.state p place → room_of r ≡ x → kernel (record c { procs = d.procs; spare = d.spare }) ≡ with_state k (with_created k.state p place)
created_as c d k p place r x view has found items gone is room =
    let s = state c in
    let new = created k.state p place in
    let procs : map process d.procs.items ≡ s.procs ++ new ∷ [] = ap (map process) items ∙ (map-append process c.procs.items (r ∷ []) ∙ ap (λ (pr : Process). s.procs ++ pr ∷ []) is) in
    let here : newcomers c ≡ room_of r ∷ [] = newcomer_here c x (newcomer_place c k view has) found ∙ ap (λ (y : Room). y ∷ []) (sym room) in
    let after : Inside _ = record c { procs = d.procs; spare = d.spare } in
    let rooms : map room_of d.procs.items ++ newcomers after ≡ map room_of c.procs.items ++ newcomers c =
    ap (λ (rs : List Room). map room_of d.procs.items ++ rs) (newcomer_gone after gone)
    ∙ (append-nil (map room_of d.procs.items) ∙ (ap (map room_of) items ∙ (map-append room_of c.procs.items (r ∷ []) ∙ ap (λ (rs : List Room). map room_of c.procs.items ++ rs) (sym here)))) in
    ap (λ (ps : List Process). let y : Kernel = record (kernel c) { state = record s { procs = ps }; rooms = map room_of d.procs.items ++ newcomers after } in y) procs
    ∙ (ap (λ (rs : List Room). let y : Kernel = record (kernel c) { state = record s { procs = s.procs ++ new ∷ [] }; rooms = rs } in y) rooms
    ∙ ap (λ (y : Kernel). with_state y (record y.state { procs = y.state.procs ++ new ∷ [] })) view)

-- What is held.

-- no timer is of a process that is not made
none_own : (s : State) (q : Pid) (ts : List Timer) → length s.procs < q.0 → AllByRecursion (IsOwn s) ts → (tally (charged_timer q) ts ≡ 0) × (tally (is_timer_of q) ts ≡ 0)
none_own s q [] above h = (refl, refl)
none_own s q (t ∷ ts) above h =
    let rest = none_own s q ts above h.1 in
    let other : q.0 ≢ t.p.0 = λ e. omega (arith, above, h.0.made.within, e) in
    (omega (arith, rest.0, ap one (apart t.p q (takes_ast t.what) other)), omega (arith, rest.1, ap one (apart t.p q (is_timer t.what) other)))

-- and no request
none_asked : (s : State) (q : Pid) (rs : List Request) → length s.procs < q.0 → AllByRecursion (λ r. IsOwnRequest s r.req) rs → HasNone s q rs
none_asked s q [] above h = record { ast = refl; bio = refl; dio = refl; byt = refl }
none_asked s q (r ∷ rs) above h =
    let rest = none_asked s q rs above h.1 in
    let other = other_charge s q r (λ e. omega (arith, above, h.0.made.within, e)) in
    record {
      ast = omega (arith, rest.ast, ap (λ (n : Need). n.ast) other);
      bio = omega (arith, rest.bio, ap (λ (n : Need). n.bio) other);
      dio = omega (arith, rest.dio, ap (λ (n : Need). n.dio) other);
      byt = omega (arith, rest.byt, ap (λ (n : Need). n.byt) other);
    }

-- and no attention entry
none_attended : (s : State) (q : Pid) (es : List Attention) → length s.procs < q.0 → AllByRecursion (λ a. IsProcess s a.p) es → tally (is_attention_of q) es ≡ 0
none_attended s q [] above h = refl
none_attended s q (a ∷ es) above h =
    let rest = none_attended s q es above h.1 in
    let none = attention_apart a.p q a refl (λ e. omega (arith, above, h.0.within, e)) in
    omega (arith, rest, ap one none)

grown : (s : State) (pr : Process) (q : Pid) → IsProcess s q → IsProcess (record s { procs = s.procs ++ pr ∷ [] }) q
grown s pr q m = record { above = m.above; within = omega (arith, m.within, length-append s.procs (pr ∷ [])) }

target_grown : (s : State) (pr : Process) (a : Alarm) → IsTargetMade (length s.procs) a → IsTargetMade (length (s.procs ++ pr ∷ [])) a
target_grown s pr (OfTimer efn reqid mode tag) made = tt
target_grown s pr (OfWake target repeat) made = grown s pr target made

last_at : {A : Type 0} (xs : List A) (y d : A) → slice_index_or (xs ++ y ∷ []) (length xs + 1 - 1) d ≡ y
last_at xs y d = let e : length xs + 1 - 1 ≡ length xs = omega arith in ap (λ (n : ℕ). slice_index_or (xs ++ y ∷ []) n d) e ∙ get_or-append_seam xs y [] d

-- one process more, with its books
held_with : (s : State) (bs : List Books) (ls : List (Option Ending)) (short : Option Pid) (pr : Process) (b : Books) → AreHeld s short bs ls → length bs ≡ length s.procs → IsBooked (record s { procs = s.procs ++ pr ∷ [] }) short (pid (length s.procs + 1)) b → AreHeld (record s { procs = s.procs ++ pr ∷ [] }) short (bs ++ b ∷ []) ls
held_with s bs ls short pr b h same new =
    let t : State = record s { procs = s.procs ++ pr ∷ [] } in
    record {
      booked = λ q m. elim (cases_eq q.0 (length s.procs + 1)) [
        | inl last ↦
            let is : q ≡ pid (length s.procs + 1) = ap pid last in
            let at : books_at (bs ++ b ∷ []) (pid (length bs + 1)) ≡ b = last_at bs b no_books in
            let its : books_at (bs ++ b ∷ []) (pid (length s.procs + 1)) ≡ b = ap (λ (n : ℕ). books_at (bs ++ b ∷ []) (pid (n + 1))) (sym same) ∙ at in
            rw is (subst (λ (x : Books). IsBooked t short (pid (length s.procs + 1)) x) (sym its) new)
        | inr other ↦
            let was : IsProcess s q = record { above = m.above; within = omega (arith, m.within, length-append s.procs (pr ∷ []), other) } in
            let its : books_at (bs ++ b ∷ []) q ≡ books_at bs q = get_or_append_left bs (b ∷ []) no_books (q.0 - 1) (omega (arith, was.above, was.within, same)) in
            let at : process_at t q ≡ process_at s q = get_or_append_left s.procs (pr ∷ []) nobody (q.0 - 1) (omega (arith, was.above, was.within)) in
            subst (λ (x : Books). IsBooked t short q x) (sym its)
            (booked_quiet s (s.procs ++ pr ∷ []) short q (books_at bs q) (record { decl = ap (λ (x : Process). x.decl) at; asts = ap (λ (x : Process). x.asts) at; frames = omega (arith, ap (λ (x : Process). length x.frames) at) }) (h.booked q was))
      ];
      timers = all_weaker (IsOwn s) (IsOwn t) (λ x own. record { made = grown s pr x.p own.made; target = target_grown s pr x.what own.target; ahead = own.ahead; soon = own.soon }) s.timers h.timers;
      requests = all_weaker (λ r. IsOwnRequest s r.req) (λ r. IsOwnRequest t r.req) (λ r own. record { made = grown s pr r.req.p own.made; transfer = own.transfer; device = own.device; iosb = own.iosb; buf = own.buf }) s.requests h.requests;
      attention = all_weaker (λ a. IsProcess s a.p) (λ a. IsProcess t a.p) (λ a m. grown s pr a.p m) s.attention h.attention;
      served = h.served;
      marked = some_weaker (IsProcess s) (IsProcess t) (λ q m. grown s pr q m) short h.marked;
    }

-- a process before its first statement
fresh_booked : {R : Type 0} (c : Inside R) (r : Proc R) → IsHeld c → IsFresh c.system.decls r → IsBooked (record (state c) { procs = (state c).procs ++ process r ∷ [] }) c.short (pid (length (state c).procs + 1)) (books_of r)
fresh_booked c r h fresh =
    let s = state c in
    let q = pid (length s.procs + 1) in
    let t : State = record s { procs = s.procs ++ process r ∷ [] } in
    let at : process_at t q ≡ process r = last_at s.procs (process r) nobody in
    let queued : (process_at t q).asts ≡ [] = ap (λ (x : Process). x.asts) at ∙ fresh.none in
    let none = none_own s q c.timers.items (omega arith) h.timers in
    let idle = none_asked s q c.requests.items (omega arith) h.requests in
    let calm = none_attended s q c.attention.items (omega arith) h.attention in
    let few = spare_few c.short q in
    record {
      frames = omega (arith, fresh.frame, few, ap (λ (x : Process). length x.frames) at);
      asts = omega (arith, fresh.ast, few, none.0, idle.ast, calm, ap (λ (qs : List Queued). length qs) queued);
      used = ap (λ (a : Quotas). a.used) fresh.account ∙ need_is no_need (charge t q) (omega (arith, none.0, idle.ast, calm, ap (λ (qs : List Queued). tally is_charged qs) queued)) (sym idle.bio) (sym idle.dio) (sym idle.byt) (sym none.1);
      limits = ap (λ (a : Quotas). a.limits) fresh.account ∙ ap (λ (n : ℕ). (slice_index_or c.system.decls n no_decl).limits) (sym (ap (λ (x : Process). x.decl) at));
    }

pub held_created : {R : Type 0} (c d : Inside R) (r : Proc R) → d.procs.items ≡ c.procs.items ++ r ∷ [] → IsFresh c.system.decls r → IsHeld c → IsHeld (record c { procs = d.procs; spare = d.spare })
held_created c d r items fresh h =
    let s = state c in
    let procs : map process d.procs.items ≡ s.procs ++ process r ∷ [] = ap (map process) items ∙ map-append process c.procs.items (r ∷ []) in
    let kept : map books_of d.procs.items ≡ books c ++ books_of r ∷ [] = ap (map books_of) items ∙ map-append books_of c.procs.items (r ∷ []) in
    let held = held_with s (books c) (ends c) c.short (process r) (books_of r) h (length-map c.procs.items books_of ∙ sym (length-map c.procs.items process)) (fresh_booked c r h fresh) in
    subst (λ (ps : List Process). AreHeld (record s { procs = ps }) c.short (map books_of d.procs.items) (ends c)) (sym procs)
    (subst (λ (bs : List Books). AreHeld (record s { procs = s.procs ++ process r ∷ [] }) c.short bs (ends c)) (sym kept) held)

-- the same processes, with other room for them
pub held_same : {R : Type 0} (c d : Inside R) → d.procs.items ≡ c.procs.items → IsHeld c → IsHeld (record c { procs = d.procs; spare = d.spare })
held_same c d items h = subst (λ (xs : List (Proc _)). AreHeld (record (state c) { procs = map process xs }) c.short (map books_of xs) (ends c)) (sym items) h
