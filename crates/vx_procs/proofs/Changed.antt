-- One process changed in the code is that process changed in the value, and what is held stays held.
use Rattle.std.proofs.Common.{◌≡◌, ◌≢◌, ℕ, ◌+◌, ◌-◌, ◌<◌, ◌≤◌, length, List, ◌++◌, Bool, map, slice_index_or, slice_set, Option, IfSome, inl, inr, get_or-set_same, get_or-set_other, length-set, arith, sym, ap, subst, ◌∙◌}
use Rattle.std.specs.List.{AllByRecursion, find}
use Rattle.std.proofs.lemmas.Bool.{cases_eq}
use Rattle.std.proofs.lemmas.List.{map-set, get_or-map, length-map, set-get_or}
use Rattle.std.proofs.Math.Seq.{map-set_same}
use Rattle.std.specs.Vec.{with_item}
use Rattle.vx_base.specs.Roomy.{Roomy, with_items}
use Rattle.vx_record.specs.Types.{Attention, Pid, Queued, Request, Timer}
use Rattle.vx_base.specs.Lists.{tally}
use Rattle.vx_record.specs.State.{Process, State, IsProcess, process_at, change, nobody, no_decl}
use Rattle.vx_record.specs.Charges.{charge, bears_ast, is_attention_of, charged_timer, is_charged}
use Rattle.vx_record.proofs.Lists.{all_weaker}
use Rattle.vx_record.proofs.Ground.{some_weaker}
use Rattle.vx_procs.specs.Held.{AreHeld, AreServed, Books, IsBooked, IsOwn, IsTargetMade, books_at, no_books}
use Rattle.vx_procs.specs.Kernel.{Kernel, Room, changed, with_state}
use Rattle.vx_procs.specs.Requests.{IsOwnRequest}
use Rattle.vx_procs.specs.Units.{Ending}
use Rattle.vx_procs.specs.View.{process, state, kernel, ends, newcomers, books, room_of, books_of, IsHeld}
use Rattle.vx_procs.specs.declared.procs.Core.TheInside.{Inside}
use Rattle.vx_procs.specs.declared.process.Proc.{Proc}

-- p stands in the code's list
pub stands : {R : Type 0} (c : Inside R) (p : Pid) → IsProcess (state c) p → p.0 - 1 < length c.procs.items
stands c p made = omega (arith, length-map c.procs.items process)

-- the process that the code reads is the one of the state
pub seen : {R : Type 0} (c : Inside R) (p : Pid) (r : Proc R) → IsProcess (state c) p → r ≡ slice_index_or c.procs.items (p.0 - 1) r → process r ≡ process_at (state c) p
seen c p r made is = ap process is ∙ sym (get_or-map process c.procs.items (p.0 - 1) r nobody (stands c p made))

pub seen_books : {R : Type 0} (c : Inside R) (p : Pid) (r : Proc R) → IsProcess (state c) p → r ≡ slice_index_or c.procs.items (p.0 - 1) r → books_of r ≡ books_at (books c) p
seen_books c p r made is = ap books_of is ∙ sym (get_or-map books_of c.procs.items (p.0 - 1) r no_books (stands c p made))

pub made_in : {R : Type 0} (c : Inside R) (k : Kernel) (p : Pid) → kernel c ≡ k → IsProcess k.state p → IsProcess (state c) p
made_in c k p view made = subst (λ (x : Kernel). IsProcess x.state p) (sym view) made

-- the value after it

changed_here : {R : Type 0} (f : Process → Process) (c : Inside R) (p : Pid) (r new : Proc R) → IsProcess (state c) p → r ≡ slice_index_or c.procs.items (p.0 - 1) r → process new ≡ f (process r) → room_of new ≡ room_of r → kernel (record c { procs = with_item c.procs (p.0 - 1) new }) ≡ changed (kernel c) p f
changed_here f c p r new made is e room =
    let procs : map process (slice_set c.procs.items (p.0 - 1) new) ≡ (change (state c) p f).procs = map-set process c.procs.items (p.0 - 1) new ∙ ap (slice_set (map process c.procs.items) (p.0 - 1)) (e ∙ ap f (seen c p r made is)) in
    let rooms : map room_of (slice_set c.procs.items (p.0 - 1) new) ≡ map room_of c.procs.items = map-set_same room_of c.procs.items (p.0 - 1) new r (room ∙ ap room_of is) in
    ap (λ (ps : List Process). record (kernel c) { state = record (state c) { procs = ps }; rooms = map room_of (slice_set c.procs.items (p.0 - 1) new) ++ newcomers c }) procs
    ∙ ap (λ (rs : List Room). record (kernel c) { state = change (state c) p f; rooms = rs ++ newcomers c }) rooms

pub changed_as : {R : Type 0} (f : Process → Process) (c : Inside R) (k : Kernel) (p : Pid) (r new : Proc R) → kernel c ≡ k → IsProcess k.state p → r ≡ slice_index_or c.procs.items (p.0 - 1) r → process new ≡ f (process r) → books_of new ≡ books_of r → kernel (record c { procs = with_item c.procs (p.0 - 1) new }) ≡ changed k p f
changed_as f c k p r new view made is e same =
    changed_here f c p r new (made_in c k p view made) is e (ap (λ (b : Books). b.room) same) ∙ ap (λ (x : Kernel). changed x p f) view

pub changed_room : {R : Type 0} (f : Process → Process) (c : Inside R) (k : Kernel) (p : Pid) (r new : Proc R) → kernel c ≡ k → IsProcess k.state p → r ≡ slice_index_or c.procs.items (p.0 - 1) r → process new ≡ f (process r) → room_of new ≡ room_of r → kernel (record c { procs = with_item c.procs (p.0 - 1) new }) ≡ changed k p f
changed_room f c k p r new view made is e room = changed_here f c p r new (made_in c k p view made) is e room ∙ ap (λ (x : Kernel). changed x p f) view

-- What is held.

-- with nothing owed or charged that was not before, and in no more frames
pub record IsQuiet (x y : Process) : Type 0 where
  pub decl : y.decl ≡ x.decl
  pub asts : y.asts ≡ x.asts
  pub frames : length y.frames ≤ length x.frames

pub booked_quiet : (s : State) (ps : List Process) (short : Option Pid) (q : Pid) (b : Books) → IsQuiet (process_at s q) (process_at (record s { procs = ps }) q) → IsBooked s short q b → IsBooked (record s { procs = ps }) short q b
booked_quiet s ps short q b quiet h = record {
  frames = omega (arith, h.frames, quiet.frames);
  asts = omega (arith, h.asts, ap (λ (xs : List Queued). length xs) quiet.asts);
  used = h.used ∙ ap (λ (xs : List Queued). record (charge s q) { ast = tally (bears_ast q) s.requests + (tally (is_attention_of q) s.attention + (tally (charged_timer q) s.timers + tally is_charged xs)) }) (sym quiet.asts);
  limits = h.limits ∙ ap (λ (n : ℕ). (slice_index_or s.system.decls n no_decl).limits) (sym quiet.decl);
}

made_set : (s : State) (i : ℕ) (pr : Process) (ts : List Timer) (q : Pid) → IsProcess (record s { procs = slice_set s.procs i pr; timers = ts }) q → IsProcess s q
made_set s i pr ts q m = record { above = m.above; within = omega (arith, m.within, length-set s.procs i pr) }

own_set : (s : State) (i : ℕ) (pr : Process) (ts : List Timer) (rs : List Request) (es : List Attention) → AllByRecursion (IsOwn s) ts → AllByRecursion (IsOwn (record s { procs = slice_set s.procs i pr; timers = ts; requests = rs; attention = es })) ts
own_set s i pr ts rs es h =
    all_weaker (IsOwn s) (IsOwn (record s { procs = slice_set s.procs i pr; timers = ts; requests = rs; attention = es })) (λ t o. record {
      made = record { above = o.made.above; within = omega (arith, o.made.within, length-set s.procs i pr) };
      target = subst (λ n. IsTargetMade n t.what) (sym (length-set s.procs i pr)) o.target;
      ahead = o.ahead;
      soon = o.soon;
    }) ts h

own_requests : (s : State) (i : ℕ) (pr : Process) (ts : List Timer) (rs : List Request) (es : List Attention) → AllByRecursion (λ r. IsOwnRequest s r.req) rs → AllByRecursion (λ r. IsOwnRequest (record s { procs = slice_set s.procs i pr; timers = ts; requests = rs; attention = es }) r.req) rs
own_requests s i pr ts rs es h =
    all_weaker (λ r. IsOwnRequest s r.req) (λ r. IsOwnRequest (record s { procs = slice_set s.procs i pr; timers = ts; requests = rs; attention = es }) r.req) (λ r o. record {
      made = record { above = o.made.above; within = omega (arith, o.made.within, length-set s.procs i pr) };
      transfer = o.transfer;
      device = o.device;
      iosb = o.iosb;
      buf = o.buf;
    }) rs h

-- one process changed, with its books, and the timers, the requests and the attention entries: each other process is booked
pub held_by : (s : State) (bs : List Books) (after : Option Pid) (p : Pid) (pr : Process) (b : Books) (ts : List Timer) (rs : List Request) (es : List Attention) (ls : List (Option Ending)) → IsProcess s p → p.0 - 1 < length bs → IsBooked (record s { procs = slice_set s.procs (p.0 - 1) pr; timers = ts; requests = rs; attention = es }) after p b → ((q : Pid) → IsProcess s q → q.0 ≢ p.0 → IsBooked (record s { timers = ts; requests = rs; attention = es }) after q (books_at bs q)) → AllByRecursion (IsOwn s) ts → AllByRecursion (λ r. IsOwnRequest s r.req) rs → AllByRecursion (λ a. IsProcess s a.p) es → AreServed rs ls → IfSome after (IsProcess s) → AreHeld (record s { procs = slice_set s.procs (p.0 - 1) pr; timers = ts; requests = rs; attention = es }) after (slice_set bs (p.0 - 1) b) ls
held_by s bs after p pr b ts rs es ls made within here others own asked called served short =
    let i = p.0 - 1 in
    let t : State = record s { procs = slice_set s.procs i pr; timers = ts; requests = rs; attention = es } in
    record {
      booked = λ q m. elim (cases_eq q.0 p.0) [
        | inl same ↦
            let is : q ≡ p = ap (λ (n : ℕ). let x : Pid = record { 0 = n } in x) same in
            let its : books_at (slice_set bs i b) p ≡ b = get_or-set_same bs i b no_books within in
            rw is (subst (λ (x : Books). IsBooked t after p x) (sym its) here)
        | inr other ↦
            let was = made_set s i pr ts q m in
            let apart : q.0 - 1 ≢ i = λ e. other (omega (arith, was.above, made.above)) in
            let its : books_at (slice_set bs i b) q ≡ books_at bs q = get_or-set_other bs i (q.0 - 1) b no_books apart in
            let at : process_at t q ≡ process_at s q = get_or-set_other s.procs i (q.0 - 1) pr nobody apart in
            let u : State = record s { timers = ts; requests = rs; attention = es } in
            subst (λ (x : Books). IsBooked t after q x) (sym its)
            (booked_quiet u (slice_set s.procs i pr) after q (books_at bs q) (record { decl = ap (λ (x : Process). x.decl) at; asts = ap (λ (x : Process). x.asts) at; frames = omega (arith, ap (λ (x : Process). length x.frames) at) }) (others q was other))
      ];
      timers = own_set s i pr ts rs es own;
      requests = own_requests s i pr ts rs es asked;
      attention = all_weaker (λ a. IsProcess s a.p) (λ a. IsProcess t a.p) (λ a m. record { above = m.above; within = omega (arith, m.within, length-set s.procs i pr) }) es called;
      served = served;
      marked = some_weaker (IsProcess s) (IsProcess t) (λ q m. record { above = m.above; within = omega (arith, m.within, length-set s.procs i pr) }) after short;
    }

-- the same of the code
pub held_there : {R : Type 0} (c : Inside R) (after : Option Pid) (p : Pid) (new : Proc R) (ts : List Timer) (rs : List Request) (es : List Attention) (ls : List (Option Ending)) → IsProcess (state c) p → IsBooked (record (state c) { procs = slice_set (state c).procs (p.0 - 1) (process new); timers = ts; requests = rs; attention = es }) after p (books_of new) → ((q : Pid) → IsProcess (state c) q → q.0 ≢ p.0 → IsBooked (record (state c) { timers = ts; requests = rs; attention = es }) after q (books_at (books c) q)) → AllByRecursion (IsOwn (state c)) ts → AllByRecursion (λ r. IsOwnRequest (state c) r.req) rs → AllByRecursion (λ a. IsProcess (state c) a.p) es → AreServed rs ls → IfSome after (IsProcess (state c)) → AreHeld (record (state c) { procs = map process (slice_set c.procs.items (p.0 - 1) new); timers = ts; requests = rs; attention = es }) after (map books_of (slice_set c.procs.items (p.0 - 1) new)) ls
held_there c after p new ts rs es ls made here others own asked called served short =
    let i = p.0 - 1 in
    let s = state c in
    let within : i < length (books c) = omega (arith, stands c p made, length-map c.procs.items books_of) in
    let held = held_by s (books c) after p (process new) (books_of new) ts rs es ls made within here others own asked called served short in
    subst (λ (ps : List Process). AreHeld (record s { procs = ps; timers = ts; requests = rs; attention = es }) after (map books_of (slice_set c.procs.items i new)) ls) (sym (map-set process c.procs.items i new))
    (subst (λ (bs : List Books). AreHeld (record s { procs = slice_set s.procs i (process new); timers = ts; requests = rs; attention = es }) after bs ls) (sym (map-set books_of c.procs.items i new)) held)

-- with the timers alone
pub held_set : {R : Type 0} (c : Inside R) (after : Option Pid) (p : Pid) (new : Proc R) (ts : List Timer) → IsHeld c → IsProcess (state c) p → IsBooked (record (state c) { procs = slice_set (state c).procs (p.0 - 1) (process new); timers = ts }) after p (books_of new) → ((q : Pid) → IsProcess (state c) q → q.0 ≢ p.0 → IsBooked (state c) c.short q (books_at (books c) q) → IsBooked (record (state c) { timers = ts }) after q (books_at (books c) q)) → AllByRecursion (IsOwn (state c)) ts → IfSome after (IsProcess (state c)) → AreHeld (record (state c) { procs = map process (slice_set c.procs.items (p.0 - 1) new); timers = ts }) after (map books_of (slice_set c.procs.items (p.0 - 1) new)) (ends c)
held_set c after p new ts h made here others own short =
    held_there c after p new ts (state c).requests (state c).attention (ends c) made here (λ q m other. others q m other (h.booked q m)) own h.requests h.attention h.served short

-- a process as it is put there
pub put_there : (s : State) (p : Pid) (pr : Process) (ts : List Timer) → IsProcess s p → process_at (record s { procs = slice_set s.procs (p.0 - 1) pr; timers = ts }) p ≡ pr
put_there s p pr ts made = get_or-set_same s.procs (p.0 - 1) pr nobody (omega (arith, made.above, made.within))

-- a quiet change, with the books as they were
pub held_as : {R : Type 0} (f : Process → Process) (c : Inside R) (k : Kernel) (p : Pid) (r new : Proc R) → kernel c ≡ k → IsProcess k.state p → r ≡ slice_index_or c.procs.items (p.0 - 1) r → process new ≡ f (process r) → books_of new ≡ books_of r → IsQuiet (process r) (f (process r)) → IsHeld c → IsHeld (record c { procs = with_item c.procs (p.0 - 1) new })
held_as f c k p r new view is_made is e same quiet_by h =
    let quiet = subst (λ (x : Process). IsQuiet (process r) x) (sym e) quiet_by in
    let made = made_in c k p view is_made in
    let s = state c in
    let at = put_there s p (process new) s.timers made in
    let was = seen c p r made is in
    let here : IsQuiet (process_at s p) (process_at (record s { procs = slice_set s.procs (p.0 - 1) (process new) }) p) = record {
      decl = ap (λ (x : Process). x.decl) at ∙ (quiet.decl ∙ ap (λ (x : Process). x.decl) was);
      asts = ap (λ (x : Process). x.asts) at ∙ (quiet.asts ∙ ap (λ (x : Process). x.asts) was);
      frames = omega (arith, quiet.frames, ap (λ (x : Process). length x.frames) at, ap (λ (x : Process). length x.frames) was);
    } in
    held_set c c.short p new s.timers h made
    (subst (λ (b : Books). IsBooked (record s { procs = slice_set s.procs (p.0 - 1) (process new) }) c.short p b) (sym (same ∙ seen_books c p r made is)) (booked_quiet s (slice_set s.procs (p.0 - 1) (process new)) c.short p (books_at (books c) p) here (h.booked p made)))
    (λ q m other b. b) h.timers h.marked

-- a change that changes nothing
pub none_changed : (s : State) (p : Pid) → change s p (λ x. x) ≡ s
none_changed s p = ap (λ (ps : List Process). record s { procs = ps }) (set-get_or s.procs (p.0 - 1) nobody)

-- the value if timers change too
timers_here : {R : Type 0} (f : Process → Process) (xs : List Timer) (c : Inside R) (p : Pid) (r new : Proc R) (ts : Roomy Timer) → IsProcess (state c) p → r ≡ slice_index_or c.procs.items (p.0 - 1) r → process new ≡ f (process r) → room_of new ≡ room_of r → ts ≡ with_items c.timers xs → kernel (record c { procs = with_item c.procs (p.0 - 1) new; timers = ts }) ≡ with_state (kernel c) (change (record (state c) { timers = xs }) p f)
timers_here f xs c p r new ts made is e room put =
    ap (λ (x : Kernel). let y : Kernel = record x { state = record x.state { timers = ts.items }; timers = ts.capacity } in y) (changed_here f c p r new made is e room)
    ∙ ap (λ (x : Roomy Timer). let y : Kernel = record (changed (kernel c) p f) { state = record (change (state c) p f) { timers = x.items }; timers = x.capacity } in y) put

pub timers_as : {R : Type 0} (f : Process → Process) (F : State → List Timer) (c : Inside R) (k : Kernel) (p : Pid) (r new : Proc R) (ts : Roomy Timer) → kernel c ≡ k → IsProcess k.state p → r ≡ slice_index_or c.procs.items (p.0 - 1) r → process new ≡ f (process r) → room_of new ≡ room_of r → ts ≡ with_items c.timers (F (state c)) → kernel (record c { procs = with_item c.procs (p.0 - 1) new; timers = ts }) ≡ with_state k (change (record k.state { timers = F k.state }) p f)
timers_as f F c k p r new ts view made is e room put =
    timers_here f (F (state c)) c p r new ts (made_in c k p view made) is e room put ∙ ap (λ (x : Kernel). with_state x (change (record x.state { timers = F x.state }) p f)) view

-- the value if requests change too
requests_here : {R : Type 0} (f : Process → Process) (xs : List Request) (c : Inside R) (p : Pid) (r new : Proc R) (rs : Roomy Request) → IsProcess (state c) p → r ≡ slice_index_or c.procs.items (p.0 - 1) r → process new ≡ f (process r) → room_of new ≡ room_of r → rs ≡ with_items c.requests xs → kernel (record c { procs = with_item c.procs (p.0 - 1) new; requests = rs }) ≡ with_state (kernel c) (change (record (state c) { requests = xs }) p f)
requests_here f xs c p r new rs made is e room put =
    ap (λ (x : Kernel). let y : Kernel = record x { state = record x.state { requests = rs.items }; requests = rs.capacity } in y) (changed_here f c p r new made is e room)
    ∙ ap (λ (x : Roomy Request). let y : Kernel = record (changed (kernel c) p f) { state = record (change (state c) p f) { requests = x.items }; requests = x.capacity } in y) put

pub requests_as : {R : Type 0} (f : Process → Process) (F : State → List Request) (c : Inside R) (k : Kernel) (p : Pid) (r new : Proc R) (rs : Roomy Request) → kernel c ≡ k → IsProcess k.state p → r ≡ slice_index_or c.procs.items (p.0 - 1) r → process new ≡ f (process r) → room_of new ≡ room_of r → rs ≡ with_items c.requests (F (state c)) → kernel (record c { procs = with_item c.procs (p.0 - 1) new; requests = rs }) ≡ with_state k (change (record k.state { requests = F k.state }) p f)
requests_as f F c k p r new rs view made is e room put =
    requests_here f (F (state c)) c p r new rs (made_in c k p view made) is e room put ∙ ap (λ (x : Kernel). with_state x (change (record x.state { requests = F x.state }) p f)) view

pub requests_alone : {R : Type 0} (F : State → List Request) (c : Inside R) (k : Kernel) (p : Pid) (r new : Proc R) (rs : Roomy Request) → kernel c ≡ k → IsProcess k.state p → r ≡ slice_index_or c.procs.items (p.0 - 1) r → process new ≡ process r → room_of new ≡ room_of r → rs ≡ with_items c.requests (F (state c)) → kernel (record c { procs = with_item c.procs (p.0 - 1) new; requests = rs }) ≡ with_state k (record k.state { requests = F k.state })
requests_alone F c k p r new rs view made is e room put =
    requests_as (λ x. x) F c k p r new rs view made is e room put ∙ ap (λ (s : State). with_state k s) (none_changed (record k.state { requests = F k.state }) p)

-- the value if attention entries change too
attention_here : {R : Type 0} (f : Process → Process) (xs : List Attention) (c : Inside R) (p : Pid) (r new : Proc R) (es : Roomy Attention) → IsProcess (state c) p → r ≡ slice_index_or c.procs.items (p.0 - 1) r → process new ≡ f (process r) → room_of new ≡ room_of r → es ≡ with_items c.attention xs → kernel (record c { procs = with_item c.procs (p.0 - 1) new; attention = es }) ≡ with_state (kernel c) (change (record (state c) { attention = xs }) p f)
attention_here f xs c p r new es made is e room put =
    ap (λ (x : Kernel). let y : Kernel = record x { state = record x.state { attention = es.items }; attention = es.capacity } in y) (changed_here f c p r new made is e room)
    ∙ ap (λ (x : Roomy Attention). let y : Kernel = record (changed (kernel c) p f) { state = record (change (state c) p f) { attention = x.items }; attention = x.capacity } in y) put

pub attention_as : {R : Type 0} (f : Process → Process) (F : State → List Attention) (c : Inside R) (k : Kernel) (p : Pid) (r new : Proc R) (es : Roomy Attention) → kernel c ≡ k → IsProcess k.state p → r ≡ slice_index_or c.procs.items (p.0 - 1) r → process new ≡ f (process r) → room_of new ≡ room_of r → es ≡ with_items c.attention (F (state c)) → kernel (record c { procs = with_item c.procs (p.0 - 1) new; attention = es }) ≡ with_state k (change (record k.state { attention = F k.state }) p f)
attention_as f F c k p r new es view made is e room put =
    attention_here f (F (state c)) c p r new es (made_in c k p view made) is e room put ∙ ap (λ (x : Kernel). with_state x (change (record x.state { attention = F x.state }) p f)) view

pub attention_alone : {R : Type 0} (F : State → List Attention) (c : Inside R) (k : Kernel) (p : Pid) (r new : Proc R) (es : Roomy Attention) → kernel c ≡ k → IsProcess k.state p → r ≡ slice_index_or c.procs.items (p.0 - 1) r → process new ≡ process r → room_of new ≡ room_of r → es ≡ with_items c.attention (F (state c)) → kernel (record c { procs = with_item c.procs (p.0 - 1) new; attention = es }) ≡ with_state k (record k.state { attention = F k.state })
attention_alone F c k p r new es view made is e room put =
    attention_as (λ x. x) F c k p r new es view made is e room put ∙ ap (λ (s : State). with_state k s) (none_changed (record k.state { attention = F k.state }) p)

-- and no process
pub timers_alone : {R : Type 0} (F : State → List Timer) (c : Inside R) (k : Kernel) (p : Pid) (r new : Proc R) (ts : Roomy Timer) → kernel c ≡ k → IsProcess k.state p → r ≡ slice_index_or c.procs.items (p.0 - 1) r → process new ≡ process r → room_of new ≡ room_of r → ts ≡ with_items c.timers (F (state c)) → kernel (record c { procs = with_item c.procs (p.0 - 1) new; timers = ts }) ≡ with_state k (record k.state { timers = F k.state })
timers_alone F c k p r new ts view made is e room put =
    timers_as (λ x. x) F c k p r new ts view made is e room put ∙ ap (λ (s : State). with_state k s) (none_changed (record k.state { timers = F k.state }) p)

-- room alone
pub roomier_state : {R : Type 0} (c : Inside R) (k : Kernel) (p : Pid) (r new : Proc R) → kernel c ≡ k → r ≡ slice_index_or c.procs.items (p.0 - 1) r → process new ≡ process r → state (record c { procs = with_item c.procs (p.0 - 1) new }) ≡ k.state
roomier_state c k p r new view is e =
    ap (λ (ps : List Process). record (state c) { procs = ps }) (map-set_same process c.procs.items (p.0 - 1) new r (e ∙ ap process is)) ∙ ap (λ (x : Kernel). x.state) view

-- an entry found in the code is found in the value
pub found_in : {R : Type 0} (test : Timer → Bool) (c : Inside R) (k : Kernel) (o : Option Timer) → kernel c ≡ k → o ≡ find test c.timers.items → o ≡ find test k.state.timers
found_in test c k o view found = found ∙ ap (λ (x : Kernel). find test x.state.timers) view

pub seen_in : {R : Type 0} (c : Inside R) (k : Kernel) (p : Pid) (r : Proc R) → kernel c ≡ k → IsProcess k.state p → r ≡ slice_index_or c.procs.items (p.0 - 1) r → process r ≡ process_at k.state p
seen_in c k p r view made is = seen c p r (made_in c k p view made) is ∙ ap (λ (x : Kernel). process_at x.state p) view
