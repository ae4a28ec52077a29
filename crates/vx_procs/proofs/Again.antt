-- What is put away and brought back holds what was held.
use Rattle.std.proofs.Common.{◌≡◌, ℕ, zero, suc, ◌+◌, ◌<◌, List, [], ◌∷◌, ◌++◌, length, map, slice_index_or, take, Option, None, ap, subst, sym, ◌∙◌, refl, arith}
use Rattle.std.specs.Prelude.{IsOk, OnOk}
use Rattle.std.specs.declared.result.Result.{Result}
use Rattle.std.specs.declared.result.Result.TheVariants.{Ok, Err}
use Rattle.std.proofs.lemmas.Bool.{true≢false}
use Rattle.std.proofs.lemmas.List.{map-append, map_more}
use Rattle.vx_base.specs.Clusters.{Common}
use Rattle.vx_record.specs.Types.{Attention, DeviceUnit, Mailbox, Pid, Req, Request, System, Timer}
use Rattle.vx_record.specs.State.{Process, State}
use Rattle.vx_procs.specs.Again.{AreWider, IsWider, asked_in}
use Rattle.vx_procs.specs.Held.{AreHeld, Books, IsBooked, ServesAsked, books_at, no_books}
use Rattle.vx_procs.specs.Units.{Kept, asked_of}
use Rattle.vx_procs.specs.View.{ending_of}

itself : IsWider no_books no_books
itself = record { room = record { frames = omega arith; asts = omega arith; handlers = omega arith }; account = refl }

wider_at : (olds news : List Books) → AreWider olds news → (k : ℕ) → IsWider (slice_index_or olds k no_books) (slice_index_or news k no_books)
wider_at [] [] w k = itself
wider_at [] (b ∷ news) w k = absurd w
wider_at (a ∷ olds) [] w k = absurd w
wider_at (a ∷ olds) (b ∷ news) w zero = w.0
wider_at (a ∷ olds) (b ∷ news) w (suc k) = wider_at olds news w.1 k

-- one process more
pub wider_more : (olds news : List Books) (a b : Books) → AreWider olds news → IsWider a b → AreWider (olds ++ a ∷ []) (news ++ b ∷ [])
wider_more [] [] a b w h = (h, tt)
wider_more [] (c ∷ news) a b w h = absurd w
wider_more (c ∷ olds) [] a b w h = absurd w
wider_more (c ∷ olds) (d ∷ news) a b w h = (w.0, wider_more olds news a b w.1 h)

-- one process more is put away, or brought back

pub process_pushed : {A B : Type 0} (f : A → Process) (g : B → Process) (olds : List A) (copied pushed : List B) (i : ℕ) (a : A) (b : B) → i < length olds → a ≡ slice_index_or olds i a → pushed ≡ copied ++ b ∷ [] → g b ≡ f a → map g copied ≡ map f (take i olds) → map g pushed ≡ map f (take (i + 1) olds)
process_pushed f g olds copied pushed i a b within is pushed_is same front =
    ap (map g) pushed_is
    ∙ (map-append g copied (b ∷ [])
    ∙ (ap (λ (ps : List Process). ps ++ g b ∷ []) front
    ∙ (ap (λ (p : Process). map f (take i olds) ++ p ∷ []) (same ∙ ap f is)
    ∙ sym (map_more f olds i a within))))

pub books_pushed : {A B : Type 0} (f : A → Books) (g : B → Books) (olds : List A) (copied pushed : List B) (i : ℕ) (a : A) (b : B) → i < length olds → a ≡ slice_index_or olds i a → pushed ≡ copied ++ b ∷ [] → IsWider (f a) (g b) → AreWider (map f (take i olds)) (map g copied) → AreWider (map f (take (i + 1) olds)) (map g pushed)
books_pushed f g olds copied pushed i a b within is pushed_is wide front =
    let was : map f (take (i + 1) olds) ≡ map f (take i olds) ++ f a ∷ [] = map_more f olds i a within ∙ ap (λ (x : Books). map f (take i olds) ++ x ∷ []) (ap f (sym is)) in
    let new : map g pushed ≡ map g copied ++ g b ∷ [] = ap (map g) pushed_is ∙ map-append g copied (b ∷ []) in
    subst (λ (bs : List Books). AreWider bs (map g pushed)) (sym was)
    (subst (λ (bs : List Books). AreWider (map f (take i olds) ++ f a ∷ []) bs) (sym new)
    (wider_more (map f (take i olds)) (map g copied) (f a) (g b) front wide))

asked_at : (ks ms : List Kept) → map asked_in ms ≡ map asked_in ks → (k : ℕ) → asked_of (slice_index_or (map ending_of ms) k None) ≡ asked_of (slice_index_or (map ending_of ks) k None)
asked_at [] [] e k = refl
asked_at [] (m ∷ ms) e k = absurd (cc)
asked_at (x ∷ ks) [] e k = absurd (cc)
asked_at (x ∷ ks) (m ∷ ms) e zero = cc
asked_at (x ∷ ks) (m ∷ ms) e (suc k) = let rest : map asked_in ms ≡ map asked_in ks = cc in asked_at ks ms rest k

booked_wider : (s : State) (short : Option Pid) (p : Pid) (a b : Books) → IsWider a b → IsBooked s short p a → IsBooked s short p b
booked_wider s short p a b w h =
    let frames = w.room.frames in
    let asts = w.room.asts in
    let had_frames = h.frames in
    let had_asts = h.asts in
    record {
      frames = omega (arith, frames, had_frames);
      asts = omega (arith, asts, had_asts);
      used = ap (λ q. q.used) w.account ∙ h.used;
      limits = ap (λ q. q.limits) w.account ∙ h.limits;
    }

pub held_again : (s t : State) (short : Option Pid) (olds news : List Books) (ks ms : List Kept) → t ≡ s → AreWider olds news → map asked_in ms ≡ map asked_in ks → AreHeld s short olds (map ending_of ks) → AreHeld t short news (map ending_of ms)
held_again s t short olds news ks ms same wider asked h = subst (λ (x : State). AreHeld x short news (map ending_of ms)) (sym same) (record {
  booked = λ p made. booked_wider s short p (books_at olds p) (books_at news p) (wider_at olds news wider _) (h.booked p made);
  timers = h.timers;
  requests = h.requests;
  attention = h.attention;
  served = λ u. subst (λ (a : Option Req). ServesAsked s.requests u a) (sym (asked_at ks ms asked u.0)) (h.served u);
  marked = h.marked;
})

-- a state is one with the same in each field
pub same_state : (s t : State) → t.system ≡ s.system → t.time ≡ s.time → t.next ≡ s.next → t.procs ≡ s.procs → t.common ≡ s.common →
    t.requests ≡ s.requests → t.timers ≡ s.timers → t.attention ≡ s.attention → t.boxes ≡ s.boxes → t.units ≡ s.units → t ≡ s
same_state s t system time next procs common requests timers attention boxes units =
    ap (λ (x : System). let r : State = record t { system = x } in r) system
    ∙ (ap (λ (x : ℕ). let r : State = record t { system = s.system; time = x } in r) time
    ∙ (ap (λ (x : ℕ). let r : State = record t { system = s.system; time = s.time; next = x } in r) next
    ∙ (ap (λ (x : List Process). let r : State = record t { system = s.system; time = s.time; next = s.next; procs = x } in r) procs
    ∙ (ap (λ (x : Common). let r : State = record t { system = s.system; time = s.time; next = s.next; procs = s.procs; common = x } in r) common
    ∙ (ap (λ (x : List Request). let r : State = record s { requests = x; timers = t.timers; attention = t.attention; boxes = t.boxes; units = t.units } in r) requests
    ∙ (ap (λ (x : List Timer). let r : State = record s { timers = x; attention = t.attention; boxes = t.boxes; units = t.units } in r) timers
    ∙ (ap (λ (x : List Attention). let r : State = record s { attention = x; boxes = t.boxes; units = t.units } in r) attention
    ∙ (ap (λ (x : List (Option Mailbox)). let r : State = record s { boxes = x; units = t.units } in r) boxes
    ∙ ap (λ (x : List DeviceUnit). let r : State = record s { units = x } in r) units))))))))

-- what holds on success, if there is success
pub when_ok : {T E : Type 0} (r : Result T E) (P : Type 0) → IsOk r → OnOk r P → P
when_ok (Ok x) P ok h = h
when_ok (Err y) P ok h = absurd (true≢false (sym ok))
