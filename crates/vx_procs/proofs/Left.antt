-- What the calls on channels and exit handlers of a process leave.
use Rattle.std.proofs.Common.{◌≡◌, ℕ, ◌-◌, ◌<◌, length, List, map, slice_index_or, slice_set, Option, Some, None, option_map, Result, get_or-set_same, length-set, arith, refl, sym, ap, subst, ◌∙◌}
use Rattle.std.specs.List.{find}
use Rattle.std.specs.Vec.{with_item}
use Rattle.std.proofs.lemmas.List.{get_or_append_left, length-map, map-set}
use Rattle.vx_record.specs.Types.{Cond, Device, Handler, Mode, Pid}
use Rattle.vx_base.proofs.First.{less_none}
use Rattle.vx_chans.specs.Chans as chans
use Rattle.vx_record.specs.Channels.{assign_at}
use Rattle.vx_record.specs.State.{Process, State, IsProcess, process_at, nobody}
use Rattle.vx_procs.specs.Channels.{or_cond, with_assigned}
use Rattle.vx_procs.specs.Handlers.{is_sought, without_sought}
use Rattle.vx_procs.specs.Kernel.{DoesQuietly, Kernel, Room, changed, no_room, room_at, with_state}
use Rattle.vx_procs.specs.Held.{Books, books_at, no_books}
use Rattle.vx_procs.specs.Ready.{HasHandlerRoom, HasSpares, owed}
use Rattle.vx_record.proofs.Ground.{at_set}
use Rattle.vx_procs.proofs.Booked.{room_books}
use Rattle.vx_procs.specs.View.{books, books_of, kernel, newcomers, process, room_of, state}
use Rattle.vx_procs.specs.declared.handlers.Sought.{Sought}
use Rattle.vx_procs.specs.declared.procs.Core.TheInside.{Inside}
use Rattle.vx_procs.specs.declared.process.Proc.{Proc}
use Rattle.vx_procs.proofs.Changed.{IsQuiet, none_changed, roomier_state, seen_books, stands}
use Rattle.vx_base.proofs.Lists.{none_mapped}

-- Channels.

-- the rows with one assigned are those of the process with it
pub assigned_rows : (dev : Device) (mode : Mode) (pr : Process) (o : Option ℕ) → record pr { channels = chans.with_channel pr.channels o (record { device = dev; mode = mode }) } ≡ with_assigned dev mode o pr
assigned_rows dev mode pr None = refl
assigned_rows dev mode pr (Some n) = refl

pub assigned_quiet : (dev : Device) (mode : Mode) (o : Option ℕ) (pr : Process) → IsQuiet pr (with_assigned dev mode o pr)
assigned_quiet dev mode None pr = record { decl = refl; asts = refl; frames = omega arith }
assigned_quiet dev mode (Some n) pr = record { decl = refl; asts = refl; frames = omega arith }

pub assigns : (k l : Kernel) (p : Pid) (dev : Device) (mode : Mode) (o : Option ℕ) (answer : Result ℕ Cond) → answer ≡ or_cond (chans.number_or_none o) → l ≡ changed k p (with_assigned dev mode o) → DoesQuietly (assign_at k.state p dev mode o) answer k l
assigns k l p dev mode None answer is there = record { answers = is; quiet = refl; leaves = there ∙ ap (with_state k) (none_changed k.state p) }
assigns k l p dev mode (Some n) answer is there = record { answers = is; quiet = refl; leaves = there }

-- Exit handlers.

-- if none is found, the process stays as it was
pub none_sought : {A B : Type 0} (key : Handler → B) (f : A → B) (o : Option A) (k : Kernel) (p : Pid) (which : Sought) → option_map f o ≡ option_map key (find (is_sought which) (process_at k.state p).handlers) → o ≡ None → changed k p (without_sought which) ≡ k
none_sought key f o k p which same none =
    let hs = (process_at k.state p).handlers in
    let found : find (is_sought which) hs ≡ None = none_mapped key (find (is_sought which) hs) (sym same ∙ ap (option_map f) none) in
    let still : without_sought which (process_at k.state p) ≡ process_at k.state p = ap (λ (xs : List Handler). record (process_at k.state p) { handlers = xs }) (less_none (is_sought which) hs found) in
    ap (λ (pr : Process). changed k p (λ _. pr)) still ∙ ap (with_state k) (none_changed k.state p)

-- the room of a process that is put there
pub handler_room : {R : Type 0} (c : Inside R) (p : Pid) (new : Proc R) → IsProcess (state c) p → length (process new).handlers < (room_of new).handlers → HasHandlerRoom (kernel (record c { procs = with_item c.procs (p.0 - 1) new })) p
handler_room c p new made room =
    let i = p.0 - 1 in
    let items = c.procs.items in
    let d : Inside _ = record c { procs = with_item c.procs i new } in
    let within : i < length items = stands c p made in
    let at : process_at (state d) p ≡ process new =
    ap (λ (ps : List Process). slice_index_or ps i nobody) (map-set process items i new) ∙ get_or-set_same (map process items) i (process new) nobody (omega (arith, within, length-map items process)) in
    let has : room_at (kernel d) p ≡ room_of new =
    get_or_append_left (map room_of (slice_set items i new)) (newcomers d) no_room i (omega (arith, within, length-map (slice_set items i new) room_of, length-set items i new))
    ∙ (ap (λ (rs : List Room). slice_index_or rs i no_room) (map-set room_of items i new) ∙ get_or-set_same (map room_of items) i (room_of new) no_room (omega (arith, within, length-map items room_of))) in
    omega (arith, room, ap (λ (pr : Process). length pr.handlers) at, ap (λ (r : Room). r.handlers) has)

record HasSame (a b : Books) : Type 0 where
  frames : b.room.frames ≡ a.room.frames
  asts : b.room.asts ≡ a.room.asts

-- room for handlers alone leaves the spares
pub spares_roomier : {R : Type 0} (c : Inside R) (p : Pid) (r new : Proc R) → IsProcess (state c) p → r ≡ slice_index_or c.procs.items (p.0 - 1) r → process new ≡ process r → (room_of new).frames ≡ (room_of r).frames → (room_of new).asts ≡ (room_of r).asts → HasSpares (kernel c) → HasSpares (kernel (record c { procs = with_item c.procs (p.0 - 1) new }))
spares_roomier c p r new made is e frames asts spares = λ q m.
    let i = p.0 - 1 in
    let d : Inside _ = record c { procs = with_item c.procs i new } in
    let same : state d ≡ state c = roomier_state c (kernel c) p r new refl is e in
    let was : IsProcess (state c) q = subst (λ (s : State). IsProcess s q) same m in
    let has = spares q was in
    let here : HasSame (books_at (books c) p) (books_of new) = let b = seen_books c p r made is in record { frames = frames ∙ ap (λ (x : Books). x.room.frames) b; asts = asts ∙ ap (λ (x : Books). x.room.asts) b } in
    let at = at_set HasSame (λ x. record { frames = refl; asts = refl }) (books c) i (q.0 - 1) (books_of new) no_books here in
    let set : books d ≡ slice_set (books c) i (books_of new) = map-set books_of c.procs.items i new in
    let now = room_books d q m in
    let then = room_books c q was in
    record {
      frame = omega (arith, has.frame, ap (λ (s : State). length (process_at s q).frames) same, at.frames, ap (λ (bs : List Books). (books_at bs q).room.frames) set, ap (λ (x : Room). x.frames) now, ap (λ (x : Room). x.frames) then);
      ast = omega (arith, has.ast, ap (λ (s : State). owed s q) same, at.asts, ap (λ (bs : List Books). (books_at bs q).room.asts) set, ap (λ (x : Room). x.asts) now, ap (λ (x : Room). x.asts) then);
    }
