-- What holds of all requests, and no event but a BEG takes away.
use Rattle.std.proofs.Common.{◌≡◌, ℕ, ◌≤◌, List, [], ◌∷◌, Bool, false, ◌==◌, Option, refl, subst, sym, arith}
use Rattle.std.specs.List.{AllByRecursion, filter}
use Rattle.vx_record.specs.Types.{Cell, Effect, Handler, Pid, Queued, Request}
use Rattle.vx_base.specs.declared.effects.Cell.TheVariants.{Local, Common as Shared}
use Rattle.vx_record.specs.Cancel.{with_abort}
use Rattle.vx_record.specs.Finish.{this_request}
use Rattle.vx_record.specs.Flags.{with_cell}
use Rattle.vx_record.specs.Parts.{each}
use Rattle.vx_record.specs.Rundown.{drop_ast, drop_handler, is_ast_reached}
use Rattle.vx_record.specs.Sound.{request_id}
use Rattle.vx_record.specs.State.{State, process_at}
use Rattle.vx_record.proofs.Lists.{either, all_less, all_amend, all_append}
use Rattle.vx_record.proofs.Moves.{Loose, MovesBy, none, skip, both, quiet, moved, bytes, var, status, enb, channel, newly, gone, leave, flag, clusters, open_ast, open_force, que, end_asts, open_handler, end_handler, end_handlers, enter, open_request, fin, mark, unit, mput, mget, mcut, box_opens, box_ends, box_marked, open_attention, attention_fires, end_attention, open_timer, open_wake, timer_fires, wake_fires, end_timer, time}

-- a mark takes it from no request, and it holds of each that is opened with an id from n on
pub record Lasts (n : ℕ) (P : Request → Type 0) : Type 0 where
  pub marked : (r : Request) → P r → P (with_abort r)
  pub opened : (r : Request) → n ≤ request_id r → r.served ≡ false → P r

-- it holds of all requests, and the next id is n or above
pub record HoldOfAll (n : ℕ) (P : Request → Type 0) (s : State) : Type 0 where
  pub above : n ≤ s.next
  pub all : AllByRecursion P s.requests

-- the requests as they are
same : (n : ℕ) (P : Request → Type 0) (s t : State) → t.requests ≡ s.requests → s.next ≤ t.next → HoldOfAll n P s → HoldOfAll n P t
same n P s t e more h = record { above = omega (arith, h.above, more); all = subst (AllByRecursion P) (sym e) h.all }

asts_hold : (n : ℕ) (P : Request → Type 0) (p : Pid) (qs : List Queued) (s : State) → HoldOfAll n P s → HoldOfAll n P (each (drop_ast p) qs s).after
asts_hold n P p [] s h = h
asts_hold n P p (q ∷ qs) s h = asts_hold n P p qs (drop_ast p s q).after (same n P s (drop_ast p s q).after refl (omega arith) h)

handlers_hold : (n : ℕ) (P : Request → Type 0) (p : Pid) (xs : List Handler) (s : State) → HoldOfAll n P s → HoldOfAll n P (each (drop_handler p) xs s).after
handlers_hold n P p [] s h = h
handlers_hold n P p (x ∷ xs) s h = handlers_hold n P p xs (drop_handler p s x).after (same n P s (drop_handler p s x).after refl (omega arith) h)

cell_holds : (n : ℕ) (P : Request → Type 0) (s : State) (c : Cell) (on : Bool) → HoldOfAll n P s → HoldOfAll n P (with_cell s c on)
cell_holds n P s (Local p k) on h = same n P s _ refl (omega arith) h
cell_holds n P s (Shared g a k) on h = same n P s _ refl (omega arith) h

pub moves_hold : {refs : Bool} (n : ℕ) (P : Request → Type 0) → Lasts n P → (s : State) (l : Option Loose) (es : List Effect) (t : State) (m : Option Loose) → MovesBy refs s l es t m → HoldOfAll n P s → HoldOfAll n P t
moves_hold n P keeps s l es t m (none x a) h = h
moves_hold n P keeps s l es t m (skip x a k at) h = h
moves_hold n P keeps s l es t m (both x y z a b c fs gs i j) h = moves_hold n P keeps y b gs z c j (moves_hold n P keeps x a fs y b i h)
moves_hold n P keeps s l es t m (quiet x a p f q) h = same n P x _ refl (omega arith) h
moves_hold n P keeps s l es t m (moved x a p store place alike) h = same n P x _ refl (omega arith) h
moves_hold n P keeps s l es t m (bytes x a p b more at) h = same n P x _ refl (omega arith) h
moves_hold n P keeps s l es t m (var x a p v k2 idle) h = same n P x _ refl (omega arith) h
moves_hold n P keeps s l es t m (status x a p i st made at named) h = same n P x _ refl (omega arith) h
moves_hold n P keeps s l es t m (enb x a p mode on made idle) h = same n P x _ refl (omega arith) h
moves_hold n P keeps s l es t m (channel x a p k2 ch ok) h = same n P x _ refl (omega arith) h
moves_hold n P keeps s l es t m (newly x a p place idle ok) h = same n P x _ refl (omega arith) h
moves_hold n P keeps s l es t m (gone x a p idle) h = same n P x _ refl (omega arith) h
moves_hold n P keeps s l es t m (leave x a id idle) h = same n P x _ refl (omega arith) h
moves_hold n P keeps s l es t m (flag x a c on made at set_on) h = cell_holds n P x c on h
moves_hold n P keeps s l es t m (clusters x a c k idle told ok) h = same n P x _ refl (omega arith) h
moves_hold n P keeps s l es t m (open_ast x p mode tag made ok) h = same n P x _ refl (omega arith) h
moves_hold n P keeps s l es t m (open_force x p code made) h = same n P x _ refl (omega arith) h
moves_hold n P keeps s l es t m (que x p q stage made) h = same n P x _ refl (omega arith) h
moves_hold n P keeps s l es t m (end_asts x p mode made) h = asts_hold n P p (filter (is_ast_reached mode) (process_at x p).asts) x h
moves_hold n P keeps s l es t m (open_handler x p tag made ok) h = same n P x _ refl (omega arith) h
moves_hold n P keeps s l es t m (end_handler x p test d made is) h = same n P x _ refl (omega arith) h
moves_hold n P keeps s l es t m (end_handlers x p test made) h = handlers_hold n P p (filter test (process_at x p).handlers) x h
moves_hold n P keeps s l es t m (enter x p f test d made is ok) h = same n P x _ refl (omega arith) h
moves_hold n P keeps s l es t m (open_request x k p mode k2 r is new ok) h = record { above = omega (arith, h.above); all = all_append P x.requests (r ∷ []) h.all (keeps.opened r (rw new.id h.above) new.served, tt) }
moves_hold n P keeps s l es t m (fin x r c has) h = record { above = h.above; all = all_less P (this_request r.req.id) x.requests h.all }
moves_hold n P keeps s l es t m (mark x r has free) h = record { above = h.above; all = all_amend P (this_request r.req.id) with_abort keeps.marked x.requests h.all }
moves_hold n P keeps s l es t m (unit x a u d) h = same n P x _ refl (omega arith) h
moves_hold n P keeps s l es t m (mput x b d) h = same n P x _ refl (omega arith) h
moves_hold n P keeps s l es t m (mget x b d r) h = same n P x _ refl (omega arith) h
moves_hold n P keeps s l es t m (mcut x b w) h = same n P x _ refl (omega arith) h
moves_hold n P keeps s l es t m (box_opens x b box) h = same n P x _ refl (omega arith) h
moves_hold n P keeps s l es t m (box_ends x b ok) h = same n P x _ refl (omega arith) h
moves_hold n P keeps s l es t m (box_marked x b box) h = same n P x _ refl (omega arith) h
moves_hold n P keeps s l es t m (open_attention x p mode a new at ok) h = same n P x _ refl (omega arith) h
moves_hold n P keeps s l es t m (attention_fires x a has) h = same n P x _ refl (omega arith) h
moves_hold n P keeps s l es t m (end_attention x a has) h = same n P x _ refl (omega arith) h
moves_hold n P keeps s l es t m (open_timer x p mode a efn reqid k2 tag new is at ok) h = same n P x _ refl (omega arith) h
moves_hold n P keeps s l es t m (open_wake x p k2 a target new is) h = same n P x _ refl (omega arith) h
moves_hold n P keeps s l es t m (timer_fires x a has is) h = same n P x _ refl (omega arith) h
moves_hold n P keeps s l es t m (wake_fires x a target k has is) h = either (HoldOfAll n P) (k == 0) _ _ (same n P x _ refl (omega arith) h) (same n P x _ refl (omega arith) h)
moves_hold n P keeps s l es t m (end_timer x a has) h = same n P x _ refl (omega arith) h
moves_hold n P keeps s l es t m (time x a now) h = same n P x _ refl (omega arith) h
