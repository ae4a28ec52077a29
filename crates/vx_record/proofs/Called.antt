-- What references ask of a call: its labels are the image's, and the process has a frame.
use Rattle.std.proofs.Common.{◌≡◌, ℕ, ◌+◌, List, Bool, true, length, IfSome, refl, ap, arith, subst, sym, ◌<◌, ◌&&◌, Option, Some, None, option_map}
use Rattle.std.proofs.lemmas.Bool.{and_parts}
use Rattle.vx_base.specs.Services.{is_of_kind, are_args, args_list, params_of}
use Rattle.vx_record.specs.Types.{Args, Call, Frame, Image, Pid, Service, Stop}
use Rattle.vx_base.specs.declared.service.Service.TheVariants.{DclAst, DclExh}
use Rattle.vx_image.specs.Local.{advanced}
use Rattle.vx_image.specs.Storage.{Storage}
use Rattle.vx_image.specs.WellFormed.{IsWellFormed, decl_names, is_image, has_its_label}
use Rattle.vx_record.specs.State.{Process, State, HasFrame, process_at, change, decl_of, image_of, no_image, image_in}
use Rattle.vx_record.specs.Events.{moved_to, moved_behind, reader}
use Rattle.vx_record.specs.Services.{label, routine, routine_or_none, routine_at, label_place}
use Rattle.vx_record.specs.Sound.{ground, IsRoutineOf, FitsImage}
use Rattle.vx_record.proofs.Fits.{field_same}
use Rattle.vx_record.proofs.Lists.{all_get}
use Rattle.vx_record.proofs.SoundCalls.{all_from_list, labelled, labelled_or_none, StopFits, advanced_fits}
use Rattle.std.specs.List.{list_all}
use Rattle.vx_base.specs.declared.service.Kind.TheVariants as kind
use Rattle.vx_image.specs.declared.stop.Stop.TheVariants as stop

-- Routines.

pub some_routine : (s : State) (p : Pid) (prm : ℕ) (o : Option (List ℕ)) → IfSome o (λ name. label_place (image_of s p) name < length (image_of s p).labels) → IfSome (option_map (routine_at (image_of s p) prm) o) (IsRoutineOf (ground s) p)
some_routine s p prm None h = tt
some_routine s p prm (Some name) h = h

-- the labels that stand first, third and fifth
pub record Labels (image : Image) (a : Args) : Type 0 where
  pub first : has_its_label image a.a0 ≡ true
  pub third : has_its_label image a.a2 ≡ true
  pub fifth : has_its_label image a.a4 ≡ true

odd_ones : (a b c d e r : Bool) → (a && (b && (c && (d && (e && r))))) ≡ true → (a ≡ true) × ((c ≡ true) × (e ≡ true))
odd_ones a b c d e r h = grind arith

pub labels_of : (image : Image) (a : Args) → list_all (has_its_label image) (args_list a) ≡ true → Labels image a
labels_of image a h = grind (arith, odd_ones)

pub record IsCalled (s : State) (p : Pid) (a : Args) (v : Service) : Type 0 where
  pub args : are_args (params_of v) (args_list a) ≡ true
  pub labels : Labels (image_of s p) a
  pub frame : HasFrame s p

pub called : (s : State) (p : Pid) (c : Call) → FitsImage (image_of s p) c → HasFrame s p → IsCalled s p c.args c.service
called s p c k f = record { args = k.args; labels = labels_of (image_of s p) c.args k.labels; frame = f }

pub declared_routine : (s : State) (p : Pid) (a : Args) (prm : ℕ) → IsCalled s p a DclAst → IsRoutineOf (ground s) p (routine s p a.a0 prm)
declared_routine s p a prm k = labelled (image_of s p) a.a0 (and_parts (is_of_kind kind.Label a.a0) _ k.args).0 k.labels.first

pub handler_routine : (s : State) (p : Pid) (a : Args) → IsCalled s p a DclExh → IsRoutineOf (ground s) p (routine s p a.a0 0)
handler_routine s p a k = labelled (image_of s p) a.a0 (and_parts (is_of_kind kind.Label a.a0) _ k.args).0 k.labels.first

pub third_routine : (s : State) (p : Pid) (a : Args) (prm : ℕ) → Labels (image_of s p) a → IfSome (routine_or_none s p a.a2 prm) (IsRoutineOf (ground s) p)
third_routine s p a prm l = some_routine s p prm (label a.a2) (labelled_or_none (image_of s p) a.a2 l.third)

pub fifth_routine : (s : State) (p : Pid) (a : Args) (prm : ℕ) → Labels (image_of s p) a → IfSome (routine_or_none s p a.a4 prm) (IsRoutineOf (ground s) p)
fifth_routine s p a prm l = some_routine s p prm (label a.a4) (labelled_or_none (image_of s p) a.a4 l.fifth)

-- Local statements stop at a call that the image makes.

abbrev pub IsStopped : State → Pid → Stop → Type 0
IsStopped s p x = StopFits (image_of s p) x × HasFrame s p

image_moved : (s : State) (p : Pid) (store : Storage) (place : ℕ) → image_of (change s p (moved_to store place)) p ≡ image_of s p
image_moved s p store place = ap (λ (n : ℕ). image_in s.system n) (field_same (λ (pr : Process). pr.decl) (moved_to store place) s p p refl)

frame_moved : (s : State) (p : Pid) (store : Storage) (place : ℕ) → HasFrame s p → HasFrame (change s p (moved_to store place)) p
frame_moved s p store place has =
    let f = moved_to store place in
    rw (field_same (λ (pr : Process). length pr.frames) f s p p (grind arith)) has

pub moved_stopped : (s : State) (p : Pid) (store : Storage) (place : ℕ) (x : Stop) → IsStopped s p x → IsStopped (change s p (moved_to store place)) p x
moved_stopped s p store place x k = (subst (λ (i : Image). StopFits i x) (sym (image_moved s p store place)) k.0, frame_moved s p store place k.1)

pub stopped_call : (s : State) (p : Pid) (place : ℕ) (c : Call) → IsStopped s p (stop.Call c) → IsCalled (change s p (moved_behind place)) p c.args c.service
stopped_call s p place c k =
    let store = (process_at s p).store in
    let moved : IsStopped (change s p (moved_to store (place + 1))) p (stop.Call c) = moved_stopped s p store (place + 1) (stop.Call c) k in
    called (change s p (moved_behind place)) p c moved.0 moved.1

-- the image that a process runs is well formed
pub image_formed : (s : State) (p : Pid) → IsWellFormed s.system → is_image (decl_names s.system) (image_of s p) ≡ true
image_formed s p w =
    all_get (λ (i : Image). is_image (decl_names s.system) i ≡ true) s.system.images (decl_of s p).image no_image refl (all_from_list (is_image (decl_names s.system)) s.system.images w.images)

pub advanced_stopped : (s : State) (p : Pid) (f : Frame) → IsWellFormed s.system → HasFrame s p → IsStopped s p (advanced (image_of s p) (reader p f) (process_at s p).store f.pc).stop
advanced_stopped s p f w has = (advanced_fits (decl_names s.system) (image_of s p) (reader p f) (process_at s p).store f.pc (image_formed s p w), has)
