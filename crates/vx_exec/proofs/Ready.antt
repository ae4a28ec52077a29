-- What an event relies on, once room was made; and what the executive keeps.
use Rattle.std.proofs.Common.{◌≡◌, ℕ, ◌+◌, ◌<◌, ◌≤◌, List, [], ◌∷◌, true, ◌&&◌, nat_lt, nat_le, length, map, Some, IsTrue, Contains, refl, sym, subst, arith}
use Rattle.std.specs.List.{AllByRecursion}
use Rattle.std.proofs.lemmas.Bool.{and_parts, leb-true, ltb-true}
use Rattle.vx_record.specs.Types.{DeviceUnit, Event, Image, Pid, ProcDecl, System, UnitDecl}
use Rattle.vx_base.specs.Queues.{front, in_service}
use Rattle.vx_base.specs.declared.record.Event.TheVariants as event
use Rattle.vx_image.specs.Units.{first_unit}
use Rattle.vx_image.specs.WellFormed.{IsImage, IsWellFormed, are_limits, decl_names, is_decl, is_image}
use Rattle.vx_record.specs.Asts.{deliverable_ast}
use Rattle.vx_record.specs.Events.{enabled, step}
use Rattle.vx_record.specs.Runs.{born_from, first}
use Rattle.vx_record.specs.State.{State, IsProcess, decl_of, image_of, process_at, no_image, no_decl, no_unit}
use Rattle.vx_record.proofs.Changes.{stands_at}
use Rattle.vx_record.proofs.Lists.{all_at, all_get}
use Rattle.vx_record.proofs.SoundCalls.{all_from_list}
use Rattle.vx_record.proofs.SoundSteps.{first_sound, step_sound}
use Rattle.vx_record.proofs.Fixed.{step_keeps_system}
use Rattle.vx_procs.specs.Kernel.{Fits, Kernel}
use Rattle.vx_procs.specs.Ready.{HasBegun}
use Rattle.vx_procs.specs.Words.{handlers_have_own_ids}
use Rattle.vx_io.specs.Finishing.{AreRequests}
use Rattle.vx_rundown.specs.Leaving.{IsLeaving}
use Rattle.vx_rundown.proofs.Standing.{own_handlers_at, own_ids_at}
use Rattle.vx_exec.specs.Engines.{IsHomeFor}
use Rattle.vx_exec.specs.Ready.{HasOwner, HasRoomFor, IsIdle, IsNext, IsOpen, IsReadyFor, IsRoomMade, most}
use Rattle.vx_exec.specs.Sound.{IsGoing, IsWhole}
use Rattle.vx_exec.proofs.Down.{rundown_goes}
use Rattle.vx_exec.proofs.Enabled.{enabled_owned}
use Rattle.vx_exec.proofs.Ends.{beg_goes, don_goes, tick_goes}
use Rattle.vx_exec.proofs.Called.{delivered_goes, run_goes}
use Rattle.vx_exec.proofs.Goes.{Goes}

-- the image of a process of a well formed system
decl_image : (s : State) (p : Pid) → IsWellFormed s.system → (process_at s p).decl < length s.system.decls → (decl_of s p).image < length s.system.images
decl_image s p formed declared =
    let images = length s.system.images in
    let d = decl_of s p in
    let is = all_at (λ (x : ProcDecl). is_decl images x ≡ true) s.system.decls (process_at s p).decl no_decl (all_from_list (is_decl images) s.system.decls formed.decls) declared in
    ltb-true d.image images (and_parts (nat_lt d.image images) (nat_le 1 d.group && (nat_le d.group 16382 && (nat_le d.member 65534 && are_limits d.limits))) is).0

image_formed : (s : State) (p : Pid) → IsWellFormed s.system → IsImage (image_of s p)
image_formed s p formed =
    (decl_names s.system, all_get (λ (i : Image). is_image (decl_names s.system) i ≡ true) s.system.images (decl_of s p).image no_image refl (all_from_list (is_image (decl_names s.system)) s.system.images formed.images))

-- requests stand
requests_of : (s : State) → IsWhole s → AreRequests s
requests_of s whole = record { stand = whole.sound.requests; order = whole.sound.request_ids }

next_of : (k : Kernel) (p : Pid) (limit taken effects : ℕ) → IsGoing k.state limit taken → IsProcess k.state p → HasBegun k (Some p) effects → IsNext k p
next_of k p limit taken effects going made begun =
    let whole = going.whole in
    let stands = stands_at k.state p whole.sound made in
    let image = decl_image k.state p whole.formed stands.decl in
    let formed = image_formed k.state p whole.formed in
    let requests = requests_of k.state whole in
    let decls = leb-true (length k.state.system.decls) 1000 whole.formed.few_decls in
    let units = leb-true (length k.state.system.units) 32 whole.formed.few_units in
    let handler_ids : (q : Pid) → IsProcess k.state q → IsTrue (handlers_have_own_ids (process_at k.state q).handlers) = λ q m. own_handlers_at k.state q whole.sound m in
    let here = handler_ids p made in
    let ids = own_ids_at k.state p whole.sound made in
    grind arith

leaving_of : (k : Kernel) (p : Pid) (limit taken effects : ℕ) → IsGoing k.state limit taken → IsIdle k.state p → HasBegun k (Some p) effects → IsLeaving k p
leaving_of k p limit taken effects going owner begun = grind (arith, stands_at, decl_image)

pub ready_for : (k : Kernel) (e : Event) (limit taken : ℕ) → IsGoing k.state limit taken → HasOwner k.state e → IsHomeFor k e → IsRoomMade k e → IsReadyFor k e
ready_for k (event.Run p) limit taken going made home room = next_of k p limit taken room.effects going made room.begun
ready_for k (event.Ast p) limit taken going made home room = next_of k p limit taken room.effects going made room.begun
ready_for k (event.Rdn p) limit taken going owner home room = leaving_of k p limit taken room.effects going owner room.begun
ready_for k event.Tick limit taken going made home room = record { order = going.whole.sound.timer_ids; counted = room.begun.time }
ready_for k (event.Beg u) limit taken going waits home begun = record { prepared = begun.0; requests = requests_of k.state going.whole }
ready_for k (event.Don u) limit taken going serves home begun = grind arith

-- Each step.

step_goes : (k : Kernel) (e : Event) → IsWhole k.state → HasOwner k.state e → IsRoomMade k e → Goes (most k.state e) k.state (step k.state e).after (step k.state e).effects
step_goes k (event.Run p) whole made begun = run_goes p k.state (process_at k.state p).frames made
step_goes k (event.Ast p) whole made begun = delivered_goes p k.state (deliverable_ast k.state p) made
step_goes k (event.Rdn p) whole owner begun = rundown_goes p k.state owner.made
step_goes k event.Tick whole made begun = tick_goes k.state
step_goes k (event.Beg u) whole waits begun = beg_goes k.state (front u k.state.requests)
step_goes k (event.Don u) whole serves begun = don_goes k.state u (in_service u k.state.requests)

-- what is told has room
told_room : (k : Kernel) (e : Event) → IsWhole k.state → HasOwner k.state e → IsRoomMade k e → HasRoomFor k e → Fits k (step k.state e).effects
told_room k e whole owner made room = let goes = step_goes k e whole owner made in omega (arith, goes.few, room.enough, room.begun.room)

pub step_open : (k : Kernel) (e : Event) → IsWhole k.state → HasOwner k.state e → IsRoomMade k e → IsOpen k e
step_open k (event.Beg u) whole owner begun = grind arith
step_open k (event.Don u) whole owner begun = tt
step_open k e whole owner room = (room.begun.empty, told_room k e whole owner room room)

pub going_after : (k : Kernel) (t : State) (e : Event) (limit taken : ℕ) → IsGoing k.state limit taken → IsRoomMade k e → Contains (enabled k.state) e → taken < limit → t ≡ (step k.state e).after → IsGoing t limit (taken + 1)
going_after k t e limit taken going begun there below leaves =
    let s = k.state in
    let whole = going.whole in
    let goes = step_goes k e whole (enabled_owned s e there) begun in
    let same = step_keeps_system s e in
    subst (λ (u : State). IsGoing u limit (taken + 1)) (sym leaves) (record {
      whole = record {
        sound = step_sound s e whole.formed whole.sound there;
        formed = subst IsWellFormed (sym same) whole.formed;
        few = goes.within whole.few;
      };
      ids = omega (arith, goes.soon, going.ids);
      services = λ n. let more = goes.services n in let few = going.services n in omega (arith, more, few);
      within = omega arith;
      limited = going.limited;
    })

-- At first.

born_few : (place : ℕ) (ds : List ProcDecl) → length (born_from place ds) ≤ length ds
born_few place [] = omega arith
born_few place (d ∷ ds) = let rest = born_few (place + 1) ds in grind arith

none_served : (ds : List UnitDecl) → AllByRecursion (λ (x : DeviceUnit). x.services ≤ 0) (map first_unit ds)
none_served [] = tt
none_served (d ∷ ds) = (omega arith, none_served ds)

pub first_going : (system : System) (limit : ℕ) → IsWellFormed system → limit ≤ 100000 → IsGoing (first system) limit 0
first_going system limit formed limited = record {
  whole = record {
    sound = first_sound system;
    formed = formed;
    few = omega (arith, born_few 0 system.decls, leb-true (length system.decls) 1000 formed.few_decls);
  };
  ids = omega arith;
  services = λ u. all_get (λ (x : DeviceUnit). x.services ≤ 0) (map first_unit system.units) u.0 no_unit (omega arith) (none_served system.units);
  within = omega arith;
  limited = limited;
}
