-- In every run messages are put, handed out and withdrawn as the law of mailboxes asks.
use Rattle.std.proofs.Common.{◌≡◌, ℕ, ◌+◌, List, [], ◌∷◌, ◌++◌, false, not, Option, Some, None, Result, Ok, Err, map, refl, sym, ap, ◌∙◌, subst, replicate, ◌-◌, ◌≤◌, arith, true, IsTrue, is_some, zero, suc, append-nil, ◌&&◌, ◌||◌, Bool, position, is_none, get_or}
use Rattle.std.proofs.lemmas.Bool.{or_right, leb-true, and_parts, and_from, or_parts}
use Rattle.std.proofs.lemmas.List.Quantifiers.{position-Some}
use Rattle.std.proofs.lemmas.Slice.Eq.{bytes_eq-Decides}
use Rattle.std.specs.List.{AllByRecursion, find, list_any}
use Rattle.std.specs.Prelude.{Contains, option_map}
use Rattle.vx_base.proofs.Lists.{not_some, none_there, alike_at}
use Rattle.vx_base.proofs.First.{found_passes, amend_found}
use Rattle.vx_base.specs.Channels.{channel_at}
use Rattle.vx_base.specs.Cond.{number_of}
use Rattle.vx_base.specs.Lists.{amend, is_some_and}
use Rattle.vx_base.specs.Modes.{outer}
use Rattle.vx_record.specs.Types.{Answer, Args, BoxNo, Call, Cell, Channel, Cond, Device, Effect, Event, Frame, FrameKind, Mailbox, Mode, Msg, Pid, ProcDecl, Queued, Rec, Request, Service, Stop, System, Target, UnitNo, Wait}
use Rattle.vx_base.specs.Queues.{front, in_service, is_served_by, waits_for, is_unit}
use Rattle.vx_base.specs.Serving.{serve, settled}
use Rattle.vx_base.specs.declared.effects.Effect.TheVariants as effect
use Rattle.vx_base.specs.declared.frame.FrameKind.TheVariants as kind
use Rattle.vx_base.specs.declared.frame.Wait.TheVariants as wait
use Rattle.vx_base.specs.declared.record.Answer.TheVariants as answer
use Rattle.vx_base.specs.declared.record.Event.TheVariants as event
use Rattle.vx_base.specs.declared.request.Device.TheVariants as device
use Rattle.vx_base.specs.declared.service.Service.TheVariants as service
use Rattle.vx_image.specs.Local.{advanced}
use Rattle.vx_image.specs.declared.stop.Stop.TheVariants as stop
use Rattle.vx_record.proofs.Ground.{at_set}
use Rattle.vx_record.proofs.Lists.{either, either_by, all_find, ordered_amend, all_weaker, all_get}
use Rattle.vx_record.proofs.SoundRequests.{tested_channel}
use Rattle.vx_record.specs.Asts.{deliverable_ast}
use Rattle.vx_record.specs.Cancel.{cancel_channel, cancel_at, dassgn_at}
use Rattle.vx_record.specs.Channels.{channel_test, is_unit_of, is_box_of, unit_named, box_named, unit_or_box, unit_number, box_number, device_named, assigned, free_channel_of, assign_at, assign_to, is_bad_box, new_box, make_box, make_box_in, find_or_create, crembx, marked_box, delmbx_on, delmbx_at, free_channel}
use Rattle.vx_record.specs.Events.{enabled, step, moved_to, moved_behind, served_call, called, returned, run_on, reader, run_frame, run, delivered, beg, don, or_normal, returned_from, with_r0, resumed_with, started}
use Rattle.vx_record.specs.Finish.{this_request, finish}
use Rattle.vx_record.specs.Flags.{wait_condition, awaited_at, with_wait}
use Rattle.vx_record.specs.Mailboxes.{mailbox_at, waits_at, or_no_box}
use Rattle.vx_record.specs.Parts.{Part, Outcome, nothing, and_then, at_tested, answered, part_of}
use Rattle.vx_record.specs.Requests.{accepted, request_test, qio_tested, qiow_tested, taken_up, unit_ending, with_unit, begun}
use Rattle.vx_record.specs.Rundown.{without_ast}
use Rattle.vx_record.specs.Runs.{after, after_from, first, AreSteps, IsRun, born_of, born_from}
use Rattle.vx_record.specs.Services.{number, asked, service_of, at_once, numbered_at, place, text, access_mode, with_variable}
use Rattle.vx_record.specs.Sound.{AreOrdered, MayBeServed, request_id}
use Rattle.vx_record.specs.State.{State, process_at, change, image_of, unit_at, box_at, Process, nobody, with_box, no_unit_decl, current}
use Rattle.vx_record.specs.Timers.{tick}
use Rattle.vx_record.specs.declared.served.Served.TheVariants.{Answered, Waits}
use Rattle.vx_record.specs.declared.served.Served.{Served}
use Rattle.vx_laws.proofs.Accepted.{IsAsking, Going, accepted_serving}
use Rattle.vx_record.proofs.Apart.{Here, here_after}
use Rattle.vx_laws.proofs.Aside.{row, Aside, awaited_aside, changed, PartAside, then, same, is_near, service_aside, returned_aside, started_aside, tick_aside}
use Rattle.vx_record.proofs.Base.{Base}
use Rattle.vx_laws.proofs.Boxed.{Origin, IsThere, Rooted, Boxed, Carried, carry, all_rooted, there_as, title_as, head_boxed, origin, owner_of, restock, put_there, kept_at, message_id}
use Rattle.vx_laws.proofs.Cleared.{headed}
use Rattle.vx_record.proofs.Finds.{all_found}
use Rattle.vx_laws.proofs.Kept.{moves_stand}
use Rattle.vx_laws.proofs.Listed.{moves_listed}
use Rattle.vx_record.proofs.Locals.{advanced_statuses}
use Rattle.vx_laws.proofs.Lowered.{rundown_walk}
use Rattle.vx_record.proofs.Moves.{Moves, moved}
use Rattle.vx_record.proofs.Allowed.{enabled_there}
use Rattle.vx_record.proofs.Along.{first_base}
use Rattle.vx_laws.proofs.Newest.{Further, step_further, first_further}
use Rattle.vx_laws.proofs.Passing.{Lawful, walk_then, walk_aside, IsPlainCall, fewer_same, IsSingle, single_on, mailbox_is, Serving, serving, finish_walk, still_boxed, serving_still, MayFin}
use Rattle.vx_laws.proofs.Allowed.{one}
use Rattle.vx_laws.proofs.Rows.{made_boxed, assigned_boxed}
use Rattle.vx_laws.proofs.Runs.{step_right, first_stands, front_found}
use Rattle.vx_laws.proofs.Turns.{later_items}
use Rattle.vx_laws.proofs.Withdrawn.{cancel_channel_walk, cancel_channel_clear, free_walk, unit_nowhere}
use Rattle.vx_laws.specs.Agrees.{as_stored, device_title, OfChannelCall, box_stands}
use Rattle.vx_laws.specs.Boxes.{stored}
use Rattle.vx_laws.specs.Items.{Item, Head, Did, flat, later, past_of, latest_call, at_each}
use Rattle.vx_laws.specs.Lives.{life, named_in, Life, names_device}
use Rattle.vx_laws.specs.MessageLaw.{handles_messages, messages, is_stored_nowhere}
use Rattle.vx_laws.proofs.Courses.{uses_channels}
use Rattle.vx_laws.proofs.Quotas.{effects_left_is}
use Rattle.vx_record.proofs.SoundChannels.{free_row}
use Rattle.vx_laws.proofs.Asked.{calling_of}
use Rattle.vx_base.proofs.Any.{no_position}

-- Records: after each of them mailboxes, channels and requests agree, and no mailbox has both a message and a read.

abbrev RecordServing : List Item → Event → Outcome Answer → Type 0
RecordServing past e o = Serving (Head e o.answer ∷ past) (part_of o)

aside_serving : (s : State) (past : List Item) (a : Part) → PartAside s a → IsPlainCall past → Boxed s past → IsSingle s → Serving past a
aside_serving s past a k calm h single = serving s past a (walk_aside s past a [] k calm h) single

-- what an answered service leaves in R0
served_serving : (past : List Item) (p : Pid) (c : Call) (o : Outcome Served) (x : Served) → Serving (headed p c o x past) (part_of o) → RecordServing past (event.Run p) (served_call p c o x)
served_serving past p c o (Answered y) h = serving_still (headed p c o (Answered y) past) (part_of o) (change o.after p (with_r0 (number_of y))) h (changed o.after p (with_r0 (number_of y)) [] refl tt)
served_serving past p c o Waits h = h

-- the call of a record

plain_headed : (p : Pid) (c : Call) (o : Outcome Served) (x : Served) (past : List Item) → names_device c.service ≡ false → IsPlainCall (headed p c o x past)
plain_headed p c o (Answered y) past e = rw e refl
plain_headed p c o Waits past e = rw e refl

-- Services that touch none of it.

nothing_serving : (s : State) (past : List Item) → Boxed s past → IsSingle s → Serving past (nothing s)
nothing_serving s past h single = record { boxed = h; lawful = tt; single = single }

far_names : (v : Service) → is_near v ≡ false → names_device v ≡ false
far_names service.Assign e = absurd (let never : true ≡ false = e in cc)
far_names service.CreMbx e = absurd (let never : true ≡ false = e in cc)
far_names v e = refl

far_serving : (t : State) (past : List Item) (p : Pid) (a : Args) (v : Service) → is_near v ≡ false → Boxed t past → IsSingle t → let c : Call = record { service = v; args = a } in RecordServing past (event.Run p) (called p c (service_of t p a v))
far_serving t past p a v far h single =
    let c : Call = record { service = v; args = a } in
    let o = service_of t p a v in
    served_serving past p c o o.answer
    (aside_serving t (headed p c o o.answer past) (part_of o) (service_aside t p a v far) (plain_headed p c o o.answer past (far_names v far)) (head_boxed t past (event.Run p) (served_call p c o o.answer).answer h) single)

-- $ASSIGN and $CREMBX.

-- a device that its name found
pub record IsFound (s : State) (name : List ℕ) (d : Device) : Type 0 where
  pub there : IsThere s d
  pub title : device_title s d ≡ name

box_found : (s : State) (name : List ℕ) (b : ℕ) → box_named s name ≡ Some b → IsFound s name (device.Mailbox (box_number b))
box_found s name b e = by_box (box_at s (box_number b)) refl (position-Some (is_box_of name) s.boxes b None e).1
  where
    by_box : (o : Option Mailbox) → box_at s (box_number b) ≡ o → is_box_of name o ≡ true → IsFound s name (device.Mailbox (box_number b))
    by_box None is k = absurd (let never : false ≡ true = k in cc)
    by_box (Some box) is k = record { there = ap (λ (o : Option Mailbox). is_some o) is; title = ap (λ (o : Option Mailbox). (or_no_box o).name) is ∙ (bytes_eq-Decides box.name name).0 k }

unit_found : (s : State) (name : List ℕ) (u : ℕ) → unit_named s name ≡ Some u → IsFound s name (unit_number u)
unit_found s name u e = let at = position-Some (is_unit_of name) s.system.units u no_unit_decl e in record { there = at.0; title = (bytes_eq-Decides (get_or s.system.units u no_unit_decl).name name).0 at.1 }

-- a number is given, and told
assign_serving : (s : State) (p : Pid) (d : Device) (mode : Mode) (o : Option ℕ) (t : Target) (c : Call) (past : List Item) → free_channel_of s p ≡ o → names_device c.service ≡ true → text c.args.a1 ≡ device_title s d → IsThere s d → 1 ≤ p.0 → Boxed s past → IsSingle s →
    let x = assign_at s p d mode o in let y = numbered_at p t (part_of x) x.answer in Serving (headed p c y y.answer past) (part_of y)
assign_serving s p d mode None t c past free names title there above h single = nothing_serving s _ (head_boxed s past (event.Run p) _ h) single
assign_serving s p d mode (Some n) t c past free names title there above h single =
    let x = assign_at s p d mode (Some n) in
    let y = numbered_at p t (part_of x) x.answer in
    let zero_past = headed p c y y.answer past in
    let ch : Channel = record { device = d; mode = mode } in
    let a = assigned s p d mode n in
    let at = free_row 1 n (process_at s p).channels free in
    let k = changed a p (with_variable t n) (effect.Var p t n ∷ []) refl (tt, tt) in
    let named : named_in (latest_call zero_past) ≡ Some (device_title s d) = rw names (ap (λ (l : List ℕ). Some l) title) in
    record {
      boxed = assigned_boxed s y.after p t n ch zero_past refl refl refl refl k.rows above at.0 at.1 there named (head_boxed s past (event.Run p) (served_call p c y y.answer).answer h);
      lawful = ((λ rest left. refl), tt);
      single = single;
    }

assign_to_serving : (s : State) (p : Pid) (mode : Mode) (name : List ℕ) (o : Option Device) (t : Target) (c : Call) (past : List Item) → ((d : Device) → o ≡ Some d → IsFound s name d) → names_device c.service ≡ true → text c.args.a1 ≡ name → 1 ≤ p.0 → Boxed s past → IsSingle s →
    let x = assign_to s p mode o in let y = numbered_at p t (part_of x) x.answer in Serving (headed p c y y.answer past) (part_of y)
assign_to_serving s p mode name None t c past found names title above h single = nothing_serving s _ (head_boxed s past (event.Run p) _ h) single
assign_to_serving s p mode name (Some d) t c past found names title above h single =
    let f = found d refl in
    assign_serving s p d mode (free_channel_of s p) t c past refl names (title ∙ sym f.title) f.there above h single

named_found : (s : State) (name : List ℕ) (u b : Option ℕ) → unit_named s name ≡ u → box_named s name ≡ b → (d : Device) → unit_or_box u b ≡ Some d → IsFound s name d
named_found s name (Some u) b e f d k = let same : unit_number u ≡ d = cc in subst (IsFound s name) same (unit_found s name u e)
named_found s name None (Some b) e f d k = let same : device.Mailbox (box_number b) ≡ d = cc in subst (IsFound s name) same (box_found s name b f)
named_found s name None None e f d k = absurd (let never : None ≡ Some d = k in cc)

make_serving : (s : State) (p : Pid) (mode : Mode) (box : Mailbox) (b : ℕ) (o : Option ℕ) (t : Target) (c : Call) (past : List Item) → position is_none s.boxes ≡ Some b → free_channel_of s p ≡ o → box.messages ≡ [] → list_any (is_box_of box.name) s.boxes ≡ false → list_any (is_unit_of box.name) s.system.units ≡ false →
    names_device c.service ≡ true → text c.args.a1 ≡ box.name → 1 ≤ p.0 → Boxed s past → IsSingle s → let x = make_box s p mode box b o in let y = numbered_at p t (part_of x) x.answer in Serving (headed p c y y.answer past) (part_of y)
make_serving s p mode box b None t c past at free empty fresh unit names title above h single = nothing_serving s _ (head_boxed s past (event.Run p) _ h) single
make_serving s p mode box b (Some n) t c past at free empty fresh unit names title above h single =
    let x = make_box s p mode box b (Some n) in
    let y = numbered_at p t (part_of x) x.answer in
    let zero_past = headed p c y y.answer past in
    let one_past = Did (effect.Mbx box.name true) ∷ zero_past in
    let place_is = position-Some is_none s.boxes b None at in
    let u = with_box s (box_number b) (Some box) in
    let d = device.Mailbox (box_number b) in
    let ch : Channel = record { device = d; mode = mode } in
    let a = assigned u p d mode n in
    let row_is = free_row 1 n (process_at s p).channels free in
    let k = changed a p (with_variable t n) (effect.Var p t n ∷ []) refl (tt, tt) in
    let here = put_there s (box_number b) (box_number b) (Some box) refl place_is.0 in
    let titled : device_title u d ≡ box.name = ap (λ (z : Option Mailbox). (or_no_box z).name) here in
    let named : named_in (latest_call zero_past) ≡ Some (device_title u d) = rw names (ap (λ (l : List ℕ). Some l) (title ∙ sym titled)) in
    record {
      boxed = assigned_boxed u y.after p t n ch one_past refl refl refl refl k.rows above row_is.0 row_is.1 (ap (λ (z : Option Mailbox). is_some z) here) named
          (made_boxed s (box_number b) box zero_past (none_there (get_or s.boxes b None) place_is.1) place_is.0 empty fresh unit (head_boxed s past (event.Run p) (served_call p c y y.answer).answer h));
      lawful = ((λ rest left. refl), ((λ rest left. refl), tt));
      single = λ g e. at_set (λ (v w : Option Mailbox). (or_no_box v).messages ≡ [] → (or_no_box w).messages ≡ []) (λ v j. j) s.boxes b g.0 (Some box) None (λ j. empty) (single g e);
    }

make_in_serving : (s : State) (p : Pid) (mode : Mode) (box : Mailbox) (o : Option ℕ) (t : Target) (c : Call) (past : List Item) → position is_none s.boxes ≡ o → box.messages ≡ [] → list_any (is_box_of box.name) s.boxes ≡ false → list_any (is_unit_of box.name) s.system.units ≡ false →
    names_device c.service ≡ true → text c.args.a1 ≡ box.name → 1 ≤ p.0 → Boxed s past → IsSingle s → let x = make_box_in s p mode box o in let y = numbered_at p t (part_of x) x.answer in Serving (headed p c y y.answer past) (part_of y)
make_in_serving s p mode box None t c past at empty fresh unit names title above h single = nothing_serving s _ (head_boxed s past (event.Run p) _ h) single
make_in_serving s p mode box (Some b) t c past at empty fresh unit names title above h single = make_serving s p mode box b (free_channel_of s p) t c past at refl empty fresh unit names title above h single

-- what a number's answer is told of
abbrev Numbered : State → Pid → Target → Call → List Item → Outcome (Result ℕ Cond) → Type 0
Numbered s p t c past x = let y = numbered_at p t (part_of x) x.answer in Serving (headed p c y y.answer past) (part_of y)

refused_numbered : (s : State) (p : Pid) (t : Target) (c : Call) (past : List Item) (e : Cond) → Boxed s past → IsSingle s → Numbered s p t c past (answered (Err e) (nothing s))
refused_numbered s p t c past e h single = nothing_serving s _ (head_boxed s past (event.Run p) _ h) single

find_or_create_serving : (s : State) (p : Pid) (mode : Mode) (box : Mailbox) (o : Option ℕ) (t : Target) (c : Call) (past : List Item) → box_named s box.name ≡ o → box.messages ≡ [] → list_any (is_unit_of box.name) s.system.units ≡ false →
    names_device c.service ≡ true → text c.args.a1 ≡ box.name → 1 ≤ p.0 → Boxed s past → IsSingle s → Numbered s p t c past (find_or_create s p mode box o)
find_or_create_serving s p mode box None t c past at empty unit names title above h single =
    either (Numbered s p t c past) (box.permanent && not (process_at s p).privs.prmmbx) _ _ (refused_numbered s p t c past _ h single)
    (make_in_serving s p mode box (position is_none s.boxes) t c past refl empty (no_position (is_box_of box.name) s.boxes at) unit names title above h single)
find_or_create_serving s p mode box (Some b) t c past at empty unit names title above h single =
    let f = box_found s box.name b at in
    assign_serving s p (device.Mailbox (box_number b)) mode (free_channel_of s p) t c past refl names (title ∙ sym f.title) f.there above h single

crembx_serving : (s : State) (p : Pid) (a : Args) (past : List Item) → 1 ≤ p.0 → Boxed s past → IsSingle s →
    Numbered s p (place a.a0) (record { service = service.CreMbx; args = a }) past (crembx s p (text a.a1) (number a.a2) (number a.a3) (number a.a4) (access_mode a.a5))
crembx_serving s p a past above h single =
    let c : Call = record { service = service.CreMbx; args = a } in
    let name = text a.a1 in
    either_by (Numbered s p (place a.a0) c past) (is_bad_box s name (number a.a3) (number a.a4)) _ _ (λ e. refused_numbered s p (place a.a0) c past _ h single)
    (λ e.
    let unit = (or_parts (is_some (unit_named s name)) _ e).0 in
    find_or_create_serving s p (outer (access_mode a.a5) (current s p)) (new_box name (number a.a2) (number a.a3) (number a.a4)) (box_named s name) (place a.a0) c past refl refl (no_position (is_unit_of name) s.system.units (not_some (unit_named s name) unit)) refl refl above h single)

-- $DELMBX.

marked_serving : (s : State) (past : List Item) (b : BoxNo) (o : Option Mailbox) → box_at s b ≡ o → IsTrue (is_some o) → Boxed s past → IsSingle s → Serving past (marked_box s b)
marked_serving s past b None is k h single = absurd (let never : false ≡ true = k in cc)
marked_serving s past b (Some box) is k h single =
    let new : Mailbox = record (mailbox_at s b) { marked = true } in
    let m = mailbox_is s b box is in
    let j = h.boxes b box is in
    let name : new.name ≡ box.name = ap (λ (y : Mailbox). y.name) m in
    let same_messages : new.messages ≡ box.messages = ap (λ (y : Mailbox). y.messages) m in
    record {
      boxed = restock s b box new past past is name (λ id. refl) (λ p n. refl) (ap (map as_stored) same_messages ∙ j.messages) (λ n d. refl) (λ n. refl) (subst (AreOrdered message_id 0 s.next) (sym same_messages) j.ids)
          (subst (AllByRecursion (λ (y : Msg). owner_of past y.id ≡ Some y.writer)) (sym same_messages) j.writers) h;
      lawful = tt;
      single = λ c e. kept_at (λ (y : Option Mailbox). (or_no_box y).messages) s.boxes b.0 c.0 (Some new) None refl ∙ single c e;
    }

delmbx_serving : (s : State) (past : List Item) (p : Pid) (d : Device) → IsThere s d → Boxed s past → IsSingle s → Serving past (part_of (delmbx_on s p d))
delmbx_serving s past p (device.Unit u) there h single = nothing_serving s past h single
delmbx_serving s past p (device.Mailbox b) there h single =
    either (λ (o : Outcome Cond). Serving past (part_of o)) ((mailbox_at s b).permanent && not (process_at s p).privs.prmmbx) _ _ (nothing_serving s past h single)
    (either (λ (x : Part). Serving past x) (mailbox_at s b).permanent (marked_box s b) (nothing s) (marked_serving s past b (box_at s b) refl there h single) (nothing_serving s past h single))

-- What is done at a channel.
at_channel_serving : (s : State) (past : List Item) (p : Pid) (n : ℕ) (go : Channel → Outcome Cond) (r : Result Channel Cond) → channel_test s p n ≡ r → ((ch : Channel) → 1 ≤ n → row s p n ≡ Some ch → Serving past (part_of (go ch))) → Boxed s past → IsSingle s → Serving past (part_of (at_tested s go r))
at_channel_serving s past p n go (Err c) is f h single = nothing_serving s past h single
at_channel_serving s past p n go (Ok ch) is f h single = let k = tested_channel s p n ch is in f ch (leb-true 1 n (and_parts _ _ k.0).0) k.1

-- $QIO and $QIOW.

asking_headed : (s : State) (p : Pid) (a : Args) (v : Service) (o : Outcome Served) (x : Served) (past : List Item) → names_device v ≡ false → IsAsking (headed p (record { service = v; args = a }) o x past) p (asked s p a)
asking_headed s p a v o (Answered y) past e = record { call = calling_of p (record { service = v; args = a }) (Answered y); is = refl; caller = refl; chan = refl; func = refl; len = refl; calm = rw e refl }
asking_headed s p a v o Waits past e = record { call = calling_of p (record { service = v; args = a }) Waits; is = refl; caller = refl; chan = refl; func = refl; len = refl; calm = rw e refl }

headed_going : (s : State) (p : Pid) (c : Call) (o : Outcome Served) (x : Served) (past : List Item) → Going s past → Going s (headed p c o x past)
headed_going s p c o x past g = record { stands = g.stands; listed = g.listed; boxed = head_boxed s past (event.Run p) (served_call p c o x).answer g.boxed; single = g.single }

-- a wait that follows has no effect
waited_serving : (past : List Item) (y : Part) (p : Pid) (w : Wait) (o : Option Cond) → Serving past y → Serving past (record { effects = y.effects ++ (awaited_at y.after p w o).effects; after = (awaited_at y.after p w o).after })
waited_serving past y p w None h =
    let t = (awaited_at y.after p w None).after in
    subst (λ (l : List Effect). Serving past (record { effects = l; after = t })) (sym (append-nil y.effects)) (serving_still past y t h (awaited_aside y.after p w None))
waited_serving past y p w (Some c) h = subst (λ (l : List Effect). Serving past (record { effects = l; after = y.after })) (sym (append-nil y.effects)) h

call_serving : (t : State) (past : List Item) (p : Pid) (a : Args) (v : Service) → Here t p → Going t past → let c : Call = record { service = v; args = a } in RecordServing past (event.Run p) (called p c (service_of t p a v))
call_serving t past p a service.Qio here g = by_test (request_test t p (asked t p a)) refl
  where
    by_test : (r : Result (Cell × Channel) Cond) → request_test t p (asked t p a) ≡ r → let c : Call = record { service = service.Qio; args = a } in RecordServing past (event.Run p) (called p c (at_once (qio_tested t p (asked t p a) r)))
    by_test (Err x) is =
        let c : Call = record { service = service.Qio; args = a } in
        let o = at_once (qio_tested t p (asked t p a) (Err x)) in
        served_serving past p c o o.answer (nothing_serving t _ (head_boxed t past (event.Run p) (served_call p c o o.answer).answer g.boxed) g.single)
    by_test (Ok to) is =
        let c : Call = record { service = service.Qio; args = a } in
        let o = at_once (qio_tested t p (asked t p a) (Ok to)) in
        served_serving past p c o o.answer (accepted_serving t p (asked t p a) to (headed p c o o.answer past) is here (asking_headed t p a service.Qio o o.answer past refl) (headed_going t p c o o.answer past g))
call_serving t past p a service.QioW here g = by_test (request_test t p (asked t p a)) refl
  where
    by_test : (r : Result (Cell × Channel) Cond) → request_test t p (asked t p a) ≡ r → let c : Call = record { service = service.QioW; args = a } in RecordServing past (event.Run p) (called p c (qiow_tested t p (asked t p a) r))
    by_test (Err x) is =
        let c : Call = record { service = service.QioW; args = a } in
        let o = qiow_tested t p (asked t p a) (Err x) in
        served_serving past p c o o.answer (nothing_serving t _ (head_boxed t past (event.Run p) (served_call p c o o.answer).answer g.boxed) g.single)
    by_test (Ok to) is =
        let c : Call = record { service = service.QioW; args = a } in
        let o = qiow_tested t p (asked t p a) (Ok to) in
        let y = accepted t p (asked t p a) to.0 to.1 in
        let w = wait.Synch (number a.a0) (number a.a3) in
        served_serving past p c o o.answer
        (waited_serving (headed p c o o.answer past) y p w (wait_condition y.after p w) (accepted_serving t p (asked t p a) to (headed p c o o.answer past) is here (asking_headed t p a service.QioW o o.answer past refl) (headed_going t p c o o.answer past g)))
call_serving t past p a service.Assign here g =
    let c : Call = record { service = service.Assign; args = a } in
    let name = text a.a1 in
    let o = service_of t p a service.Assign in
    served_serving past p c o o.answer (assign_to_serving t p (outer (access_mode a.a2) (current t p)) name (device_named t name) (place a.a0) c past (named_found t name (unit_named t name) (box_named t name) refl refl) refl refl here.made.above g.boxed g.single)
call_serving t past p a service.CreMbx here g =
    let c : Call = record { service = service.CreMbx; args = a } in
    let o = service_of t p a service.CreMbx in
    served_serving past p c o o.answer (crembx_serving t p a past here.made.above g.boxed g.single)
call_serving t past p a service.DelMbx here g =
    let c : Call = record { service = service.DelMbx; args = a } in
    let o = service_of t p a service.DelMbx in
    let x = headed p c o o.answer past in
    let h = head_boxed t past (event.Run p) (served_call p c o o.answer).answer g.boxed in
    served_serving past p c o o.answer (at_channel_serving t x p (number a.a0) (delmbx_at t p) (channel_test t p (number a.a0)) refl (λ ch one is. delmbx_serving t x p ch.device (h.rows p (number a.a0) ch here.made.above one is).0 h g.single) h g.single)
call_serving t past p a service.Dassgn here g =
    let c : Call = record { service = service.Dassgn; args = a } in
    let o = service_of t p a service.Dassgn in
    let x = headed p c o o.answer past in
    let n = number a.a0 in
    let calm = plain_headed p c o o.answer past refl in
    let h = head_boxed t past (event.Run p) (served_call p c o o.answer).answer g.boxed in
    let y = cancel_channel t p n in
    served_serving past p c o o.answer
    (at_channel_serving t x p n (dassgn_at t p n) (channel_test t p n) refl
    (λ ch one is.
    let w = cancel_channel_walk t x p n ((free_channel y.after p n).effects ++ []) calm h in
    serving t x (and_then y (λ z. free_channel z p n)) (walk_then t x y (λ z. free_channel z p n) [] w (free_walk y.after (later x (map Did y.effects)) p n [] here.made.above one (cancel_channel_clear t x p n h) w.boxed)) g.single) h g.single)
call_serving t past p a service.Cancel here g =
    let c : Call = record { service = service.Cancel; args = a } in
    let o = service_of t p a service.Cancel in
    let x = headed p c o o.answer past in
    let n = number a.a0 in
    let calm = plain_headed p c o o.answer past refl in
    let h = head_boxed t past (event.Run p) (served_call p c o o.answer).answer g.boxed in
    served_serving past p c o o.answer (at_channel_serving t x p n (cancel_at t p n) (channel_test t p n) refl (λ ch one is. serving t x (cancel_channel t p n) (cancel_channel_walk t x p n [] calm h) g.single) h g.single)
call_serving t past p a v here g = far_serving t past p a v refl g.boxed g.single

-- Records of the events.

moved_going : (s t : State) (past : List Item) → Moves s None [] t None → Aside s [] t → Base s → Going s past → Going t past
moved_going s t past m k b g = record {
  stands = moves_stand s None [] t None past m b g.stands;
  listed = moves_listed s None [] t None past m b g.stands g.listed;
  boxed = still_boxed s t past k g.boxed;
  single = single_on s t (fewer_same s t k.requests k.boxes) g.single;
}

returned_plain_call : (s : State) (past : List Item) (p : Pid) (frames : List Frame) → IsPlainCall (Head (event.Run p) (returned s p frames).answer ∷ past)
returned_plain_call s past p [] = refl
returned_plain_call s past p (f ∷ fs) = by_kind f.kind
  where
    by_kind : (k : FrameKind) → IsPlainCall (Head (event.Run p) (returned_from s p f k).answer ∷ past)
    by_kind kind.Main = refl
    by_kind (kind.Ast id) = refl
    by_kind kind.Change = refl
    by_kind kind.Handler = refl

returned_serving : (s : State) (past : List Item) (p : Pid) → Going s past → RecordServing past (event.Run p) (returned s p (process_at s p).frames)
returned_serving s past p g =
    let o = returned s p (process_at s p).frames in
    aside_serving s (Head (event.Run p) o.answer ∷ past) (part_of o) (returned_aside s p (process_at s p).frames) (returned_plain_call s past p (process_at s p).frames) (head_boxed s past (event.Run p) o.answer g.boxed) g.single

on_serving : (s : State) (past : List Item) (p : Pid) (n : ℕ) (x : Stop) → Here s p → Going s past → RecordServing past (event.Run p) (run_on s p n x)
on_serving s past p n (stop.Call c) here g =
    let t = change s p (moved_behind n) in
    let m : Moves s None [] t None = moved s None p (process_at s p).store (n + 1) refl in
    call_serving t past p c.args c.service (here_after s p None [] t None m here) (moved_going s t past m (changed s p (moved_behind n) [] refl tt) here.base g)
on_serving s past p n stop.Return here g = returned_serving s past p g
on_serving s past p n stop.End here g = returned_serving s past p g
on_serving s past p n stop.Local here g = nothing_serving s _ (head_boxed s past (event.Run p) answer.Local g.boxed) g.single

frame_serving : (s : State) (past : List Item) (p : Pid) (f : Frame) (o : Option Wait) → Here s p → Going s past → RecordServing past (event.Run p) (run_frame s p f o)
frame_serving s past p f None here g =
    let a = advanced (image_of s p) (reader p f) (process_at s p).store f.pc in
    let t = change s p (moved_to a.store a.place) in
    let m : Moves s None [] t None = moved s None p a.store a.place (advanced_statuses (image_of s p) (reader p f) (process_at s p).store f.pc) in
    on_serving t past p a.place a.stop (here_after s p None [] t None m here) (moved_going s t past m (changed s p (moved_to a.store a.place) [] refl tt) here.base g)
frame_serving s past p f (Some w) here g =
    let c = or_normal (wait_condition s p w) in
    let t = change s p (resumed_with w c) in
    let x = Head (event.Run p) (answer.Resume c) in
    let k = changed s p (resumed_with w c) [] (uses_channels w (with_wait None (process_at s p))) tt in
    serving_still (x ∷ past) (nothing s) t (nothing_serving s (x ∷ past) (head_boxed s past (event.Run p) (answer.Resume c) g.boxed) g.single) k

run_serving : (s : State) (past : List Item) (p : Pid) (frames : List Frame) → Here s p → Going s past → RecordServing past (event.Run p) (run s p frames)
run_serving s past p [] here g = nothing_serving s _ (head_boxed s past (event.Run p) answer.Local g.boxed) g.single
run_serving s past p (f ∷ fs) here g = frame_serving s past p f f.wait here g

-- Units.

on_unit : (u : UnitNo) (d : Device) → is_unit u d ≡ true → (v : UnitNo) × (d ≡ device.Unit v)
on_unit u (device.Unit v) e = (v, refl)
on_unit u (device.Mailbox b) e = absurd (let never : false ≡ true = e in cc)

don_serving : (s : State) (past : List Item) (u : UnitNo) (o : Option Request) → in_service u s.requests ≡ o → Going s past → RecordServing past (event.Don u) (don s u o)
don_serving s past u None is g = nothing_serving s _ (head_boxed s past (event.Don u) answer.Local g.boxed) g.single
don_serving s past u (Some r) is g =
    let x = Head (event.Don u) (answer.Unit r.req.id) in
    let t = with_unit s u (settled (unit_at s u) r.req) in
    let e = unit_ending r (serve (unit_at s u) r.req).reply in
    let k = same s t [] refl refl refl refl refl tt in
    let h = still_boxed s t (x ∷ past) k (head_boxed s past (event.Don u) (answer.Unit r.req.id) g.boxed) in
    let unit = on_unit u r.req.device (and_parts (is_unit u r.req.device) r.served (found_passes (is_served_by u) s.requests r is)).0 in
    let root = all_find (Rooted t (x ∷ past)) (is_served_by u) s.requests r h.requests is in
    let may : MayFin (x ∷ past) r.req.id e.0.cond = or_right _ (is_some_and (is_stored_nowhere (x ∷ past) r.req.id) (life (x ∷ past) r.req.id)) (unit_nowhere t (x ∷ past) r unit.0 unit.1 root h) in
    let w = finish_walk t (x ∷ past) r e [] refl may h in
    record { boxed = w.boxed; lawful = w.lawful; single = single_on t (finish t r e).after w.fewer g.single }

any_taken : (b : BoxNo) (p : Request → Bool) (xs : List Request) → list_any (waits_at b) (amend p taken_up xs) ≡ list_any (waits_at b) xs
any_taken b p [] = refl
any_taken b p (x ∷ xs) = either (λ (l : List Request). list_any (waits_at b) l ≡ list_any (waits_at b) (x ∷ xs)) (p x) (taken_up x ∷ xs) (x ∷ amend p taken_up xs) refl (ap (λ (y : Bool). waits_at b x || y) (any_taken b p xs))

beg_serving : (s : State) (past : List Item) (u : UnitNo) (o : Option Request) → front u s.requests ≡ o → Going s past → RecordServing past (event.Beg u) (beg s o)
beg_serving s past u None is g = nothing_serving s _ (head_boxed s past (event.Beg u) answer.Local g.boxed) g.single
beg_serving s past u (Some r) is g =
    let x = Head (event.Beg u) (answer.Unit r.req.id) in
    let t = begun s r in
    let h = head_boxed s past (event.Beg u) (answer.Unit r.req.id) g.boxed in
    let there = front_found u s.requests r is in
    let unit = on_unit u r.req.device (and_parts (is_unit u r.req.device) (not r.served) (found_passes (waits_for u) s.requests r there)).0 in
    let c : Carried s t (x ∷ past) (x ∷ past) = record { system = refl; there = there_as s t refl refl; titles = λ d k. title_as s t refl refl d; next = omega arith; origins = λ id k. refl; devices = λ p n. refl } in
    let all = all_rooted s t (x ∷ past) (x ∷ past) c (λ p n. refl) s.requests h.requests in
    let k = all_find (Rooted t (x ∷ past)) (waits_for u) s.requests r all there in
    let found = all_find (λ (y : Request). find (this_request y.req.id) s.requests ≡ Some y) (waits_for u) s.requests r (all_found request_id 0 s.next s.requests h.ordered) there in
    let new : Rooted t (x ∷ past) (taken_up r) = record { from = k.from; below = k.below; above = k.above; numbered = k.numbered; there = k.there; on = k.on; free = subst (λ (d : Device). MayBeServed true d) (sym unit.1) tt; call = k.call; is = k.is; func = k.func; len = k.len } in
    record {
      boxed = carry s t (x ∷ past) (x ∷ past) c refl (λ p n. refl) (λ name. refl) (λ name. refl) (ordered_amend request_id (this_request r.req.id) taken_up (λ y. refl) 0 s.next s.requests h.ordered)
          (amend_found (Rooted t (x ∷ past)) (this_request r.req.id) taken_up s.requests r found new all) h;
      lawful = tt;
      single = λ b e. g.single b (sym (any_taken b (this_request r.req.id) s.requests) ∙ e);
    }

pub step_serving : (s : State) (past : List Item) (e : Event) → Contains (enabled s) e → Base s → Going s past → RecordServing past e (step s e)
step_serving s past (event.Run p) c b g = run_serving s past p (process_at s p).frames (record { base = b; made = enabled_there s (event.Run p) c }) g
step_serving s past (event.Ast p) c b g = by_queue (deliverable_ast s p)
  where
    by_queue : (o : Option Queued) → RecordServing past (event.Ast p) (delivered s p o)
    by_queue None = nothing_serving s _ (head_boxed s past (event.Ast p) answer.Local g.boxed) g.single
    by_queue (Some q) =
        let t = change s p (without_ast q.id) in
        let k = then s t (started t p q q.tag).after [] (started t p q q.tag).effects (changed s p (without_ast q.id) [] refl tt) (started_aside t p q q.tag) in
        aside_serving s (Head (event.Ast p) (answer.Ast q.id) ∷ past) (started t p q q.tag) k refl (head_boxed s past (event.Ast p) (answer.Ast q.id) g.boxed) g.single
step_serving s past (event.Rdn p) c b g =
    let o = step s (event.Rdn p) in
    serving s (Head (event.Rdn p) o.answer ∷ past) (part_of o) (rundown_walk s (Head (event.Rdn p) o.answer ∷ past) p (process_at s p).phase [] (enabled_there s (event.Rdn p) c).above refl (head_boxed s past (event.Rdn p) o.answer g.boxed)) g.single
step_serving s past (event.Beg u) c b g = beg_serving s past u (front u s.requests) refl g
step_serving s past (event.Don u) c b g = don_serving s past u (in_service u s.requests) refl g
step_serving s past event.Tick c b g = aside_serving s (Head event.Tick (step s event.Tick).answer ∷ past) (tick s) (tick_aside s) refl (head_boxed s past event.Tick (step s event.Tick).answer g.boxed) g.single

-- Runs.

lawful_record : (past : List Item) (es : List Effect) (rs : List Rec) → Lawful past es [] → at_each handles_messages (later past (map Did es)) (flat rs) ≡ true → at_each handles_messages past (map Did es ++ flat rs) ≡ true
lawful_record past [] rs h k = k
lawful_record past (x ∷ es) rs h k = and_from _ _ (h.0 (map Did es ++ flat rs) (effects_left_is es rs ∙ sym (append-nil es))) (lawful_record (Did x ∷ past) es rs h.1 k)

pub going_on : (s : State) (past : List Item) (e : Event) → Contains (enabled s) e → Base s → Further s past → Going s past → Going (step s e).after (later (Head e (step s e).answer ∷ past) (map Did (step s e).effects))
going_on s past e c b f g =
    let one = step_right s past e c b g.stands in
    let two = step_serving s past e c b g in
    record { stands = one.stands; listed = (step_further s past e c b g.stands f).listed; boxed = two.boxed; single = two.single }

run_messages : (s : State) (past : List Item) (rs : List Rec) → AreSteps s rs → Base s → Further s past → Going s past → at_each handles_messages past (flat rs) ≡ true
run_messages s past [] k b f g = refl
run_messages s past (r ∷ rs) k b f g =
    let e = r.event in
    let one = step_right s past e k.0.enabled b g.stands in
    let two = step_serving s past e k.0.enabled b g in
    rw (k.0.answer, k.0.effects) (lawful_record (Head e (step s e).answer ∷ past) (step s e).effects rs two.lawful
    (run_messages (step s e).after (later (Head e (step s e).answer ∷ past) (map Did (step s e).effects)) rs k.1 one.base (step_further s past e k.0.enabled b g.stands f) (going_on s past e k.0.enabled b f g)))

-- before the first record there is nothing

no_box_named : (k : ℕ) (name : List ℕ) → list_any (is_box_of name) (replicate k None) ≡ false
no_box_named zero name = refl
no_box_named (suc k) name = no_box_named k name

abbrev HasNone : Process → Type 0
HasNone x = (n : ℕ) → channel_at x.channels n ≡ None

born_free : (at : ℕ) (ds : List ProcDecl) → AllByRecursion HasNone (born_from at ds)
born_free at [] = tt
born_free at (d ∷ ds) = either (AllByRecursion HasNone) d.start (born_of at d ∷ born_from (at + 1) ds) (born_from (at + 1) ds) ((λ n. alike_at {A = Option Channel} None 64 (n - 1)), born_free (at + 1) ds) (born_free (at + 1) ds)

first_row : (system : System) (p : Pid) (n : ℕ) → row (first system) p n ≡ None
first_row system p n = all_get HasNone (born_from 0 system.decls) (p.0 - 1) nobody (λ n. refl) (born_free 0 system.decls) n

first_going : (system : System) → Going (first system) []
first_going system = record {
  stands = first_stands system;
  listed = (first_further system).listed;
  boxed = record {
    counted = omega arith;
    ordered = omega arith;
    rows = λ p n ch above one e. absurd (let never : None ≡ Some ch = sym (first_row system p n) ∙ e in cc);
    requests = tt;
    boxes = λ b box e. absurd (let never : None ≡ Some box = sym (alike_at {A = Option Mailbox} None 64 b.0) ∙ e in cc);
    others = λ name e. refl;
    stands = no_box_named 64;
  };
  single = λ b e. absurd (let never : false ≡ true = e in cc);
}

pub every_run_messages : (system : System) (recs : List Rec) → IsRun system recs → messages recs ≡ true
every_run_messages system recs run = run_messages (first system) [] recs run.steps (first_base system) (first_further system) (first_going system)

-- After the records of every run.

run_going : (s : State) (past : List Item) (rs : List Rec) → AreSteps s rs → Base s → Further s past → Going s past → Going (after_from s rs) (later past (flat rs))
run_going s past [] k b f g = g
run_going s past (r ∷ rs) k b f g =
    let e = r.event in
    let one = step_right s past e k.0.enabled b g.stands in
    let x = Head e (step s e).answer in
    let es = (step s e).effects in
    rw (k.0.answer, k.0.effects, later_items (x ∷ past) (map Did es) (flat rs))
    (run_going (step s e).after (later (x ∷ past) (map Did es)) rs k.1 one.base (step_further s past e k.0.enabled b g.stands f) (going_on s past e k.0.enabled b f g))

every_going : (system : System) (recs : List Rec) → IsRun system recs → Going (after system recs) (past_of recs)
every_going system recs run = run_going (first system) [] recs run.steps (first_base system) (first_further system) (first_going system)

pub every_box_stands : (system : System) (recs : List Rec) (name : List ℕ) → IsRun system recs → list_any (is_box_of name) (after system recs).boxes ≡ box_stands (past_of recs) name
every_box_stands system recs name run = (every_going system recs run).boxed.stands name

pub every_box_stores : (system : System) (recs : List Rec) (b : BoxNo) → IsRun system recs → IsTrue (is_some (box_at (after system recs) b)) → map as_stored (mailbox_at (after system recs) b).messages ≡ stored (past_of recs) (mailbox_at (after system recs) b).name
every_box_stores system recs b run there = by_box (box_at (after system recs) b) refl there
  where
    by_box : (o : Option Mailbox) → box_at (after system recs) b ≡ o → IsTrue (is_some o) → map as_stored (or_no_box o).messages ≡ stored (past_of recs) (or_no_box o).name
    by_box None e k = absurd (let never : false ≡ true = k in cc)
    by_box (Some box) e k = ((every_going system recs run).boxed.boxes b box e).messages

pub every_box_writers : (system : System) (recs : List Rec) (b : BoxNo) → IsRun system recs → IsTrue (is_some (box_at (after system recs) b)) → AllByRecursion (λ m. option_map (λ l. l.p) (life (past_of recs) m.id) ≡ Some m.writer) (mailbox_at (after system recs) b).messages
every_box_writers system recs b run there = by_box (box_at (after system recs) b) refl there
  where
    at : (o : Option Life) (p : Pid) → option_map (λ x. x.p) (option_map origin o) ≡ Some p → option_map (λ l. l.p) o ≡ Some p
    at None p e = absurd (let never : None ≡ Some p = e in cc)
    at (Some l) p e = e

    by_box : (o : Option Mailbox) → box_at (after system recs) b ≡ o → IsTrue (is_some o) → AllByRecursion (λ m. option_map (λ l. l.p) (life (past_of recs) m.id) ≡ Some m.writer) (or_no_box o).messages
    by_box None e k = absurd (let never : false ≡ true = k in cc)
    by_box (Some box) e k =
        all_weaker (λ (m : Msg). owner_of (past_of recs) m.id ≡ Some m.writer) (λ (m : Msg). option_map (λ l. l.p) (life (past_of recs) m.id) ≡ Some m.writer) (λ m j. at (life (past_of recs) m.id) m.writer j) box.messages
        ((every_going system recs run).boxed.boxes b box e).writers

pub every_box_apart : (system : System) (recs : List Rec) (b c : BoxNo) → IsRun system recs → IsTrue (is_some (box_at (after system recs) b)) → IsTrue (is_some (box_at (after system recs) c)) → (mailbox_at (after system recs) c).name ≡ (mailbox_at (after system recs) b).name → c ≡ b
every_box_apart system recs b c run one two = by_boxes (box_at (after system recs) b) (box_at (after system recs) c) refl refl one two
  where
    by_boxes : (o u : Option Mailbox) → box_at (after system recs) b ≡ o → box_at (after system recs) c ≡ u → IsTrue (is_some o) → IsTrue (is_some u) → (or_no_box u).name ≡ (or_no_box o).name → c ≡ b
    by_boxes None u e f j k same = absurd (let never : false ≡ true = j in cc)
    by_boxes (Some box) None e f j k same = absurd (let never : false ≡ true = k in cc)
    by_boxes (Some box) (Some other) e f j k same = ap (λ (n : ℕ). let x : BoxNo = record { 0 = n } in x) (((every_going system recs run).boxed.boxes b box e).alone c other f same)

pub every_box_named : (system : System) (recs : List Rec) (b : BoxNo) → IsRun system recs → IsTrue (is_some (box_at (after system recs) b)) → list_any (is_unit_of (mailbox_at (after system recs) b).name) (after system recs).system.units ≡ false
every_box_named system recs b run there = by_box (box_at (after system recs) b) refl there
  where
    by_box : (o : Option Mailbox) → box_at (after system recs) b ≡ o → IsTrue (is_some o) → list_any (is_unit_of (or_no_box o).name) (after system recs).system.units ≡ false
    by_box None e k = absurd (let never : false ≡ true = k in cc)
    by_box (Some box) e k = ((every_going system recs run).boxed.boxes b box e).unit

pub every_box_single : (system : System) (recs : List Rec) (b : BoxNo) → IsRun system recs → list_any (waits_at b) (after system recs).requests ≡ true → (mailbox_at (after system recs) b).messages ≡ []
every_box_single system recs b run e = (every_going system recs run).single b e

pub every_channel : (system : System) (recs : List Rec) (p : Pid) (n : ℕ) → IsRun system recs → 1 ≤ p.0 → 1 ≤ n → OfChannelCall (after system recs) (past_of recs) p n (channel_at (process_at (after system recs) p).channels n)
every_channel system recs p n run above one = by_row (row (after system recs) p n) refl
  where
    by_row : (o : Option Channel) → row (after system recs) p n ≡ o → OfChannelCall (after system recs) (past_of recs) p n o
    by_row None e = tt
    by_row (Some ch) e = ((every_going system recs run).boxed.rows p n ch above one e).1

pub every_request_device : (system : System) (recs : List Rec) → IsRun system recs → AllByRecursion (λ r. option_map (λ l. l.device) (life (past_of recs) r.req.id) ≡ Some (Some (device_title (after system recs) r.req.device))) (after system recs).requests
every_request_device system recs run =
    all_weaker (Rooted (after system recs) (past_of recs)) (λ (r : Request). option_map (λ l. l.device) (life (past_of recs) r.req.id) ≡ Some (Some (device_title (after system recs) r.req.device)))
    (λ r k. at (life (past_of recs) r.req.id) _ k.is) (after system recs).requests (every_going system recs run).boxed.requests
  where
    at : (o : Option Life) (g : Origin) → option_map origin o ≡ Some g → option_map (λ l. l.device) o ≡ Some g.device
    at None g e = absurd (let never : None ≡ Some g = e in cc)
    at (Some l) g e = let same : Some l.device ≡ Some g.device = ap (option_map (λ (x : Origin). x.device)) e in same
