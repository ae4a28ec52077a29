-- What stands when a request is accepted, and stays while its flag and its status block are cleared.
use Rattle.std.proofs.Common.{◌≡◌, ℕ, ◌-◌, ◌≤◌, Bool, true, not, ◌==◌, nat_lt, Option, Some, Ok, IfSome, refl, ◌∙◌, subst}
use Rattle.std.proofs.lemmas.Bool.{ltb-false, or_parts}
use Rattle.vx_base.specs.Channels.{is_channel_number, channel_at}
use Rattle.vx_record.specs.Types.{BoxNo, Cell, Channel, Device, Entry, Pid, Status}
use Rattle.vx_base.specs.declared.effects.Cell.TheVariants.{Local, Common}
use Rattle.vx_base.specs.declared.request.Device.TheVariants as device
use Rattle.vx_record.specs.State.{Process, State, IsProcess, HasFrame, process_at, change, current, nobody}
use Rattle.vx_record.specs.Parts.{Part, nothing}
use Rattle.vx_record.specs.Flags.{with_cell, with_local_flag}
use Rattle.vx_record.specs.Finish.{iosb_part, with_stored_status}
use Rattle.vx_record.specs.Requests.{Asked, request_test, new_request, new_attention}
use Rattle.vx_record.specs.Sound.{ground, IsRoutineOf, DeviceStands, RequestStands, AttentionStands}
use Rattle.vx_record.proofs.Firm.{IsFirm}
use Rattle.vx_record.proofs.Lists.{either}
use Rattle.vx_record.proofs.Ground.{some_weaker, routine_moves, at_set}
use Rattle.vx_record.proofs.Changes.{going_of, firm_at}
use Rattle.vx_record.proofs.SoundRequests.{request_test_row, tested_channel, device_stands, rooted_new, unserved, promised_stands}

-- a field of a process after a change that keeps it
pub field_same : {T : Type 0} (g : Process → T) (f : Process → Process) (s : State) (p q : Pid) → g (f (process_at s p)) ≡ g (process_at s p) → g (process_at (change s p f) q) ≡ g (process_at s q)
field_same g f s p q h = at_set (λ (x y : Process). g y ≡ g x) (λ x. refl) s.procs (p.0 - 1) (q.0 - 1) (f (process_at s p)) nobody h

-- the system is as it was, and a process has the declaration, the channels and the frames that it had
pub record IsSeated (s t : State) (p : Pid) : Type 0 where
  pub system : t.system ≡ s.system
  pub decl : (process_at t p).decl ≡ (process_at s p).decl
  pub channels : (process_at t p).channels ≡ (process_at s p).channels
  pub frames : (process_at t p).frames ≡ (process_at s p).frames

pub seated_then : (s t u : State) (p : Pid) → IsSeated s t p → IsSeated t u p → IsSeated s u p
seated_then s t u p a b = record { system = b.system ∙ a.system; decl = b.decl ∙ a.decl; channels = b.channels ∙ a.channels; frames = b.frames ∙ a.frames }

seated : (s : State) (p q : Pid) (f : Process → Process) → (f (process_at s q)).decl ≡ (process_at s q).decl → (f (process_at s q)).channels ≡ (process_at s q).channels → (f (process_at s q)).frames ≡ (process_at s q).frames → IsSeated s (change s q f) p
seated s p q f d c r = record { system = refl; decl = field_same (λ (pr : Process). pr.decl) f s q p d; channels = field_same (λ (pr : Process). pr.channels) f s q p c; frames = field_same (λ (pr : Process). pr.frames) f s q p r }

pub cell_seated : (s : State) (p : Pid) (c : Cell) (on : Bool) → IsSeated s (with_cell s c on) p
cell_seated s p (Local q n) on =
    let pr = process_at s q in
    seated s p q (with_local_flag n on) (either (λ (x : Process). x.decl ≡ pr.decl) (nat_lt n 32) _ _ refl refl) (either (λ (x : Process). x.channels ≡ pr.channels) (nat_lt n 32) _ _ refl refl) (either (λ (x : Process). x.frames ≡ pr.frames) (nat_lt n 32) _ _ refl refl)
cell_seated s p (Common g n k) on = record { system = refl; decl = refl; channels = refl; frames = refl }

pub status_seated : (s : State) (p q : Pid) (i : ℕ) (st : Status) → IsSeated s (iosb_part s q i st).after p
status_seated s p q i st = either (λ (x : Part). IsSeated s x.after p) (not (i == 0)) _ (nothing s) (seated s p q (with_stored_status i st) refl refl refl) (record { system = refl; decl = refl; channels = refl; frames = refl })

pub routine_seated : (s t : State) (p : Pid) (o : Option Entry) → IsSeated s t p → IfSome o (IsRoutineOf (ground s) p) → IfSome o (IsRoutineOf (ground t) p)
routine_seated s t p o k h = some_weaker (IsRoutineOf (ground s) p) (IsRoutineOf (ground t) p) (λ tag r. routine_moves s.system t.system (process_at s p).decl (process_at t p).decl tag k.system k.decl r) o h

-- What a test of a request found, of a process with a frame, with a routine of its own.
pub record IsFit (s : State) (p : Pid) (q : Asked) (ch : Channel) : Type 0 where
  pub number : is_channel_number q.chan ≡ true
  pub row : channel_at (process_at s p).channels q.chan ≡ Some ch
  pub iosb : q.iosb ≤ 32
  pub buf : q.buf ≤ 31
  pub len : q.len ≤ 2048
  pub frame : HasFrame s p
  pub routine : IfSome q.ast (IsRoutineOf (ground s) p)

pub tested_fits : (s : State) (p : Pid) (q : Asked) (to : Cell × Channel) → request_test s p q ≡ Ok to → HasFrame s p → IfSome q.ast (IsRoutineOf (ground s) p) → IsFit s p q to.1
tested_fits s p q to e has r =
    let parts = request_test_row s p q to e in
    let row = tested_channel s p q.chan to.1 parts.1 in
    let first = or_parts (nat_lt 32 q.iosb) _ parts.0 in
    let second = or_parts (nat_lt 31 q.buf) _ first.1 in
    let third = or_parts (nat_lt 2048 q.len) _ second.1 in
    search ltb-false

pub fit_seated : (s t : State) (p : Pid) (q : Asked) (ch : Channel) → IsSeated s t p → IsFit s p q ch → IsFit t p q ch
fit_seated s t p q ch k f = search (k.channels, k.frames, routine_seated)

pub fit_request : (s : State) (p : Pid) (q : Asked) (ch : Channel) → IsProcess s p → IsFit s p q ch → IsFirm s → RequestStands (ground s) (new_request s p q ch)
fit_request s p q ch m f h = search (device_stands, rooted_new, unserved, promised_stands (ground s) p (current s p) q.ast f.routine)

pub fit_attention : (s : State) (p : Pid) (q : Asked) (ch : Channel) (b : BoxNo) (tag : Entry) → IsProcess s p → ch.device ≡ device.Mailbox b → q.ast ≡ Some tag → IsFit s p q ch → IsFirm s → AttentionStands (ground s) (new_attention s p q b tag)
fit_attention s p q ch b tag m on is f h =
    let row : channel_at (process_at s p).channels q.chan ≡ Some (record { device = device.Mailbox b; mode = ch.mode }) = subst (λ (d : Device). channel_at (process_at s p).channels q.chan ≡ Some (record { device = d; mode = ch.mode })) on f.row in
    record {
      made = m;
      stands = subst (DeviceStands (ground s)) on (device_stands s p q.chan ch m f.row h);
      channel_mode = ch.mode;
      channel = record { number = f.number; row = row };
      going = going_of (process_at s p).phase (process_at s p).frames f.frame (firm_at s p h m).idle ch.mode;
      routine = subst (λ (o : Option Entry). IfSome o (IsRoutineOf (ground s) p)) is f.routine;
    }
