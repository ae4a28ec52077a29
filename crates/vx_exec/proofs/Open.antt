-- The devices of a process's channels stand, and so do requests and attention entries, also after a process changed whose channels and
-- declaration are the same.
use Rattle.std.proofs.Common.{◌≡◌, ℕ, ◌-◌, List, Option, length-set, refl, sym, subst, arith}
use Rattle.std.specs.List.{AllByRecursion}
use Rattle.vx_record.specs.Types.{Channel, Device, Mode, Pid, Request}
use Rattle.vx_record.specs.Sound.{ChannelStands, Ground, IsRooted, RequestStands, ground, process_of}
use Rattle.vx_record.specs.State.{Process, State, change, nobody, process_at}
use Rattle.vx_record.proofs.Ground.{Base, at_set, device_moves, request_moves, row_moves}
use Rattle.vx_record.proofs.Lists.{all_weaker}
use Rattle.vx_io.specs.Asking.{AreOpen}

-- a process that another one became
record IsAlike (x y : Process) : Type 0 where
  decl : y.decl ≡ x.decl
  channels : y.channels ≡ x.channels

alike_at : (s : State) (p q : Pid) (f : Process → Process) → IsAlike (process_at s p) (f (process_at s p)) → IsAlike (process_at s q) (process_at (change s p f) q)
alike_at s p q f alike = at_set IsAlike (λ x. record { decl = refl; channels = refl }) s.procs (p.0 - 1) (q.0 - 1) (f (process_at s p)) nobody alike

base_changed : (s : State) (p : Pid) (f : Process → Process) → IsAlike (process_at s p) (f (process_at s p)) → Base (ground s) (ground (change s p f))
base_changed s p f alike = grind (arith, alike_at, length-set)

rooted_changed : (g h : Ground) (p : Pid) (n : ℕ) (mode : Mode) (d : Device) → (process_of h p).channels ≡ (process_of g p).channels → IsRooted g p n mode d → IsRooted h p n mode d
rooted_changed g h p n mode d same r = grind arith

request_changed : (s : State) (p : Pid) (f : Process → Process) → IsAlike (process_at s p) (f (process_at s p)) → (r : Request) → RequestStands (ground s) r → RequestStands (ground (change s p f)) r
request_changed s p f alike r stands = grind (arith, alike_at, request_moves, base_changed, device_moves, rooted_changed)

pub open_changed : (s : State) (p : Pid) (f : Process → Process) → (f (process_at s p)).decl ≡ (process_at s p).decl → (f (process_at s p)).channels ≡ (process_at s p).channels → AreOpen s p → AreOpen (change s p f) p
open_changed s p f decl channels was =
    let g = ground s in
    let h = ground (change s p f) in
    let alike : IsAlike (process_at s p) (f (process_at s p)) = record { decl = decl; channels = channels } in
    let same = (alike_at s p p f alike).channels in
    record {
      channels = subst (λ (rows : List (Option Channel)). AllByRecursion (ChannelStands h) rows) (sym same) (all_weaker (ChannelStands g) (ChannelStands h) (row_moves g h refl (λ b x. x)) (process_at s p).channels was.channels);
      requests = record { stand = all_weaker (RequestStands g) (RequestStands h) (request_changed s p f alike) s.requests was.requests.stand; order = was.requests.order };
      entries = was.entries;
    }
