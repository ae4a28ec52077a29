use Rattle.std.proofs.Common.{◌≡◌, ◌<◌, ◌-◌, None, drop, length, replicate, take}
use Rattle.vx_mailbox.specs.Boxes.{HaveRoom}
use Rattle.vx_same.specs.Trimmed.{filled_to}
use Rattle.vx_mailbox.proofs.boxes.Boxes.restore.Given as goal

abbrev pub invariant-loop-place : goal.invariant-loop-place
invariant-loop-place l = record {
  same : take l.place l.self.boxes ≡ take l.place (filled_to 64 None l.boxes);
  behind : drop l.reach l.self.boxes ≡ replicate (64 - l.reach) None;
  room : HaveRoom l.self.boxes l.self.rooms;
  count : 0 < l.place → length l.self.boxes ≡ 64;
}
