-- What stays as it was while room is made.
use Rattle.std.specs.Prelude.{◌≡◌}
use Rattle.vx_procs.specs.Kernel.{Kernel}

-- What is made for units is as it was, and so is the room of all lists but those of processes.
pub record KeepsLists (before after : Kernel) : Type 0 where
  pub ends : after.ends ≡ before.ends
  pub timers : after.timers ≡ before.timers
  pub clusters : after.clusters ≡ before.clusters
  pub associations : after.associations ≡ before.associations
  pub requests : after.requests ≡ before.requests
  pub attention : after.attention ≡ before.attention
  pub messages : after.messages ≡ before.messages
