use Rattle.std.proofs.Common.{◌≡◌, ◌+◌, drop}
use Rattle.vx_base.specs.Queues.{stored_bytes}
use Rattle.vx_mailbox.proofs.messages.are_within.Given as goal

-- what is left of the room, and the bytes of the rest
abbrev pub invariant-loop-m : goal.invariant-loop-m
invariant-loop-m l = stored_bytes l.messages + l.left ≡ stored_bytes (drop l.m-index l.messages) + l.room
