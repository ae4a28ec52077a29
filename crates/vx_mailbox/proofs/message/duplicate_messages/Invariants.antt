use Rattle.std.proofs.Common.{◌≡◌, take}
use Rattle.vx_mailbox.proofs.message.duplicate_messages.Given as goal

abbrev pub invariant-loop-msg : goal.invariant-loop-msg
invariant-loop-msg l = l.copy.items ≡ take l.msg-index l.messages
