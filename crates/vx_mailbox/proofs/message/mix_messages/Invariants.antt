use Rattle.std.proofs.Common.{◌≡◌, drop}
use Rattle.vx_mailbox.specs.Digest.{mix_messages}
use Rattle.vx_mailbox.proofs.message.mix_messages.Given as goal

abbrev pub invariant-loop-m : goal.invariant-loop-m
invariant-loop-m l = mix_messages l.mixed (drop l.m-index l.messages) ≡ mix_messages l.digest l.messages
