use Rattle.std.proofs.Common.{◌≡◌, drop, take}
use Rattle.std.specs.List.{AllByRecursion}
use Rattle.vx_mailbox.specs.Boxes.{IsShort}
use Rattle.vx_mailbox.proofs.messages.Messages.copy_all.Given as goal

abbrev pub invariant-loop-msg : goal.invariant-loop-msg
invariant-loop-msg l = record {
  copied : l.self.items ≡ take l.msg-index l.messages;
  short : AllByRecursion IsShort (drop l.msg-index l.messages);
}
