-- What a process of the code stands for.
use Rattle.vx_record.specs.State.{Process}
use Rattle.vx_procs.specs.Kernel.{Room}
use Rattle.vx_procs.specs.Held.{Books}
use Rattle.vx_procs.specs.declared.process.Proc.{Proc}

abbrev pub process : {R : Type 0} → Proc R → Process
process pr = record {
  decl = pr.decl;
  group = pr.group;
  member = pr.member;
  privs = pr.privs;
  store = pr.store;
  frames = pr.frames.items;
  enables = pr.asts.enables;
  asts = pr.asts.items;
  channels = pr.chans;
  handlers = pr.exits.items;
  cluster_0 = pr.cluster_0;
  cluster_1 = pr.cluster_1;
  wake_pending = pr.wake_pending;
  suspended = pr.suspended;
  delete_pending = pr.delete_pending;
  exit_code = pr.exit_code;
  phase = pr.phase;
}

abbrev pub room_of : {R : Type 0} → Proc R → Room
room_of pr = record { frames = pr.frames.capacity; asts = pr.asts.capacity; handlers = pr.exits.capacity }

abbrev pub books_of : {R : Type 0} → Proc R → Books
books_of pr = record { room = room_of pr; account = pr.account }
