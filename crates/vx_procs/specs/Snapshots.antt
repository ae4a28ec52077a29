-- What is put away of the processes and of the whole.
use Rattle.std.specs.Prelude.{map}
use Rattle.std.specs.List.{AllByRecursion}
use Rattle.vx_record.specs.State.{Process, State}
use Rattle.vx_procs.specs.Held.{AreHeld, Books}
use Rattle.vx_procs.specs.Kernel.{Room}
use Rattle.vx_procs.specs.Units.{IsIn}
use Rattle.vx_procs.specs.View.{ending_of, unit_of}
use Rattle.vx_procs.specs.declared.proc_snapshot.ProcSnapshot.{ProcSnapshot}
use Rattle.vx_procs.specs.declared.snapshot.CoreSnapshot.TheInside.{Inside}

-- the process that was put away
abbrev pub process_in : {R : Type 0} → ProcSnapshot R → Process
process_in s = record {
  decl = s.decl;
  group = s.group;
  member = s.member;
  privs = s.privs;
  store = s.store;
  frames = s.frames.items;
  enables = s.asts.enables;
  asts = s.asts.items;
  channels = s.chans;
  handlers = s.exits.items;
  cluster_0 = s.cluster_0;
  cluster_1 = s.cluster_1;
  wake_pending = s.wake_pending;
  suspended = s.suspended;
  delete_pending = s.delete_pending;
  exit_code = s.exit_code;
  phase = s.phase;
}

abbrev pub room_in : {R : Type 0} → ProcSnapshot R → Room
room_in s = record { frames = s.frames.capacity; asts = s.asts.capacity; handlers = s.exits.capacity }

abbrev pub books_in : {R : Type 0} → ProcSnapshot R → Books
books_in s = record { room = room_in s; account = s.account }

-- the whole
abbrev pub state_in : {R : Type 0} → Inside R → State
state_in c = record {
  system = c.system;
  time = c.time;
  next = c.next;
  procs = map process_in c.procs.items;
  common = c.clusters.common;
  requests = c.requests;
  timers = c.timers;
  attention = c.attention.items;
  boxes = c.boxes;
  units = map unit_of c.units.items;
}

-- what the executive keeps beside its state is held here too, and each unit is in
pub record IsPutAway {R : Type 0} (c : Inside R) : Type 0 where
  pub held : AreHeld (state_in c) c.short (map books_in c.procs.items) (map ending_of c.units.items)
  pub units : AllByRecursion IsIn c.units.items
