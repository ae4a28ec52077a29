use Rattle.vx_procs.specs.Snapshots.{books_in, process_in}
use Rattle.vx_procs.specs.View.{books_of, process}
use Rattle.vx_procs.proofs.Again.{books_pushed, process_pushed}
use Rattle.vx_procs.proofs.snapshot.put_away.Goals as goal

pub loop-proc-preserved : goal.loop-proc-preserved
loop-proc-preserved g c = record {
  procs = process_pushed process process_in c.args.procs.now c.loop-proc.copy.items c.push.new.self.items c.loop-proc.proc-index c.proc-item.result c.in_ok-snapshot.field-0 c.loop-proc-test.true c.proc-item.is c.in_ok-push.ensures.items c.in_ok-snapshot.ensures.process c.loop-proc.invariant.procs;
  books = books_pushed books_of books_in c.args.procs.now c.loop-proc.copy.items c.push.new.self.items c.loop-proc.proc-index c.proc-item.result c.in_ok-snapshot.field-0 c.loop-proc-test.true c.proc-item.is c.in_ok-push.ensures.items (record { room = c.in_ok-snapshot.ensures.room; account = c.in_ok-snapshot.ensures.account }) c.loop-proc.invariant.books;
}
