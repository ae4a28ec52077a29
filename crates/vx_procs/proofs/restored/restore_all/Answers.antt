use Rattle.std.proofs.Common.{◌≡◌, ◌+◌, ◌++◌, ◌∷◌, [], slice_set, take, ◌∙◌, arith}
use Rattle.std.proofs.lemmas.List.{length-set, take_more_set}
use Rattle.vx_procs.specs.Snapshots.{books_in, process_in}
use Rattle.vx_procs.specs.View.{books_of, process}
use Rattle.vx_procs.proofs.Again.{books_pushed, process_pushed}
use Rattle.vx_procs.proofs.restored.restore_all.Goals as goal

pub loop-i-preserved : goal.loop-i-preserved
loop-i-preserved g c =
    let i = c.loop-i.i in
    let xs = c.loop-i.procs.items in
    let y = c.restore.new.proc in
    let kept = c.args.kept.now in
    let s = c.index-kept-i.result in
    let there = c.loop-i-test.true in
    let more : take (i + 1) (slice_set xs i y) ≡ take i xs ++ y ∷ [] = take_more_set xs i y (omega (arith, c.loop-i.invariant.long, there)) in
    record {
      long = length-set xs i y ∙ c.loop-i.invariant.long;
      procs = process_pushed process_in process kept (take i xs) (take (i + 1) (slice_set xs i y)) i s y there c.index-kept-i.is more c.in_ok-restore.ensures.process c.loop-i.invariant.procs;
      books = books_pushed books_in books_of kept (take i xs) (take (i + 1) (slice_set xs i y)) i s y there c.index-kept-i.is more (record { room = c.in_ok-restore.ensures.room; account = c.in_ok-restore.ensures.account }) c.loop-i.invariant.books;
    }
