use Rattle.std.proofs.lemmas.List.{take_rest}
use Rattle.vx_journal.proofs.Fronts.{fails_before, reads_behind}
use Rattle.vx_journal.proofs.read.journal_of.Goals as goal

pub returns-in-Ok : goal.returns-in-Ok
returns-in-Ok c =
    let text = c.args.text.now in
    let same = take_rest text c.in-Ok.end.len in
    reads_behind c.args.system text c.in-Ok.end c.behind_header.result c.in-Ok.ensures.read (rw same at c.behind_header.ensures)

pub returns-in-Err : goal.returns-in-Err
returns-in-Err c = fails_before c.args.system c.args.text.now c.in-Err.failure c.in-Err.ensures.read
