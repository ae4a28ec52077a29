use Rattle.std.proofs.Common.{refl}
use Rattle.vx_laws.specs.Items.{Head}
use Rattle.vx_judge.proofs.ReadsListed.{asked_on, reads_on}
use Rattle.vx_judge.proofs.Tables.{on_ok}
use Rattle.vx_judge.proofs.boxes.BoxesJudge.pass_head.Goals as goal

pub returns-clause-ok : goal.returns-clause-ok
returns-clause-ok c = on_ok c.pass_head.result (λ is past f.
    let head = Head c.args.rec.now.event c.args.rec.now.answer in
    record {
      lives = is past f.lives;
      channels = f.channels;
      requests = asked_on c.args.self.now.requests past head refl f.requests;
      stored = f.stored;
      readers = reads_on c.args.self.now.readers past head refl f.readers;
    }) c.pass_head.ensures
