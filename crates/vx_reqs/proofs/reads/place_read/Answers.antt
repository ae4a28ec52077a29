use Rattle.std.proofs.Common.{get_or}
use Rattle.vx_record.proofs.Lists.{all_at}
use Rattle.vx_reqs.specs.Places.{IsFrom}
use Rattle.vx_reqs.proofs.reads.place_read.Goals as goal

pub place_from-requires : goal.place_from-requires
place_from-requires g c = λ k d lt within. all_at (IsFrom c.args.b (get_or c.args.reads.now.from c.args.b.0 0)) c.args.places.now.items k d (c.requires.reads c.args.b c.if-b-lt64.true) within (c.first_from-first.ensures.below k d lt)
