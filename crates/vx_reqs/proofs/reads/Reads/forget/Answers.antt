use Rattle.std.proofs.lemmas.Simd.{get_or-replicate}
use Rattle.vx_reqs.proofs.Waiting.{from_first}
use Rattle.vx_reqs.proofs.reads.Reads.forget.Goals as goal

pub returns : goal.returns
returns c places b lt = from_first b _ (get_or-replicate 64 b.0 0 0 lt) places
