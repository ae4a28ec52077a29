use Rattle.std.proofs.Common.{◌≡◌, min, length, take, drop, arith}
use Rattle.std.proofs.lemmas.Grind.{common_steps}
use Rattle.std.proofs.lemmas.List.{drop-drop}
use Rattle.vx_host.proofs.Known.{Consumes-front, end_at_none}
use Rattle.vx_host.proofs.memory.MemSourceSource.read.Goals as goal

pub returns-clause-bytes : goal.returns-clause-bytes
returns-clause-bytes c =
    let s = c.self.inside in
    let n = c.min-count.result in
    let left = drop s.at s.bytes in
    let least : n ≡ min (min (length c.args.buf.now) s.piece) (length left) = grind (arith, common_steps, c.min.ensures, c.min-count.ensures) in
    let copied : c.copy_from_slice.new.self ≡ take n left = grind (arith, common_steps, c.copy_from_slice.ensures.after) in
    rw (← c.self.view_is, ← drop-drop n s.at s.bytes) (
      Consumes-front left c.copy_from_slice.new.self (drop n c.args.buf.now) n (omega (arith, least)) copied,
      end_at_none left c.copy_from_slice.new.self c.args.buf.now s.piece n c.self.invariant.1 least copied,
    )
