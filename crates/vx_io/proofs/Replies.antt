-- What a unit replies fits into a buffer.
use Rattle.std.proofs.Common.{ℕ, ◌*◌, ◌≤◌, List, [], ◌∷◌, ◌++◌, cond, drop, length, take, arith}
use Rattle.std.proofs.lemmas.List.{length-take}
use Rattle.vx_record.specs.Types.{Contents, DeviceUnit, Req}
use Rattle.vx_base.specs.Pieces.{Blocks, Lines}
use Rattle.vx_base.specs.Serving.{Answered, carried_out, fails, is_past_end, is_write, next_line, reads_blocks, replied, serve, writes_blocks}
use Rattle.vx_base.specs.declared.cond.Cond.TheVariants.{CtrlErr, IllBlkNum, Normal}
use Rattle.vx_record.proofs.Lists.{either}

-- so many bytes at most are replied
abbrev IsFew : ℕ → Answered → Type 0
IsFew n a = length a.reply.bytes ≤ n

take_few : (n : ℕ) (xs : List ℕ) → length (take n xs) ≤ n
take_few n xs = omega (arith, length-take n xs)

line_few : (len : ℕ) (inputs outputs : List (List ℕ)) → IsFew len (next_line len inputs outputs)
line_few len [] outputs = omega arith
line_few len (line ∷ inputs) outputs = take_few len line

carried_few : (c : Contents) (r : Req) → IsFew r.len (carried_out c r)
carried_few (Lines inputs outputs) r = either (IsFew r.len) (is_write r.func) (replied Normal r.len [] (Lines inputs (outputs ++ r.bytes ∷ []))) (next_line r.len inputs outputs) (omega arith) (line_few r.len inputs outputs)
carried_few (Blocks bytes) r =
    either (IsFew r.len) (is_past_end r bytes) (replied IllBlkNum 0 [] (Blocks bytes)) (cond (is_write r.func) (writes_blocks (r.blk * 512) r.len r.bytes bytes) (reads_blocks (r.blk * 512) r.len bytes)) (omega arith)
    (either (IsFew r.len) (is_write r.func) (writes_blocks (r.blk * 512) r.len r.bytes bytes) (reads_blocks (r.blk * 512) r.len bytes) (omega arith) (take_few r.len (drop (r.blk * 512) bytes)))

pub reply_few : (unit : DeviceUnit) (r : Req) → IsFew r.len (serve unit r)
reply_few unit r = either (IsFew r.len) (fails unit) (replied CtrlErr 0 [] unit.contents) (carried_out unit.contents r) (omega arith) (carried_few unit.contents r)
