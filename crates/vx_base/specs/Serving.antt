-- What a unit does with a request.
use Rattle.std.specs.Prelude.{ℕ, ◌+◌, ◌*◌, List, [], ◌∷◌, ◌++◌, Bool, true, false, ◌||◌, ◌==◌, nat_lt, nat_le, if◌then◌else◌, length, take, drop}
use Rattle.std.specs.List.{list_any}
use Rattle.vx_base.specs.Pieces.{Contents, Lines, Blocks, DeviceUnit}
use Rattle.vx_base.specs.declared.cond.Cond.{Cond}
use Rattle.vx_base.specs.declared.cond.Cond.TheVariants.{Normal, BufferOvf, EndOfFile, IllBlkNum, CtrlErr}
use Rattle.vx_base.specs.declared.request.Func.{Func}
use Rattle.vx_base.specs.declared.request.Func.TheVariants.{Write}
use Rattle.vx_base.specs.declared.request.Req.{Req}
use Rattle.vx_base.specs.declared.request.Reply.{Reply}

-- what a service replies, and what the unit holds after it
pub record Answered : Type 0 where
  pub reply : Reply
  pub contents : Contents

abbrev pub replied : Cond → ℕ → List ℕ → Contents → Answered
replied cond count bytes contents = record { reply = record { cond = cond; count = count; bytes = bytes }; contents = contents }

-- a line is read into a buffer of len bytes; what does not fit is lost
abbrev pub read_line : ℕ → List ℕ → List (List ℕ) → List (List ℕ) → Answered
read_line len line inputs outputs = replied (if nat_le (length line) len then Normal else BufferOvf) (length (take len line)) (take len line) (Lines inputs outputs)

abbrev pub next_line : ℕ → List (List ℕ) → List (List ℕ) → Answered
next_line len [] outputs = replied EndOfFile 0 [] (Lines [] outputs)
next_line len (line ∷ inputs) outputs = read_line len line inputs outputs

-- a request at byte `at` of a block unit
abbrev pub reads_blocks : ℕ → ℕ → List ℕ → Answered
reads_blocks at len bytes = replied Normal len (take len (drop at bytes)) (Blocks bytes)

abbrev pub writes_blocks : ℕ → ℕ → List ℕ → List ℕ → Answered
writes_blocks at len piece bytes = replied Normal len [] (Blocks (take at bytes ++ piece ++ drop (at + length piece) bytes))

-- past the unit's end: the block is not below the number of blocks, or the bytes go beyond them
abbrev pub is_past_end : Req → List ℕ → Bool
is_past_end r bytes = nat_le (length bytes) (r.blk * 512) || nat_lt (length bytes) (r.blk * 512 + r.len)

abbrev pub is_write : Func → Bool
is_write Write = true
is_write _ = false

-- a request that does not meet a fault
abbrev pub carried_out : Contents → Req → Answered
carried_out (Lines inputs outputs) r =
    if is_write r.func then replied Normal r.len [] (Lines inputs (outputs ++ r.bytes ∷ [])) else next_line r.len inputs outputs
carried_out (Blocks bytes) r =
    if is_past_end r bytes then replied IllBlkNum 0 [] (Blocks bytes) else (
    if is_write r.func then writes_blocks (r.blk * 512) r.len r.bytes bytes else reads_blocks (r.blk * 512) r.len bytes)

-- the next service of a unit is one that fails
abbrev pub fails : DeviceUnit → Bool
fails unit = list_any (λ n. n == unit.services + 1) unit.faults

-- a request served: a service that fails leaves the contents as they are
abbrev pub serve : DeviceUnit → Req → Answered
serve unit r = if fails unit then replied CtrlErr 0 [] unit.contents else carried_out unit.contents r

-- the unit after it
abbrev pub settled : DeviceUnit → Req → DeviceUnit
settled unit r = record unit { contents = (serve unit r).contents; services = unit.services + 1 }
