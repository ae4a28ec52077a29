-- Device units while they serve.
use Rattle.std.specs.Prelude.{ℕ, ◌+◌, ◌*◌, List, [], Bool, true, false, ◌&&◌, ◌||◌, ◌==◌, not, nat_le, Option, Some, None, length, slice_range, if◌then◌else◌}
use Rattle.vx_base.specs.Pieces.{DeviceUnit, Contents, Lines, Blocks}
use Rattle.vx_base.specs.Serving.{is_write, settled}
use Rattle.vx_base.specs.declared.request.Func.{Func}
use Rattle.vx_base.specs.declared.request.Func.TheVariants.{Read, Write}
use Rattle.vx_base.specs.declared.request.Req.{Req}

-- A unit, what a service that is pending makes of it, and whether the memory for a service is there.
pub record Serving : Type 0 where
  pub unit : DeviceUnit
  pub pending : Option DeviceUnit
  pub ready : Bool

abbrev pub is_read_or_write : Func → Bool
is_read_or_write Read = true
is_read_or_write Write = true
is_read_or_write _ = false

-- a request for a unit: a read or a write, of at most 2,048 bytes, with as many bytes as it writes
abbrev pub is_for_unit : Req → Bool
is_for_unit r = is_read_or_write r.func && (nat_le r.len 2048 && (not (is_write r.func) || length r.bytes == r.len))

-- a unit that serves none
abbrev pub idle : DeviceUnit → Serving
idle unit = record { unit = unit; pending = None; ready = false }

-- a service is pending: it makes of the unit what a service of the request does
abbrev pub served : Serving → Req → Serving
served s r = record { unit = s.unit; pending = Some (settled s.unit r); ready = false }

-- the pending service is done
abbrev pub done_by : Option DeviceUnit → Serving → Serving
done_by None s = s
done_by (Some unit) s = record s { unit = unit; pending = None }

abbrev pub done : Serving → Serving
done s = done_by s.pending s

-- a line unit's
abbrev pub has_lines : Contents → Bool
has_lines (Lines inputs outputs) = true
has_lines (Blocks bytes) = false

-- the lines that a line unit was given
abbrev pub outputs_of : Contents → List (List ℕ)
outputs_of (Lines inputs outputs) = outputs
outputs_of (Blocks bytes) = []

abbrev pub bytes_of : Contents → List ℕ
bytes_of (Lines inputs outputs) = []
bytes_of (Blocks bytes) = bytes

-- block n of 512 bytes, if there is one
abbrev pub block_at : ℕ → List ℕ → Option (List ℕ)
block_at n bytes = if nat_le (n * 512 + 512) (length bytes) then Some (slice_range bytes (n * 512) (n * 512 + 512)) else None
