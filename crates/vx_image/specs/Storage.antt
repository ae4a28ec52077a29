-- What a process stores.
use Rattle.std.specs.Prelude.{ℕ, ◌-◌, List, [], if◌then◌else◌, replicate, slice_index_or, slice_set}
use Rattle.vx_base.specs.Lists.{overlaid}
use Rattle.vx_base.specs.Name.{is_capital}
use Rattle.vx_base.specs.Pieces.{Status, cleared}
use Rattle.vx_base.specs.declared.call.Target.{Target}
use Rattle.vx_base.specs.declared.call.Target.TheVariants.{Var, R0}

-- its variables A to Z in order, R0, its buffers from 0 and its I/O status blocks from 1
pub record Storage : Type 0 where
  pub vars : List ℕ
  pub r0 : ℕ
  pub buffers : List (List ℕ)
  pub statuses : List Status

-- all zero: 32 buffers of 2,048 bytes and 32 status blocks
abbrev pub no_storage : Storage
no_storage = record { vars = replicate 26 0; r0 = 0; buffers = replicate 32 (replicate 2048 0); statuses = replicate 32 cleared }

-- a byte that is no letter names no variable
abbrev pub stored_in : Storage → Target → ℕ
stored_in store (Var v) = if is_capital v then slice_index_or store.vars (v - 65) 0 else 0
stored_in store R0 = store.r0

abbrev pub with_target : Storage → Target → ℕ → Storage
with_target store (Var v) n = if is_capital v then record store { vars = slice_set store.vars (v - 65) n } else store
with_target store R0 n = record store { r0 = n }

abbrev pub status_at : Storage → ℕ → Status
status_at store i = slice_index_or store.statuses (i - 1) cleared

abbrev pub with_status : Storage → ℕ → Status → Storage
with_status store i status = record store { statuses = slice_set store.statuses (i - 1) status }

abbrev pub buffer_at : Storage → ℕ → List ℕ
buffer_at store b = slice_index_or store.buffers b []

-- bytes put over the start of a buffer
abbrev pub with_bytes : Storage → ℕ → List ℕ → Storage
with_bytes store b piece = record store { buffers = slice_set store.buffers b (overlaid piece (buffer_at store b)) }
