-- Lists of which the first items are kept, and the others are all alike.
use Rattle.std.specs.Prelude.{ℕ, List, replicate}
use Rattle.vx_base.specs.Pieces.{Status, cleared}
use Rattle.vx_same.specs.Trimmed.{filled_to}

-- the 2,048 bytes of a buffer: behind those that are kept stand zeros
abbrev pub page_of : List ℕ → List ℕ
page_of bytes = filled_to 2048 0 bytes

-- the 32 buffers: those behind were never written
abbrev pub filled : List (List ℕ) → List (List ℕ)
filled pages = filled_to 32 (replicate 2048 0) pages

-- the 32 I/O status blocks: those behind are clear
abbrev pub all_statuses : List Status → List Status
all_statuses blocks = filled_to 32 cleared blocks
