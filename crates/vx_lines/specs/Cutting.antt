-- How a reader cuts off a line.
use Rattle.std.specs.Prelude.{ℕ, ◌+◌, nat_lt, List, length, if◌then◌else◌}
use Rattle.std.specs.List.{prefix_len}
use Rattle.vx_lines.specs.ReadEffect.{is_no_feed}

-- how many bytes stand before the first line feed
abbrev pub line_len : List ℕ → ℕ
line_len text = prefix_len is_no_feed text

-- how many bytes the first line has with its line feed
abbrev pub fed_len : List ℕ → ℕ
fed_len text = if nat_lt (line_len text) (length text) then line_len text + 1 else line_len text
