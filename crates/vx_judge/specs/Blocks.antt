-- Which status blocks are filled, in a table by process and number.
use Rattle.std.specs.Prelude.{◌≡◌, ℕ, List, Bool, false, unwrap_or}
use Rattle.std.specs.HashMap.{get}
use Rattle.vx_record.specs.Types.{Pid}
use Rattle.vx_laws.specs.Items.{Item}
use Rattle.vx_laws.specs.Values.{status_by}
use Rattle.vx_record.specs.Flags.{is_filled}
use Rattle.vx_judge.specs.Pairs.{pair_eq}
use Rattle.vx_judge.specs.declared.blocks.Blocks.{Blocks}

abbrev pub filled_in : Blocks → Pid → ℕ → Bool
filled_in t p i = unwrap_or (get pair_eq t.map (p.0, i)) false

-- they are filled if the past leaves them so
abbrev pub AreBlocks : Blocks → List Item → Type 0
AreBlocks t past = (p : Pid) (i : ℕ) → filled_in t p i ≡ is_filled (status_by past p i)
