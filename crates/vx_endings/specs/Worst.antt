-- The worst end of all runs.
use Rattle.std.specs.Prelude.{List, Bool, if◌then◌else◌}
use Rattle.std.specs.List.{list_any}
use Rattle.vx_record.specs.Types.{End}
use Rattle.vx_base.specs.declared.record.End.TheVariants.{Done, Hung, Limit}
use Rattle.vx_explore.specs.declared.found.Found.{Found}
use Rattle.vx_endings.specs.declared.ending.RunEnding.{RunEnding}
use Rattle.vx_endings.specs.Endings.{is_same_end}

abbrev pub has_end : End → List (Found RunEnding) → Bool
has_end end rows = list_any (λ row. is_same_end row.what.end end) rows

-- a run that the limit stops is the worst, and then one that hangs
abbrev pub worst_end : List (Found RunEnding) → End
worst_end rows = if has_end Limit rows then Limit else (if has_end Hung rows then Hung else Done)
