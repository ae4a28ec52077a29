-- Exit handlers: those of a mode, those of a routine among them, and all.
use Rattle.std.specs.Prelude.{Bool, true, ◌==◌, ◌&&◌}
use Rattle.vx_base.specs.Entries.{is_same_entry}
use Rattle.vx_base.specs.Modes.{rank}
use Rattle.vx_base.specs.Pieces.{Handler}
use Rattle.vx_base.specs.declared.mode.Mode.{Mode}
use Rattle.vx_base.specs.declared.routine.Entry.{Entry}

abbrev pub is_handler_of : Mode → Handler → Bool
is_handler_of m h = rank h.mode == rank m

abbrev pub is_handler_with : Mode → Entry → Handler → Bool
is_handler_with m tag h = is_handler_of m h && is_same_entry h.tag tag

abbrev pub any_handler : Handler → Bool
any_handler h = true
