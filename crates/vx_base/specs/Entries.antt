-- Entries of routines.
use Rattle.std.specs.Prelude.{Bool, false, ◌&&◌, ◌==◌}
use Rattle.vx_base.specs.declared.routine.Entry.{Entry}
use Rattle.vx_base.specs.declared.routine.Entry.TheVariants.{Label, Exit, Host}

-- two entries are one
abbrev pub is_same_entry : Entry → Entry → Bool
is_same_entry (Label a b) (Label c d) = (a == c) && (b == d)
is_same_entry (Exit a) (Exit c) = a == c
is_same_entry (Host a) (Host c) = a == c
is_same_entry _ _ = false
