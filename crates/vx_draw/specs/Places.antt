-- Which column is whose: time's first, then a column a process, a unit and a mailbox, and one for clusters.
use Rattle.std.specs.Prelude.{ℕ, Bool, ◌+◌, ◌-◌, ◌*◌, nat_lt, if◌then◌else◌}
use Rattle.vx_base.specs.declared.record.Event.{Event}
use Rattle.vx_base.specs.declared.record.Event.TheVariants as event
use Rattle.vx_draw.specs.declared.places.Places.{Places}

-- a run has no more processes
abbrev pub capped : ℕ → ℕ
capped n = if nat_lt n 1000 then n else 1000

abbrev pub behind_units : ℕ → ℕ → ℕ
behind_units processes units = 140 + 440 * capped processes + 150 * capped units

abbrev pub behind_boxes : ℕ → ℕ → ℕ → ℕ
behind_boxes processes units boxes = behind_units processes units + 120 * capped boxes

-- the columns of so many processes, units and mailboxes, and one for clusters if there are any
abbrev pub columns_of : ℕ → ℕ → ℕ → Bool → Places
columns_of processes units boxes clusters = record {
  units = 140 + 440 * capped processes;
  boxes = behind_units processes units;
  clusters = behind_boxes processes units boxes;
  end = behind_boxes processes units boxes + (if clusters then 240 else 80);
}

-- where the column of a mailbox begins, by its place among them
abbrev pub box_x : Places → ℕ → ℕ
box_x places i = places.boxes + 120 * i

-- where the column of process p begins
abbrev pub process_x : ℕ → ℕ
process_x p = 440 * p - 300

-- where lines to who acted end: behind the frames of a process
abbrev pub anchor : Places → Event → ℕ
anchor places (event.Run p) = process_x p.0 + 50
anchor places (event.Ast p) = process_x p.0 + 50
anchor places (event.Rdn p) = process_x p.0 + 50
anchor places (event.Beg u) = places.units + 150 * u.0 + 8
anchor places (event.Don u) = places.units + 150 * u.0 + 8
anchor places event.Tick = 52
