-- What both kinds of executive are made of.
use Rattle.std.specs.Prelude.{◌≡◌, List, false, slice_set, ⊤}
use Rattle.vx_record.specs.Types.{Event}
use Rattle.vx_base.specs.declared.record.Event.TheVariants as event
use Rattle.vx_units.specs.Leases.{Stand, Home, is_out}
use Rattle.vx_procs.specs.Kernel.{Kernel, stand_for, stands}
use Rattle.vx_exec.specs.Leases.{AreIn, Leasing}
use Rattle.vx_exec.specs.Sound.{IsGoing}
use Rattle.vx_exec.specs.declared.engine.Engine.{Engine}

-- what it stands for
abbrev pub leasing : {R : Type 0} → Engine R → Leasing
leasing e = record { exec = record { state = e.core.state; limit = e.limit; taken = e.taken }; stands = stands e.core }

-- its state is one of a run that goes on
abbrev pub IsOn : {R : Type 0} → Engine R → Type 0
IsOn e = IsGoing e.core.state e.limit e.taken

-- and no unit is out
pub record IsWithin {R : Type 0} (e : Engine R) : Type 0 where
  pub on : IsOn e
  pub home : AreIn (leasing e)

-- the contents of the unit of a DON are in the executive
abbrev pub IsHomeFor : Kernel → Event → Type 0
IsHomeFor k (event.Don u) = is_out (stand_for k u) ≡ false
IsHomeFor k other = ⊤

-- once room was made for a BEG, the unit's contents are home
abbrev pub stands_prepared : Event → List Stand → List Stand
stands_prepared (event.Beg u) ks = slice_set ks u.0 Home
stands_prepared other ks = ks
