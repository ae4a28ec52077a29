-- What is charged along a run: `RunDeletion`, in which a process is deleted.
use Rattle.std.specs.Prelude.{◌≡◌, ◌∷◌, [], ℕ, List, None, Some, false, refl, take, true}
use Rattle.vx_record.specs.Types.{Alarm, Attention, Need, Queued, Request, Timer}
use Rattle.vx_base.specs.Pieces.{OfTimer, OfWake}
use Rattle.vx_base.specs.Quotas.{no_need}
use Rattle.vx_base.specs.declared.mode.Mode.TheVariants as mode
use Rattle.vx_base.specs.declared.request.Func.TheVariants as func
use Rattle.vx_base.specs.declared.routine.Entry.TheVariants as entry
use Rattle.vx_examples.proofs.RunDeletion as deletion
use Rattle.vx_examples.specs.Script.{box, id, process}
use Rattle.vx_examples.specs.Small.{block_unit, in_box, line_unit, outstanding, somebody, with_both}
use Rattle.vx_record.specs.Charges.{charge}
use Rattle.vx_record.specs.Runs.{after}
use Rattle.vx_record.specs.State.{State}

-- after so many records
abbrev charged : ℕ → Need
charged n = charge (after deletion.script (take n deletion.records)) (process 1)

pub charged-none : charged 2 ≡ no_need
charged-none = refl

-- two reads of 8 bytes with an AST, a timer without one, and an AST that is queued
pub charged-most : charged 7 ≡ record { ast = 3; bio = 2; dio = 0; byt = 16; tqe = 1 }
charged-most = refl

-- the second read is cancelled, its AST is queued; the timer is dropped
pub charged-busy : charged 10 ≡ record { ast = 3; bio = 1; dio = 0; byt = 8; tqe = 0 }
charged-busy = refl

-- all three ASTs are queued
pub charged-queued : charged 12 ≡ record { ast = 3; bio = 0; dio = 0; byt = 0; tqe = 0 }
charged-queued = refl

pub charged-gone : charged 13 ≡ no_need
charged-gone = refl

-- What counts, and what does not: a read with an AST, an end of file with a length, and a block read of process 1,
-- beside a read of process 2; an attention entry of each; a timer with an AST, one without, a wake that process 1
-- scheduled for process 2 and one the other way round; an AST that is queued, and a forced exit.

abbrev mine : Request → Request
mine r = record r { ast = Some (record { mode = mode.User; tag = entry.Label 0 0 }) }

abbrev of_other : Request → Request
of_other r = record r { req = record r.req { p = process 2 } }

abbrev asks : ℕ → Attention
asks p = record {
  id = id 1;
  p = process p;
  chan = 3;
  box = box 0;
  func = func.WrtAttn;
  mode = mode.User;
  tag = entry.Label 0 0;
}

abbrev later : ℕ → Alarm → Timer
later p what = record { id = id 1; p = process p; due = 200; what = what }

abbrev queued_ones : List Queued
queued_ones =
    record { id = id 1; mode = mode.User; tag = entry.Label 0 0; charged = true } ∷
    record { id = id 1; mode = mode.User; tag = entry.Exit 5; charged = false } ∷
    []

abbrev busy : State
busy = record (with_both (record somebody { asts = queued_ones }) (record somebody { asts = queued_ones })) {
  requests =
      mine (outstanding 1 line_unit func.Read) ∷ outstanding 1 in_box func.Eof ∷ outstanding 1 block_unit
      func.Read ∷
      of_other (mine (outstanding 1 line_unit func.Read)) ∷ [];
  attention = asks 1 ∷ asks 2 ∷ [];
  timers =
      later 1 (OfTimer 1 0 mode.User (Some (entry.Label 0 0))) ∷ later 1 (OfTimer 1 0 mode.User None) ∷ later 1
      (OfWake (process 2) 0) ∷
      later 2 (OfWake (process 1) 5) ∷ [];
}

pub charged-mine : charge busy (process 1) ≡ record { ast = 5; bio = 2; dio = 1; byt = 3; tqe = 2 }
charged-mine = refl

pub charged-other : charge busy (process 2) ≡ record { ast = 4; bio = 1; dio = 0; byt = 3; tqe = 0 }
charged-other = refl
