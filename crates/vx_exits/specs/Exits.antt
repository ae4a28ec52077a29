-- The exit handlers of a process, the newest first.
use Rattle.std.specs.Prelude.{◌∷◌, ◌&&◌, if◌then◌else◌, Option, Some, None, Result, Ok, Err}
use Rattle.vx_base.specs.Modes.{is_kernel}
use Rattle.vx_base.specs.Pieces.{Handler}
use Rattle.vx_base.specs.declared.number.Id.{Id}
use Rattle.vx_base.specs.declared.routine.Entry.{Entry}
use Rattle.vx_base.specs.Roomy.{Roomy, with_items}
use Rattle.vx_exits.specs.declared.exits.ExitFail.{ExitFail}
use Rattle.vx_exits.specs.declared.exits.ExitFail.TheVariants.{NoHandler}

-- the handlers, and how many there is room for in all
abbrev pub Stack : Type 0
Stack = Roomy Handler

-- a handler declared: none in kernel mode
abbrev pub declared : Stack → Handler → Stack
declared s h = if is_kernel h.mode then s else with_items s (h ∷ s.items)

-- what is known of a handler that is handed out: its id and its tag
abbrev pub known : Handler → Id × Entry
known h = (h.id, h.tag)

-- the same of the id and the routine that are handed out
abbrev pub handed : {R : Type 0} → (R → Entry) → Id × R → Id × Entry
handed tag x = (x.0, tag x.1)

-- the same of an answer that may be a refusal
abbrev pub handed_or : {R E : Type 0} → (R → Entry) → Result (Id × R) E → Result (Id × Entry) E
handed_or tag (Ok x) = Ok (handed tag x)
handed_or tag (Err e) = Err e

-- NOHANDLER if there is none
abbrev pub or_no_handler : Option (Id × Entry) → Result (Id × Entry) ExitFail
or_no_handler None = Err NoHandler
or_no_handler (Some x) = Ok x
