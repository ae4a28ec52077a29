-- Which exit handlers of a process are looked for, and the process without the first of them.
use Rattle.std.specs.Prelude.{Bool}
use Rattle.vx_base.specs.Lists.{less}
use Rattle.vx_record.specs.Types.{Handler}
use Rattle.vx_record.specs.State.{Process}
use Rattle.vx_record.specs.Rundown.{any_handler, is_handler_of}
use Rattle.vx_procs.specs.declared.handlers.Sought.{Sought}
use Rattle.vx_procs.specs.declared.handlers.Sought.TheVariants.{With, Of, Any}
use Rattle.vx_base.specs.Handlers.{is_handler_with}

abbrev pub is_sought : Sought → Handler → Bool
is_sought (With mode tag) h = is_handler_with mode tag h
is_sought (Of mode) h = is_handler_of mode h
is_sought Any h = any_handler h

abbrev pub without_sought : Sought → Process → Process
without_sought which pr = record pr { handlers = less (is_sought which) pr.handlers }
