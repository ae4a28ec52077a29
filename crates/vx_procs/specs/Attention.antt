-- Attention entries that fire or end.
use Rattle.std.specs.Prelude.{Option, Some, None}
use Rattle.vx_base.specs.Lists.{less}
use Rattle.vx_record.specs.Types.{Attention, Id}
use Rattle.vx_record.specs.Asts.{charged_ast, with_queued}
use Rattle.vx_record.specs.Mailboxes.{this_attention}
use Rattle.vx_record.specs.State.{State, change}

abbrev pub without_attention : Id → State → State
without_attention id s = record s { attention = less (this_attention id) s.attention }

-- the entry is out, and its AST is queued
abbrev pub fired_attention : State → Attention → State
fired_attention s a = change (without_attention a.id s) a.p (with_queued (charged_ast a.id a.mode a.tag))

abbrev pub fired_attention_if : State → Option Attention → State
fired_attention_if s None = s
fired_attention_if s (Some a) = fired_attention s a
