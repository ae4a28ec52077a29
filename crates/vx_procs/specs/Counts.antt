-- The running charge of a process, as its queued ASTs change.
use Rattle.std.specs.Prelude.{◌≤◌, Option, Some, None}
use Rattle.vx_record.specs.Types.{Queued}
use Rattle.vx_base.specs.Lists.{tally}
use Rattle.vx_record.specs.Charges.{ast_need, is_charged}
use Rattle.vx_quota.specs.Account.{Quotas, released}
use Rattle.vx_procs.specs.View.{process}
use Rattle.vx_procs.specs.declared.process.Proc.{Proc}

-- each of its queued ASTs that is to be charged is
abbrev pub CountsAsts : {R : Type 0} → Proc R → Type 0
CountsAsts pr = tally is_charged (process pr).asts ≤ pr.account.used.ast

-- the account without an AST, if one is gone
abbrev pub freed : Option Queued → Quotas → Quotas
freed None a = a
freed (Some q) a = released a (ast_need q.charged)
