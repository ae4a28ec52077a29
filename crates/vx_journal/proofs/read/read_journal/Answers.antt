use Rattle.std.proofs.Common.{ℕ, Err, take, ap}
use Rattle.vx_journal.proofs.JournalBack.{read_back}
use Rattle.vx_journal.proofs.RunBack.{run_back}
use Rattle.vx_journal.proofs.Answered.{is_only, is_read, no_fault, script_faults, script_only}
use Rattle.vx_journal.proofs.read.read_journal.Goals as goal

pub returns-in-Ok-clause-told : goal.returns-in-Ok-clause-told
returns-in-Ok-clause-told c =
    let part = ap (λ (n : ℕ). take n c.args.text.now) c.script_len-len.ensures.len in
    is_read c.args.text.now _ c.in-Ok.system c.read_behind.result part c.in-Ok.ensures.spelled.0 c.in-Ok.ensures.spelled.1 c.read_behind.ensures.read

pub returns-in-Ok-clause-only : goal.returns-in-Ok-clause-only
returns-in-Ok-clause-only c =
    let part = ap (λ (n : ℕ). take n c.args.text.now) c.script_len-len.ensures.len in
    record { journal = is_only c.args.text.now _ c.in-Ok.system c.read_behind.result part c.in-Ok.ensures.only c.read_behind.ensures.read; fault = no_fault c.args.text.now _ c.in-Ok.system c.read_behind.result part c.in-Ok.ensures.only_fault }

pub returns-in-Err-clause-only : goal.returns-in-Err-clause-only
returns-in-Err-clause-only c =
    let part = ap (λ (n : ℕ). take n c.args.text.now) c.script_len-len.ensures.len in
    record { journal = script_only c.args.text.now _ c.in-Err.failure c.from.result part c.from.ensures c.in-Err.ensures.only; fault = script_faults c.args.text.now _ c.in-Err.failure c.from.result part c.from.ensures c.in-Err.ensures.only_fault }

pub returns-in-Ok-clause-back : goal.returns-in-Ok-clause-back
returns-in-Ok-clause-back c = read_back c.args.text.now c.read_behind.result (returns-in-Ok-clause-only c).journal

pub returns-in-Err-clause-back : goal.returns-in-Err-clause-back
returns-in-Err-clause-back c = read_back c.args.text.now (Err c.from.result) (returns-in-Err-clause-only c).journal

pub returns-in-Ok-clause-run : goal.returns-in-Ok-clause-run
returns-in-Ok-clause-run c = run_back c.args.text.now c.read_behind.result (returns-in-Ok-clause-back c)

pub returns-in-Err-clause-run : goal.returns-in-Err-clause-run
returns-in-Err-clause-run c = run_back c.args.text.now (Err c.from.result) (returns-in-Err-clause-back c)
