use Rattle.std.proofs.Common.{ℕ, List, ◌+◌, ap, ◌∙◌}
use Rattle.vx_record.specs.Types.{System, UnitDecl}
use Rattle.vx_lines.specs.ReadHead.{read_head}
use Rattle.vx_check.proofs.Lines.{head_line_by}
use Rattle.vx_check.proofs.following.head_line.Goals as goal

pub returns-clause-follows : goal.returns-clause-follows
returns-clause-follows c =
    let line = c.args.line.now in
    let number = ap (λ (n : ℕ). read_head c.as_slice.result.now (n + 1) line) c.from-number.ensures in
    let units = ap (λ (us : List UnitDecl). read_head us (c.args.progress.count + 1) line) (c.as_slice.ensures ∙ ap (λ (s : System). s.units) c.system.ensures) in
    head_line_by c.args.exec.now c.with_head.new.exec c.args.progress c.args.exec.now.state.system.units line c.in_ok-head.head c.with_head.result (c.in_ok-head.ensures ∙ number ∙ units) (λ b. c.with_head.ensures.follows b)
