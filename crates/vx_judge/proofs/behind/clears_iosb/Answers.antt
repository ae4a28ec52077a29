use Rattle.std.proofs.Common.{◌≡◌, Some, option_map}
use Rattle.std.proofs.lemmas.Bool.{ne_eqb}
use Rattle.vx_judge.specs.Owing.{owed}
use Rattle.vx_judge.proofs.OneOf.{cleared_before}
use Rattle.vx_judge.proofs.behind.clears_iosb.Goals as goal

pub returns-else-o-eq0 : goal.returns-else-o-eq0
returns-else-o-eq0 c = λ full e. cleared_before c.in-Some.o full c.args.earlier.now c.is_only_cleared.result (let same : Some c.in-Some.o ≡ option_map owed full = cc in same) (ne_eqb c.in-Some.o.iosb 0 c.if-o-eq0.false) c.is_only_cleared.ensures
