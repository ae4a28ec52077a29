use Rattle.std.proofs.Common.{◌≡◌, true, false, [], ◌∷◌, refl, sym, ◌∙◌}
use Rattle.std.specs.List.{list_any}
use Rattle.std.proofs.lemmas.List.{nil_from_length}
use Rattle.vx_laws.specs.StatusLaw.{is_flag, is_flag_set}
use Rattle.vx_judge.specs.Lists.{from_first}
use Rattle.vx_judge.proofs.OneOf.{only_here, only_none}
use Rattle.vx_judge.proofs.behind.is_only_flag.Goals as goal

pub returns-then-is_flag_set : goal.returns-then-is_flag_set
returns-then-is_flag_set c =
    let from : from_first is_flag c.args.effects.now ≡ c.in-Some.effect.now ∷ c.in-Some.more.now = sym c.from_flag.ensures ∙ c.in-Some.ensures.cases.0 in
    let passes : is_flag_set c.args.c.now c.in-Some.effect.now ≡ true = sym c.is_flag_set.ensures ∙ c.if-is_flag_set.true in
    let rest : list_any is_flag c.in-Some.more.now ≡ c.any_flag.result = sym c.any_flag.ensures in
    sym (only_here is_flag (is_flag_set c.args.c.now) c.args.effects.now c.in-Some.effect.now c.in-Some.more.now from ∙ rw (passes, rest) refl)

pub returns-else-is_flag_set : goal.returns-else-is_flag_set
returns-else-is_flag_set c =
    let from : from_first is_flag c.args.effects.now ≡ c.in-Some.effect.now ∷ c.in-Some.more.now = sym c.from_flag.ensures ∙ c.in-Some.ensures.cases.0 in
    let fails : is_flag_set c.args.c.now c.in-Some.effect.now ≡ false = sym c.is_flag_set.ensures ∙ c.if-is_flag_set.false in
    c.if-is_flag_set.false ∙ sym (only_here is_flag (is_flag_set c.args.c.now) c.args.effects.now c.in-Some.effect.now c.in-Some.more.now from ∙ rw fails refl)

pub returns-in-None : goal.returns-in-None
returns-in-None c =
    let from : from_first is_flag c.args.effects.now ≡ [] = sym c.from_flag.ensures ∙ nil_from_length c.from_flag.result.now c.in-None.ensures.cases in
    sym (only_none is_flag (is_flag_set c.args.c.now) c.args.effects.now from)
