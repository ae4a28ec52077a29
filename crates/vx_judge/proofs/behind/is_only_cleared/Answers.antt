use Rattle.std.proofs.Common.{◌≡◌, true, false, [], ◌∷◌, refl, sym, ◌∙◌}
use Rattle.std.specs.List.{list_any}
use Rattle.std.proofs.lemmas.List.{nil_from_length}
use Rattle.vx_laws.specs.StatusLaw.{is_iosb, is_cleared_iosb}
use Rattle.vx_judge.specs.Lists.{from_first}
use Rattle.vx_judge.proofs.OneOf.{only_here, only_none}
use Rattle.vx_judge.proofs.behind.is_only_cleared.Goals as goal

pub returns-then-is_cleared_iosb : goal.returns-then-is_cleared_iosb
returns-then-is_cleared_iosb c =
    let from : from_first is_iosb c.args.effects.now ≡ c.in-Some.effect.now ∷ c.in-Some.more.now = sym c.from_iosb.ensures ∙ c.in-Some.ensures.cases.0 in
    let passes : is_cleared_iosb c.args.p c.args.i c.in-Some.effect.now ≡ true = sym c.is_cleared_iosb.ensures ∙ c.if-is_cleared_iosb.true in
    let rest : list_any is_iosb c.in-Some.more.now ≡ c.any_iosb.result = sym c.any_iosb.ensures in
    sym (only_here is_iosb (is_cleared_iosb c.args.p c.args.i) c.args.effects.now c.in-Some.effect.now c.in-Some.more.now from ∙ rw (passes, rest) refl)

pub returns-else-is_cleared_iosb : goal.returns-else-is_cleared_iosb
returns-else-is_cleared_iosb c =
    let from : from_first is_iosb c.args.effects.now ≡ c.in-Some.effect.now ∷ c.in-Some.more.now = sym c.from_iosb.ensures ∙ c.in-Some.ensures.cases.0 in
    let fails : is_cleared_iosb c.args.p c.args.i c.in-Some.effect.now ≡ false = sym c.is_cleared_iosb.ensures ∙ c.if-is_cleared_iosb.false in
    c.if-is_cleared_iosb.false ∙ sym (only_here is_iosb (is_cleared_iosb c.args.p c.args.i) c.args.effects.now c.in-Some.effect.now c.in-Some.more.now from ∙ rw fails refl)

pub returns-in-None : goal.returns-in-None
returns-in-None c =
    let from : from_first is_iosb c.args.effects.now ≡ [] = sym c.from_iosb.ensures ∙ nil_from_length c.from_iosb.result.now c.in-None.ensures.cases in
    sym (only_none is_iosb (is_cleared_iosb c.args.p c.args.i) c.args.effects.now from)
