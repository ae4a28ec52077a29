use Rattle.std.proofs.Common.{◌≡◌, Some, map, refl, ap, ◌∙◌}
use Rattle.vx_laws.specs.Items.{Did, later}
use Rattle.vx_laws.specs.StatusLaw.{is_held_up, waits_right}
use Rattle.vx_laws.specs.Values.{satisfied_by}
use Rattle.vx_judge.proofs.waiting.is_due.Goals as goal

pub returns-in-Flags : goal.returns-in-Flags
returns-in-Flags c = λ past are.
    let here = later past (map Did c.args.effects.now) in
    let due : is_held_up c.args.told (satisfied_by here c.args.p c.args.wait) ≡ waits_right here c.args.p c.args.told (Some c.args.wait) = rw c.in-Flags.is refl in
    c.is_held_up.ensures ∙ (ap (is_held_up c.args.told) (c.satisfied.ensures past are) ∙ due)

pub returns-in-Synch : goal.returns-in-Synch
returns-in-Synch c = λ past are.
    let here = later past (map Did c.args.effects.now) in
    let due : is_held_up c.args.told (satisfied_by here c.args.p c.args.wait) ≡ waits_right here c.args.p c.args.told (Some c.args.wait) = rw c.in-Synch.is refl in
    c.is_held_up-in-Synch.ensures ∙ (ap (is_held_up c.args.told) (c.satisfied-in-Synch.ensures past are) ∙ due)
