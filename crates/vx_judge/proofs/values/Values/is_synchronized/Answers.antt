use Rattle.std.proofs.Common.{◌≡◌, ◌==◌, true, false, map, sym, ◌∙◌}
use Rattle.std.proofs.lemmas.Bool.{ne_eqb}
use Rattle.vx_base.specs.Flags.{is_set}
use Rattle.vx_record.specs.Flags.{place_in}
use Rattle.vx_laws.specs.Items.{Did, later}
use Rattle.vx_laws.specs.Values.{flags_by}
use Rattle.vx_judge.specs.Words.{IsWord}
use Rattle.vx_judge.proofs.values.Values.is_synchronized.Goals as goal

pub returns-else-iosb-eq0 : goal.returns-else-iosb-eq0
returns-else-iosb-eq0 c = λ past place are.
    let cell = c.args.cell.now in
    let flags = flags_by (later past (map Did c.args.effects.now)) cell in
    let word : IsWord c.of.result (flags_by past cell) = rw c.of.ensures (are.0 cell) in
    let set : is_set flags (place_in cell) ≡ true = rw (← c.place_of.ensures) (sym (c.is_set.ensures flags (rw c.place_of.ensures place) (c.word_behind.ensures past word)) ∙ c.if-is_set.true) in
    let other : (c.args.iosb == 0) ≡ false = ne_eqb c.args.iosb 0 c.if-iosb-eq0.false in
    rw (set, other) (c.filled_behind.ensures past (c.is_filled.ensures past are.1.1))
