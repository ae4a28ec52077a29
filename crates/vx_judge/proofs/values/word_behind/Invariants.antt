use Rattle.std.proofs.Common.{List, map, take}
use Rattle.vx_laws.specs.Items.{Item, Did, later}
use Rattle.vx_laws.specs.Values.{flags_by}
use Rattle.vx_judge.specs.Words.{IsWord}
use Rattle.vx_judge.proofs.values.word_behind.Given as goal

abbrev pub invariant-loop-effect : goal.invariant-loop-effect
invariant-loop-effect l = (past : List Item) → IsWord l.fn.first (flags_by past l.cell) → IsWord l.word (flags_by (later past (map Did (take l.effect-index l.effects))) l.cell)
