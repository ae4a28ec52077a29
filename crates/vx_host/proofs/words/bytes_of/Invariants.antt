use Rattle.std.proofs.Common.{◌≡◌, ◌++◌, drop, map, string_bytes}
use Rattle.std.specs.Vec.Iter.{into_iter_items}
use Rattle.vx_host.proofs.words.bytes_of.Given as goal

abbrev pub invariant-loop-text : goal.invariant-loop-text
invariant-loop-text l = l.words.items ++ map string_bytes (into_iter_items l.text-iterator) ≡ map string_bytes (drop 1 (into_iter_items l.fn.texts))
