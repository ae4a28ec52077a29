use Rattle.std.proofs.Common.{◌≡◌, drop}
use Rattle.vx_text.specs.Quoted.{behind, quoted, quoted_text, IsPlace}
use Rattle.vx_text.proofs.quoted.quoted_text.Given as goal

abbrev pub invariant-loop-i : goal.invariant-loop-i
invariant-loop-i l = record {
  place : IsPlace l.place;
  same : behind l.text l.i (quoted l.place (drop l.i l.bytes)) ≡ quoted_text l.bytes;
}
