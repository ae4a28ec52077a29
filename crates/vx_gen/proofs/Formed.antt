-- The generated system is well formed.
use Rattle.std.proofs.Common.{◌≡◌, ℕ, ◌+◌, ◌≤◌, true, zero, suc, length, map, Result, Ok, Err, IfOk, refl, sym, subst, arith}
use Rattle.std.specs.List.{list_all, range_with_len}
use Rattle.std.proofs.lemmas.Bool.{le-leb}
use Rattle.std.proofs.lemmas.List.FromFn.{length-map-range_with_len}
use Rattle.vx_base.specs.declared.bytes.NoMemory.{NoMemory}
use Rattle.vx_image.specs.declared.system.System.{System}
use Rattle.vx_image.specs.WellFormed.{IsWellFormed, is_decl}
use Rattle.vx_gen.specs.Generated.{generated, sender}
use Rattle.vx_gen.proofs.Names.{names_distinct}

all_declared : (a n : ℕ) → list_all (is_decl 2) (map sender (range_with_len a n)) ≡ true
all_declared a zero = refl
all_declared a (suc n) = all_declared (a + 1) n

formed : (n : ℕ) → n ≤ 200 → IsWellFormed (generated n)
formed n h = record {
  few_units = refl;
  few_images = refl;
  few_decls = le-leb (length (generated n).decls) 1000 (omega (arith, h, length-map-range_with_len sender 1 n));
  unit_names = refl;
  image_names = refl;
  process_names = names_distinct n h;
  units = refl;
  images = refl;
  decls = all_declared 1 n;
}

pub formed_as : (n : ℕ) (made : Result System NoMemory) → n ≤ 200 → IfOk made (λ s. s ≡ generated n) → IfOk made IsWellFormed
formed_as n (Ok s) h is = subst IsWellFormed (sym is) (formed n h)
formed_as n (Err e) h is = tt
