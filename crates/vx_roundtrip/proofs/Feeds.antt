-- Lines that are ended by line feeds are cut again.
use Rattle.std.proofs.Common.{◌≡◌, ℕ, ◌&&◌, ◌==◌, not, true, List, [], ◌∷◌, ◌++◌, refl, ap, ◌∙◌, append_assoc}
use Rattle.vx_script.specs.Lines.{lines_of}
use Rattle.vx_script.specs.Script.{ended_lines}
use Rattle.vx_roundtrip.proofs.Outer.{are_clean}
use Rattle.vx_roundtrip.proofs.Words.{is_clean}
use Rattle.std.proofs.lemmas.Bool.{not-true, and_parts}
use Rattle.vx_grammar.proofs.TextLines.{cut_nothing}

cut_one : (l rest : List ℕ) → is_clean l ≡ true → lines_of (l ++ 10 ∷ rest) ≡ l ∷ lines_of rest
unfolding lines_of
cut_one [] rest h = refl
cut_one (b ∷ l) rest h =
    let p = and_parts (not (b == 10) && not (b == 13)) (is_clean l) h in
    let q = and_parts (not (b == 10)) (not (b == 13)) p.0 in
    rw (not-true (b == 10) q.0, not-true (b == 13) q.1, cut_one l rest p.1) refl

pub cut_all : (ls : List (List ℕ)) → are_clean ls ≡ true → lines_of (ended_lines ls) ≡ ls
cut_all [] h = cut_nothing
cut_all (l ∷ ls) h =
    let p = and_parts (is_clean l) (are_clean ls) h in
    ap lines_of (append_assoc l (10 ∷ []) (ended_lines ls)) ∙ cut_one l (ended_lines ls) p.0 ∙ ap (λ (z : List (List ℕ)). l ∷ z) (cut_all ls p.1)
