-- A condition is found by its name alone.
use Rattle.std.proofs.Common.{◌≡◌, ◌↔◌, ℕ, Bool, true, false, cond, List, [], ◌∷◌, Option, None, Some, bytes_eq, refl, sym, subst, ◌∙◌}
use Rattle.std.specs.List.{find}
use Rattle.std.proofs.lemmas.Slice.Eq.{bytes_eq-Decides}
use Rattle.vx_base.specs.declared.cond.Cond.{Cond}
use Rattle.vx_base.specs.declared.cond.Cond.TheVariants.{Normal}
use Rattle.vx_base.specs.Cond.{name_of, all_conds}
use Rattle.vx_text.specs.First.{cond_named}

-- what is found has the name
has_name : (text : List ℕ) (c d : Cond) (same : Bool) (rest : Option Cond) → bytes_eq (name_of d) text ≡ same → (rest ≡ Some c → text ≡ name_of c) → cond same (Some d) rest ≡ Some c → text ≡ name_of c
has_name text c d true rest same more found =
    let e : d ≡ c = cc in
    subst (λ (x : Cond). text ≡ name_of x) e (sym ((bytes_eq-Decides (name_of d) text).0 same))
has_name text c d false rest same more found = more found

found_name : (conds : List Cond) (text : List ℕ) (c : Cond) → find (λ c. bytes_eq (name_of c) text) conds ≡ Some c → text ≡ name_of c
found_name [] text c found = cc
found_name (d ∷ conds) text c found = has_name text c d (bytes_eq (name_of d) text) _ refl (found_name conds text c) found

pub named_by : (c : Cond) → cond_named (name_of c) ≡ Some c
named_by Normal = refl
named_by _ = refl

none : (text : List ℕ) (named : Option Cond) → cond_named text ≡ named → ((c : Cond) → ((None ≡ Some c) ↔ (text ≡ name_of c))) → None ≡ cond_named text
none text None e exact = sym e
none text (Some c) e exact = (exact c).1 (found_name all_conds text c e) ∙ sym e

-- two answers that hold each condition exactly where its name stands are one
pub cond_found : (text : List ℕ) (found : Option Cond) → ((c : Cond) → ((found ≡ Some c) ↔ (text ≡ name_of c))) → found ≡ cond_named text
cond_found text (Some c) exact = sym (subst (λ (t : List ℕ). cond_named t ≡ Some c) (sym ((exact c).0 refl)) (named_by c))
cond_found text None exact = none text (cond_named text) refl exact
