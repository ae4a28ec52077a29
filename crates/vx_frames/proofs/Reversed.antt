-- Two lists are one if they are one from behind.
use Rattle.std.proofs.Common.{◌≡◌, List, reverse, ap, sym, ◌∙◌}
use Rattle.std.proofs.lemmas.List.{reverse-reverse}

pub same_reversed : {A : Type 0} → (a b : List A) → reverse a ≡ reverse b → a ≡ b
same_reversed a b h = sym (reverse-reverse a) ∙ ap reverse h ∙ reverse-reverse b
