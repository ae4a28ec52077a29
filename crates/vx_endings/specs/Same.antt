-- Endings are the same exactly if they are equal.
use Rattle.std.specs.Prelude.{◌≡◌, true, false, bytes_eq, ⊤}
use Rattle.std.proofs.Common.{ap, subst, ◌∙◌, refl, cond}
use Rattle.std.proofs.lemmas.Bool.{and_parts, and_from}
use Rattle.std.proofs.lemmas.Slice.Eq.{bytes_eq-Decides}
use Rattle.vx_record.specs.Types.{End}
use Rattle.vx_base.specs.declared.record.End.TheVariants.{Done, Hung, Limit}
use Rattle.vx_endings.specs.declared.ending.RunEnding.{RunEnding}
use Rattle.vx_endings.specs.Endings.{is_same, is_same_end}

end_as_itself : (e : End) → is_same_end e e ≡ true
end_as_itself Done = refl
end_as_itself Hung = refl
end_as_itself Limit = refl

never : false ≡ true → ⊥
never h = subst (λ b. cond b ⊥ ⊤) h tt

end_is_equal : (d e : End) → is_same_end d e ≡ true → d ≡ e
end_is_equal Done Done h = refl
end_is_equal Hung Hung h = refl
end_is_equal Limit Limit h = refl
end_is_equal Done Hung h = absurd (never h)
end_is_equal Done Limit h = absurd (never h)
end_is_equal Hung Done h = absurd (never h)
end_is_equal Hung Limit h = absurd (never h)
end_is_equal Limit Done h = absurd (never h)
end_is_equal Limit Hung h = absurd (never h)

pub same_as_itself : (e : RunEnding) → is_same e e ≡ true
same_as_itself e = and_from (is_same_end e.end e.end) (bytes_eq e.trailer e.trailer) (end_as_itself e.end) ((bytes_eq-Decides e.trailer e.trailer).1 refl)

pub same_is_equal : (d e : RunEnding) → is_same d e ≡ true → d ≡ e
same_is_equal d e h =
    let parts = and_parts (is_same_end d.end e.end) (bytes_eq d.trailer e.trailer) h in
    ap (λ x. record { end = x; trailer = d.trailer }) (end_is_equal d.end e.end parts.0)
    ∙ ap (λ x. record { end = e.end; trailer = x }) ((bytes_eq-Decides d.trailer e.trailer).0 parts.1)
