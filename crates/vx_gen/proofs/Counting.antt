-- A tally of records, and one record more.
use Rattle.std.proofs.Common.{◌≡◌, ℕ, ◌+◌, List, [], ◌∷◌, ◌++◌, Bool, length, refl, sym, ap, ◌∙◌, append-nil, length-append}
use Rattle.std.specs.List.{filter}
use Rattle.std.proofs.lemmas.List.Elements.{filter-append}
use Rattle.std.proofs.lemmas.Grind.{flat_map-append}
use Rattle.vx_base.specs.declared.effects.Effect.{Effect}
use Rattle.vx_base.specs.declared.record.Rec.{Rec}
use Rattle.vx_gen.specs.declared.tally.Tally.{Tally}
use Rattle.vx_gen.specs.Counted.{all_effects, count, finishes, last_time, opens_request, starts_ast, tally_of, time_told, with_record}

count_both : {A : Type 0} (test : A → Bool) (xs ys : List A) → count test (xs ++ ys) ≡ count test xs + count test ys
count_both test xs ys = ap length (filter-append test xs ys) ∙ length-append (filter test xs) (filter test ys)

effects_more : (recs : List Rec) (r : Rec) → all_effects (recs ++ r ∷ []) ≡ all_effects recs ++ r.effects
effects_more recs r = flat_map-append (λ (r : Rec). r.effects) recs (r ∷ []) ∙ ap (λ es. all_effects recs ++ es) (append-nil r.effects)

told_more : (test : Effect → Bool) (recs : List Rec) (r : Rec) → count test (all_effects (recs ++ r ∷ [])) ≡ count test (all_effects recs) + count test r.effects
told_more test recs r = ap (count test) (effects_more recs r) ∙ count_both test (all_effects recs) r.effects

time_more : (time : ℕ) (recs : List Rec) (r : Rec) → last_time time (recs ++ r ∷ []) ≡ time_told (last_time time recs) r.event r.answer
time_more time [] r = refl
time_more time (x ∷ recs) r = time_more (time_told time x.event x.answer) recs r

tally_more : (recs : List Rec) (r : Rec) → tally_of (recs ++ r ∷ []) ≡ with_record (tally_of recs) r
tally_more recs r = rw (length-append recs (r ∷ []), told_more opens_request recs r, told_more finishes recs r, count_both starts_ast recs (r ∷ []), time_more 0 recs r) refl

pub one_more : (t u : Tally) (recs : List Rec) (r : Rec) → u ≡ with_record t r → t ≡ tally_of recs → u ≡ tally_of (recs ++ r ∷ [])
one_more t u recs r counted so_far = counted ∙ (ap (λ (t : Tally). with_record t r) so_far ∙ sym (tally_more recs r))
