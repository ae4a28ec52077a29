-- The summary of runs is the summary of the runs as they are seen, if their endings are what is seen.
use Rattle.std.proofs.Common.{◌≡◌, ℕ, zero, suc, ◌+◌, List, [], ◌∷◌, ◌++◌, length, Bool, true, false, cond, refl, sym, ap, ◌∙◌, map}
use Rattle.std.specs.Prelude.{◌==◌, count_by}
use Rattle.std.specs.List.{list_any}
use Rattle.std.proofs.lemmas.List.{map-append}
use Rattle.std.proofs.lemmas.List.Sums.{sum_by-cons}
use Rattle.vx_explore.specs.Runs.{Run, as_count, firsts, of_length, row_of, shortest_first, summary}

module _ {S T E : Type 0} (view : S → T) (ending_of : T → E) (same : E → E → Bool) where
  abbrev seen : Run S → Run T
  seen r = record { picks = r.picks; last = view r.last }

  abbrev own_ending : S → E
  own_ending s = ending_of (view s)

  seen-of_length : (k : ℕ) (rs : List (Run S)) → map seen (of_length k rs) ≡ of_length k (map seen rs)
  seen-of_length k [] = refl
  seen-of_length k (r ∷ rs) = at_head (length r.picks == k) (seen-of_length k rs)
    where
      at_head : (b : Bool) → map seen (of_length k rs) ≡ of_length k (map seen rs)
          → map seen (cond b (r ∷ of_length k rs) (of_length k rs)) ≡ cond b (seen r ∷ of_length k (map seen rs)) (of_length k (map seen rs))
      at_head true rest = ap (λ others. seen r ∷ others) rest
      at_head false rest = rest

  pub seen-shortest_first : (n : ℕ) (rs : List (Run S)) → map seen (shortest_first n rs) ≡ shortest_first n (map seen rs)
  seen-shortest_first zero rs = seen-of_length 0 rs
  seen-shortest_first (suc n) rs =
      map-append seen (shortest_first n rs) (of_length (suc n) rs)
      ∙ ap (λ xs. xs ++ map seen (of_length (suc n) rs)) (seen-shortest_first n rs)
      ∙ ap (λ xs. shortest_first n (map seen rs) ++ xs) (seen-of_length (suc n) rs)

  seen-count : (e : E) (rs : List (Run S)) → count_by (λ r. same (own_ending r.last) e) rs ≡ count_by (λ r. same (ending_of r.last) e) (map seen rs)
  seen-count e [] = refl
  seen-count e (r ∷ rs) =
      sum_by-cons (λ x. cond (same (own_ending x.last) e) 1 0) r rs
      ∙ ap (λ n. cond (same (own_ending r.last) e) 1 0 + n) (seen-count e rs)
      ∙ sym (sum_by-cons (λ x. cond (same (ending_of x.last) e) 1 0) (seen r) (map seen rs))

  seen-rows : (all rs : List (Run S)) → map (row_of own_ending same all) rs ≡ map (row_of ending_of same (map seen all)) (map seen rs)
  seen-rows all [] = refl
  seen-rows all (r ∷ rs) =
      ap (λ n. record { what = own_ending r.last; ways = as_count n; picks = r.picks } ∷ map (row_of own_ending same all) rs) (seen-count (own_ending r.last) all)
      ∙ ap (λ rows. row_of ending_of same (map seen all) (seen r) ∷ rows) (seen-rows all rs)

  seen-firsts : (es : List E) (rs : List (Run S)) → map seen (firsts own_ending same es rs) ≡ firsts ending_of same es (map seen rs)
  seen-firsts es [] = refl
  seen-firsts es (r ∷ rs) = at_head (list_any (same (own_ending r.last)) es) (seen-firsts es rs) (seen-firsts (own_ending r.last ∷ es) rs)
    where
      at_head : (b : Bool) → map seen (firsts own_ending same es rs) ≡ firsts ending_of same es (map seen rs)
          → map seen (firsts own_ending same (own_ending r.last ∷ es) rs) ≡ firsts ending_of same (own_ending r.last ∷ es) (map seen rs)
          → map seen (cond b (firsts own_ending same es rs) (r ∷ firsts own_ending same (own_ending r.last ∷ es) rs))
          ≡ cond b (firsts ending_of same es (map seen rs)) (seen r ∷ firsts ending_of same (own_ending r.last ∷ es) (map seen rs))
      at_head true here more = here
      at_head false here more = ap (λ others. seen r ∷ others) more

  pub seen-summary : (rs : List (Run S)) → summary own_ending same rs ≡ summary ending_of same (map seen rs)
  seen-summary rs =
      seen-rows rs (firsts own_ending same [] rs)
      ∙ ap (map (row_of ending_of same (map seen rs))) (seen-firsts [] rs)
