use Rattle.std.proofs.Common.{◌≡◌, ◌≢◌, ◌∙◌, Bool, false, nat_eq, List, ℕ, All, sym, arith, subst}
use Rattle.std.specs.Cmp.Lexicographic.{pointwise}
use Rattle.std.proofs.lemmas.Bool.Decides.{Decides-eqb, not_from_Decides}
use Rattle.std.proofs.lemmas.List.{take_all}
use Rattle.std.proofs.lemmas.List.Elements.{All-nil, All-more, All-contains}
use Rattle.std.proofs.lemmas.Slice.Eq.{slice_eq-Decides}
use Rattle.vx_base.specs.declared.cond.CondRow.{CondRow}
use Rattle.vx_base.proofs.cond.CondTable.with_name.Invariants.{IsOther}
use Rattle.vx_base.proofs.cond.CondTable.with_name.Goals as goal

-- a name that `==` tells from a text is another
told_apart : (bytes text name result : List ℕ) (same : Bool) → same ≡ pointwise nat_eq bytes text → same ≡ false → bytes ≡ result → result ≡ name → name ≢ text
told_apart bytes text name result same is differ e e' = λ f. not_from_Decides same (slice_eq-Decides Decides-eqb bytes text same is) differ (cc)

pub loop-row-init : goal.loop-row-init
loop-row-init g c = All-nil (IsOther c.args.text.now)

pub loop-row-preserved : goal.loop-row-preserved
loop-row-preserved g c =
    All-more (IsOther c.args.text.now) c.self.inside.rows c.loop-row.row-index _ (omega arith)
    c.loop-row.invariant
    (told_apart _ _ _ _ _ c.eq.ensures c.if-eq.false c.as_bytes.ensures.value c.name.ensures.value)

pub returns-clause-exact : goal.returns-clause-exact
returns-clause-exact g c = λ row within.
    let P : List CondRow → Type 0 = λ rows. All (IsOther c.args.text.now) rows in
    let all : P c.args.self.now = subst P (take_all _ _ (omega arith) ∙ c.self.view_is) c.loop-row.invariant in
    ((λ none. cc), (λ same. absurd (All-contains (IsOther c.args.text.now) _ row all within (sym same))))
