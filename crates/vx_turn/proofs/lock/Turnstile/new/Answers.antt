use Rattle.std.proofs.Common.{rules, ◌≡◌, ◌∙◌, ◌++◌, ◌∷◌, [], ap, sym, subst, ℕ, List, Option, Some}
use Rattle.atomic_table.specs.Table.{opening}
use Rattle.vx_turn.specs.Rule.{Rule, first_view}
use Rattle.vx_turn.proofs.Keeps.{opens}
use Rattle.vx_turn.proofs.lock.Turnstile.new.Goals as goal

pub new-requires : goal.new-requires
new-requires g c =
    let items : c.push_reserved.new.self.items ≡ Some c.args.value ∷ [] = c.push_reserved.ensures.items ∙ ap (λ (l : List (Option g.row.T.Denot)). l ++ Some c.args.value ∷ []) c.in_ok-row.ensures.items in
    let count : c.from-count.result ≡ c.args.seats = search rules in
    let P : List (Option g.row.T.Denot) → Type 0 = λ l. Rule g.T.Kept.history c.from-count.result (opening (0 ∷ 0 ∷ []) l (first_view c.from-count.result)) in
    let Q : ℕ → Type 0 = λ n. Rule g.T.Kept.history n (opening (0 ∷ 0 ∷ []) (Some c.args.value ∷ []) (first_view n)) in
    subst P (sym items) (subst Q (sym count) (opens g.T.Kept.history c.args.seats c.args.value c.requires.seats.1 c.requires.seats.0 c.requires.empty))
