use Rattle.std.proofs.Common.{◌≡◌, ◌-◌, List, Option, None, drop, length, replicate, ap, sym, subst, ◌∙◌}
use Rattle.std.proofs.lemmas.List.{take_at}
use Rattle.vx_base.specs.Pieces.{Channel}
use Rattle.vx_same.proofs.Trimmed.{alike_behind, laid_filled}
use Rattle.vx_chans.proofs.chans.Chans.fill.Goals as goal

pub returns : goal.returns
returns c =
    let behind = subst (λ (xs : List (Option Channel)). drop c.self.inside.used xs ≡ replicate (64 - c.self.inside.used) None) (sym c.deref_mut.ensures.value) c.self.invariant.2 in
    take_at c.lay_over.new.rows (drop (length c.lay_over.new.rows) c.self.inside.rows.items) c.self.inside.rows.len (c.lay_over.ensures.len ∙ c.deref_mut.ensures.len)
    ∙ laid_filled 64 None c.args.first.now c.deref_mut.result.now c.lay_over.new.rows c.self.inside.used c.self.invariant.1 behind c.lay_over.ensures.rows

pub invariant_of-self : goal.invariant_of-self
invariant_of-self c =
    let behind = subst (λ (xs : List (Option Channel)). drop c.self.inside.used xs ≡ replicate (64 - c.self.inside.used) None) (sym c.deref_mut.ensures.value) c.self.invariant.2 in (
      c.self.invariant.0,
      c.requires,
      ap (drop (length c.args.first.now)) (take_at c.lay_over.new.rows (drop (length c.lay_over.new.rows) c.self.inside.rows.items) c.self.inside.rows.len (c.lay_over.ensures.len ∙ c.deref_mut.ensures.len))
          ∙ alike_behind 64 None c.args.first.now c.deref_mut.result.now c.lay_over.new.rows c.self.inside.used c.self.invariant.1 behind c.lay_over.ensures.rows,
    )
