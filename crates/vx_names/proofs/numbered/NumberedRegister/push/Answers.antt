use Rattle.std.proofs.Common.{bytes_eq, ◌==◌, ◌&&◌, sym, ◌∙◌}
use Rattle.vx_names.proofs.Pushed.{same_key}
use Rattle.vx_names.proofs.numbered.NumberedRegister.push.Goals as goal
use Rattle.vx_base.proofs.Any.{any_more}

pub invariant_of-self-2 : goal.invariant_of-self-2
invariant_of-self-2 g c = λ name number.
    let item = c.args.item in
    let updated = c.in_ok-insert.ensures.updates.0 (record { name = name; number = number }) in
    let same = same_key (g.T.Named.name_of item) name (g.T.Numbered.number_of item) number in
    let kept = rw (c.name.ensures, c.number.ensures, same, c.self.invariant name number) at updated in
    let test = λ (x : _). bytes_eq name (g.T.Named.name_of x) && (number == g.T.Numbered.number_of x) in
    rw (c.in-Ok.ensures.items, c.reserve.ensures.items) (kept ∙ sym (any_more test c.self.inside.items.items item))
