use Rattle.std.proofs.Common.{◌≡◌, bytes_eq, length, sym, ◌∙◌, arith}
use Rattle.vx_names.proofs.Pushed.{position-push}
use Rattle.vx_names.proofs.register.Register.push.Goals as goal

pub invariant_of-self-2 : goal.invariant_of-self-2
invariant_of-self-2 g c = λ name.
    let items = c.self.inside.items.items in
    let place : c.len-place.result ≡ length items = omega (arith, c.self.inside.items.ok.0) in
    let noted = rw (c.name.ensures, place, c.self.invariant name) at (c.in_ok-note.ensures.ok name) in
    let pushed = position-push (λ item. bytes_eq name (g.T.Named.name_of item)) items c.args.item in
    rw (c.in-Ok.ensures.items, c.reserve.ensures.items) (noted ∙ sym pushed)
