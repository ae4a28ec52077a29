use Rattle.vx_names.proofs.register.Register.place.Goals as goal

pub returns : goal.returns
returns g c = rw (c.copied.ensures, c.get.ensures.value, ← c.self.view_is) (c.self.invariant c.args.name)
