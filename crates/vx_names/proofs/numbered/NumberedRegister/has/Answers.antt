use Rattle.vx_names.proofs.numbered.NumberedRegister.has.Goals as goal

pub returns : goal.returns
returns g c = rw (c.contains.ensures, ← c.self.view_is) (c.self.invariant c.args.name c.args.number)
