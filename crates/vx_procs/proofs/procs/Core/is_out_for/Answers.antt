use Rattle.std.proofs.Common.{◌≡◌, ℕ, arith, ap}
use Rattle.std.proofs.lemmas.Bool.Decides.{nat_tests}
use Rattle.vx_record.specs.Types.{Id}
use Rattle.vx_procs.proofs.Leased.{busy_id, out_iff}
use Rattle.vx_procs.proofs.procs.Core.is_out_for.Goals as goal

pub index-requires : goal.index-requires
index-requires g c = omega (arith, (busy_id c.self.inside c.args.u _ c.self.invariant c.in-Some.ensures).1.within)

pub returns : goal.returns
returns g c =
    let number : c.in-Some.served.0 ≡ c.args.id.0 = grind (arith, nat_tests, c.ne.ensures, c.if-ne.false) in
    let same : c.in-Some.served ≡ c.args.id = ap (λ (n : ℕ). let x : Id = record { 0 = n } in x) number in
    out_iff c.self.inside c.args.self.now c.args.u c.args.id c.in-Some.served c.index.result.now c.is_out.result c.self.view_is c.self.invariant c.in-Some.ensures same c.index.ensures c.is_out.ensures
