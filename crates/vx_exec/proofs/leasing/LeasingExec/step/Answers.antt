use Rattle.std.proofs.Common.{◌≡◌, Contains, None, ap, sym, subst}
use Rattle.vx_record.specs.Events.{enabled}
use Rattle.vx_record.specs.Runs.{end_of}
use Rattle.vx_exec.specs.Leases.{Leasing}
use Rattle.vx_exec.proofs.Engines.{lends_for}
use Rattle.vx_exec.proofs.leasing.LeasingExec.step.Goals as goal

pub step-requires-clause-enabled : goal.step-requires-clause-enabled
step-requires-clause-enabled g c = subst (λ (l : Leasing). Contains (enabled l.exec.state) c.args.event) (sym c.self.view_is) c.requires.enabled

pub step-requires-clause-going : goal.step-requires-clause-going
step-requires-clause-going g c = subst (λ (l : Leasing). end_of l.exec.limit l.exec.taken l.exec.state ≡ None) (sym c.self.view_is) c.requires.going

pub step-requires-clause-home : goal.step-requires-clause-home
step-requires-clause-home g c = lends_for c.args.self.now c.self.inside.engine.core c.args.event (sym (ap (λ (l : Leasing). l.stands) c.self.view_is)) c.requires.home
