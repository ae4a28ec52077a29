use Rattle.std.proofs.Common.{ap}
use Rattle.vx_procs.proofs.Stack.{advanced_top}
use Rattle.vx_procs.specs.View.{process}
use Rattle.vx_procs.specs.Words.{moved_as}
use Rattle.vx_procs.proofs.process.Proc.advance.Goals as goal

pub returns-clause-place : goal.returns-clause-place
returns-clause-place g c = ap (λ a. a.place) (advanced_top c.args.image.now c.args.p c.args.self.now.store c.args.self.now.frames.items c.in-Some.frame.now _ c.in-Some.ensures c.advance-place.ensures)

pub returns-clause-stop : goal.returns-clause-stop
returns-clause-stop g c = ap (λ a. a.stop) (advanced_top c.args.image.now c.args.p c.args.self.now.store c.args.self.now.frames.items c.in-Some.frame.now _ c.in-Some.ensures c.advance-place.ensures)

pub returns-clause-after : goal.returns-clause-after
returns-clause-after g c = rw c.place_top.ensures (ap (λ a. moved_as a (process c.args.self.now)) (advanced_top c.args.image.now c.args.p c.args.self.now.store c.args.self.now.frames.items c.in-Some.frame.now _ c.in-Some.ensures c.advance-place.ensures))
