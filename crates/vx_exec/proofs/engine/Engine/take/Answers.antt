use Rattle.std.proofs.Common.{◌+◌, List, Contains, ap, sym, subst, ◌∙◌}
use Rattle.vx_exec.proofs.Runs.{going_below}
use Rattle.vx_record.specs.Types.{System}
use Rattle.vx_record.specs.State.{State}
use Rattle.vx_record.specs.Events.{enabled, step}
use Rattle.vx_record.proofs.Fixed.{step_keeps_system}
use Rattle.vx_units.specs.Leases.{Stand}
use Rattle.vx_procs.specs.Kernel.{Kernel, stands}
use Rattle.vx_exec.specs.Leases.{Leasing}
use Rattle.vx_exec.specs.Sound.{IsGoing}
use Rattle.vx_exec.specs.View.{Plan}
use Rattle.vx_exec.proofs.Enabled.{enabled_owned}
use Rattle.vx_exec.proofs.Engines.{home_kept, stepped_stands}
use Rattle.vx_exec.proofs.Ready.{going_after, ready_for, step_open}
use Rattle.vx_exec.proofs.engine.Engine.take.Goals as goal

pub make_room-requires : goal.make_room-requires
make_room-requires g c = enabled_owned c.args.self.now.core.state c.args.event c.requires.enabled

pub step-answer-requires-clause-ready : goal.step-answer-requires-clause-ready
step-answer-requires-clause-ready g c =
    let made = c.in_ok-make_room.ensures in
    let e = c.args.event in
    let going = subst (λ (u : State). IsGoing u c.args.self.now.limit c.args.self.now.taken) (sym made.same) c.requires.on in
    let owner = enabled_owned c.make_room.new.core.state e (subst (λ (u : State). Contains (enabled u) e) (sym made.same) c.requires.enabled) in
    ready_for c.make_room.new.core e c.args.self.now.limit c.args.self.now.taken going owner (home_kept c.args.self.now.core c.make_room.new.core e made.home c.requires.home) made.made

pub step-answer-requires-clause-open : goal.step-answer-requires-clause-open
step-answer-requires-clause-open g c =
    let made = c.in_ok-make_room.ensures in
    let e = c.args.event in
    let going = subst (λ (u : State). IsGoing u c.args.self.now.limit c.args.self.now.taken) (sym made.same) c.requires.on in
    let owner = enabled_owned c.make_room.new.core.state e (subst (λ (u : State). Contains (enabled u) e) (sym made.same) c.requires.enabled) in
    step_open c.make_room.new.core e going.whole owner made.made

pub returns-clause-on : goal.returns-clause-on
returns-clause-on g c =
    let made = c.in_ok-make_room.ensures in
    let limit = c.args.self.now.limit in
    let taken = c.args.self.now.taken in
    let e = c.args.event in
    let going = subst (λ (u : State). IsGoing u limit taken) (sym made.same) c.requires.on in
    let there = subst (λ (u : State). Contains (enabled u) e) (sym made.same) c.requires.enabled in
    let leaves = ap (λ (k : Kernel). k.state) c.settle.ensures ∙ ap (λ (k : Kernel). k.state) c.step-answer.ensures.does.leaves in
    going_after c.make_room.new.core c.settle.new.self.state e limit taken going made.made there (going_below limit taken c.args.self.now.core.state (sym c.requires.going)) leaves

pub returns-clause-after : goal.returns-clause-after
returns-clause-after g c =
    let made = c.in_ok-make_room.ensures in
    let now = c.args.self.now in
    let e = c.args.event in
    let of : State → List Stand → Leasing = λ s ss. record { exec = record { state = s; limit = now.limit; taken = now.taken + 1 }; stands = ss } in
    let ends = ap (λ (k : Kernel). k.ends) c.settle.ensures ∙ ap (λ (k : Kernel). k.ends) c.step-answer.ensures.does.leaves in
    let leaves = ap (λ (k : Kernel). k.state) c.settle.ensures ∙ ap (λ (k : Kernel). k.state) c.step-answer.ensures.does.leaves in
    ap (λ (s : State). of s (stands c.settle.new.self)) (leaves ∙ ap (λ (u : State). (step u e).after) made.same)
    ∙ ap (λ (ss : List Stand). of (step now.core.state e).after ss) (stepped_stands now.core c.make_room.new.core c.settle.new.self e made.home ends)

pub returns-clause-plan : goal.returns-clause-plan
returns-clause-plan g c =
    let t = c.make_room.new.core.state in
    let of : System → Plan = λ system. record { system = system; limit = c.args.self.now.limit } in
    let leaves = ap (λ (k : Kernel). k.state) c.settle.ensures ∙ ap (λ (k : Kernel). k.state) c.step-answer.ensures.does.leaves in
    ap of (ap (λ (u : State). u.system) leaves ∙ (step_keeps_system t c.args.event ∙ ap (λ (u : State). u.system) c.in_ok-make_room.ensures.same))
