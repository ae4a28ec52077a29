use Rattle.std.proofs.Common.{List, length, refl, arith, ap, sym, subst, ◌∙◌}
use Rattle.vx_record.proofs.Steps.{left_after}
use Rattle.vx_base.specs.Log.{HasRoom, logged}
use Rattle.vx_record.specs.Types.{Effect}
use Rattle.vx_record.specs.State.{Process, State, change, process_at}
use Rattle.vx_record.specs.Rundown.{exited, without_frames}
use Rattle.vx_procs.specs.Kernel.{Kernel, changed}
use Rattle.vx_procs.specs.Words.{left}
use Rattle.vx_procs.proofs.Changed.{changed_as, held_as, seen_in}
use Rattle.vx_procs.proofs.Stack.{left_effects}
use Rattle.vx_procs.proofs.procs.Core.exit.Goals as goal

pub exit-requires : goal.exit-requires
exit-requires g c =
    let k = c.args.self.now in
    let e = left_effects (process_at k.state c.args.p).frames (change k.state c.args.p (without_frames c.args.code)) ∙ ap (λ (pr : Process). left pr.frames) (sym (seen_in c.self.inside c.args.self.now c.args.p c.at_mut.result.now c.self.view_is c.requires.made c.at_mut.ensures.value)) in
    subst (λ (x : Kernel). HasRoom x.log (length (left c.at_mut.result.now.frames.items))) (sym c.self.view_is) (subst (λ (xs : List Effect). HasRoom k.log (length xs)) e c.requires.free)

pub invariant_of-self : goal.invariant_of-self
invariant_of-self g c = held_as (without_frames c.args.code) c.self.inside c.args.self.now c.args.p c.at_mut.result.now _ c.self.view_is c.requires.made c.at_mut.ensures.value c.exit.ensures.after c.exit.ensures.books (record { decl = refl; asts = refl; frames = omega arith }) c.self.invariant

pub returns : goal.returns
returns g c =
    let k = c.args.self.now in
    let s = k.state in
    let after = change s c.args.p (without_frames c.args.code) in
    let e = left_effects (process_at s c.args.p).frames after ∙ ap (λ (pr : Process). left pr.frames) (sym (seen_in c.self.inside c.args.self.now c.args.p c.at_mut.result.now c.self.view_is c.requires.made c.at_mut.ensures.value)) in
    let there = changed_as (without_frames c.args.code) c.self.inside c.args.self.now c.args.p c.at_mut.result.now _ c.self.view_is c.requires.made c.at_mut.ensures.value c.exit.ensures.after c.exit.ensures.books in
    let log = c.exit.ensures.log ∙ (ap (λ (x : Kernel). logged x.log (left c.at_mut.result.now.frames.items)) c.self.view_is ∙ ap (logged k.log) (sym e)) in
    ap (λ (x : Kernel). let y : Kernel = record x { log = c.exit.new.log } in y) there
    ∙ (ap (λ l. let y : Kernel = record (changed k c.args.p (without_frames c.args.code)) { log = l } in y) log
    ∙ ap (λ (u : State). let y : Kernel = record k { state = u; log = logged k.log (exited s c.args.p c.args.code).effects } in y) (sym (left_after (process_at s c.args.p).frames after)))
