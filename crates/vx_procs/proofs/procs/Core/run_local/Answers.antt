use Rattle.std.proofs.Common.{◌≡◌, ap, ◌∙◌}
use Rattle.vx_record.specs.Types.{Image, System}
use Rattle.vx_record.specs.State.{Process, image_in, image_of}
use Rattle.vx_procs.specs.Kernel.{Kernel}
use Rattle.vx_procs.specs.View.{process, state}
use Rattle.vx_procs.specs.Words.{advanced_at, advanced_of, moved_as}
use Rattle.vx_procs.proofs.Changed.{changed_as, held_as, made_in, seen}
use Rattle.vx_procs.proofs.Quiet.{moved_quiet}
use Rattle.vx_procs.proofs.procs.Core.run_local.Goals as goal

pub invariant_of-self : goal.invariant_of-self
invariant_of-self g c =
    let r = c.at_mut.result.now in
    held_as (moved_as (advanced_of c.image_in-image.result.now c.args.p (process r))) c.self.inside c.args.self.now c.args.p r _ c.self.view_is c.requires.made c.at_mut.ensures.value c.advance.ensures.after c.advance.ensures.books (moved_quiet _ _ _) c.self.invariant

pub returns-clause-after : goal.returns-clause-after
returns-clause-after g c =
    let core = c.self.inside in
    let r = c.at_mut.result.now in
    let made = made_in core c.args.self.now c.args.p c.self.view_is c.requires.made in
    let image : c.image_in-image.result.now ≡ image_of (state core) c.args.p = c.image_in-image.ensures ∙ (ap (λ (x : System). image_in x c.at.result.now.decl) c.get.ensures ∙ ap (λ (pr : Process). image_in core.system pr.decl) (seen core c.args.p c.at.result.now made c.at.ensures)) in
    let ran : advanced_of c.image_in-image.result.now c.args.p (process r) ≡ advanced_at (state core) c.args.p =
    ap (λ (i : Image). advanced_of i c.args.p (process r)) image
    ∙ ap (λ (pr : Process). advanced_of (image_of (state core) c.args.p) c.args.p pr) (seen core c.args.p r made c.at_mut.ensures.value) in
    let whole : advanced_of c.image_in-image.result.now c.args.p (process r) ≡ advanced_at c.args.self.now.state c.args.p = ran ∙ ap (λ (k : Kernel). advanced_at k.state c.args.p) c.self.view_is in
    changed_as (moved_as (advanced_at c.args.self.now.state c.args.p)) core c.args.self.now c.args.p r _ c.self.view_is c.requires.made c.at_mut.ensures.value (c.advance.ensures.after ∙ ap (λ a. moved_as a (process r)) whole) c.advance.ensures.books
