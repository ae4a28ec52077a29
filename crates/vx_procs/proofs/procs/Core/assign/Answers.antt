use Rattle.std.proofs.Common.{List, Option, Result, ℕ, refl, ap, ◌∙◌}
use Rattle.vx_base.specs.Channels.{least_free}
use Rattle.vx_record.specs.Types.{Channel}
use Rattle.vx_record.specs.State.{Process}
use Rattle.vx_chans.specs.Chans.{number_or_none}
use Rattle.vx_chans.specs.declared.chans.ChanFail.{ChanFail}
use Rattle.vx_procs.specs.Channels.{or_cond, with_assigned}
use Rattle.vx_procs.specs.Kernel.{changed}
use Rattle.vx_procs.specs.View.{process}
use Rattle.vx_procs.proofs.Changed.{changed_as, held_as, seen_in}
use Rattle.vx_procs.proofs.Left.{assigned_quiet, assigned_rows, assigns}
use Rattle.vx_procs.proofs.procs.Core.assign.Goals as goal

pub invariant_of-self : goal.invariant_of-self
invariant_of-self g c =
    let r = c.at_mut.result.now in
    let o = least_free (process r).channels in
    let there = ap (λ (rows : List (Option Channel)). record (process r) { channels = rows }) c.assign.ensures.after ∙ assigned_rows c.args.device c.args.mode (process r) o in
    held_as (with_assigned c.args.device c.args.mode o) c.self.inside c.args.self.now c.args.p r _ c.self.view_is c.requires c.at_mut.ensures.value there refl (assigned_quiet c.args.device c.args.mode o (process r)) c.self.invariant

pub returns : goal.returns
returns g c =
    let r = c.at_mut.result.now in
    let o = least_free (process r).channels in
    let k = c.args.self.now in
    let there = ap (λ (rows : List (Option Channel)). record (process r) { channels = rows }) c.assign.ensures.after ∙ assigned_rows c.args.device c.args.mode (process r) o in
    let same = ap (λ (pr : Process). least_free pr.channels) (seen_in c.self.inside k c.args.p r c.self.view_is c.requires c.at_mut.ensures.value) in
    let did = changed_as (with_assigned c.args.device c.args.mode o) c.self.inside k c.args.p r _ c.self.view_is c.requires c.at_mut.ensures.value there refl in
    assigns k _ c.args.p c.args.device c.args.mode _ _ (c.or_cond.ensures ∙ (ap (λ (x : Result ℕ ChanFail). or_cond x) c.assign.ensures.answer ∙ ap (λ (x : Option ℕ). or_cond (number_or_none x)) same)) (did ∙ ap (λ (x : Option ℕ). changed k c.args.p (with_assigned c.args.device c.args.mode x)) same)
