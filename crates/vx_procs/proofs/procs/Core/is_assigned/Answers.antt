use Rattle.std.proofs.Common.{◌≡◌, List, ap, ◌∙◌, sym}
use Rattle.std.specs.List.{list_any}
use Rattle.vx_base.proofs.Any.{any_map}
use Rattle.vx_record.specs.Channels.{has_channel_to, is_assigned}
use Rattle.vx_procs.specs.Kernel.{Kernel}
use Rattle.vx_procs.specs.View.{process}
use Rattle.vx_procs.specs.declared.process.Proc.{Proc}
use Rattle.vx_procs.proofs.procs.Core.is_assigned.Goals as goal

pub returns : goal.returns
returns g c =
    let items = c.self.inside.procs.items in
    let here : c.any_assigned.result ≡ list_any (λ (pr : Proc _). has_channel_to c.args.b (process pr)) items = c.any_assigned.ensures ∙ ap (λ (xs : List (Proc _)). list_any (λ (pr : Proc _). has_channel_to c.args.b (process pr)) xs) c.as_slice.ensures in
    here ∙ (sym (any_map (has_channel_to c.args.b) process items) ∙ ap (λ (k : Kernel). is_assigned k.state c.args.b) c.self.view_is)
