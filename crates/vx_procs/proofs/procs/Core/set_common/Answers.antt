use Rattle.std.proofs.Common.{◌≡◌, List, ap, subst, ◌∙◌}
use Rattle.vx_record.specs.Types.{Cluster}
use Rattle.vx_base.specs.declared.effects.Cell.TheVariants.{Common as common_cell}
use Rattle.vx_clusters.specs.Clusters.{Shared}
use Rattle.vx_record.specs.Flags.{with_cell}
use Rattle.vx_procs.specs.Kernel.{Kernel, with_state}
use Rattle.vx_procs.specs.View.{kernel}
use Rattle.vx_procs.proofs.Cells.{put_nowhere, put_there}
use Rattle.vx_procs.proofs.procs.Core.set_common.Goals as goal

pub returns-in-Some : goal.returns-in-Some
returns-in-Some g c =
    let cs = c.self.inside.clusters.common.clusters in
    ap (λ (x : Shared). kernel (record c.self.inside { clusters = x })) c.put_flag.ensures
    ∙ (ap (λ (xs : List Cluster). kernel (record c.self.inside { clusters = record c.self.inside.clusters { common = record c.self.inside.clusters.common { clusters = xs } } })) (put_there cs c.args.group c.args.name c.args.n c.in-Some.place c.args.on c.in-Some.ensures.place)
    ∙ ap (λ (k : Kernel). with_state k (with_cell k.state (common_cell c.args.group c.args.name c.args.n) c.args.on)) c.self.view_is)

pub returns-in-None : goal.returns-in-None
returns-in-None g c =
    let cs = c.self.inside.clusters.common.clusters in
    subst (λ (k : Kernel). k ≡ with_state k (with_cell k.state (common_cell c.args.group c.args.name c.args.n) c.args.on)) c.self.view_is
    (ap (λ (xs : List Cluster). kernel (record c.self.inside { clusters = record c.self.inside.clusters { common = record c.self.inside.clusters.common { clusters = xs } } })) (put_nowhere cs c.args.group c.args.name c.args.n c.args.on c.in-None.ensures.place))
