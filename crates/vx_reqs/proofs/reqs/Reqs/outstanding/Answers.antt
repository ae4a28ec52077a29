use Rattle.std.proofs.Common.{◌∙◌, ap}
use Rattle.std.specs.List.{list_any}
use Rattle.vx_reqs.specs.Places.{holds}
use Rattle.vx_reqs.specs.Requests.{Requests, keeps_open}
use Rattle.vx_reqs.proofs.Firsts.{is_placed}
use Rattle.vx_reqs.proofs.Live.{any_live}
use Rattle.vx_reqs.proofs.reqs.Reqs.outstanding.Goals as goal

pub returns : goal.returns
returns g c =
    let kind = keeps_open c.args.p c.args.mode in
    let places = c.self.inside.places.items in
    c.is_some.ensures ∙ is_placed (holds kind) places c.place_from.result c.place_from.ensures.place c.place_from.ensures.within ∙ any_live kind places ∙ ap (λ (q : Requests). list_any kind q.items) c.self.view_is
