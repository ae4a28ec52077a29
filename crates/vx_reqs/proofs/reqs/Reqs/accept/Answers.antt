use Rattle.std.proofs.Common.{◌≡◌, ◌∙◌, List, [], ◌∷◌, ◌++◌, false, inl, inr, option_map, ap, refl}
use Rattle.std.specs.List.{filter}
use Rattle.vx_record.specs.Types.{Request}
use Rattle.vx_reqs.specs.Places.{is_held, live}
use Rattle.vx_reqs.specs.Requests.{promised_of}
use Rattle.vx_reqs.proofs.Live.{live_kept, live_put, same_room}
use Rattle.vx_reqs.proofs.Ordered.{ordered_kept}
use Rattle.vx_reqs.proofs.Waiting.{reads_kept, reads_put}
use Rattle.vx_reqs.proofs.reqs.Reqs.accept.Goals as goal

pub invariant_of-self : goal.invariant_of-self
invariant_of-self g c =
    let r : Request = record { req = c.args.req; ast = option_map (promised_of g.R.Routine.tagged) c.args.ast; served = false; marked = false } in
    let places = c.self.inside.places.items in
    let order = c.self.inside.order in
    let from = c.self.inside.reads.from in
    elim c.accept-3.ensures.after [
      | inl is ↦ rw (is, c.new.ensures) (record {
        order = c.accept.ensures places r refl refl refl c.self.invariant.order;
        waiting = reads_put places c.args.req.id r c.args.req.device c.args.req.func from _ refl refl c.accept-2.ensures.here c.accept-2.ensures.all c.self.invariant.waiting;
      })
      | inr is ↦ rw (is, c.new.ensures) (record {
        order = c.accept.ensures (filter is_held places) r refl refl refl (λ rising. ordered_kept places order.next order.from order.served (c.self.invariant.order rising));
        waiting = reads_put (filter is_held places) c.args.req.id r c.args.req.device c.args.req.func from _ refl refl c.accept-2.ensures.here c.accept-2.ensures.all (reads_kept places from c.self.invariant.waiting);
      })
    ]

pub returns : goal.returns
returns g c =
    let places = c.self.inside.places.items in
    let r = c.new.result in
    let put : live c.accept-3.new.self.items ≡ live places ++ r ∷ [] = elim c.accept-3.ensures.after [
      | inl is ↦ ap live is ∙ live_put places r.req.id r
      | inr is ↦ ap live is ∙ live_put (filter is_held places) r.req.id r ∙ ap (λ (rs : List Request). rs ++ r ∷ []) (live_kept places)
    ] in
    rw (← c.self.view_is) (same_room (put ∙ ap (λ (q : Request). live places ++ q ∷ []) c.new.ensures) c.accept-3.ensures.capacity)
