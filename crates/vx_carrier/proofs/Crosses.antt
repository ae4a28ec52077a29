-- The executive may go to another thread, if its routines may. A search alone does not find it: the rounds of timers reach
-- themselves, and what the executive keeps has too many parts.
use denote.RattleType.{RattleType}
use denote.Model.Local.{Parts, rows}
use denote.Model.Goals.{has_of, part_has, send}
use denote.Model.Marks.{tied_send}
use denote.Param.Send.{IsSend, IsSync, sendable, recorded_send, recorded_sync, struct_send, struct_sync, view_send, view_sync}
use denote.Struct.Declared.{shape}
use denote.Struct.Tuple.{TupleAt}
use mir.Syntax.{Sym}
use mathlib.Core.List.{[], ◌∷◌}
use Rattle.std.proofs.Crossing.{crosses}
use Rattle.vx_record.specs.Types.{Ghosts}
use Rattle.vx_base.proofs.effects.Effects.TheSendSync as effects
use Rattle.vx_clusters.proofs.clusters.Clusters.TheSendSync as clusters
use Rattle.vx_timers.specs.contracts.round.Round as round
use Rattle.vx_timers.specs.contracts.round.Round.TheKnot as knot
use Rattle.vx_timers.specs.declared.round.Round.TheDeep.{member-Round}
use Rattle.vx_timers.specs.contracts.timers.Timers as timers
use Rattle.vx_reqs.proofs.reqs.Reqs.TheSendSync as reqs
use Rattle.vx_mailbox.proofs.attentions.Attentions.TheSendSync as attentions
use Rattle.vx_mailbox.proofs.boxes.Boxes.TheSendSync as boxes
use Rattle.vx_procs.proofs.shared.SharedSystem.TheSendSync as shared
use Rattle.vx_base.proofs.request.Req.TheSendSync as req
use Rattle.vx_base.proofs.request.Reply.TheSendSync as reply
use Rattle.vx_units.proofs.any.AnyUnit.TheSendSync as any
use Rattle.vx_procs.specs.contracts.kept.KeptUnit as unit
use Rattle.vx_procs.proofs.table.Procs.TheSendSync as processes
use Rattle.vx_procs.proofs.newcomer.Newcomer.TheSendSync as newcomer
use Rattle.vx_procs.specs.contracts.procs.Core as core
use Rattle.vx_procs.specs.contracts.procs.Core.TheInside as kept
use Rattle.vx_io.proofs.rooms.Rooms.TheSendSync as rooms
use Rattle.vx_exec.specs.contracts.engine.Engine as engine
use Rattle.vx_exec.specs.contracts.leasing.LeasingExec as leasing
use Rattle.vx_exec.specs.contracts.leasing.LeasingExec.TheInside as leased
use Rattle.vx_base.proofs.record.Rec.TheSendSync as rec
use Rattle.vx_carrier.specs.declared.naming.Naming as naming
use Rattle.vx_carrier.specs.contracts.desk.Desk as desk
use Rattle.std.specs.contracts.option.Option as option
use Rattle.std.proofs.option.Option.TheSendSync as option_law
use Rattle.atomic_table.specs.contracts.shared.Seat as seat
use Rattle.atomic_table.proofs.shared.Seat.TheSendSync as seat_law
use Rattle.vx_base.specs.contracts.record.Rec as rec_type
use Rattle.vx_turn.specs.contracts.view.View as view
use Rattle.vx_turn.proofs.lock.Turnstile.TheSendSync as lock_law
use Rattle.vx_carrier.specs.contracts.desk.Desk.TheInside as desk_inside
use Rattle.vx_carrier.specs.contracts.executive.Executive as executive
use Rattle.vx_carrier.specs.contracts.executive.Executive.TheInside as executive_inside

layer_send : (h : RattleType) → IsSend h → IsSend (knot.layer-Round h)
layer_send h s = search (crosses, sendable) depth 30

view_sends : (p : Parts knot.frame) → IsSend (rows knot.frame p member-Round) → IsSend (knot.view-Round p)
view_sends p s = let layer = layer_send (rows knot.frame p member-Round) s in search sendable depth 20

round_send : IsSend round.the_row
round_send = tied_send knot.frame knot.step knot.sizes keeps member-Round
  where
    keeps : (p : Parts knot.frame) → ((j : _) → IsSend (rows knot.frame p j)) → (i : _) → IsSend (rows knot.frame (knot.step p) i)
    keeps p s member-Round = has_of knot.frame send (knot.step p) member-Round (part_has send (knot.view-Round p) (view_sends p (s member-Round)))

unit_send : IsSend unit.the_row
unit_send = search (crosses, any.the_field_send, req.the_field_send, reply.the_field_send, effects.the_send, sendable) depth 40 fits 5000

module _ (T : RattleType) (g : Ghosts T.Denot) where
  timers_send : IsSend T → IsSend (timers.the_row T g)
  timers_send s = let round = round_send in search (crosses, sendable) depth 40

  core_send : IsSend T → IsSend (core.the_row T g)
  core_send s =
      let times = timers_send s in
      view_send (kept.the_row T g) _ _ _ _ (recorded_send (kept.the_field T g).row _ _ (kept.the_type T g).to_one (struct_send (shape (kept.the_type T g)) (
        search shared.the_send,
        (
          search sendable,
          (
            search sendable,
            (
              search processes.the_send,
              (
                search clusters.the_send,
                (
                  search (crosses, newcomer.the_send, sendable) depth 20,
                  (
                    times,
                    (
                      search reqs.the_send,
                      (
                        search attentions.the_send,
                        (
                          search boxes.the_send,
                          (
                            search (crosses, unit_send, sendable) depth 20,
                            (search effects.the_send, (search sendable depth 20, (search (crosses, sendable) depth 20, tt))),
                          ),
                        ),
                      ),
                    ),
                  ),
                ),
              ),
            ),
          ),
        ),
      )))

  engine_send : IsSend T → IsSend (engine.the_field T g).row
  engine_send s =
      let inside = core_send s in
      struct_send (shape (engine.the_type T g)) (inside, (search sendable, (search sendable, (search (crosses, sendable) depth 20, (search rooms.the_send, tt)))))

  pub leasing_send : IsSend T → IsSend (leasing.the_row T g)
  leasing_send s =
      let inside = engine_send s in
      view_send (leased.the_row T g) _ _ _ _ (recorded_send (leased.the_field T g).row _ _ (leased.the_type T g).to_one (struct_send (shape (leased.the_type T g)) (inside, tt)))

module _ (T T' : RattleType) (g : Ghosts T.Denot) (g' : naming.Ghosts T'.Denot) where
  pub desk_send : IsSend T → IsSend T' → IsSend (desk.the_row T T' g g')
  desk_send s s' =
      let inside = leasing_send T g s in
      view_send (desk_inside.the_row T T' g g') _ _ _ _ (recorded_send (desk_inside.the_field T T' g g').row _ _ (desk_inside.the_type T T' g g').to_one (struct_send (shape (desk_inside.the_type T T' g g')) (
        inside,
        (search (crosses, rec.the_send, sendable) depth 30, (search (crosses, sendable) depth 20, tt)),
      )))

  pub seat_sends : IsSend T → IsSend T' → IsSend (seat.the_row (option.the_row (desk.the_row T T' g g')) (view.the_row rec_type.the_row))
  seat_sends s s' = let inside = desk_send s s' in search (crosses, seat_law.the_send, option_law.the_send, sendable) depth 20

module _ (T G T' : RattleType) (g : Ghosts T.Denot) (g' : naming.Ghosts T'.Denot) where
  pub executive_sync : IsSend T → IsSend T' → IsSync G → IsSync (executive.the_row T G T' g g')
  executive_sync s s' y =
      let inside = desk_send T T' g g' s s' in
      view_sync (executive_inside.the_row T G T' g g') _ _ _ _ (recorded_sync (executive_inside.the_field T G T' g g').row _ _ (executive_inside.the_type T G T' g g').to_one (struct_sync (shape (executive_inside.the_type T G T' g g')) (
        search (crosses, lock_law.the_sync, option_law.the_send, sendable) depth 20,
        (y, tt),
      )))

-- what a closure captures that borrows two things
pub pair_sync : (ν : Sym) (A B : RattleType) → IsSync A → IsSync B → IsSync (TupleAt ν (A ∷ B ∷ []))
pair_sync ν A B a b = search sendable depth 20
