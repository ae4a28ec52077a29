use denote.Exit.{no}
use Rattle.std.proofs.Common.{arith, slice_index_or}
use denote.Param.Send.{arg_send, arg_sync, param_send, param_sync, shr_sync}
use Rattle.vx_carrier.proofs.NewSeats.{new_one}
use Rattle.vx_carrier.proofs.Crosses.{executive_sync, pair_sync, seat_sends}
use Rattle.vx_carrier.proofs.pool.pool.Goals as goal

pub map_vec-requires-send-J : goal.map_vec-requires-send-J
map_vec-requires-send-J g c κs within = param_send 1 _ (arg_send _ no _ (seat_sends _ _ _ _ c.type_bounds.send-R c.type_bounds.send-J))

pub map_vec-requires-send-X : goal.map_vec-requires-send-X
map_vec-requires-send-X g c κs within = param_send 2 _ (arg_send _ no _ (seat_sends _ _ _ _ c.type_bounds.send-R c.type_bounds.send-J))

pub map_vec-requires-sync-F : goal.map_vec-requires-sync-F
map_vec-requires-sync-F g c κs within = param_sync 4 _ (arg_sync _ no _ (pair_sync _ _ _ (shr_sync _ _ _ c.type_bounds.sync-Q) (shr_sync _ _ _ (executive_sync _ _ _ _ _ c.type_bounds.send-R c.type_bounds.send-J c.type_bounds.sync-G))))

pub map_vec-requires-after_bounds : goal.map_vec-requires-after_bounds
map_vec-requires-after_bounds g c κs within i x below is = new_one c.in_ok-executive.executive.table (slice_index_or c.in_ok-executive.seats.items i x) x is (c.in_ok-executive.ensures.seats i x below)

pub close-exec-requires-clause-seats : goal.close-exec-requires-clause-seats
close-exec-requires-clause-seats g c k d below = (c.in_ok-seats.ensures.each k d (omega (arith, below, c.in_ok-seats.ensures.len))).1.call.met
