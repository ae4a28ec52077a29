use Rattle.vx_record.specs.Rundown.{drop_asts, part_with}
use Rattle.vx_procs.proofs.Rest.{acts_both, room_first, room_second}
use Rattle.vx_rundown.proofs.Freed.{free_all, leaving_channels}
use Rattle.vx_rundown.proofs.Left.{leaving_acted}
use Rattle.vx_rundown.proofs.Modes.{three_parts, until_third}
use Rattle.vx_rundown.proofs.mode.release.Goals as goal

pub free_channels-requires-clause-room : goal.free_channels-requires-clause-room
free_channels-requires-clause-room g c = (three_parts c.args.core.now (free_all c.args.p c.args.mode c.args.core.now.state) (drop_asts c.args.p c.args.mode) (part_with c.args.p 2) (room_first c.args.core.now (until_third c.args.p c.args.mode c.args.core.now.state) (part_with c.args.p 3) c.requires.room)).0

pub drop_asts-requires-clause-leaving : goal.drop_asts-requires-clause-leaving
drop_asts-requires-clause-leaving g c = leaving_acted c.args.core.now (free_all c.args.p c.args.mode c.args.core.now.state) c.free_channels.ensures (leaving_channels c.args.p c.args.mode c.args.core.now c.requires.drained c.requires.leaving)

pub drop_asts-requires-clause-room : goal.drop_asts-requires-clause-room
drop_asts-requires-clause-room g c = ((three_parts c.args.core.now (free_all c.args.p c.args.mode c.args.core.now.state) (drop_asts c.args.p c.args.mode) (part_with c.args.p 2) (room_first c.args.core.now (until_third c.args.p c.args.mode c.args.core.now.state) (part_with c.args.p 3) c.requires.room)).1 c.free_channels.new.core c.free_channels.ensures).0

pub dissociate-second-requires : goal.dissociate-second-requires
dissociate-second-requires g c = (((three_parts c.args.core.now (free_all c.args.p c.args.mode c.args.core.now.state) (drop_asts c.args.p c.args.mode) (part_with c.args.p 2) (room_first c.args.core.now (until_third c.args.p c.args.mode c.args.core.now.state) (part_with c.args.p 3) c.requires.room)).1 c.free_channels.new.core c.free_channels.ensures).1 c.drop_asts.new.core c.drop_asts.ensures).0

pub dissociate-third-requires : goal.dissociate-third-requires
dissociate-third-requires g c =
    let second = (((three_parts c.args.core.now (free_all c.args.p c.args.mode c.args.core.now.state) (drop_asts c.args.p c.args.mode) (part_with c.args.p 2) (room_first c.args.core.now (until_third c.args.p c.args.mode c.args.core.now.state) (part_with c.args.p 3) c.requires.room)).1 c.free_channels.new.core c.free_channels.ensures).1 c.drop_asts.new.core c.drop_asts.ensures).1 c.dissociate-second.new.self c.dissociate-second.ensures.acts in
    room_second c.args.core.now c.dissociate-second.new.self (until_third c.args.p c.args.mode c.args.core.now.state) (part_with c.args.p 3) second c.requires.room

pub returns : goal.returns
returns g c =
    let second = (((three_parts c.args.core.now (free_all c.args.p c.args.mode c.args.core.now.state) (drop_asts c.args.p c.args.mode) (part_with c.args.p 2) (room_first c.args.core.now (until_third c.args.p c.args.mode c.args.core.now.state) (part_with c.args.p 3) c.requires.room)).1 c.free_channels.new.core c.free_channels.ensures).1 c.drop_asts.new.core c.drop_asts.ensures).1 c.dissociate-second.new.self c.dissociate-second.ensures.acts in
    acts_both c.args.core.now c.dissociate-second.new.self c.dissociate-third.new.self (until_third c.args.p c.args.mode c.args.core.now.state) (part_with c.args.p 3) second c.dissociate-third.ensures.acts
