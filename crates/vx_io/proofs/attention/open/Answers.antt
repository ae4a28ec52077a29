use Rattle.vx_io.proofs.attention.open.Goals as goal

pub add_attention-requires-clause-within : goal.add_attention-requires-clause-within
add_attention-requires-clause-within g c = rw (c.new.ensures, c.tell.ensures, c.new_id-id.ensures.after) c.requires.within
