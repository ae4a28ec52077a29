use Rattle.vx_io.proofs.Opening.{none_next}
use Rattle.vx_io.proofs.accept.open.Goals as goal

pub accept-requires-clause-fresh : goal.accept-requires-clause-fresh
accept-requires-clause-fresh g c =
    let s = c.args.core.now.state in
    rw (c.tell_opened.ensures, c.new_id-id.ensures.after, c.new_id-id.ensures.id) (none_next 0 s.next s.requests c.requires.opening.steady.order)

pub accept-requires-clause-within : goal.accept-requires-clause-within
accept-requires-clause-within g c = rw (c.tell_opened.ensures, c.new_id-id.ensures.after, c.promised.ensures.some) c.requires.opening.within
