-- What a request moves to or from a mailbox.
use Rattle.std.specs.Prelude.{if◌then◌else◌}
use Rattle.vx_record.specs.Types.{Body, BoxNo, Id, Pid}
use Rattle.vx_base.specs.declared.request.Body.TheVariants as body
use Rattle.vx_record.specs.Charges.{is_end_of_file}
use Rattle.vx_record.specs.Finish.{is_read}
use Rattle.vx_record.specs.Mailboxes.{is_held, mailbox_at, write_box}
use Rattle.vx_record.specs.Parts.{Part}
use Rattle.vx_record.specs.Requests.{Asked, captured}
use Rattle.vx_record.specs.State.{State}
use Rattle.vx_io.specs.Boxes.{read_by}

-- what a request writes
abbrev pub written : State → Pid → Asked → Body
written s p q = if is_end_of_file q.func then body.Eof else body.Text (captured s p q)

-- the part of a request, by its id, at a mailbox
abbrev pub moved : State → Pid → Asked → BoxNo → Id → Part
moved s p q b id =
    if is_read q.func then read_by s b id q.func (mailbox_at s b).messages else
    write_box s b (record { id = id; writer = p; body = written s p q; held = is_held q.func })
