use Rattle.vx_laws.proofs.Messages.{every_box_named, every_box_apart}
use Rattle.vx_laws.proofs.agreement.every_box_has_its_own_name.Goals as goal

pub returns-clause-units : goal.returns-clause-units
returns-clause-units c = λ system recs b run there. every_box_named system recs b run there

pub returns-clause-mailboxes : goal.returns-clause-mailboxes
returns-clause-mailboxes c = λ system recs b d run one two same. every_box_apart system recs b d run one two same
