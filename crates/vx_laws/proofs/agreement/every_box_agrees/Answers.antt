use Rattle.vx_laws.proofs.Messages.{every_box_stores, every_box_writers, every_box_single}
use Rattle.vx_laws.proofs.agreement.every_box_agrees.Goals as goal

pub returns-clause-messages : goal.returns-clause-messages
returns-clause-messages c = λ system recs b run there. every_box_stores system recs b run there

pub returns-clause-writers : goal.returns-clause-writers
returns-clause-writers c = λ system recs b run there. every_box_writers system recs b run there

pub returns-clause-reads : goal.returns-clause-reads
returns-clause-reads c = λ system recs b run e. every_box_single system recs b run e
